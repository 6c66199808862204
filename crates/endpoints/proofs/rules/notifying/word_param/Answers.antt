use Rattle.mgcp_text.specs.declared.message.Param.{Param}
use Rattle.mgcp_text.proofs.ValueLaws.{word_writable}
use Rattle.endpoints.proofs.rules.notifying.word_param.Goals as goal

pub returns-clause-writable : goal.returns-clause-writable
returns-clause-writable c =
    let param : Param = record { code = c.of.result; value = c.args.value } in
    word_writable param (rw c.of.ensures c.requires.code) c.requires.no_blanks c.requires.one_line
