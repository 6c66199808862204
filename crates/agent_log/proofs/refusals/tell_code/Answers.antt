use Prim.{search}
use Rattle.std.proofs.Common.{◌≡◌, decimal, sym, ◌∙◌, rules}
use Rattle.agent_log.proofs.TellingLemmas.{code_new, refusal_told}
use Rattle.agent_log.proofs.refusals.tell_code.Goals as goal

pub returns-clause-tells : goal.returns-clause-tells
returns-clause-tells c =
    let digits : c.as_slice-2.result.now ≡ decimal c.in-Some.code = search rules in
    code_new c.args.number.now c.args.words.now c.args.was c.args.is c.in-Some.code c.args.journal.now.told c.tell.new.self.told c.in-Some.is
    (sym c.is_code.ensures ∙ c.if-is_code.false)
    (refusal_told c.in-Some.code c.as_slice.result c.args.number c.args.words c.as_slice-2.result c.args.journal.now.told
    c.tell.new.self.told c.as_slice.ensures digits c.tell.ensures.tells)
