use Rattle.std.proofs.Common.{◌≡◌, rules}
use Rattle.connections.specs.Numbers.{number_text}
use Rattle.plain_machine.proofs.ShownLemmas.{id_writable}
use Rattle.endpoints.proofs.rules.connecting.id_param.Goals as goal

pub returns-clause-writable : goal.returns-clause-writable
returns-clause-writable c =
    let same : c.owned.result ≡ number_text c.args.number = search rules in
    rw (c.of.ensures, same) (id_writable c.args.number)
