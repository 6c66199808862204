use Rattle.std.proofs.Common.{List, ◌+◌, drop, sym, ap, ◌∙◌}
use Rattle.plain_machine.specs.declared.config.NamedRoute.{NamedRoute}
use Rattle.plain_machine.specs.Setup.{table_from}
use Rattle.endpoints.proofs.SetupLemmas.{name_added, name_front}
use Rattle.endpoints.proofs.opening.table_of.Goals as goal

pub loop-name-preserved : goal.loop-name-preserved
loop-name-preserved c =
    let names = c.args.names.now in
    let place = c.loop-name.name-index in
    let name = c.name-item.result in
    name_added c.loop-name.table c.add.new.self name (drop (place + 1) names) (rw c.as_bytes.ensures at c.in-Ok.ensures.faultless) (rw c.as_bytes.ensures at c.in-Ok.ensures.ok)
    ∙ sym (ap (λ (rest : List NamedRoute). table_from c.loop-name.table rest) (name_front names place name c.loop-name-test.true c.name-item.is))
    ∙ c.loop-name.invariant
