use Rattle.std.proofs.Common.{◌≡◌, ◌∷◌, [], rules, arith}
use Rattle.plain_machine.specs.Reporting.{name_of_line}
use Rattle.endpoints.proofs.ReportLemmas.{name_is_fine}
use Rattle.endpoints.proofs.reporting.name_alone.Goals as goal

pub returns-clause-writable : goal.returns-clause-writable
returns-clause-writable c =
    let same : c.push.new.self ≡ name_of_line c.args.context.setup.now c.args.line ∷ [] = search rules in
    name_is_fine c.args.context.setup.now c.args.line _ c.requires (omega arith) same
