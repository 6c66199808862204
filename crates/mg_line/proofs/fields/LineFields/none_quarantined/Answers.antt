use Rattle.mg_line.specs.LineFields.{none_quarantined}
use Rattle.std.proofs.Common.{◌∙◌, ap}
use Rattle.mg_line.proofs.DrainLemmas.{none_shown}
use Rattle.mg_line.proofs.fields.LineFields.none_quarantined.Goals as goal

pub returns : goal.returns
returns c =
    none_shown c.next.result c.iter.result c.next.new.self c.is_none.result c.next.ensures.steps c.is_none.ensures
    ∙ ap none_quarantined c.iter.ensures.value
