use Rattle.std.proofs.Common.{◌∙◌}
use Rattle.connections.proofs.NameLemmas.{names_more, names_last, rest_shorter}
use Rattle.connections.proofs.option_items.codecs_in.Goals as goal

pub loop-name-smaller : goal.loop-name-smaller
loop-name-smaller c = rest_shorter _ _ _ c.in-Some.ensures

pub loop-name-preserved : goal.loop-name-preserved
loop-name-preserved c = rw c.with_name-codecs.ensures (names_more _ _ _ _ c.in-Some.ensures ∙ c.loop-name.invariant)

pub returns : goal.returns
returns c = c.with_name.ensures ∙ names_last _ _ c.in_default.ensures ∙ c.loop-name.invariant
