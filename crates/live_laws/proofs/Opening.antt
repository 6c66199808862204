-- The definitions opened that tell what the page is shown of counts, and what is seen of lines, so that worked examples compute.
use Rattle.std.specs.Prelude.{⊤}
use Rattle.telephone_control.specs.Losses.{lost_of_lines}
use Rattle.telephone_control.specs.Picturing.{codes_from, verbs_from}
use Rattle.live_laws.proofs.Computing.{on_examples}

unfoldable pub on_pictures : ⊤
unfolding on_examples lost_of_lines codes_from verbs_from
on_pictures = tt
