-- The definitions opened, so that worked examples compute.
use Rattle.std.specs.Prelude.{⊤}
use Rattle.transmission.specs.Firsts.{copied_by, kind_of, firsts_with}
use Rattle.transmission.specs.Answers.{answer_to, answers_from}
use Rattle.transmission.specs.Kept.{from_young}
use Rattle.transmission.specs.Looking.{latest, look_of}

unfoldable pub on_examples : ⊤
unfolding copied_by kind_of firsts_with answer_to answers_from from_young latest look_of
on_examples = tt
