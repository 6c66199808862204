use Rattle.std.proofs.Common.{◌≡◌, [], ◌∷◌, ◌++◌, Some, refl, sym, ◌∙◌}
use Rattle.call_processing.specs.declared.told.Told.TheVariants.{Dialled}
use Rattle.live_laws.specs.CallTurns.{tells}
use Rattle.live_laws.specs.CallExample.{connect, phase_then}
use Rattle.live_laws.proofs.Computing.{on_examples}
use Rattle.live_laws.proofs.DescriptionLaws.{talks_as_caller}
use Rattle.live_laws.proofs.call_examples.busy_and_wrong_numbers_get_their_tones.Goals as goal

pub returns-clause-stays : goal.returns-clause-stays
unfolding on_examples
returns-clause-stays c = (let is : phase_then 0 (connect ++ tells 0 (Dialled (Some 2)) ∷ []) ≡ talks_as_caller = refl in let was : phase_then 0 connect ≡ talks_as_caller = refl in is ∙ sym was)
