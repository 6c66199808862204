use Rattle.std.proofs.Common.{◌≡◌, [], ◌∷◌, ◌++◌, refl, sym, ◌∙◌}
use Rattle.call_processing.specs.declared.told.Told.TheVariants.{OffHook}
use Rattle.live_laws.specs.CallTurns.{tells}
use Rattle.live_laws.specs.CallExample.{given_up, phase_then, ring}
use Rattle.live_laws.proofs.Computing.{on_examples}
use Rattle.live_laws.proofs.DescriptionLaws.{talks_as_called}
use Rattle.live_laws.proofs.call_examples.a_lost_answer_ends_the_call.Goals as goal

pub returns-clause-request : goal.returns-clause-request
unfolding on_examples
returns-clause-request c = (let is : phase_then 1 (ring ++ tells 1 OffHook ∷ given_up 1 ∷ []) ≡ talks_as_called = refl in let was : phase_then 1 (ring ++ tells 1 OffHook ∷ []) ≡ talks_as_called = refl in is ∙ sym was)
