use Rattle.std.proofs.Common.{◌≡◌, [], ◌∷◌, ◌++◌, refl, sym, ◌∙◌}
use Rattle.call_processing.specs.declared.told.Told.TheVariants.{OffHook}
use Rattle.live_laws.specs.CallTurns.{tells}
use Rattle.live_laws.specs.CallExample.{coded, dial, phase_then}
use Rattle.live_laws.proofs.Computing.{on_examples}
use Rattle.live_laws.proofs.DescriptionLaws.{talks_as_called}
use Rattle.live_laws.proofs.call_examples.a_refused_request_tells_the_hook_state.Goals as goal

pub returns-clause-answered : goal.returns-clause-answered
unfolding on_examples
returns-clause-answered c = (let is : phase_then 1 (dial ++ tells 1 OffHook ∷ coded 1 401 ∷ []) ≡ talks_as_called = refl in let was : phase_then 1 (dial ++ tells 1 OffHook ∷ []) ≡ talks_as_called = refl in is ∙ sym was)
