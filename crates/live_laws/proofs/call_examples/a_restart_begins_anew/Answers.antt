use Rattle.std.proofs.Common.{◌≡◌, [], ◌∷◌, ◌++◌, refl, sym, ◌∙◌}
use Rattle.call_processing.specs.declared.told.Told.TheVariants.{Disconnected}
use Rattle.live_laws.specs.CallTurns.{tells}
use Rattle.live_laws.specs.CallExample.{connect, phase_then}
use Rattle.live_laws.proofs.Computing.{on_examples}
use Rattle.live_laws.proofs.DescriptionLaws.{talks_as_caller}
use Rattle.live_laws.proofs.call_examples.a_restart_begins_anew.Goals as goal

pub returns-clause-goes_on : goal.returns-clause-goes_on
unfolding on_examples
returns-clause-goes_on c = (let is : phase_then 0 (connect ++ tells 0 Disconnected ∷ []) ≡ talks_as_caller = refl in let was : phase_then 0 connect ≡ talks_as_caller = refl in is ∙ sym was)
