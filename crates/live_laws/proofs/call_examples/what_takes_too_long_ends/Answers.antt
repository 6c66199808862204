use Rattle.std.proofs.Common.{◌≡◌, [], ◌∷◌, ◌++◌, refl, sym, ◌∙◌}
use Rattle.call_processing.specs.declared.told.Told.TheVariants.{TimedOut}
use Rattle.live_laws.specs.CallTurns.{tells}
use Rattle.live_laws.specs.CallExample.{connect, phase_then}
use Rattle.live_laws.proofs.Computing.{on_examples}
use Rattle.live_laws.proofs.DescriptionLaws.{talks_as_caller}
use Rattle.live_laws.proofs.call_examples.what_takes_too_long_ends.Goals as goal

pub returns-clause-talking : goal.returns-clause-talking
unfolding on_examples
returns-clause-talking c = (let is : phase_then 0 (connect ++ tells 0 TimedOut ∷ []) ≡ talks_as_caller = refl in let was : phase_then 0 connect ≡ talks_as_caller = refl in is ∙ sym was)
