use Rattle.std.proofs.Common.{◌≡◌, Option, None, Some, refl}
use Rattle.call_processing.specs.declared.asked.Asked.{Asked}
use Rattle.call_processing.specs.declared.asked.Asked.TheVariants.{BusyTone, Rest}
use Rattle.call_processing.specs.declared.command.Command.TheVariants.{Ask}
use Rattle.call_processing.specs.declared.line.Leg.TheVariants.{Absent, Unknown}
use Rattle.live_laws.proofs.Computing.{on_examples}
use Rattle.live_laws.proofs.call_record_examples.a_line_is_clear_without_anything.Goals as goal

pub returns : goal.returns
unfolding on_examples
returns c = record {
  clear = record { no_connection = refl; no_signal = refl; no_command = refl };
  a_signal = λ is. (let clash : Some BusyTone ≡ Some Rest = is.no_signal in cc);
  not_asked = λ is. (let clash : ◌≡◌ {A = Option Asked} None (Some Rest) = is.no_signal in cc);
  in_flight = λ is. (let clash : Some (Ask Rest) ≡ None = is.no_command in cc);
  a_connection = λ is. (let clash : Unknown 1 ≡ Absent = is.no_connection in cc);
}
