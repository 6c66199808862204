-- What is written of events is read again.
use Rattle.std.proofs.Common.{◌≡◌, true, leb, eqb, length, arith, refl}
use Rattle.std.specs.Prelude.{Ok}
use Rattle.std.specs.List.{list_any}
use Rattle.std.proofs.lemmas.Bool.{and_parts, le-leb, eqb-true}
use Rattle.packages.specs.declared.event.LineEvent.TheVariants.{OffHook, Letter}
use Rattle.event_syntax.specs.declared.events.Events.{Events}
use Rattle.event_syntax.specs.declared.events.Events.TheVariants.{AllOfLine, One, Letters}
use Rattle.event_syntax.specs.EventSpelling.{is_event}
use Rattle.event_syntax.specs.Events.{events_called, events_text, is_writable}
use Rattle.event_syntax.proofs.Computing.{on_examples}
use Rattle.packages.proofs.JoinLemmas.{is_plain, is_flat}
use Rattle.event_syntax.proofs.LetterLaws.{set_reads}

-- events that can be written are read again, with whatever stands behind them in parentheses
pub record ReadsEvents (events : Events) : Type 0 where
  pub flat : is_flat (events_text events) ≡ true
  pub plain : is_plain (events_text events) ≡ true
  pub some : leb 1 (length (events_text events)) ≡ true
  pub spelled : is_event (events_text events) ≡ true
  pub called : events_called (events_text events) ≡ Ok events

pub events_again : (events : Events) → is_writable events ≡ true → ReadsEvents events
unfolding on_examples
events_again AllOfLine ok = record { flat = refl; plain = refl; some = refl; spelled = refl; called = refl }
events_again (One (Letter letter)) ok = absurd cc
events_again (One OffHook) ok = record { flat = refl; plain = refl; some = refl; spelled = refl; called = refl }
events_again (One event) ok = record { flat = refl; plain = refl; some = refl; spelled = refl; called = refl }
events_again (Letters set) ok =
    let parts = and_parts (eqb (length set) 17) (list_any (λ has. has) set) ok in
    let reads = set_reads set (eqb-true (length set) 17 parts.0) parts.1 in
    record { flat = reads.flat; plain = reads.plain; some = le-leb _ _ (omega arith); spelled = reads.spelled; called = reads.called }
