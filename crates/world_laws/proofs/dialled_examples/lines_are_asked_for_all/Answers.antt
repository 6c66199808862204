use Rattle.std.proofs.Common.{◌≡◌, true, false, refl}
use Rattle.mg_bytes.specs.declared.letter.Letter.TheVariants as letters
use Rattle.packages.specs.declared.event.LineEvent.TheVariants as events
use Rattle.event_syntax.specs.declared.request.Action.TheVariants.{Notify, Dial, Ignore}
use Rattle.event_syntax.specs.declared.request.Reaction.TheVariants.{Plain}
use Rattle.packages.specs.declared.handling.Quarantined.TheVariants.{Process, Discard}
use Rattle.world_laws.proofs.AskingLemmas.{notifies_each}
use Rattle.world_laws.proofs.Computing.{on_examples}
use Rattle.world_laws.proofs.dialled_examples.lines_are_asked_for_all.Goals as goal

pub returns : goal.returns
unfolding on_examples
returns c = record {
  asked = record { undone = refl; asked = record { requested = notifies_each _ refl refl; quarantined = refl }; since = tt; none_lost = refl };
  asked_again = record {
    undone = refl;
    asked = record { requested = notifies_each _ refl refl; quarantined = refl };
    since = (record { requested = notifies_each _ refl refl; quarantined = refl }, tt);
    none_lost = refl;
  };
  done_before = λ h. (let clash = h.undone in cc);
  unasked = λ h. h.asked;
  star = λ h. (let clash : Plain Ignore ≡ Plain Notify = h.asked.requested.phone (events.Letter letters.Star) refl in cc);
  collected = λ h. (let clash : Plain Dial ≡ Plain Notify = h.asked.requested.phone (events.Letter letters.Zero) refl in cc);
  embedded = λ h. (let clash : false ≡ true = h.asked.requested.bare events.LineComplete in cc);
  discarded = λ h. (let clash : Discard ≡ Process = h.since.0.quarantined in cc);
}
