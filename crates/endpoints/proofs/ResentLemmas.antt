-- A command in flight goes out again.
use Rattle.std.proofs.Common.{◌≡◌, ℕ, ◌+◌, List, [], ◌∷◌, ◌++◌, Some, refl, sym, ap, ◌∙◌}
use Rattle.std.specs.declared.net.socket_addr.SocketAddrV4.{SocketAddrV4}
use Rattle.retransmission.specs.declared.repeat.Repeat.{Repeat}
use Rattle.retransmission.specs.declared.repeat.Repeat.TheVariants.{Sent as SentAgain, GivenUp}
use Rattle.retransmission.specs.Flight.{InFlight, sent_to, repeat_of, again_as, repeated}
use Rattle.plain_machine.specs.declared.label.OutMessage.{OutMessage}
use Rattle.plain_machine.specs.declared.label.Label.{Label}
use Rattle.plain_machine.specs.declared.label.Whose.TheVariants.{OwnOf}
use Rattle.plain_machine.specs.declared.label.What.TheVariants.{Resent}
use Rattle.plain_machine.specs.Labelling.{own_verb}
use Rattle.plain_machine.specs.declared.post.Post.{Post}
use Rattle.plain_machine.specs.declared.setup.Setup.{Setup}
use Rattle.plain_machine.specs.Posting.{resent_on}
use Rattle.endpoints.specs.Effects.{HasEffect}

kept_text : (message : InFlight) (moment : ℕ) → (repeated message moment).text ≡ message.text
unfolding repeated
kept_text message moment = by_repeat (repeat_of message moment) where
  by_repeat : (repeat : Repeat) → (again_as repeat message moment).text ≡ message.text
  by_repeat SentAgain = refl
  by_repeat GivenUp = refl

pub sent_again : (setup : Setup) (line moment : ℕ) (post becomes : Post) (message again : InFlight) (to : SocketAddrV4) (text : List ℕ) (label : Label) (were are : List OutMessage) → post.pending ≡ Some message
    → SentAgain ≡ repeat_of message moment → again ≡ repeated message moment → to ≡ sent_to again → text ≡ again.text
    → label ≡ record { whose = OwnOf line; what = Resent (own_verb message.text) (message.repeats + 2); id = message.id }
    → are ≡ were ++ (record { datagram = record { to = to; moment = moment; bytes = text }; label = label }) ∷ [] → becomes ≡ record post { pending = Some again } → HasEffect (resent_on setup line moment post) becomes were are
sent_again setup line moment post becomes message again to text label were are flying goes is to_same text_same label_same more same =
    rw (flying, sym goes) (record {
      value = same ∙ ap (λ (m : InFlight). let p : Post = record post { pending = Some m } in p) is;
      sent = more ∙ rw (label_same, to_same, text_same, is, kept_text message moment) refl;
    })
