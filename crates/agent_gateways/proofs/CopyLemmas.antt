-- What becomes of the desk's own copy of a command, as of the one that its agent has; and what an agent stands for that took nothing.
use Rattle.std.proofs.Common.{◌≡◌, ◌⊎◌, inl, inr, ℕ, ◌<◌, ◌≤◌, Bool, true, List, [], length, take, take_all, refl, sym, ap, ◌∙◌, arith, if◌then◌else◌}
use Rattle.std.specs.Prelude.{◌==◌}
use Rattle.std.proofs.lemmas.Bool.{eq-eqb}
use Rattle.std.proofs.lemmas.List.{length-take}
use Rattle.std.specs.declared.net.socket_addr.SocketAddrV4.{SocketAddrV4}
use Rattle.endpoint_names.specs.declared.route.Route.{Route}
use Rattle.call_agent.specs.AgentStands.{AgentState, AgentStays}
use Rattle.retransmission.specs.declared.repeat.Repeat.{Repeat}
use Rattle.retransmission.specs.declared.repeat.Repeat.TheVariants.{Sent, GivenUp}
use Rattle.retransmission.specs.declared.reply.Reply.{Reply}
use Rattle.retransmission.specs.declared.reply.Reply.TheVariants.{Answered, Provisional, Stranger}
use Rattle.retransmission.specs.Flight.{InFlight, sent_first, repeat_of, again_as, repeated, reply_by, reply_of, heard_as, heard}

pub as_it_was : (a : AgentState) → AgentStays a a
as_it_was a = record { setup = refl; stands = λ before stands. stands }

-- The beginning of a text

pub whole : (most : ℕ) (text : List ℕ) → (most < 0) ⊎ (length text < most) → text ≡ take most text
whole most text (inl h) = absurd (omega arith)
whole most text (inr h) = sym (take_all most text (omega arith))

pub whole_short : (most : ℕ) (text : List ℕ) → (most < 0) ⊎ (length text < most) → length text ≤ most
whole_short most text (inl h) = absurd (omega arith)
whole_short most text (inr h) = omega arith

pub cut_short : (most : ℕ) (text cut : List ℕ) → cut ≡ take most text → length cut ≤ most
cut_short most text cut is = rw is (omega (arith, length-take most text))

-- A response to its own id

own_so : (message : InFlight) (own code : ℕ) → own ≡ message.id → reply_of message own code ≡ reply_by code
own_so message own code own_is = ap (λ (b : Bool). if b then reply_by code else Stranger) (eq-eqb message.id own (sym own_is))

so_of : (is_own : Bool) (code : ℕ) → is_own ≡ true → reply_by code ≡ (if is_own then reply_by code else Stranger)
so_of is_own code holds = sym (ap (λ (b : Bool). if b then reply_by code else Stranger) holds)

pub own_reply : (is_own : Bool) (message : InFlight) (own code : ℕ) (reply : Reply) → is_own ≡ true → own ≡ message.id
    → reply ≡ reply_of message own code → reply ≡ (if is_own then reply_by code else Stranger)
own_reply is_own message own code reply holds own_is is = is ∙ own_so message own code own_is ∙ so_of is_own code holds

pub own_kept : (is_own : Bool) (message is : InFlight) (own code moment : ℕ) → is_own ≡ true → own ≡ message.id
    → is ≡ heard message own code moment → is ≡ heard_as (if is_own then reply_by code else Stranger) message moment
unfolding heard
own_kept is_own message is own code moment holds own_is heard_so =
    heard_so ∙ ap (λ (reply : Reply). heard_as reply message moment) (own_so message own code own_is ∙ so_of is_own code holds)

-- A message under an id and with a text: what is done with it is what is done with the one that has others

abbrev pub dressed : ℕ → List ℕ → InFlight → InFlight
dressed id text message = record message { id = id; text = text }

again_dressed : (repeat : Repeat) (id : ℕ) (text : List ℕ) (message : InFlight) (moment : ℕ)
    → dressed id text (again_as repeat message moment) ≡ again_as repeat (dressed id text message) moment
again_dressed Sent id text message moment = refl
again_dressed GivenUp id text message moment = refl

heard_dressed : (reply : Reply) (id : ℕ) (text : List ℕ) (message : InFlight) (moment : ℕ)
    → dressed id text (heard_as reply message moment) ≡ heard_as reply (dressed id text message) moment
heard_dressed Answered id text message moment = refl
heard_dressed Provisional id text message moment = refl
heard_dressed Stranger id text message moment = refl

pub repeats_so : (id : ℕ) (text : List ℕ) (was is message : InFlight) (moment : ℕ) → dressed id text was ≡ message
    → is ≡ repeated was moment → dressed id text is ≡ repeated message moment
unfolding repeated
repeats_so id text was is message moment message_is is_so =
    ap (λ (m : InFlight). dressed id text m) is_so
    ∙ again_dressed (repeat_of was moment) id text was moment
    ∙ ap (λ (m : InFlight). again_as (repeat_of m moment) m moment) message_is

pub replies_so : (id other : ℕ) (text : List ℕ) (was message : InFlight) (is_own : Bool) (code : ℕ) (reply : Reply)
    → dressed id text was ≡ message → is_own ≡ (id == other) → reply ≡ (if is_own then reply_by code else Stranger)
    → reply ≡ reply_of message other code
replies_so id other text was message is_own code reply message_is own_is is =
    is
    ∙ ap (λ (b : Bool). if b then reply_by code else Stranger) own_is
    ∙ ap (λ (m : InFlight). reply_of m other code) message_is

pub hears_so : (id other : ℕ) (text : List ℕ) (was is message : InFlight) (is_own : Bool) (code moment : ℕ)
    → dressed id text was ≡ message → is_own ≡ (id == other)
    → is ≡ heard_as (if is_own then reply_by code else Stranger) was moment → dressed id text is ≡ heard message other code moment
unfolding heard
hears_so id other text was is message is_own code moment message_is own_is is_so =
    ap (λ (m : InFlight). dressed id text m) is_so
    ∙ heard_dressed (if is_own then reply_by code else Stranger) id text was moment
    ∙ ap (λ (b : Bool). heard_as (if b then reply_by code else Stranger) (dressed id text was) moment) own_is
    ∙ ap (λ (m : InFlight). heard_as (reply_of m other code) m moment) message_is

-- a copy in room for one that is first sent so is first sent so
pub first_so : (room copy : InFlight) (id : ℕ) (to : Route SocketAddrV4) (text : List ℕ) (moment : ℕ) → room ≡ sent_first 1 to [] moment
    → copy ≡ dressed id text room → copy ≡ sent_first id to text moment
first_so room copy id to text moment room_is is = is ∙ ap (λ (m : InFlight). dressed id text m) room_is
