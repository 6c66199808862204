-- All that happens to a message in flight.
use Rattle.std.proofs.Common.{◌≡◌, ◌≢◌, ◌≤◌, ◌<◌, ◌-◌, ◌+◌, ◌==◌, ◌&&◌, ℕ, Bool, true, false, List, [], ◌∷◌, length, map, refl, ap, ◌∙◌, arith, subst}
use Rattle.std.specs.Prelude.{nat_lt, nat_le, if◌then◌else◌, All}
use Rattle.std.specs.List.{range_with_len}
use Rattle.std.specs.declared.net.socket_addr.SocketAddrV4.{SocketAddrV4}
use Rattle.endpoint_names.specs.declared.route.Route.{Route}
use Rattle.endpoint_names.specs.Route.{at}
use Rattle.std.proofs.lemmas.List.Elements.{All-nil, All-cons, All-head, All-tail}
use Rattle.std.proofs.lemmas.Bool.{and_parts, leb-true}
use Rattle.std.proofs.lemmas.Bool.Decides.{nat_tests}
use Rattle.retransmission.specs.declared.repeat.Repeat.{Repeat}
use Rattle.retransmission.specs.declared.repeat.Repeat.TheVariants.{Sent, GivenUp}
use Rattle.retransmission.specs.declared.reply.Reply.{Reply}
use Rattle.retransmission.specs.declared.reply.Reply.TheVariants.{Answered, Provisional, Stranger}
use Rattle.retransmission.specs.Sends.{wait_after, sending_time, may_repeat}
use Rattle.retransmission.specs.Flight.{InFlight, sent_to, sent_first, repeat_of, repeated, reply_by, reply_of, heard}
use Rattle.retransmission.specs.Life.{Happening, falls_due, responds, resent, resent_to, is_answered, IsNoAnswer}

-- ---- one thing that happens

-- two have the same id, route, text and first send
pub record IsSameMessage (one other : InFlight) : Type 0 where
  pub same_id : other.id ≡ one.id
  pub same_route : other.route ≡ one.route
  pub same_text : other.text ≡ one.text
  pub same_start : other.first ≡ one.first

same_repeat : (message : InFlight) (moment : ℕ) (b : Bool) → may_repeat message.first message.repeats moment ≡ b → IsSameMessage message (repeated message moment)
unfolding repeated
same_repeat message moment true may = rw may (record { same_id = refl; same_route = refl; same_text = refl; same_start = refl })
same_repeat message moment false may = rw may (record { same_id = refl; same_route = refl; same_text = refl; same_start = refl })

pub repeat_same : (message : InFlight) (moment : ℕ) → IsSameMessage message (repeated message moment)
repeat_same message moment = same_repeat message moment (may_repeat message.first message.repeats moment) refl

same_reply : (message : InFlight) (id code moment : ℕ) (reply : Reply) → reply_of message id code ≡ reply → IsSameMessage message (heard message id code moment)
unfolding heard
same_reply message id code moment Answered is = rw is (record { same_id = refl; same_route = refl; same_text = refl; same_start = refl })
same_reply message id code moment Provisional is = rw is (record { same_id = refl; same_route = refl; same_text = refl; same_start = refl })
same_reply message id code moment Stranger is = rw is (record { same_id = refl; same_route = refl; same_text = refl; same_start = refl })

pub reply_same : (message : InFlight) (id code moment : ℕ) → IsSameMessage message (heard message id code moment)
reply_same message id code moment = same_reply message id code moment (reply_of message id code) refl

-- a response leaves the number of repeats
count_heard : (message : InFlight) (id code moment : ℕ) (reply : Reply) → reply_of message id code ≡ reply → (heard message id code moment).repeats ≡ message.repeats
unfolding heard
count_heard message id code moment Answered is = rw is refl
count_heard message id code moment Provisional is = rw is refl
count_heard message id code moment Stranger is = rw is refl

-- what is sent again was allowed, and is counted
record IsAllowed (message : InFlight) (moment : ℕ) : Type 0 where
  few : message.repeats < 7
  soon : moment - message.first < sending_time
  counted : (repeated message moment).repeats ≡ message.repeats + 1
  later : moment < (repeated message moment).due

wait_some : (repeats : ℕ) → 0 < wait_after repeats
wait_some repeats = by_none (repeats == 0) refl where
  by_two : (b : Bool) → (repeats == 0) ≡ false → (repeats == 1) ≡ false → (repeats == 2) ≡ b → 0 < wait_after repeats
  by_two true zero one two = rw (zero, one, two) (omega arith)
  by_two false zero one two = rw (zero, one, two) (omega arith)

  by_one : (b : Bool) → (repeats == 0) ≡ false → (repeats == 1) ≡ b → 0 < wait_after repeats
  by_one true zero one = rw (zero, one) (omega arith)
  by_one false zero one = by_two (repeats == 2) zero one refl

  by_none : (b : Bool) → (repeats == 0) ≡ b → 0 < wait_after repeats
  by_none true zero = rw zero (omega arith)
  by_none false zero = by_one (repeats == 1) zero refl

allowed_by : (message : InFlight) (moment : ℕ) → may_repeat message.first message.repeats moment ≡ true → IsAllowed message moment
unfolding repeated
allowed_by message moment may =
    let both = and_parts (nat_lt message.repeats 7) (nat_lt (moment - message.first) sending_time) may in
    let few : nat_lt message.repeats 7 ≡ true = both.0 in
    let soon : nat_lt (moment - message.first) sending_time ≡ true = both.1 in
    let wait : 0 < wait_after (message.repeats + 1) = wait_some (message.repeats + 1) in
    record { few = grind (arith, nat_tests, few); soon = grind (arith, nat_tests, soon); counted = rw may refl; later = rw may (omega arith) }

sent_by : (b : Bool) → (if b then Sent else GivenUp) ≡ Sent → b ≡ true
sent_by true e = refl
sent_by false e = absurd cc

allowed : (message : InFlight) (moment : ℕ) → repeat_of message moment ≡ Sent → IsAllowed message moment
allowed message moment is = allowed_by message moment (sent_by (may_repeat message.first message.repeats moment) is)

-- what is sent again was first sent less than 20,000 ms ago
pub sent_soon : (message : InFlight) (moment : ℕ) → repeat_of message moment ≡ Sent → moment - message.first < sending_time
sent_soon message moment is = (allowed message moment is).soon

pub sent_later : (message : InFlight) (moment : ℕ) → repeat_of message moment ≡ Sent → moment < (repeated message moment).due
sent_later message moment is = (allowed message moment is).later

pub held_later : (message : InFlight) (id code moment : ℕ) → reply_of message id code ≡ Provisional → moment < (heard message id code moment).due
unfolding heard
held_later message id code moment is = rw is (omega arith)

-- a return code below 200 is no answer
low_code : (message : InFlight) (id code : ℕ) → code < 200 → reply_of message id code ≢ Answered
low_code message id code low = by_id (message.id == id) where
  by_high : (a b : Bool) → nat_le 200 code ≡ a → (if (a && b) then Answered else Stranger) ≢ Answered
  by_high true b high e = absurd (let up : 200 ≤ code = leb-true 200 code high in omega arith)
  by_high false b high e = absurd cc

  by_code : (b : Bool) → (if b then Provisional else (if nat_le 200 code && nat_le code 999 then Answered else Stranger)) ≢ Answered
  by_code true e = absurd cc
  by_code false e = by_high (nat_le 200 code) (nat_le code 999) refl e

  by_id : (b : Bool) → (if b then reply_by code else Stranger) ≢ Answered
  by_id true e = by_code (nat_le 100 code && nat_le code 199) e
  by_id false e = absurd cc

-- ---- all that happens

pub record Bounded (count first : ℕ) (moments : List ℕ) : Type 0 where
  pub few : count + length moments ≤ 7
  pub soon : All (λ moment. moment < first + sending_time) moments

carried : {was is first start : ℕ} {moments : List ℕ} → is ≡ was → start ≡ first → Bounded is start moments → Bounded was first moments
carried count begin b = rw (← count, ← begin) b

pub bounded : (message : InFlight) (happenings : List Happening) → message.repeats ≤ 7 → Bounded message.repeats message.first (resent message happenings)
unfolding resent
bounded message [] few = record { few = omega arith; soon = All-nil (λ moment. moment < message.first + sending_time) }
bounded message (falls_due moment ∷ more) few = by_repeat (repeat_of message moment) refl (λ h. bounded (repeated message moment) more h) where
  by_repeat : (r : Repeat) → repeat_of message moment ≡ r
      → ((repeated message moment).repeats ≤ 7 → Bounded (repeated message moment).repeats (repeated message moment).first (resent (repeated message moment) more))
      → Bounded message.repeats message.first (resent message (falls_due moment ∷ more))
  by_repeat Sent is others =
      let a = allowed message moment is in
      let few : message.repeats < 7 = a.few in
      let near : moment - message.first < sending_time = a.soon in
      let counted : (repeated message moment).repeats ≡ message.repeats + 1 = a.counted in
      let start : (repeated message moment).first ≡ message.first = (repeat_same message moment).same_start in
      let rest = others (omega arith) in
      let count : (repeated message moment).repeats + length (resent (repeated message moment) more) ≤ 7 = rest.few in
      let later : All (λ m. m < message.first + sending_time) (resent (repeated message moment) more) = subst (λ (first : ℕ). All (λ m. m < first + sending_time) (resent (repeated message moment) more)) start rest.soon in
      rw is (record { few = omega arith; soon = All-cons (λ m. m < message.first + sending_time) moment (resent (repeated message moment) more) (omega arith) later })
  by_repeat GivenUp is others = rw is (record { few = omega arith; soon = All-nil (λ moment. moment < message.first + sending_time) })
bounded message (responds id code moment ∷ more) few = by_reply (reply_of message id code) refl (λ h. bounded (heard message id code moment) more h) where
  by_reply : (r : Reply) → reply_of message id code ≡ r
      → ((heard message id code moment).repeats ≤ 7 → Bounded (heard message id code moment).repeats (heard message id code moment).first (resent (heard message id code moment) more))
      → Bounded message.repeats message.first (resent message (responds id code moment ∷ more))
  by_reply Answered is others = rw is (record { few = omega arith; soon = All-nil (λ moment. moment < message.first + sending_time) })
  by_reply Provisional is others =
      let same : (heard message id code moment).repeats ≡ message.repeats = count_heard message id code moment Provisional is in
      let start : (heard message id code moment).first ≡ message.first = (reply_same message id code moment).same_start in
      let rest = others (omega arith) in
      rw is (carried same start rest)
  by_reply Stranger is others =
      let same : (heard message id code moment).repeats ≡ message.repeats = count_heard message id code moment Stranger is in
      let start : (heard message id code moment).first ≡ message.first = (reply_same message id code moment).same_start in
      let rest = others (omega arith) in
      rw is (carried same start rest)

pub eight_sends : (id : ℕ) (route : Route SocketAddrV4) (text : List ℕ) (first : ℕ) (happenings : List Happening) → length (first ∷ resent (sent_first id route text first) happenings) ≤ 8
eight_sends id route text first happenings = let b = (bounded (sent_first id route text first) happenings (omega arith)).few in omega (arith, b)

pub within_time : (id : ℕ) (route : Route SocketAddrV4) (text : List ℕ) (first : ℕ) (happenings : List Happening) → All (λ moment. moment < first + sending_time) (resent (sent_first id route text first) happenings)
within_time id route text first happenings = (bounded (sent_first id route text first) happenings (omega arith)).soon

-- ---- where the sends go

-- after a send, those that follow have the numbers after its own
one_more : (route route' : Route SocketAddrV4) (n n' : ℕ) (later : List SocketAddrV4) → route' ≡ route → n' ≡ n + 1 → later ≡ map (at route') (range_with_len (n' + 1) (length later))
    → at route' n' ∷ later ≡ map (at route) (range_with_len (n + 1) (length (at route' n' ∷ later)))
one_more route route' n n' later same count goes =
    ap (λ (r : Route SocketAddrV4). at r n' ∷ later) same ∙ ap (λ (k : ℕ). at route k ∷ later) count
    ∙ ap (λ (list : List SocketAddrV4). at route (n + 1) ∷ list) (
    goes ∙ ap (λ (r : Route SocketAddrV4). map (at r) (range_with_len (n' + 1) (length later))) same
    ∙ ap (λ (k : ℕ). map (at route) (range_with_len (k + 1) (length later))) count)

as_before : (route route' : Route SocketAddrV4) (n n' : ℕ) (later : List SocketAddrV4) → route' ≡ route → n' ≡ n → later ≡ map (at route') (range_with_len (n' + 1) (length later))
    → later ≡ map (at route) (range_with_len (n + 1) (length later))
as_before route route' n n' later same count goes =
    goes ∙ ap (λ (r : Route SocketAddrV4). map (at r) (range_with_len (n' + 1) (length later))) same
    ∙ ap (λ (k : ℕ). map (at route) (range_with_len (k + 1) (length later))) count

go_in_turn : (message : InFlight) (happenings : List Happening)
    → resent_to message happenings ≡ map (at message.route) (range_with_len (message.repeats + 1) (length (resent_to message happenings)))
unfolding resent_to
go_in_turn message [] = refl
go_in_turn message (falls_due moment ∷ more) = by_repeat (repeat_of message moment) refl (go_in_turn (repeated message moment) more) where
  by_repeat : (r : Repeat) → repeat_of message moment ≡ r
      → resent_to (repeated message moment) more ≡ map (at (repeated message moment).route) (range_with_len ((repeated message moment).repeats + 1) (length (resent_to (repeated message moment) more)))
      → resent_to message (falls_due moment ∷ more) ≡ map (at message.route) (range_with_len (message.repeats + 1) (length (resent_to message (falls_due moment ∷ more))))
  by_repeat Sent is others =
      rw is (one_more message.route (repeated message moment).route message.repeats (repeated message moment).repeats (resent_to (repeated message moment) more)
      (repeat_same message moment).same_route (allowed message moment is).counted others)
  by_repeat GivenUp is others = rw is refl
go_in_turn message (responds id code moment ∷ more) = by_reply (reply_of message id code) refl (go_in_turn (heard message id code moment) more) where
  goes : (r : Reply) → reply_of message id code ≡ r
      → resent_to (heard message id code moment) more ≡ map (at (heard message id code moment).route) (range_with_len ((heard message id code moment).repeats + 1) (length (resent_to (heard message id code moment) more)))
      → resent_to (heard message id code moment) more ≡ map (at message.route) (range_with_len (message.repeats + 1) (length (resent_to (heard message id code moment) more)))
  goes r is others =
      as_before message.route (heard message id code moment).route message.repeats (heard message id code moment).repeats (resent_to (heard message id code moment) more)
      (reply_same message id code moment).same_route (count_heard message id code moment r is) others

  by_reply : (r : Reply) → reply_of message id code ≡ r
      → resent_to (heard message id code moment) more ≡ map (at (heard message id code moment).route) (range_with_len ((heard message id code moment).repeats + 1) (length (resent_to (heard message id code moment) more)))
      → resent_to message (responds id code moment ∷ more) ≡ map (at message.route) (range_with_len (message.repeats + 1) (length (resent_to message (responds id code moment ∷ more))))
  by_reply Answered is others = rw is refl
  by_reply Provisional is others = rw is (goes Provisional is others)
  by_reply Stranger is others = rw is (goes Stranger is others)

pub all_in_turn : (id : ℕ) (route : Route SocketAddrV4) (text : List ℕ) (moment : ℕ) (happenings : List Happening)
    → let message = sent_first id route text moment in let sends = sent_to message ∷ resent_to message happenings in sends ≡ map (at route) (range_with_len 0 (length sends))
all_in_turn id route text moment happenings = ap (λ (list : List SocketAddrV4). at route 0 ∷ list) (go_in_turn (sent_first id route text moment) happenings)

pub never_answered : (message : InFlight) (happenings : List Happening) → All IsNoAnswer happenings → is_answered message happenings ≡ false
unfolding is_answered
never_answered message [] none = refl
never_answered message (falls_due moment ∷ more) none = by_repeat (repeat_of message moment) refl (never_answered (repeated message moment) more (All-tail IsNoAnswer (falls_due moment) more none)) where
  by_repeat : (r : Repeat) → repeat_of message moment ≡ r → is_answered (repeated message moment) more ≡ false → is_answered message (falls_due moment ∷ more) ≡ false
  by_repeat Sent is others = rw is others
  by_repeat GivenUp is others = rw is refl
never_answered message (responds id code moment ∷ more) none = by_reply (reply_of message id code) refl (never_answered (heard message id code moment) more (All-tail IsNoAnswer (responds id code moment) more none)) where
  by_reply : (r : Reply) → reply_of message id code ≡ r → is_answered (heard message id code moment) more ≡ false → is_answered message (responds id code moment ∷ more) ≡ false
  by_reply Answered is others = absurd (low_code message id code (All-head IsNoAnswer (responds id code moment) more none) is)
  by_reply Provisional is others = rw is others
  by_reply Stranger is others = rw is others
