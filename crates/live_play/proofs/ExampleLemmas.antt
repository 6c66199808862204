-- What is noted of datagrams, and what each has, in worked examples.
use Rattle.std.proofs.Common.{◌≡◌, inl, inr, ℕ, suc, ◌+◌, ◌<◌, ◌≤◌, List, [], ◌∷◌, ◌++◌, length, take, drop, Option, Some, None, refl, ◌∙◌, ap, subst, arith}
use Rattle.gateway_core.specs.declared.sent.SentMessage.{SentMessage}
use Rattle.transmission.specs.declared.output.OutDatagram.{OutDatagram}
use Rattle.traces.specs.declared.telling.Mark.{Mark}
use Rattle.traces.specs.declared.telling.Mark.TheVariants.{Lost}
use Rattle.traces.specs.Writing.{Entry, Input, became}
use Rattle.std.specs.Prelude.{⊤}
use Rattle.gateway_core.specs.GatewayState.{GatewayState}
use Rattle.gateway_core.specs.Outgoing.{dot_line, count_within, own_messages, other_messages}
use Rattle.gateway_core.proofs.OutgoingLemmas.{none_within, one_within}
use Rattle.plain_machine.specs.Event.{GatewayEvent}
use Rattle.live_play.specs.Running.{Live, IsNoted, AreNoted, messages_behind, HandsEach, HandsFrom, TakesBy}
use Rattle.live_play.specs.Readable.{first_unread}
use Rattle.live_play.specs.Example.{says, lost_behind_one, loses_the_second, keeps}

noted_low : (mark : Mark) (place : ℕ) (noted : List Entry) → place < first_unread → IsNoted (Some mark) place noted → noted ≡ became mark place ∷ []
noted_low mark place noted few (inl here) = here.1
noted_low mark place noted few (inr past) =
    let high : first_unread ≤ place = past.0 in
    absurd (omega (arith, few, high))

pub none_is_noted : (marks : List Entry) → AreNoted 0 (None ∷ []) marks → marks ≡ []
none_is_noted marks h = h.3 ∙ ap (λ (l : List Entry). l ++ h.1) h.2 ∙ h.4

pub lost_is_noted : (marks : List Entry) → AreNoted 0 (Some Lost ∷ []) marks → marks ≡ became Lost 1 ∷ []
lost_is_noted marks h =
    let noted : h.0 ≡ became Lost 1 ∷ [] = noted_low Lost 1 h.0 (omega arith) h.2 in
    h.3 ∙ ap (λ (l : List Entry). l ++ h.1) noted ∙ ap (λ (l : List Entry). became Lost 1 ∷ l) h.4

pub second_is_noted : (marks : List Entry) → AreNoted 0 (None ∷ Some Lost ∷ []) marks → marks ≡ became Lost 2 ∷ []
second_is_noted marks h =
    let more = h.4 in
    let second : more.0 ≡ became Lost 2 ∷ [] = noted_low Lost 2 more.0 (omega arith) more.2 in
    h.3 ∙ ap (λ (l : List Entry). l ++ h.1) h.2 ∙ more.3 ∙ ap (λ (l : List Entry). l ++ more.1) second
    ∙ ap (λ (l : List Entry). became Lost 2 ∷ l) more.4

pub second_is_said : (a b : OutDatagram) (messages : List SentMessage) (said : List (Option Mark))
    → HandsEach loses_the_second (a ∷ b ∷ []) messages 0 said 2 → said ≡ None ∷ Some Lost ∷ []
second_is_said a b messages [] h = absurd h
second_is_said a b messages (first ∷ []) h = absurd h.2
second_is_said a b messages (first ∷ second ∷ []) h =
    let more = h.2 in
    let none : first ≡ None = h.1.1 in
    let lost : second ≡ Some Lost = more.1.1 ∙ ap lost_behind_one h.1.0 in
    ap (λ (m : Option Mark). m ∷ second ∷ []) none ∙ ap (λ (m : Option Mark). None ∷ m ∷ []) lost
second_is_said a b messages (first ∷ second ∷ third ∷ said) h = let more = h.2 in absurd more.2

pub none_stays : (messages : List SentMessage) → HandsEach (says None) [] messages 5 [] 6 → ⊥
none_stays messages h = let six : 6 ≡ 5 = h in absurd (omega (arith, six))

pub none_is_far : (noted : List Entry) → IsNoted (Some Lost) first_unread noted → noted ≡ []
none_is_far noted (inl low) =
    let few : first_unread < first_unread = low.0 in
    absurd (omega (arith, few))
none_is_far noted (inr past) = past.1

pub none_is_told : (was is : Live) (to : ℕ) → HandsFrom (λ (before : ℕ) (gateway : GatewayState) (told : ℕ). gateway ≡ is.gateway → ⊥) (says None) was 0 [] is to → ⊥
none_is_told was is to hands = hands.told refl

one_is_lost : (a : OutDatagram) (messages : List SentMessage) (from to : ℕ) (said : List (Option Mark)) (marks : List Entry)
    → HandsEach (says (Some Lost)) (a ∷ []) messages from said to → AreNoted 0 said marks → marks ≡ became Lost 1 ∷ []
one_is_lost a messages from to [] marks h noted = absurd h
one_is_lost a messages from to (m ∷ []) marks h noted = lost_is_noted marks (subst (λ (m : Option Mark). AreNoted 0 (m ∷ []) marks) h.1 noted)
one_is_lost a messages from to (m ∷ n ∷ said) marks h noted = absurd h.2

pub one_is_marked : (was is : Live) (to : ℕ) (input : Input) (event : GatewayEvent) (a : OutDatagram)
    → (takes : TakesBy (λ (before : ℕ) (gateway : GatewayState) (told : ℕ). ⊤) (says (Some Lost)) was 0 input event is to)
    → takes.takes.outputs ≡ a ∷ [] → takes.takes.marks ≡ became Lost 1 ∷ []
one_is_marked was is to input event a takes same =
    one_is_lost a is.gateway.account.sent takes.turned to takes.said takes.takes.marks
    (subst (λ (l : List OutDatagram). HandsEach (says (Some Lost)) l is.gateway.account.sent takes.turned takes.said to) same takes.each) takes.noted

-- a datagram that is as long as the first message has that alone
pub alone : (a : OutDatagram) (one : SentMessage) (more : List SentMessage) → length a.bytes ≡ one.size
    → count_within (length a.bytes + dot_line) (one ∷ more) ≡ 1
alone a one more long =
    let room : length a.bytes + dot_line ≡ one.size + dot_line + 0 = omega (arith, long) in
    one_within one more _ 0 room ∙ ap suc (none_within more)

pub each_has_one : (a b : OutDatagram) (one other : SentMessage) (said : List (Option Mark)) (is : List (List SentMessage))
    → length a.bytes ≡ one.size → length b.bytes ≡ other.size → HandsEach keeps (a ∷ b ∷ []) (one ∷ other ∷ []) [] said is
    → is ≡ (one ∷ []) ∷ (other ∷ []) ∷ []
each_has_one a b one other [] is first second h = absurd h
each_has_one a b one other (m ∷ []) is first second h = absurd h.2
each_has_one a b one other (m ∷ n ∷ []) is first second h =
    let more = h.2 in
    let own : own_messages a (one ∷ other ∷ []) ≡ one ∷ [] = ap (λ (n : ℕ). take n (one ∷ other ∷ [])) (alone a one (other ∷ []) first) in
    let left : other_messages a (one ∷ other ∷ []) ≡ other ∷ [] = ap (λ (n : ℕ). drop n (one ∷ other ∷ [])) (alone a one (other ∷ []) first) in
    let next : own_messages b (other_messages a (one ∷ other ∷ [])) ≡ other ∷ [] =
    ap (λ (l : List SentMessage). own_messages b l) left ∙ ap (λ (n : ℕ). take n (other ∷ [])) (alone b other [] second) in
    more.2 ∙ more.1
    ∙ ap (λ (l : List (List SentMessage)). l ++ own_messages b (other_messages a (one ∷ other ∷ [])) ∷ []) (h.1 ∙ ap (λ (l : List SentMessage). l ∷ []) own)
    ∙ ap (λ (l : List SentMessage). (one ∷ []) ∷ l ∷ []) next
each_has_one a b one other (m ∷ n ∷ o ∷ said) is first second h = let more = h.2 in absurd more.2

pub one_has_both : (a : OutDatagram) (one other : SentMessage) (said : List (Option Mark)) (is : List (List SentMessage))
    → length a.bytes ≡ one.size + 3 + other.size → HandsEach keeps (a ∷ []) (one ∷ other ∷ []) [] said is → is ≡ (one ∷ other ∷ []) ∷ []
one_has_both a one other [] is both h = absurd h
one_has_both a one other (m ∷ []) is both h =
    let room : length a.bytes + dot_line ≡ one.size + dot_line + (other.size + dot_line) = omega (arith, both) in
    let rest : other.size + dot_line ≡ other.size + dot_line + 0 = omega arith in
    let two : count_within (length a.bytes + dot_line) (one ∷ other ∷ []) ≡ 2 =
    one_within one (other ∷ []) _ _ room ∙ ap suc (one_within other [] _ 0 rest ∙ ap suc (none_within [])) in
    h.2 ∙ h.1 ∙ ap (λ (n : ℕ). take n (one ∷ other ∷ []) ∷ []) two
one_has_both a one other (m ∷ n ∷ said) is both h = absurd h.2

pub second_is_behind : (a : OutDatagram) (one other : SentMessage) → length a.bytes ≡ one.size
    → messages_behind (a ∷ []) (one ∷ other ∷ []) ≡ other ∷ []
second_is_behind a one other first = ap (λ (n : ℕ). drop n (one ∷ other ∷ [])) (alone a one (other ∷ []) first)
