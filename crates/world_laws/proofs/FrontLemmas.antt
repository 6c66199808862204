-- What holds of each beginning of a list; for worked examples, in which it computes.
use Rattle.std.proofs.Common.{◌≡◌, ℕ, ◌+◌, ◌≤◌, Bool, true, false, ◌||◌, ◌&&◌, List, [], ◌∷◌, ◌++◌, length, Option, Some, None, refl, sym, ap, ◌∙◌, subst, arith}
use Rattle.std.specs.Prelude.{nat_le, nat_lt, not}
use Rattle.std.proofs.lemmas.Bool.{and_parts, leb-true, ltb-true}
use Rattle.std.proofs.lemmas.Bool.Decides.{Decides-ltb, nat_tests}
use Rattle.transmission.specs.Firsts.{young_of}
use Rattle.transmission.specs.Kept.{young_firsts}
use Rattle.transmission.specs.Memory.{most_firsts}
use Rattle.events_and_signals.specs.declared.request.Request.{Request}
use Rattle.mg_line.specs.State.{State}
use Rattle.mg_line.specs.State.TheVariants.{Normal, Notification, Lockstep}
use Rattle.retransmission.specs.Flight.{InFlight}
use Rattle.plain_machine.specs.declared.endpoint.Endpoint.{Endpoint}
use Rattle.plain_machine.specs.declared.setup.Setup.{Setup}
use Rattle.plain_machine.specs.Event.{GatewayEvent}
use Rattle.plain_machine.specs.Lists.{plain}
use Rattle.plain_machine.specs.Machine.{Machine, endpoint_at}
use Rattle.world_laws.specs.Course.{course_from, requests_in}
use Rattle.agent_core.specs.World.{WorldStep, now_in, plain_world}
use Rattle.world_laws.specs.Copies.{gateway_firsts}
use Rattle.world_laws.specs.Fairness.{AgentAlwaysHasRoom, AlwaysHasRoom}
use Rattle.world_laws.specs.Rounds.{IsAnsweredWithin, IsAskedWithin, IsAwaited}
use Rattle.world_laws.specs.Taking.{agent_history}

first_same : {X : Type 0} (x y : X) (xs ys : List X) → x ∷ xs ≡ y ∷ ys → x ≡ y
first_same x y xs ys same = cc

pub rest_same : {X : Type 0} (x y : X) (xs ys : List X) → x ∷ xs ≡ y ∷ ys → xs ≡ ys
rest_same x y xs ys same = cc

-- of the empty one, and of each longer one up to all
abbrev pub on_fronts : {X : Type 0} → (List X → Bool) → List X → Bool
on_fronts holds [] = holds []
on_fronts holds (x ∷ xs) = holds [] && on_fronts (λ front. holds (x ∷ front)) xs

pub front_holds : {X : Type 0} (holds : List X → Bool) (all some later : List X) → on_fronts holds all ≡ true → all ≡ some ++ later → holds some ≡ true
front_holds holds [] [] later is same = is
front_holds holds [] (y ∷ some) later is same = absurd cc
front_holds holds (x ∷ xs) [] later is same = (and_parts (holds []) (on_fronts (λ front. holds (x ∷ front)) xs) is).0
front_holds holds (x ∷ xs) (y ∷ some) later is same =
    subst (λ z. holds (z ∷ some) ≡ true) (first_same x y xs (some ++ later) same)
    (front_holds (λ front. holds (x ∷ front)) xs some later (and_parts (holds []) (on_fronts (λ front. holds (x ∷ front)) xs) is).1 (rest_same x y xs (some ++ later) same))

-- and of each stretch behind a beginning
abbrev pub on_stretches : {X : Type 0} → (List X → List X → Bool) → List X → Bool
on_stretches holds [] = on_fronts (holds []) []
on_stretches holds (x ∷ xs) = on_fronts (holds []) (x ∷ xs) && on_stretches (λ some between. holds (x ∷ some) between) xs

pub stretch_holds : {X : Type 0} (holds : List X → List X → Bool) (all some between later : List X) → on_stretches holds all ≡ true → all ≡ (some ++ between) ++ later
    → holds some between ≡ true
stretch_holds holds [] [] between later is same = front_holds (holds []) [] between later is same
stretch_holds holds [] (y ∷ some) between later is same = absurd cc
stretch_holds holds (x ∷ xs) [] between later is same =
    front_holds (holds []) (x ∷ xs) between later (and_parts (on_fronts (holds []) (x ∷ xs)) (on_stretches (λ some between. holds (x ∷ some) between) xs) is).0 same
stretch_holds holds (x ∷ xs) (y ∷ some) between later is same =
    subst (λ z. holds (z ∷ some) between ≡ true) (first_same x y xs ((some ++ between) ++ later) same)
    (stretch_holds (λ some between. holds (x ∷ some) between) xs some between later
    (and_parts (on_fronts (holds []) (x ∷ xs)) (on_stretches (λ some between. holds (x ∷ some) between) xs) is).1 (rest_same x y xs ((some ++ between) ++ later) same))

-- Whether a line is answered and asked

abbrev is_notified : State → Bool
is_notified Normal = false
is_notified Notification = true
is_notified Lockstep = false

abbrev is_locked : State → Bool
is_locked Normal = false
is_locked Notification = false
is_locked Lockstep = true

abbrev is_awaited : ℕ → ℕ → Option InFlight → Bool
is_awaited now wait None = false
is_awaited now wait (Some flight) = nat_le flight.first now && nat_le now (flight.first + wait)

awaited : (now wait : ℕ) (pending : Option InFlight) → is_awaited now wait pending ≡ true → IsAwaited now wait pending
awaited now wait None is = absurd cc
awaited now wait (Some flight) is =
    let both = and_parts (nat_le flight.first now) (nat_le now (flight.first + wait)) is in
    record { flight = flight; flies = refl; sent = leb-true flight.first now both.0; lately = leb-true now (flight.first + wait) both.1 }

abbrev answered_by : ℕ → ℕ → Option Endpoint → Bool
answered_by now wait None = true
answered_by now wait (Some endpoint) = not (is_notified endpoint.line.state) || is_awaited now wait endpoint.post.pending

abbrev pub is_answered : Setup → ℕ → List GatewayEvent → ℕ → List GatewayEvent → Bool
is_answered setup line before wait some = let m = plain setup (before ++ some) in answered_by m.now wait (endpoint_at m.endpoints line)

or_second : (a b : Bool) → a ≡ true → (not a || b) ≡ true → b ≡ true
or_second true b a is = is
or_second false b a is = absurd cc

pub answered_within : (setup : Setup) (line : ℕ) (before events : List GatewayEvent) (wait : ℕ) → on_fronts (is_answered setup line before wait) events ≡ true
    → IsAnsweredWithin setup line before events wait
answered_within setup line before events wait all = λ some later endpoint order at state.
    let m : Machine = plain setup (before ++ some) in
    awaited m.now wait endpoint.post.pending
    (or_second (is_notified endpoint.line.state) (is_awaited m.now wait endpoint.post.pending) (ap is_notified state)
    (sym (ap (answered_by m.now wait) at) ∙ front_holds (is_answered setup line before wait) events some later all order))

abbrev has_some : List Request → Bool
has_some [] = false
has_some (request ∷ requests) = true

abbrev locked_by : Option Endpoint → Bool
locked_by None = false
locked_by (Some endpoint) = is_locked endpoint.line.state

abbrev pub is_asked : Setup → ℕ → List GatewayEvent → ℕ → List GatewayEvent → List GatewayEvent → Bool
is_asked setup line before wait some between =
    let m = plain setup (before ++ some) in
    not (locked_by (endpoint_at m.endpoints line) && nat_lt (m.now + wait) (plain setup ((before ++ some) ++ between)).now) || has_some (requests_in (course_from setup m line between))

pub both_are : (a b : Bool) → a ≡ true → b ≡ true → (a && b) ≡ true
both_are true true one two = refl
both_are true false one two = absurd cc
both_are false b one two = absurd cc

pub asked_within : (setup : Setup) (line : ℕ) (before events : List GatewayEvent) (wait : ℕ) → on_stretches (is_asked setup line before wait) events ≡ true
    → IsAskedWithin setup line before events wait
asked_within setup line before events wait all = λ some between later endpoint order at state late none.
    let m : Machine = plain setup (before ++ some) in
    let next : ℕ = (plain setup ((before ++ some) ++ between)).now in
    let locked : locked_by (endpoint_at m.endpoints line) ≡ true = ap locked_by at ∙ ap is_locked state in
    let long : nat_lt (m.now + wait) next ≡ true = (Decides-ltb (m.now + wait) next).1 late in
    let some_asked : has_some (requests_in (course_from setup m line between)) ≡ true =
    or_second (locked_by (endpoint_at m.endpoints line) && nat_lt (m.now + wait) next) (has_some (requests_in (course_from setup m line between)))
    (both_are (locked_by (endpoint_at m.endpoints line)) (nat_lt (m.now + wait) next) locked long)
    (stretch_holds (is_asked setup line before wait) events some between later all order) in
    let clash : true ≡ false = sym some_asked ∙ ap has_some none in cc

-- where the test fails at a beginning, the line isn't answered in that time

tests : (a b : ℕ) → a ≤ b → nat_le a b ≡ true
tests a b low = grind (arith, nat_tests)

awaits : (now wait : ℕ) (pending : Option InFlight) → IsAwaited now wait pending → is_awaited now wait pending ≡ true
awaits now wait pending is =
    ap (is_awaited now wait) is.flies ∙ both_are (nat_le is.flight.first now) (nat_le now (is.flight.first + wait)) (tests is.flight.first now is.sent) (tests now (is.flight.first + wait) is.lately)

notified_so : (state : State) → is_notified state ≡ true → state ≡ Notification
notified_so Normal is = absurd cc
notified_so Notification is = refl
notified_so Lockstep is = absurd cc

neither : (a b : Bool) → (not a || b) ≡ false → (a ≡ true) × (b ≡ false)
neither true b is = (refl, is)
neither false b is = absurd cc

unmet : (now wait : ℕ) (found : Option Endpoint) → answered_by now wait found ≡ false
    → ((endpoint : Endpoint) → found ≡ Some endpoint → endpoint.line.state ≡ Notification → IsAwaited now wait endpoint.post.pending) → ⊥
unmet now wait None fails each = cc
unmet now wait (Some endpoint) fails each =
    let parts = neither (is_notified endpoint.line.state) (is_awaited now wait endpoint.post.pending) fails in
    let clash : false ≡ true = sym parts.1 ∙ awaits now wait endpoint.post.pending (each endpoint refl (notified_so endpoint.line.state parts.0)) in cc

pub not_answered : (setup : Setup) (line : ℕ) (before events some later : List GatewayEvent) (wait : ℕ) → events ≡ some ++ later → is_answered setup line before wait some ≡ false
    → IsAnsweredWithin setup line before events wait → ⊥
not_answered setup line before events some later wait order fails answered =
    let m : Machine = plain setup (before ++ some) in
    unmet m.now wait (endpoint_at m.endpoints line) fails (λ endpoint at state. answered some later endpoint order at state)

-- Whether an agent has room

abbrev pub has_room : Setup → List WorldStep → Bool
has_room setup before = let w = plain_world setup before in nat_lt (length (young_firsts (now_in setup w) (agent_history setup w))) most_firsts

pub agent_has_room : (setup : Setup) (steps : List WorldStep) → on_fronts (has_room setup) steps ≡ true → AgentAlwaysHasRoom setup steps
agent_has_room setup steps all = λ before later order.
    let w = plain_world setup before in
    ltb-true (length (young_firsts (now_in setup w) (agent_history setup w))) most_firsts (front_holds (has_room setup) steps before later all order)

-- and whether the gateway has

abbrev pub gateway_room : Setup → List WorldStep → Bool
gateway_room setup before = let w = plain_world setup before in nat_lt (length (young_of (now_in setup w) (gateway_firsts setup w))) most_firsts

pub gateway_has_room : (setup : Setup) (steps : List WorldStep) → on_fronts (gateway_room setup) steps ≡ true → AlwaysHasRoom setup steps
gateway_has_room setup steps all = λ before later order.
    let w = plain_world setup before in
    ltb-true (length (young_of (now_in setup w) (gateway_firsts setup w))) most_firsts (front_holds (gateway_room setup) steps before later all order)
