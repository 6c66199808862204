-- A command of the gateway's own goes out at its moments until a response to it comes, whoever the agent is.
use Rattle.std.proofs.Common.{◌≡◌, ℕ, ◌+◌, ◌<◌, ◌≤◌, List, [], Option, Some, inl, inr, subst, arith}
use Rattle.std.specs.Prelude.{◌⊎◌, All, IfSome}
use Rattle.retransmission.specs.Sends.{most_repeats}
use Rattle.retransmission.specs.Flight.{InFlight}
use Rattle.plain_machine.specs.declared.setup.Setup.{Setup}
use Rattle.plain_machine.specs.declared.endpoint.Endpoint.{Endpoint}
use Rattle.plain_machine.specs.Arriving.{TextArrival, arrivals_of}
use Rattle.plain_machine.specs.Event.{GatewayEvent}
use Rattle.plain_machine.specs.Lists.{plain, sent_of}
use Rattle.plain_machine.specs.Machine.{endpoint_at, opening}
use Rattle.plain_machine.specs.Message.{Begun, Sent}
use Rattle.machine_laws.specs.Belonging.{of_line}
use Rattle.machine_laws.specs.Saying.{begun_in}
use Rattle.machine_laws.proofs.EachLemmas.{all_from_each, any_from_one, one_from_any, one_of_each, one_to}
use Rattle.machine_laws.proofs.OwningLemmas.{place_of}
use Rattle.world_laws.specs.Chances.{chances}
use Rattle.world_laws.specs.Copies.{answer_wait}
use Rattle.world_laws.specs.OwnChances.{IsResponse}
use Rattle.world_laws.proofs.ChanceLaws.{eight}
use Rattle.world_laws.proofs.GatewayChanceLaws.{OwnSends, events_later, events_own, opening_own}
use Rattle.world_laws.proofs.WaitingTurns.{DueLater}
use Rattle.world_laws.proofs.OnTurns.{FliesIn, IsIt, IsOn, IsOver, Sends}
use Rattle.world_laws.proofs.OwnChanceLaws.{Came, SaidBy, flying_said, hear_came, line_later, line_on}
use Rattle.world_laws.proofs.PostedLemmas.{SaysAt}
use Rattle.world_laws.proofs.PassLaws.{offset, offset_last, offset_rises}
use Rattle.outage_laws.specs.Alone.{HasBegun, HasResponse, IsSentAt}

module _ (setup : Setup) (events : List GatewayEvent) (line : ℕ) where
  abbrev pub HasAny : ℕ → Type 0
  HasAny = Came (arrivals_of events)

  abbrev pub sent_by_it : List Sent
  sent_by_it = of_line line (sent_of setup events)

  abbrev pub now : ℕ
  now = (plain setup events).now

  abbrev pub IsDone : Begun → Type 0
  IsDone b = HasResponse events b.id ⊎ All (λ (wait : ℕ). b.moment + wait ≤ now → IsSentAt setup events line b.text (b.moment + wait)) chances

  abbrev pub IsYoung : InFlight → Type 0
  IsYoung flight = HasResponse events flight.id ⊎ (now < flight.first + answer_wait)

  has_response : (id : ℕ) → HasAny id → HasResponse events id
  has_response id is = any_from_one (λ (a : TextArrival). IsResponse id a.outcome) (arrivals_of events) is

  says : (b : Begun) (wait : ℕ) → SaidBy sent_by_it b now wait → b.moment + wait ≤ now → IsSentAt setup events line b.text (b.moment + wait)
  says b wait said past = any_from_one (SaysAt b.text (b.moment + wait)) sent_by_it (said past)

  told : (b : Begun) → ((number : ℕ) → number ≤ most_repeats → SaidBy sent_by_it b now (offset number))
      → All (λ (wait : ℕ). b.moment + wait ≤ now → IsSentAt setup events line b.text (b.moment + wait)) chances
  told b said =
      all_from_each (λ (wait : ℕ). b.moment + wait ≤ now → IsSentAt setup events line b.text (b.moment + wait)) chances
      (eight (λ (wait : ℕ). b.moment + wait ≤ now → IsSentAt setup events line b.text (b.moment + wait)) (λ number few. says b (offset number) (said number few)))

  flies : (b : Begun) (flight : InFlight) → IsIt b flight → HasAny flight.id ⊎ IsOn sent_by_it flight → HasAny flight.id ⊎ (now < flight.due) → IsDone b
  flies b flight is (inl has) soon = inl (has_response b.id (subst HasAny is.id has))
  flies b flight is (inr on) (inl has) = inl (has_response b.id (subst HasAny is.id has))
  flies b flight is (inr on) (inr soon) = inr (told b (λ number few. flying_said sent_by_it b flight now is on soon number))

  young : (flight : InFlight) → HasAny flight.id ⊎ IsOn sent_by_it flight → HasAny flight.id ⊎ (now < flight.due) → IsYoung flight
  young flight (inl has) soon = inl (has_response flight.id has)
  young flight (inr on) (inl has) = inl (has_response flight.id has)
  young flight (inr on) (inr soon) =
      inr (
      let few : flight.repeats ≤ most_repeats = on.few in
      let low : offset (flight.repeats + 1) ≤ offset (most_repeats + 1) = offset_rises (flight.repeats + 1) (most_repeats + 1) (omega (arith, few)) in
      let last : offset (most_repeats + 1) ≡ answer_wait = offset_last in
      let next : flight.due ≡ flight.first + offset (flight.repeats + 1) = on.next in
      omega (arith, soon, low, last, next))

  module _ (pending : Option InFlight) (sends : Sends HasAny sent_by_it pending) (later : DueLater HasAny now pending) where
    done : (b : Begun) → IsOver HasAny sent_by_it b ⊎ FliesIn HasAny pending b → IsDone b
    done b (inl (inl has)) = inl (has_response b.id has)
    done b (inl (inr out)) = inr (told b (λ number few past. out number few))
    done b (inr in_flight) =
        flies b in_flight.0 in_flight.2
        (subst (λ (p : Option InFlight). IfSome p (λ flight. HasAny flight.id ⊎ IsOn sent_by_it flight)) in_flight.1 sends.on)
        (subst (DueLater HasAny now) in_flight.1 later)

    pub each_done : (b : Begun) → HasBegun setup events line b → IsDone b
    each_done b begun =
        one_to (λ (one : Begun). (IsOver HasAny sent_by_it one ⊎ FliesIn HasAny pending one) × (one ≡ b)) (IsDone b) (λ one both. subst IsDone both.1 (done one both.0)) (begun_in sent_by_it)
        (one_of_each (λ (one : Begun). IsOver HasAny sent_by_it one ⊎ FliesIn HasAny pending one) (λ (one : Begun). one ≡ b) (begun_in sent_by_it) sends.each
        (one_from_any (λ (one : Begun). one ≡ b) (begun_in sent_by_it) begun))

    pub is_young : (flight : InFlight) → pending ≡ Some flight → IsYoung flight
    is_young flight flies =
        young flight
        (subst (λ (p : Option InFlight). IfSome p (λ flight. HasAny flight.id ⊎ IsOn sent_by_it flight)) flies sends.on)
        (subst (DueLater HasAny now) flies later)

-- Of a line

module _ (setup : Setup) (events : List GatewayEvent) (line : ℕ) (endpoint : Endpoint) (at : endpoint_at (plain setup events).endpoints line ≡ Some endpoint) where
  some : 1 ≤ line
  some = (place_of (plain setup events).endpoints line endpoint at).0

  sends : Sends (HasAny setup events line) (sent_by_it setup events line) endpoint.post.pending
  sends = (line_on setup (Came (arrivals_of events)) line some events (hear_came setup (arrivals_of events)) endpoint at).sends

  later : DueLater (HasAny setup events line) (now setup events line) endpoint.post.pending
  later = line_later setup (Came (arrivals_of events)) line some events (hear_came setup (arrivals_of events)) endpoint at

  pub line_eight : (b : Begun) → HasBegun setup events line b → IsDone setup events line b
  line_eight b begun = each_done setup events line endpoint.post.pending sends later b begun

  pub line_young : (flight : InFlight) → endpoint.post.pending ≡ Some flight → IsYoung setup events line flight
  line_young flight flies = is_young setup events line endpoint.post.pending sends later flight flies

-- Of the gateway itself

module _ (setup : Setup) (events : List GatewayEvent) where
  own_sends : OwnSends (Came (arrivals_of events)) (of_line 0 (sent_of setup events)) (plain setup events).endpoints.own
  own_sends = events_own (Came (arrivals_of events)) setup (opening setup) events [] (hear_came setup (arrivals_of events)) (opening_own (Came (arrivals_of events)) setup)

  own_later : DueLater (Came (arrivals_of events)) (plain setup events).now (plain setup events).endpoints.own.pending
  own_later = events_later (Came (arrivals_of events)) setup (opening setup) events (hear_came setup (arrivals_of events)) tt

  pub own_eight : (b : Begun) → HasBegun setup events 0 b → IsDone setup events 0 b
  own_eight b begun = each_done setup events 0 (plain setup events).endpoints.own.pending own_sends.sends own_later b begun

  pub own_young : (flight : InFlight) → (plain setup events).endpoints.own.pending ≡ Some flight → IsYoung setup events 0 flight
  own_young flight flies = is_young setup events 0 (plain setup events).endpoints.own.pending own_sends.sends own_later flight flies
