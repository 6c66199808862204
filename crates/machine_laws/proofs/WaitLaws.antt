-- Lines wait for the answer to their command, at each thing that happens.
use Rattle.std.proofs.Common.{◌≡◌, ◌≢◌, ℕ, suc, ◌+◌, Bool, true, false, ◌==◌, if◌then◌else◌, List, [], ◌∷◌, Some, refl, subst, arith}
use Rattle.std.proofs.lemmas.Bool.Decides.{Decides-eqb}
use Rattle.std.specs.declared.net.socket_addr.SocketAddrV4.{SocketAddrV4}
use Rattle.mgcp_text.specs.Reading.{Outcome, read_text}
use Rattle.mg_line.specs.declared.phone.Act.{Act}
use Rattle.timers.specs.declared.due_item.DueItem.{DueItem}
use Rattle.plain_machine.specs.declared.setup.Setup.{Setup}
use Rattle.plain_machine.specs.declared.endpoint.Endpoint.{Endpoint}
use Rattle.plain_machine.specs.Acting.{acted}
use Rattle.plain_machine.specs.Answering.{handled, took_all}
use Rattle.plain_machine.specs.Event.{GatewayEvent}
use Rattle.plain_machine.specs.Falling.{happened_on, happened_under, happened, pass}
use Rattle.plain_machine.specs.Lists.{plain}
use Rattle.plain_machine.specs.Machine.{Endpoints, Machine, serves, opening, endpoint_at, on_line, on_own}
use Rattle.machine_laws.proofs.AllLemmas.{OnAll}
use Rattle.machine_laws.proofs.FlightLaws.{Orders, OwnOrders, opening_orders, all_order, orders_acted, orders_passed, orders_handled, in_order, own_stays_at as own_stays_on}
use Rattle.machine_laws.proofs.TurnLemmas.{Holds, of_line}
use Rattle.machine_laws.specs.Waiting.{KeepOrder}
use Rattle.machine_laws.proofs.OwningLemmas.{others_stay_on, AreThere, all_there}

-- All lines

on_all : (P : ℕ → Endpoint → Type 0) (endpoints : Endpoints) (n : ℕ) (list : List Endpoint) → ((line : ℕ) (endpoint : Endpoint) → endpoint_at endpoints line ≡ Some endpoint → P line endpoint)
    → AreThere endpoints n list → OnAll P n list
on_all P endpoints n [] each there = tt
on_all P endpoints n (first ∷ list) each there = (each n first here, on_all P endpoints (n + 1) list each behind) where
  here : endpoint_at endpoints n ≡ Some first
  here = let same : n + 0 ≡ n = omega arith in subst (λ (line : ℕ). endpoint_at endpoints line ≡ Some first) same (there 0 first refl)

  behind : AreThere endpoints (n + 1) list
  behind place endpoint at =
      let next : n + suc place ≡ n + 1 + place = omega arith in
      subst (λ (line : ℕ). endpoint_at endpoints line ≡ Some endpoint) next (there (suc place) endpoint at)

abbrev AllHold : Endpoints → Type 0
AllHold endpoints = Holds Orders OwnOrders endpoints

all_in_order : (endpoints : Endpoints) → KeepOrder endpoints → AllHold endpoints
all_in_order endpoints keep = record {
  list = on_all (Orders (serves endpoints)) endpoints 1 endpoints.list
      (λ line endpoint at. record { order = keep.order.lines line endpoint at; below = keep.next.lines line endpoint at }) (all_there endpoints);
  own = record { order = keep.order.own; below = keep.next.own };
}

each_in_order : (endpoints : Endpoints) → AllHold endpoints → KeepOrder endpoints
each_in_order endpoints all = record {
  order = in_order endpoints all;
  next = record { lines = λ line endpoint at. (of_line (Orders (serves endpoints)) endpoints line endpoint all.list at).below; own = all.own.below };
}

pub opening_waits : (setup : Setup) → KeepOrder (opening setup).endpoints
opening_waits setup = each_in_order (opening setup).endpoints (opening_orders setup)

pub events_wait : (setup : Setup) (events : List GatewayEvent) → KeepOrder (plain setup events).endpoints
events_wait setup events = each_in_order (plain setup events).endpoints (all_order setup events)

pub acts_wait : (setup : Setup) (endpoints : Endpoints) (line moment : ℕ) (act : Act) → KeepOrder endpoints → KeepOrder (acted setup endpoints line moment act).value
acts_wait setup endpoints line moment act keep =
    each_in_order (acted setup endpoints line moment act).value (orders_acted setup endpoints line moment act (all_in_order endpoints keep))

pub pass_waits : (setup : Setup) (endpoints : Endpoints) (moment : ℕ) → KeepOrder endpoints → KeepOrder (pass setup endpoints moment).value
pass_waits setup endpoints moment keep =
    each_in_order (pass setup endpoints moment).value (orders_passed setup endpoints moment (all_in_order endpoints keep))

pub text_waits : (setup : Setup) (m : Machine) (source : SocketAddrV4) (outcome : Outcome) → KeepOrder m.endpoints → KeepOrder (handled setup m source outcome).value.endpoints
text_waits setup m source outcome keep =
    each_in_order (handled setup m source outcome).value.endpoints (orders_handled setup m source outcome (all_in_order m.endpoints keep))

pub texts_wait : (setup : Setup) (m : Machine) (source : SocketAddrV4) (texts : List (List ℕ)) → KeepOrder m.endpoints → KeepOrder (took_all setup m source texts).value.endpoints
unfolding took_all
texts_wait setup m source [] keep = keep
texts_wait setup m source (text ∷ texts) keep =
    texts_wait setup (handled setup m source (read_text text)).value source texts (text_waits setup m source (read_text text) keep)

-- What falls due on a line whose command is in flight

pub others_wait : (setup : Setup) (endpoints : Endpoints) (item : DueItem) (other : ℕ) → other ≢ item.line
    → endpoint_at (happened setup endpoints item).value other ≡ endpoint_at endpoints other
others_wait setup endpoints item other apart = by_test (item.line == 0) where
  by_test : (b : Bool)
      → endpoint_at (if b then on_own endpoints (happened_under item.kind setup 0 item.moment) else on_line endpoints item.line (happened_on item.kind setup item.line item.moment)).value other
      ≡ endpoint_at endpoints other
  by_test true = refl
  by_test false = others_stay_on endpoints item.line other (happened_on item.kind setup item.line item.moment) apart

-- The gateway itself

pub own_waits : (setup : Setup) (endpoints : Endpoints) (item : DueItem) → item.line ≢ 0 → (happened setup endpoints item).value.own ≡ endpoints.own
own_waits setup endpoints item apart = by_test (item.line == 0) refl where
  by_test : (b : Bool) → (item.line == 0) ≡ b
      → (if b then on_own endpoints (happened_under item.kind setup 0 item.moment) else on_line endpoints item.line (happened_on item.kind setup item.line item.moment)).value.own
      ≡ endpoints.own
  by_test true e = absurd (apart ((Decides-eqb item.line 0).0 e))
  by_test false e = own_stays_on endpoints item.line (happened_on item.kind setup item.line item.moment)
