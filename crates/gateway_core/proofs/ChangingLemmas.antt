-- At which lines an event may have changed something.
use Rattle.std.proofs.Common.{◌≡◌, ◌≢◌, ℕ, zero, suc, ◌-◌, Bool, true, false, List, [], ◌∷◌, get_or, set, Option, Some, None, refl, sym, ap, ◌∙◌, arith}
use Rattle.std.specs.Prelude.{◌==◌, if◌then◌else◌, slice_get, slice_set}
use Rattle.mg_line.specs.declared.phone.Act.{Act}
use Rattle.transmission.specs.declared.output.OutDatagram.{OutDatagram}
use Rattle.plain_machine.specs.declared.endpoint.Endpoint.{Endpoint}
use Rattle.plain_machine.specs.declared.setup.Setup.{Setup}
use Rattle.plain_machine.specs.Acting.{acted_on, acted}
use Rattle.plain_machine.specs.Event.{GatewayEvent, datagram, phone, tick}
use Rattle.plain_machine.specs.Happening.{effect}
use Rattle.plain_machine.specs.Machine.{Endpoints, Machine, endpoint_at, turned_at, on_line}
use Rattle.gateway_core.specs.declared.state.State.{State}
use Rattle.gateway_core.specs.State.{Found, machine_in, found_in, PutsOut}
use Rattle.gateway_core.specs.Changing.{is_marked, Changes, IsAway, StaysFound}

apart_from : {A : Type 0} (xs : List A) (k j : ℕ) (x : A) → j ≢ k → slice_get (slice_set xs k x) j ≡ slice_get xs j
apart_from [] k j x other = refl
apart_from (y ∷ xs) zero zero x other = absurd (other refl)
apart_from (y ∷ xs) zero (suc j) x other = refl
apart_from (y ∷ xs) (suc k) zero x other = refl
apart_from (y ∷ xs) (suc k) (suc j) x other = apart_from xs k j x (λ same. other (ap (λ (n : ℕ). suc n) same))

-- where no mark is set once this one is, that is another one, and it wasn't set before
unset : (marks : List Bool) (k j : ℕ) → get_or (set marks k true) j true ≡ false → (j ≢ k) × (get_or marks j true ≡ false)
unset [] k j off = absurd cc
unset (b ∷ marks) zero zero off = absurd cc
unset (b ∷ marks) zero (suc j) off = (λ same. absurd (omega (arith, same)), off)
unset (b ∷ marks) (suc k) zero off = (λ same. absurd (omega (arith, same)), off)
unset (b ∷ marks) (suc k) (suc j) off =
    let rest = unset marks k j off in
    (λ same. rest.0 (omega (arith, same)), rest.1)

pub unset_by : (marks marks' : List Bool) (at line : ℕ) → marks' ≡ slice_set marks (at - 1) true → is_marked marks' line ≡ false
    → (line - 1 ≢ at - 1) × (is_marked marks line ≡ false)
unset_by marks marks' at line set_is off = unset marks (at - 1) (line - 1) (ap (λ (m : List Bool). get_or m (line - 1) true) (sym set_is) ∙ off)

-- an act changes the line alone at whose telephone it is
acted_elsewhere : (setup : Setup) (endpoints : Endpoints) (at moment : ℕ) (act : Act) (line : ℕ) → line - 1 ≢ at - 1
    → endpoint_at (acted setup endpoints at moment act).value line ≡ endpoint_at endpoints line
unfolding on_line
acted_elsewhere setup endpoints at moment act line away = by (endpoint_at endpoints at) where
  by : (found : Option Endpoint) → endpoint_at (turned_at found endpoints at (acted_on setup at moment act)).value line ≡ endpoint_at endpoints line
  by None = refl
  by (Some endpoint) =
      ap (λ (x : Option Endpoint). if line == 0 then None else x)
      (apart_from endpoints.list (at - 1) (line - 1) (acted_on setup at moment act endpoint).value away)

-- a line that is as the event found it is as before, where what that found stays
as_found_at : (began after : State) (line : ℕ) → began.store.found ≡ began.store.endpoints → found_in after ≡ found_in began
    → slice_get after.store.found.list (line - 1) ≡ slice_get after.store.endpoints.list (line - 1)
    → endpoint_at after.store.endpoints line ≡ endpoint_at began.store.endpoints line
as_found_at began after line settled stays there =
    ap (λ (x : Option Endpoint). if line == 0 then None else x)
    (sym there ∙ ap (λ (f : Found). slice_get f.endpoints.list (line - 1)) stays
    ∙ ap (λ (e : Endpoints). slice_get e.list (line - 1)) settled)

-- an event that happened changed no line that isn't marked
pub changes_marked : (setup : Setup) (event : GatewayEvent) (began after : State) (were are : List OutDatagram) (marks : List Bool)
    → began.store.found ≡ began.store.endpoints → StaysFound event began after → PutsOut (effect setup (machine_in began) event) after were are
    → ((line : ℕ) → is_marked marks line ≡ false → slice_get after.store.found.list (line - 1) ≡ slice_get after.store.endpoints.list (line - 1))
    → ((line : ℕ) → is_marked marks line ≡ false → IsAway event line)
    → Changes true marks began.store.endpoints after.store.endpoints
unfolding effect
changes_marked setup (datagram source bytes) began after were are marks settled stays puts found away line off =
    as_found_at began after line settled stays (found line off)
changes_marked setup (tick moment) began after were are marks settled stays puts found away line off =
    as_found_at began after line settled stays (found line off)
changes_marked setup (phone at act) began after were are marks settled stays puts found away line off =
    ap (λ (m : Machine). endpoint_at m.endpoints line) puts.machine
    ∙ acted_elsewhere setup began.store.endpoints at began.clock act line (away line off)

-- none that is refused changed any
pub changes_none : (marks : List Bool) (was is : Endpoints) → is ≡ was → Changes false marks was is
changes_none marks was is same line off = ap (λ (e : Endpoints). endpoint_at e line) same
