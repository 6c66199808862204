-- What is asked of the gateways of a board, and of the lines of its exchange.
use Rattle.std.specs.Prelude.{◌≡◌, ◌⊎◌, ℕ, Bool, true, List, [], ◌∷◌, ◌++◌, length, Option, Some, None, IsSomeAnd, slice_get}
use Rattle.std.specs.Global.{Box}
use Rattle.std.specs.declared.net.socket_addr.SocketAddrV4.{SocketAddrV4}
use Rattle.transmission.specs.Packing.{same_address}
use Rattle.line_control.specs.declared.care.Care.{Care}
use Rattle.agent_gateways.specs.declared.gateway.Gateway.{Gateway}
use Rattle.agent_gateways.specs.declared.gateway.Wake.{Wake}
use Rattle.line_control.specs.declared.office.Office.{Office}
use Rattle.line_control.specs.declared.worklist.Worklist.{Worklist}
use Rattle.line_control.specs.Duties.{woken}
use Rattle.line_control.specs.Orders.{again_of, cared, is_outlived}
use Rattle.line_control.specs.Turns.{TakesAnswer}
use Rattle.line_control.specs.Waiting.{waits, settling, Settles}
use Rattle.agent_gateways.specs.Wakes.{first_woken}

-- the gateway is at this address
abbrev pub is_at : SocketAddrV4 → Gateway → Bool
is_at address gateway = same_address gateway.address address

-- so many lines of the exchange are settled now; none where there is no exchange
abbrev pub settling_in : Option (Box Office) → ℕ
settling_in None = 0
settling_in (Some office) =
    settling office.value.worklist.settled.items office.value.worklist.settles_all (length office.value.cares.items)

-- those lines of the exchange that waited are settled from now on; nothing else of it has changed
abbrev pub SettlesIn : Option (Box Office) → Option (Box Office) → Type 0
SettlesIn None is = is ≡ None
SettlesIn (Some was) is =
    IsSomeAnd is (λ office. Settles was.value.worklist office.value.worklist
    × (office.value ≡ record was.value { worklist = office.value.worklist }))

-- so many lines of the gateway are taken, of those whose notifications came; none where there is no such gateway
abbrev pub taking_in : Option Gateway → Worklist → ℕ
taking_in None notifying = 0
taking_in (Some gateway) notifying = settling notifying.settled.items notifying.settles_all gateway.lines

-- the next line of the gateway to which a command is sent again by now; none where there is no such gateway
abbrev pub woken_at : Option Gateway → Option Wake
woken_at None = None
woken_at (Some gateway) = first_woken gateway.ticked gateway.wakes.items

-- What was put off of that line is sent again, if this was its moment: it waits to be settled. Nothing has happened to the exchange.
abbrev pub WakesIn : Option Wake → Option (Box Office) → Option (Box Office) → Type 0
WakesIn None was is = is ≡ was
WakesIn (Some wake) None is = is ≡ None
WakesIn (Some wake) (Some was) is =
    IsSomeAnd is (λ office. (office.value.exchange ≡ was.value.exchange)
    × ((office.value.cares.items ≡ cared (woken wake.moment) was.value.cares.items wake.line)
    × (waits office.value.worklist.waiting.items office.value.worklist.is_all wake.line ≡ true)))

-- what was put off of a line is sent again at a moment, if anything was: that is kept; or it is sent again at once, where memory is refused
abbrev pub Holds : Option ℕ → ℕ → List Care → List Wake → List Care → List Wake → Type 0
Holds None line cares wakes kept held = (kept ≡ cares) × (held ≡ wakes)
Holds (Some moment) line cares wakes kept held =
    ((kept ≡ cares) × (held ≡ wakes ++ (record { moment = moment; line = line }) ∷ []))
    ⊎ ((kept ≡ cared (woken moment) cares line) × (held ≡ wakes))

-- The command in flight to a line of the gateway was answered so, at the moment of its clock.
abbrev pub Answers : ℕ → ℕ → List ℕ → Gateway → Office → Gateway → Office → Type 0
Answers line code text gateway was after is =
    (cares : List Care)
    × TakesAnswer (is_outlived (slice_get was.cares.items line)) line gateway.ticked code text was.exchange was.cares.items
    is.exchange cares
    × Holds (again_of (slice_get cares line)) line cares gateway.wakes.items is.cares.items after.wakes.items
