-- What can be written so that it is read again.
use Rattle.std.specs.Prelude.{◌≡◌, ⊤, ℕ, ◌<◌, ◌≤◌, ◌^◌, Bool, false, List, [], ◌∷◌, length}
use Rattle.std.specs.List.{AllByRecursion}
use Rattle.std.specs.declared.net.socket_addr.SocketAddrV4.{SocketAddrV4}
use Rattle.mg_bytes.specs.Lines.{is_line_feed}
use Rattle.plain_machine.specs.declared.setup.Setup.{Setup}
use Rattle.plain_machine.specs.Event.{GatewayEvent, datagram, phone, tick}
use Rattle.plain_machine.specs.Lists.{plain}
use Rattle.rgw_scripts.specs.Moves.{Move, Shown, give, pass, ask, sends, refuses, tells, move_went}
use Rattle.traces.specs.Writing.{Input, Entry, arrived, typed, passed, showed, became}

-- the first number that isn't read again: those that are have no more than 18 digits
abbrev pub first_unread : ℕ
first_unread = 10 ^ 18

-- no byte of a text passes
abbrev pub Never : (ℕ → Bool) → List ℕ → Type 0
Never p [] = ⊤
Never p (b ∷ bs) = (p b ≡ false) × Never p bs

-- an address: four octets, and a port
pub record IsAddress (source : SocketAddrV4) : Type 0 where
  pub four : length source.ip.octets ≡ 4
  pub each : AllByRecursion (λ octet. octet ≤ 255) source.ip.octets
  pub high : source.port ≤ 65535

-- one that can be answered: its port is one from 1 on
pub record CanAnswer (source : SocketAddrV4) : Type 0 where
  pub a : ℕ
  pub b : ℕ
  pub c : ℕ
  pub d : ℕ
  pub parts : source.ip.octets ≡ a ∷ b ∷ c ∷ d ∷ []
  pub each : AllByRecursion (λ octet. octet ≤ 255) (a ∷ b ∷ c ∷ d ∷ [])
  pub low : 1 ≤ source.port
  pub high : source.port ≤ 65535

-- what came in can be read again: a datagram of bytes, from an address; a line that is one line; a moment that is read
abbrev pub IsReadable : Input → Type 0
IsReadable (arrived source bytes) = IsAddress source × AllByRecursion (λ byte. byte < 256) bytes
IsReadable (typed line) = Never is_line_feed line
IsReadable (passed moment) = moment < first_unread

-- a move goes on by no time
abbrev pub KeepsClock : Move → Type 0
KeepsClock (give (datagram source bytes)) = ⊤
KeepsClock (give (phone line act)) = ⊤
KeepsClock (give (tick moment)) = ⊥
KeepsClock (pass by) = ⊥
KeepsClock (ask line) = ⊤

-- an event wasn't refused
abbrev pub IsTaken : Shown → Type 0
IsTaken (sends datagrams) = ⊤
IsTaken (refuses refusal) = ⊥
IsTaken (tells status) = ⊥

-- a line moves no clock, and a tick wasn't refused
abbrev pub IsByTick : Input → Move → Shown → Type 0
IsByTick (arrived source bytes) move shown = ⊤
IsByTick (typed line) move shown = KeepsClock move
IsByTick (passed moment) move shown = IsTaken shown

-- at these entries the clock goes on by ticks alone, of which none was refused
abbrev pub AreByTicks : List Entry → Type 0
AreByTicks [] = ⊤
AreByTicks (showed input move shown ∷ entries) = IsByTick input move shown × AreByTicks entries
AreByTicks (became mark place ∷ entries) = AreByTicks entries

-- a tick goes on from where the clock stands
abbrev pub IsLater : ℕ → Input → Type 0
IsLater now (arrived source bytes) = ⊤
IsLater now (typed line) = ⊤
IsLater now (passed moment) = now < moment

-- each tick does, where the gateway has taken these events before
abbrev pub AreLater : Setup → List GatewayEvent → List Entry → Type 0
AreLater setup before [] = ⊤
AreLater setup before (showed input move shown ∷ entries) =
    IsLater (plain setup before).now input × AreLater setup (move_went setup before move).taken entries
AreLater setup before (became mark place ∷ entries) = AreLater setup before entries
