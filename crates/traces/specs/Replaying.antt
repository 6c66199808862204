-- How a trace is replayed, a line at a time: what came in is given to a gateway, and each line that went out has to be what the
-- plain machine sends for the lines before it.
use Rattle.std.specs.Prelude.{◌≡◌, ◌-◌, ◌&&◌, ◌==◌, ⊤, ℕ, Bool, codes, if◌then◌else◌, List, [], ◌∷◌, length, take, drop, is_none, Option, Some, None}
use Rattle.std.specs.List.{flat_map}
use Rattle.std.specs.Str.{bytes_eq}
use Rattle.std.specs.declared.net.socket_addr.SocketAddrV4.{SocketAddrV4}
use Rattle.mg_bytes.specs.Words.{words}
use Rattle.plain_machine.specs.declared.setup.Setup.{Setup}
use Rattle.plain_machine.specs.Event.{GatewayEvent, datagram, phone, tick}
use Rattle.gateway_core.specs.GatewayState.{GatewayState}
use Rattle.gateway_core.specs.Stands.{Stands}
use Rattle.rgw_scripts.specs.declared.step.ScriptStep.{ScriptStep}
use Rattle.rgw_scripts.specs.declared.step.ScriptStep.TheVariants.{Datagram, Phone, Tick, At, Wait, Show}
use Rattle.rgw_scripts.specs.declared.step.ScriptLine.{ScriptLine}
use Rattle.rgw_scripts.specs.declared.step.ScriptLine.TheVariants.{Empty, From, Whole}
use Rattle.rgw_scripts.specs.Moves.{Move, give, ask, move_went}
use Rattle.rgw_scripts.specs.Script.{line_in}
use Rattle.traces.specs.declared.replaying.Progress.{Progress}
use Rattle.traces.specs.declared.replaying.Progress.TheVariants.{GoesOn, Told, Differs, Broken}
use Rattle.traces.specs.Telling.{mark, begins, is_whole, is_mark, told}

-- Steps

-- the steps of a trace are one move each; its clock goes on by moments alone
unfoldable pub move_in : ScriptStep → Option Move
move_in (Datagram source bytes) = Some (give (datagram source bytes))
move_in (Phone line act) = Some (give (phone line act))
move_in (At moment) = Some (give (tick moment))
move_in (Show line) = Some (ask line)
move_in (Tick by) = None
move_in (Wait by) = None

-- from g a move leads to h, and this is what a trace has of it: whatever events g stands for, h stands for those that are taken then
pub record Showed (g : GatewayState) (move : Move) (h : GatewayState) (text : List ℕ) : Type 0 where
  pub setup : h.setup ≡ g.setup
  pub stands : (before : List GatewayEvent) → Stands g before → Stands h (move_went g.setup before move).taken
  pub shows : (before : List GatewayEvent) → Stands g before → text ≡ flat_map told (move_went g.setup before move).shown

-- the step has a move, which was made so
abbrev pub Plays : Option Move → GatewayState → GatewayState → List ℕ → Type 0
Plays None g h text = ⊥
Plays (Some move) g h text = Showed g move h text

-- Lines

-- what was replayed so far: the events that the gateway has taken, where a datagram without a byte comes from whose `--` is still
-- to come, and what the trace still has to tell of the step before
pub record Replayed : Type 0 where
  pub taken : List GatewayEvent
  pub opened : Option SocketAddrV4
  pub owed : List ℕ

-- what a line comes to: it is what came in, which is a move or none, or a mark; it went out as it is told; it didn't; or it can't
-- stand where it does
pub data Comes : Type 0 where
  goes_on : (moves : List Move) (after : Replayed) → Comes
  tells : (after : Replayed) → Comes
  differs : Comes
  is_broken : Comes

-- a move is made: what it shows is owed
abbrev pub moved : Setup → List GatewayEvent → Move → Comes
moved setup taken move =
    goes_on (move ∷ []) (record {
      taken = (move_went setup taken move).taken;
      opened = None;
      owed = flat_map told (move_went setup taken move).shown;
    })

abbrev pub played : Setup → List GatewayEvent → Option Move → Comes
played setup taken None = is_broken
played setup taken (Some move) = moved setup taken move

-- what came in, as a line says it
abbrev pub came : Setup → List GatewayEvent → Option ScriptLine → Comes
came setup taken None = is_broken
came setup taken (Some Empty) = is_broken
came setup taken (Some (From source)) = goes_on [] (record { taken = taken; opened = Some source; owed = [] })
came setup taken (Some (Whole step)) = played setup taken (move_in step)

-- a line that went out is the next that is owed, which ends in LF as it does; where none is owed it may be a mark
abbrev pub compared : Replayed → List ℕ → List ℕ → Comes
compared replayed piece line =
    if begins piece replayed.owed then tells (record replayed { owed = drop (length piece) replayed.owed })
    else if length replayed.owed == 0 && is_mark line then goes_on [] replayed
    else differs

-- a line where no datagram is open
abbrev pub proceeded : Setup → Replayed → List ℕ → List ℕ → Comes
proceeded setup replayed piece line =
    if begins mark line then compared replayed piece line
    else if length replayed.owed == 0 then came setup replayed.taken (line_in (words line))
    else differs

-- the line behind that of a datagram without a byte
abbrev pub closed : Setup → Replayed → SocketAddrV4 → List ℕ → Comes
closed setup replayed source line =
    if bytes_eq line (codes "--") then moved setup replayed.taken (give (datagram source [])) else is_broken

abbrev pub by_opened : Setup → Replayed → List ℕ → List ℕ → Option SocketAddrV4 → Comes
by_opened setup replayed piece line None = proceeded setup replayed piece line
by_opened setup replayed piece line (Some source) = closed setup replayed source line

-- what the next piece of a trace comes to, which is a line with its end; without one it broke off there
unfoldable pub next : Setup → Replayed → List ℕ → Comes
next setup replayed piece =
    if is_whole piece then by_opened setup replayed piece (take (length piece - 1) piece) replayed.opened else is_broken

-- a trace may end where nothing is owed and no datagram is open
abbrev pub may_end : Replayed → Bool
may_end replayed = length replayed.owed == 0 && is_none replayed.opened

-- The replay in the program's hands

pub record ReplayState : Type 0 where
  pub gateway : GatewayState
  pub opened : Option SocketAddrV4
  pub owed : List ℕ

-- it has replayed so much
pub record Has (state : ReplayState) (replayed : Replayed) : Type 0 where
  pub stands : Stands state.gateway replayed.taken
  pub opened : state.opened ≡ replayed.opened
  pub owed : state.owed ≡ replayed.owed

-- and a line came to this
abbrev pub Follows : Progress → ReplayState → Comes → Type 0
Follows GoesOn state (goes_on moves after) = Has state after
Follows Told state (tells after) = Has state after
Follows Differs state differs = ⊤
Follows Broken state is_broken = ⊤
Follows progress state comes = ⊥
