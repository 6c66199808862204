-- What the worked examples of what laws ask for speak of: a gateway that runs live and announces itself, and turns of an exchange.
use Rattle.std.specs.Prelude.{List, [], ◌∷◌, ◌++◌, codes, Some, false}
use Rattle.transmission.specs.declared.output.OutDatagram.{OutDatagram}
use Rattle.plain_machine.specs.Event.{tick}
use Rattle.plain_machine.specs.Example.{announced, to_agent_at, two_lines}
use Rattle.plain_machine.specs.Happening.{effect}
use Rattle.plain_machine.specs.Machine.{opening}
use Rattle.gateway_core.specs.Accounts.{account_of, no_account}
use Rattle.gateway_core.specs.GatewayState.{GatewayState}
use Rattle.gateway_core.specs.Outcomes.{outcomes_of}
use Rattle.live_io.specs.Sending.{Received}
use Rattle.call_processing.specs.declared.told.Told.TheVariants.{OffHook, OnHook}
use Rattle.call_processing.specs.Exchange.{ExchangeState}
use Rattle.rgw_scripts.specs.Moves.{give, sends as shows}
use Rattle.traces.specs.Writing.{Entry, after_input, input_text, opening_script, passed, showed}
use Rattle.live_play.specs.Running.{Live, live, sent_of}
use Rattle.live_gateway.specs.Desk.{Standing}
use Rattle.live_laws.specs.CallTurns.{Turn, after, tells}
use Rattle.live_laws.specs.CallExample.{accepted, all_sent, connect, created_first, driven, opened, pick_up, ring}
use Rattle.live_laws.specs.Example.{at_port}

-- A gateway that runs live

abbrev pub opened_gateway : GatewayState
opened_gateway = record { setup = two_lines; machine = opening two_lines; outcomes = []; account = no_account; changed = false ∷ false ∷ [] }

-- a ms later it announces itself
abbrev pub announced_gateway : GatewayState
announced_gateway = record {
  setup = two_lines;
  machine = (effect two_lines (opening two_lines) (tick 1)).value;
  outcomes = outcomes_of two_lines (opening two_lines) (tick 1);
  account = account_of two_lines (opening two_lines) (tick 1);
  changed = false ∷ false ∷ [];
}

abbrev pub announcement : OutDatagram
announcement = to_agent_at 1 announced

abbrev pub announced_entries : List Entry
announced_entries = showed (passed 1) (give (tick 1)) (shows (announcement ∷ [])) ∷ []

-- with a trace, and what was handed out
abbrev pub opened_live : Live
opened_live = live opened_gateway opening_script (Some []) (Some [])

abbrev pub announced_live : Live
announced_live = live announced_gateway (after_input opening_script (passed 1) (shows (announcement ∷ [])))
    (Some (input_text opening_script (passed 1) (shows (announcement ∷ [])))) (Some (sent_of announcement ∷ []))

-- a datagram without a port, which isn't heard, came meanwhile
abbrev pub unheard : Received
unheard = record { source = at_port 7 0; bytes = codes "x" }

abbrev pub opened_desk : Standing
opened_desk = record { live = opened_live; came = record { received = Some []; refused = 0 } }

abbrev pub announced_desk : Standing
announced_desk = record { live = announced_live; came = record { received = Some (unheard ∷ []); refused = 0 } }

-- Turns of an exchange, from its opening on

-- each line is asked for off hook, and then these
abbrev pub from_opening : List Turn → List Turn
from_opening turns = (all_sent ++ accepted 0 ∷ accepted 1 ∷ accepted 2 ∷ []) ++ driven turns

-- a line that rings answers, and the other one's connection isn't yet created
abbrev pub to_create : List Turn
to_create = from_opening ring ++ tells 1 OffHook ∷ []

-- line 0 hangs up while its connection is created
abbrev pub hung_up : List Turn
hung_up = from_opening pick_up ++ tells 0 OnHook ∷ []

-- what becomes of its commands: the connection is created, and deleted, and off hook is asked for
abbrev pub comes_to_rest : List Turn
comes_to_rest = driven (created_first ∷ accepted 0 ∷ accepted 0 ∷ [])

-- both ends of a call are connected
abbrev pub connected : ExchangeState
connected = after opened (from_opening connect)
