-- What is seen of a line of a gateway: what its readers tell, and at which ports its connections are received.
use Rattle.std.specs.Prelude.{ℕ, List, Option, Some, None}
use Rattle.packages.specs.declared.hook.Hook.{Hook}
use Rattle.events_and_signals.specs.declared.active.ActiveSignal.{ActiveSignal}
use Rattle.connections.specs.declared.connection.Connection.{Connection}
use Rattle.plain_machine.specs.declared.setup.Setup.{Setup}
use Rattle.plain_machine.specs.Machine.{Machine, port_of}
use Rattle.plain_machine.specs.Lists.{hook_of, signals_of, connections_of}
use Rattle.line_changes.specs.Seen.{SeenLine, seen_from}

abbrev pub highest_port : ℕ
highest_port = 65535

abbrev pub seen_with :
    Setup → ℕ → Option Hook → Option (List ActiveSignal) → Option (List (Option Connection)) → Option SeenLine
seen_with setup line (Some hook) (Some signals) (Some places) = Some (record {
  hook = hook;
  signals = signals;
  connections = seen_from setup.media_address (port_of setup line) places;
})
seen_with setup line hook signals places = None

-- what is seen of a line, if there is one
abbrev pub seen_of : Setup → Machine → ℕ → Option SeenLine
seen_of setup m line = seen_with setup line (hook_of m line) (signals_of m line) (connections_of m line)
