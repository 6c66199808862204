-- What a line is when it is shown: what the gateway's readers tell of it.
use Rattle.std.specs.Prelude.{ℕ, List, Option, Some, None}
use Rattle.packages.specs.declared.hook.Hook.{Hook}
use Rattle.events_and_signals.specs.declared.active.ActiveSignal.{ActiveSignal}
use Rattle.connections.specs.declared.connection.Connection.{Connection}
use Rattle.plain_machine.specs.Machine.{Machine}
use Rattle.plain_machine.specs.Lists.{hook_of, signals_of, connections_of, lost_of}

pub record LineStatus : Type 0 where
  pub line : ℕ
  pub hook : Hook
  pub signals : List ActiveSignal
  -- what its places hold
  pub connections : List (Option Connection)
  pub lost : ℕ

abbrev pub status_with :
    ℕ → Option Hook → Option (List ActiveSignal) → Option (List (Option Connection)) → Option ℕ → Option LineStatus
status_with line (Some hook) (Some signals) (Some connections) (Some lost) =
    Some (record { line = line; hook = hook; signals = signals; connections = connections; lost = lost })
status_with line hook signals connections lost = None

-- what the readers tell of a line, if there is one
abbrev pub status_of : Machine → ℕ → Option LineStatus
status_of m line = status_with line (hook_of m line) (signals_of m line) (connections_of m line) (lost_of m line)
