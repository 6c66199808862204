-- What stops of the active signals. What goes on keeps its end.
use Rattle.std.specs.Prelude.{not, List, filter}
use Rattle.packages.specs.declared.hook.Hook.{Hook}
use Rattle.packages.specs.declared.signal.Signal.{Signal}
use Rattle.packages.specs.Looking.{is_same_signal}
use Rattle.events_and_signals.specs.declared.active.ActiveSignal.{ActiveSignal}
use Rattle.events_and_signals.specs.Active.{is_time_out, is_forbidden}

-- all time-out signals stop (RFC 3435, 2.3.3)
unfoldable pub without_time_outs : List ActiveSignal → List ActiveSignal
without_time_outs active = filter (λ a. not (is_time_out a.signal)) active

-- the signals stop that can't be asked for in this state of the hook (this gateway's profile)
unfoldable pub allowed_in : Hook → List ActiveSignal → List ActiveSignal
allowed_in hook active = filter (λ a. not (is_forbidden hook a.signal)) active

-- this signal stops
unfoldable pub without : Signal → List ActiveSignal → List ActiveSignal
without signal active = filter (λ a. not (is_same_signal a.signal signal)) active
