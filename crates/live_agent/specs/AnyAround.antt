-- Surroundings of which a worked example asks nothing, and who writes and serves over them: of each a number.
use Rattle.std.specs.Prelude.{◌≡◌, ⊤, ℕ, List, Result}
use Rattle.agent_log.specs.declared.journal.Journal.{Journal}
use Rattle.live_io.specs.Around.{Around, unasked}
use Rattle.live_io.specs.declared.surroundings.Fault.{Fault}
use Rattle.output_queues.specs.declared.written.Written.{Written}
use Rattle.agent_gateways.specs.declared.switchboard.Switchboard.{Switchboard}
use Rattle.live_agent.specs.declared.wire.Wire.{Wire}

-- that tell 7 for the time of day, wait, and become how long that was at most
abbrev pub anywhere : Around ℕ
anywhere = record unasked { dates = λ around time. time ≡ 7; sleeps = λ around longest outcome after. after ≡ longest }

-- who writes what was recorded, and of whom nothing is asked; who leaves it as it was
abbrev pub writes_any : ℕ → Journal → ℕ → ℕ → Journal → Type 0
writes_any before journal time after left = ⊤

abbrev pub writes_nothing : ℕ → Journal → ℕ → ℕ → Journal → Type 0
writes_nothing before journal time after left = left ≡ journal

-- who serves, and who ends, of whom nothing is asked; who never serves
abbrev pub serves_any : Result ⊤ Fault → Switchboard → Wire ℕ → Switchboard → Wire ℕ → Type 0
serves_any result board was now is = ⊤

abbrev pub serves_never : Result ⊤ Fault → Switchboard → Wire ℕ → Switchboard → Wire ℕ → Type 0
serves_never result board was now is = ⊥

abbrev pub ends_any : List ℕ → ℕ → Written → ℕ → Type 0
ends_any last was written is = ⊤
