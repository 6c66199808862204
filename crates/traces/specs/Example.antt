-- What the worked examples share.
use Rattle.std.specs.Prelude.{ℕ, codes, List, [], ◌∷◌, None}
use Rattle.machine_rules.specs.declared.refusal.Refusal.TheVariants.{NoSuchLine}
use Rattle.plain_machine.specs.Event.{GatewayEvent, datagram, tick}
use Rattle.plain_machine.specs.Example.{agent, example, to_agent_at}
use Rattle.rgw_scripts.specs.Moves.{give, ask, sends, refuses}
use Rattle.traces.specs.Replaying.{Replayed, Comes, next}
use Rattle.traces.specs.Writing.{Entry, showed, arrived, typed, passed}

-- after these events the trace still has to tell this
abbrev pub owing : List GatewayEvent → List ℕ → Replayed
owing taken owed = record { taken = taken; opened = None; owed = owed }

-- what a line comes to at the opening
abbrev pub comes_first : List ℕ → Comes
comes_first piece = next example (owing [] []) piece

-- and where this is owed
abbrev pub comes_where : List ℕ → List ℕ → Comes
comes_where owed piece = next example (owing [] owed) piece

-- a tick at which nothing is sent, and one at which a datagram is
abbrev pub quiet_tick : ℕ → Entry
quiet_tick moment = showed (passed moment) (give (tick moment)) (sends [])

abbrev pub loud_tick : ℕ → Entry
loud_tick moment = showed (passed moment) (give (tick moment)) (sends (to_agent_at 3 (codes "200 1 OK\r\n") ∷ []))

-- a line that there isn't is asked for
abbrev pub asks_in_vain : Entry
asks_in_vain = showed (typed (codes "show 9")) (ask 9) (refuses NoSuchLine)

-- a datagram that comes from the agent, at which nothing is sent
abbrev pub comes : List ℕ → Entry
comes bytes = showed (arrived agent bytes) (give (datagram agent bytes)) (sends [])
