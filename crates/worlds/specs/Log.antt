-- What a wire in memory tells.
use Rattle.std.specs.Prelude.{ℕ, Bool, List, [], ◌∷◌, Option, Some, None, take, map, if◌then◌else◌}
use Rattle.std.specs.List.{flat_map}
use Rattle.plain_machine.specs.Event.{datagram, phone, tick}
use Rattle.gateway_core.specs.Wire.{Given, event, end, Handed, WireLog}
use Rattle.worlds.specs.declared.keeping.Kept.{Kept}
use Rattle.worlds.specs.declared.plan.Planned.{Planned}
use Rattle.worlds.specs.declared.plan.Planned.TheVariants as plan
use Rattle.worlds.specs.declared.playing.MemoryWire.{MemoryWire}

-- what is given: of a datagram what there is room for
abbrev pub given_by : Planned → List Given
given_by (plan.Datagram source bytes) = event (datagram source (take 4001 bytes)) ∷ []
given_by (plan.Phone line act) = event (phone line act) ∷ []
given_by (plan.Tick moment) = event (tick moment) ∷ []
given_by plan.End = end ∷ []
given_by plan.Fault = []

-- what is given up to a place
abbrev pub given_until : ℕ → List Planned → List Given
given_until place planned = flat_map given_by (take place planned)

abbrev pub kept_in : List Kept → List Handed
kept_in kept = map (λ copy. record { to = copy.to; bytes = copy.bytes }) kept

abbrev pub log_of : MemoryWire → WireLog
log_of wire = record {
  given = Some (given_until wire.at wire.plan.items);
  handed = if wire.is_whole then Some (kept_in wire.kept.items) else None;
  receive_faults = wire.receive_faults;
  send_faults = wire.send_faults;
}
