use Rattle.std.proofs.Common.{◌≡◌, List, length, [], None}
use Rattle.std.specs.Prelude.{is_some}
use Rattle.impairment.specs.declared.packet.Packet.{Packet}
use Rattle.live_gateway.specs.Admitting.{HeardSince}
use Rattle.live_gateway.specs.Exchanging.{handed_by, received_by, IsSameTurn}
use Rattle.live_gateway.specs.Noting.{CountsFound}
use Rattle.live_gateway.specs.Passing.{PassesEach}
use Rattle.live_gateway.proofs.exchange.Exchange.handed_over.Given as goal

-- as many were handed out as were looked for
abbrev pub invariant-loop : goal.invariant-loop
invariant-loop g l = record {
  out : (packets : List Packet) × (length packets ≡ l.counter) × PassesEach g.S.Surroundings.around.sends l.fn.admission packets l.fn.self l.self;
  length : length l.room ≡ length l.fn.room;
  handed : handed_by l.self.network (g.S.Surroundings.around.traffic l.self.around).sent
      ≡ handed_by l.fn.self.network (g.S.Surroundings.around.traffic l.fn.self.around).sent;
  faults : l.self.faults ≡ l.fn.self.faults;
  read : l.self.read ≡ l.fn.self.read;
  turn : IsSameTurn l.fn.self l.self;
  spoilt : is_some l.self.network ≡ is_some l.fn.self.network;
  came : HeardSince l.fn.admission (received_by l.fn.self.network (g.S.Surroundings.around.traffic l.fn.self.around).received) []
      (received_by l.self.network (g.S.Surroundings.around.traffic l.self.around).received);
  tally : CountsFound l.fn.self.journal.tally.value None l.self.journal.tally.value;
}
