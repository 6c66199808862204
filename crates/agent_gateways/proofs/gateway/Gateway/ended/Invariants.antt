use Rattle.std.proofs.Common.{◌≡◌, [], length, take, drop}
use Rattle.agent_gateways.specs.Ended.{ended_of}
use Rattle.agent_gateways.proofs.EndedLemmas.{passed}
use Rattle.agent_gateways.proofs.gateway.Gateway.ended.Given as goal

-- those so far aren't over: what comes of those that are left, behind them, is what comes of all
abbrev pub invariant-loop-place : goal.invariant-loop-place
invariant-loop-place l = record {
  count : length l.self.flights.items ≡ length l.fn.self.flights.items;
  left : passed (take l.place l.self.flights.items) (ended_of l.response l.fn.self.ticked (drop l.place l.self.flights.items))
      ≡ passed [] (ended_of l.response l.fn.self.ticked l.fn.self.flights.items);
  rest : l.self ≡ record l.fn.self { flights = l.self.flights };
}
