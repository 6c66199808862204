use Rattle.std.proofs.Common.{arith}
use Rattle.call_agent.proofs.flights.Flights.most_due.Goals as goal

pub overflow_mul-result : goal.overflow_mul-result
overflow_mul-result c = let few = c.count.ensures.few in omega (arith, few, c.self.inside.places.small, c.deref.ensures.value)
