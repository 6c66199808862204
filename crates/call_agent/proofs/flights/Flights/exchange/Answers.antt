use Rattle.std.proofs.Common.{refl, sym, rules}
use Rattle.call_agent.proofs.FlightTable.{untouched, exchanged_done, exchanged_undone}
use Rattle.call_agent.proofs.flights.Flights.exchange.Goals as goal

pub returns-in_default-clause-ok : goal.returns-in_default-clause-ok
returns-in_default-clause-ok c =
    untouched c.args.self.now c.args.id c.self.inside.next c.args.becomes c.self.inside.places.items c.self.inside.saved.items (sym c.self.view_is) (search rules)

pub returns-in-Ok-clause-ok : goal.returns-in-Ok-clause-ok
returns-in-Ok-clause-ok c =
    exchanged_done c.args.self.now c.args.id c.self.inside.next c.in-Some.place c.args.becomes c.replaced-flight.result c.self.inside.places.items _ c.self.inside.saved.items _ _ (sym c.self.view_is)
    (search rules) c.replaced-flight.ensures.was c.replaced-flight.ensures.is c.in-Ok.ensures.items refl

pub returns-in-Err-clause-err : goal.returns-in-Err-clause-err
returns-in-Err-clause-err c =
    exchanged_undone c.args.self.now c.self.inside.next c.in-Some.place c.args.becomes c.replaced-flight.result c.self.inside.places.items _ _ c.self.inside.saved.items _ _ (sym c.self.view_is)
    c.replaced-flight.ensures.was c.replaced-flight.ensures.is c.put_back.ensures c.in-Err.ensures.value_returned c.in-Err.ensures.items
