use Rattle.std.proofs.Common.{sym, rules}
use Rattle.std.specs.Option.{is_some}
use Rattle.std.proofs.lemmas.List.Elements.{filter_from_retain}
use Rattle.call_agent.proofs.FlightTable.{settled_kept}
use Rattle.call_agent.proofs.flights.Flights.commit.Goals as goal

pub returns : goal.returns
returns c =
    settled_kept c.args.self.now _ c.self.inside.places.items _ c.self.inside.saved.items _ (sym c.self.view_is)
    (filter_from_retain _ is_some (λ p x b q said. search rules) _ _ _ c.retain.ensures.filtered) c.new.ensures.items
