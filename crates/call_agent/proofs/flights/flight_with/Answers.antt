use Rattle.std.proofs.Common.{◌≡◌, sym, ap, ◌∙◌, None, rules}
use Rattle.std.specs.Prelude.{position}
use Rattle.std.specs.Option.{option_copied}
use Rattle.call_agent.specs.Flights.{holds_id}
use Rattle.call_agent.proofs.FlightTable.{found_there, found_nowhere}
use Rattle.call_agent.proofs.flights.flight_with.Goals as goal

pub returns-in_err-place : goal.returns-in_err-place
returns-in_err-place c =
    let none : position (holds_id c.args.id) c.args.places.now ≡ None = search rules in
    ap option_copied c.from_residual.ensures ∙ sym (found_nowhere c.args.id c.args.places.now none)

pub returns : goal.returns
returns c =
    c.as_ref.ensures.value ∙ c.index-places-place.is
    ∙ sym (found_there c.args.id c.in_ok-place.place c.args.places.now c.index-places-place.result (search rules))
