use Rattle.std.proofs.Common.{List, Option, ap, ◌∙◌}
use Rattle.page_http.specs.declared.places.Seat.{Seat}
use Rattle.page_http.specs.Places.{place_for}
use Rattle.page_server.proofs.ReceivingLemmas.{seats_all}
use Rattle.page_server.proofs.site.Site.place_for.Goals as goal

pub returns : goal.returns
returns c =
    c.place_for.ensures
    ∙ ap (λ (seats : List (Option Seat)). place_for seats c.args.host)
    (c.as_slice.ensures.value
    ∙ seats_all c.loop-place.seats.items _ c.args.self.now.places.items c.loop-place.place-index c.loop-place-test.false c.loop-place.invariant)
