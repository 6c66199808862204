use Rattle.std.proofs.Common.{map, sym, ◌∙◌}
use Rattle.page_http.specs.Places.{place_for}
use Rattle.page_server.specs.Receiving.{seat_in}
use Rattle.page_server.proofs.ReceivingLemmas.{seats_nowhere}
use Rattle.page_server.proofs.site.Site.welcome.Goals as goal

pub returns-in_default-get_mut-clause-served : goal.returns-in_default-get_mut-clause-served
returns-in_default-get_mut-clause-served g c =
    seats_nowhere (place_for (map seat_in c.args.self.now.places.items) c.args.host) c.args.host c.args.now c.in-Some.place c.in-Ok-new-2.visitor
    c.args.self.now.places.items (sym c.in-Ok.ensures ∙ c.in-Some.is) c.in-Ok-new-2.ensures c.in_default-get_mut.ensures.item.3
