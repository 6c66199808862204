use Rattle.std.proofs.Common.{◌≡◌, drop}
use Rattle.page_server.specs.Waiting.{soonest_from}
use Rattle.page_server.proofs.site.SiteReception.next_deadline.Given as goal

abbrev pub invariant-loop-held : goal.invariant-loop-held
invariant-loop-held l = soonest_from l.next (drop l.held-index l.held-items) ≡ soonest_from l.self.again l.self.places.items
