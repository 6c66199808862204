use Rattle.std.proofs.Common.{List, false, ◌∙◌, ap}
use Rattle.live_system.specs.declared.readiness.Visit.{Visit}
use Rattle.page_server.proofs.site.Site.look.Goals as goal

pub returns-clause-forgotten : goal.returns-clause-forgotten
returns-clause-forgotten c =
    c.forget_visits.ensures.rest ∙ ap (λ (x : List Visit). record c.args.ready.now { listener = false; visits = x }) c.forget_visits.ensures.visits
