use Rattle.std.proofs.Common.{ap}
use Rattle.page_server.specs.declared.site.Site.{Site}
use Rattle.page_server.proofs.examples.whose_turn_it_is_has_examples.Goals as goal

pub returns-clause-free : goal.returns-clause-free
returns-clause-free c = λ site names is board shown serves. serves

pub returns-clause-stays : goal.returns-clause-stays
returns-clause-stays c = λ site names was is board shown serves. (serves.1, serves.2)

pub returns-clause-goes : goal.returns-clause-goes
returns-clause-goes c = λ site names was board shown serves. (serves.0, serves.2)

pub returns-clause-unknown : goal.returns-clause-unknown
returns-clause-unknown c = λ was is board shown serves. serves

pub returns-clause-nobody : goal.returns-clause-nobody
returns-clause-nobody c = λ site was is board shown serves. serves

pub returns-clause-next : goal.returns-clause-next
returns-clause-next c = λ site was is board shown serves.
    (ap (λ (s : Site). s.last) serves.rest, ap (λ (s : Site). s.may_accept) serves.rest)
