use Rattle.std.proofs.lemmas.Slice.Eq.{bytes_eq-Decides}
use Rattle.std.specs.Prelude.{codes}
use Rattle.page_http.proofs.AskingLaws.{acts_at_home, acts_by_post}
use Rattle.page_http.proofs.access_laws.strangers_work_no_telephone.Goals as goal

pub returns-clause-home : goal.returns-clause-home
returns-clause-home c = acts_at_home

pub returns-clause-origin : goal.returns-clause-origin
returns-clause-origin c = λ site names head e. (acts_by_post site names head e).1

pub returns-clause-method : goal.returns-clause-method
returns-clause-method c = λ site names head e. (bytes_eq-Decides head.method (codes "POST")).0 (acts_by_post site names head e).0
