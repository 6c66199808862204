use Rattle.std.proofs.Common.{refl, sym, ◌∙◌, true≢false}
use Rattle.page_http.proofs.object_examples.what_an_object_holds_has_examples.Goals as goal

pub returns-clause-put : goal.returns-clause-put
returns-clause-put c = λ object members made holds. holds made

pub returns-clause-its_own : goal.returns-clause-its_own
returns-clause-its_own c = λ object made. refl

pub returns-clause-refused : goal.returns-clause-refused
returns-clause-refused c = λ object members refused made. absurd (true≢false (sym refused ∙ made))
