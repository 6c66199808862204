use Rattle.std.proofs.Common.{true≢false}
use Rattle.live_laws.proofs.DeskExampleLemmas.{nobody_asks_for_the_end, page_asks_for_no_end}
use Rattle.live_laws.proofs.desk_examples.when_a_desk_ends_has_examples.Goals as goal

pub returns-clause-endless : goal.returns-clause-endless
returns-clause-endless c = λ gateway events stands ends. true≢false (ends events stands)

pub returns-clause-end : goal.returns-clause-end
returns-clause-end c = λ gateway events is_over stands ends. ends events stands

pub returns-clause-pages : goal.returns-clause-pages
returns-clause-pages c = page_asks_for_no_end

pub returns-clause-unasked : goal.returns-clause-unasked
returns-clause-unasked c = nobody_asks_for_the_end

pub returns-clause-unwritten : goal.returns-clause-unwritten
returns-clause-unwritten c = λ is wrote. wrote

pub returns-clause-never : goal.returns-clause-never
returns-clause-never c = λ is wrote. wrote.2
