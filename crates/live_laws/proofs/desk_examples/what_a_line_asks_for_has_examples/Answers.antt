use Rattle.std.proofs.Common.{refl}
use Rattle.live_laws.proofs.DeskExampleLemmas.{nobody_is_here, nobody_is_afar, asked_for}
use Rattle.live_laws.proofs.desk_examples.what_a_line_asks_for_has_examples.Goals as goal

pub returns-clause-first : goal.returns-clause-first
returns-clause-first c = λ lines text first. first.2

pub returns-clause-typist : goal.returns-clause-typist
returns-clause-typist c = λ lines who typist. typist.by

pub returns-clause-nobody_here : goal.returns-clause-nobody_here
returns-clause-nobody_here c = nobody_is_here

pub returns-clause-nobody_afar : goal.returns-clause-nobody_afar
returns-clause-nobody_afar c = nobody_is_afar

pub returns-clause-asked : goal.returns-clause-asked
returns-clause-asked c = asked_for

pub returns-clause-unread : goal.returns-clause-unread
returns-clause-unread c = λ lines text request. request.memory refl
