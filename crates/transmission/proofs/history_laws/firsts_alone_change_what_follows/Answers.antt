use Rattle.std.proofs.Common.{◌∙◌, ◌∷◌, []}
use Rattle.transmission.specs.Firsts.{firsts_of}
use Rattle.transmission.proofs.KindLaws.{firsts_grow, firsts_on, firsts_with_first, firsts_with_no_first, firsts_without}
use Rattle.transmission.proofs.AnswerLaws.{answers_go_on, answers_without}
use Rattle.transmission.proofs.history_laws.firsts_alone_change_what_follows.Goals as goal

pub returns-clause-grow : goal.returns-clause-grow
returns-clause-grow c = firsts_grow

pub returns-clause-first : goal.returns-clause-first
returns-clause-first c = λ limit earlier a is. firsts_on limit earlier (a ∷ []) ∙ firsts_with_first limit (firsts_of limit earlier) a is

pub returns-clause-others : goal.returns-clause-others
returns-clause-others c = firsts_without

pub returns-clause-with_it : goal.returns-clause-with_it
returns-clause-with_it c = λ limit earlier later a other. answers_without limit earlier later a (firsts_with_no_first limit (firsts_of limit earlier) a other)

pub returns-clause-without_it : goal.returns-clause-without_it
returns-clause-without_it c = answers_go_on
