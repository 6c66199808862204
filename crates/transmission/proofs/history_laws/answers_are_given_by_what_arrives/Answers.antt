use Rattle.transmission.specs.Firsts.{firsts_of}
use Rattle.transmission.proofs.AnswerLaws.{first_answer, stored, silence, lost_answer}
use Rattle.transmission.proofs.history_laws.answers_are_given_by_what_arrives.Goals as goal

pub returns-clause-first : goal.returns-clause-first
returns-clause-first c = λ limit earlier a. first_answer limit (firsts_of limit earlier) a

pub returns-clause-repeat : goal.returns-clause-repeat
returns-clause-repeat c = λ limit earlier a. stored limit (firsts_of limit earlier) a

pub returns-clause-silence : goal.returns-clause-silence
returns-clause-silence c = λ limit earlier a. silence limit (firsts_of limit earlier) a

pub returns-clause-lost : goal.returns-clause-lost
returns-clause-lost c = λ limit earlier a. lost_answer limit (firsts_of limit earlier) a
