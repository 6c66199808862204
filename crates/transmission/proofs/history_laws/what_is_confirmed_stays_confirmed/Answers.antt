use Rattle.transmission.proofs.AnswerLaws.{stays_silenced}
use Rattle.transmission.proofs.history_laws.what_is_confirmed_stays_confirmed.Goals as goal

pub returns : goal.returns
returns c = stays_silenced
