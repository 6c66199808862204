use Rattle.std.proofs.Common.{◌≡◌, List, [], Some, inl, inr, ℕ}
use Rattle.std.proofs.lemmas.Bool.{false≢true}
use Rattle.call_processing.specs.declared.command.Outcome.TheVariants.{Answered}
use Rattle.call_processing.specs.Exchange.{ExchangeState, answered}
use Rattle.line_control.specs.declared.care.Care.{Care}
use Rattle.line_control.specs.declared.care.Duty.TheVariants.{Route}
use Rattle.line_control.specs.Example.{creating}
use Rattle.line_control.specs.Turns.{TakesResponse}
use Rattle.line_control.proofs.examples.more_sentences_have_examples.Goals as goal

refused_so : (text : List ℕ) (is : ExchangeState) (kept : List Care) → TakesResponse (Some Route) 1 70 500 text creating [] is kept
    → is ≡ answered creating 1 (Answered 500)
refused_so text is kept (inl routes) = routes.0
refused_so text is kept (inr unread) = absurd (false≢true unread.0)

pub returns-clause-refused_still : goal.returns-clause-refused_still
returns-clause-refused_still c = refused_so
