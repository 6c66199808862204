use Rattle.std.proofs.Common.{List, refl, sym, ap, subst}
use Rattle.std.specs.Prelude.{slice_get}
use Rattle.agent_log.specs.declared.journal.Journal.{Journal}
use Rattle.line_control.specs.declared.care.Care.{Care}
use Rattle.line_control.specs.Showing.{ShowsLine}
use Rattle.line_control.proofs.step_examples.what_is_shown_has_examples.Goals as goal

pub returns-clause-no_line : goal.returns-clause-no_line
returns-clause-no_line c = λ stations office journal none.
    subst (λ (list : List Care). ShowsLine stations 0 office.value.exchange (slice_get list 0) journal journal) (sym none) refl

pub returns-clause-same : goal.returns-clause-same
returns-clause-same c = λ stations shown journal now shows. shows.uncounted refl

pub returns-clause-dials : goal.returns-clause-dials
returns-clause-dials c = λ stations shown journal now shows. shows.counted (λ e. absurd cc)

pub returns-clause-log : goal.returns-clause-log
returns-clause-log c = λ stations was is journal now shows. ap (λ (one : Journal). one.log) shows.rest
