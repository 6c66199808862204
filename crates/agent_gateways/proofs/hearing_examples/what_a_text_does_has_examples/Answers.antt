use Rattle.std.proofs.Common.{ap, ◌∙◌}
use Rattle.line_control.specs.declared.office.Office.{Office}
use Rattle.agent_gateways.specs.declared.switchboard.Switchboard.{Switchboard}
use Rattle.agent_gateways.proofs.hearing_examples.what_a_text_does_has_examples.Goals as goal

pub returns-clause-response : goal.returns-clause-response
returns-clause-response c = λ was is hears. hears

pub returns-clause-ends_at : goal.returns-clause-ends_at
returns-clause-ends_at c = λ was is ends.
    (ap (λ (board : Switchboard). board.office) ends.2, ap (λ (board : Switchboard). board.stations) ends.2)

pub returns-clause-announcement : goal.returns-clause-announcement
returns-clause-announcement c = λ was is hears. (
  ap (λ (board : Switchboard). board.stations) hears.3 ∙ ap (λ (board : Switchboard). board.stations) hears.1.2,
  ap (λ (board : Switchboard). board.notifying) hears.3 ∙ ap (λ (board : Switchboard). board.notifying) hears.1.2,
)

pub returns-clause-told_where_new : goal.returns-clause-told_where_new
returns-clause-told_where_new c = λ was is hears. (hears.0, hears.1, hears.2)

pub returns-clause-notification : goal.returns-clause-notification
returns-clause-notification c = λ was is hears. (
  ap (λ (board : Switchboard). board.office) hears.1,
  ap (λ (board : Switchboard). board.gateways) hears.1,
  ap (λ (board : Switchboard). board.stations) hears.1,
)

pub returns-clause-notifies : goal.returns-clause-notifies
returns-clause-notifies c = λ was is hears. hears

pub returns-clause-announces : goal.returns-clause-announces
returns-clause-announces c = λ was is hears. hears

pub returns-clause-creates : goal.returns-clause-creates
returns-clause-creates c = λ was is hears. hears

pub returns-clause-audits : goal.returns-clause-audits
returns-clause-audits c = λ was is hears. hears

pub returns-clause-gives_up : goal.returns-clause-gives_up
returns-clause-gives_up c = λ was is gives. (gives.0, gives.1, gives.2)

pub returns-clause-gives_up_alone : goal.returns-clause-gives_up_alone
returns-clause-gives_up_alone c = λ was is gives. (
  ap (λ (board : Switchboard). board.stations) gives.3 ∙ ap (λ (board : Switchboard). board.stations) gives.1.2,
  ap (λ (board : Switchboard). board.notifying) gives.3 ∙ ap (λ (board : Switchboard). board.notifying) gives.1.2,
)

pub returns-clause-settles : goal.returns-clause-settles
returns-clause-settles c = λ was is settles. (
  ap (λ (office : Office). office.cares) settles.1,
  ap (λ (office : Office). office.exchange) settles.1,
  settles.0.none_waits,
)
