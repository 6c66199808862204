use Rattle.std.proofs.Common.{◌≡◌, true, inl, inr, refl, ap, subst, ◌∙◌, rules}
use Rattle.std.specs.Prelude.{slice_get}
use Rattle.mgcp_text.specs.Reading.{Outcome, message, read_text, takes_memory}
use Rattle.agent_log.specs.declared.tally.Tally.{Tally}
use Rattle.line_control.specs.declared.worklist.Worklist.{Worklist}
use Rattle.agent_gateways.specs.Hearing.{message_counted, outcome_counted, HearsOutcome}
use Rattle.agent_gateways.proofs.switchboard.Switchboard.hear.Goals as goal

pub returns-in-Ok-clause-hears : goal.returns-in-Ok-clause-hears
returns-in-Ok-clause-hears c =
    let said : message c.in-Ok.message ≡ read_text c.args.text.now = c.in-Ok.ensures.value in
    inl (
      subst (λ (outcome : Outcome). HearsOutcome outcome c.args.place c.args.text.now c.args.self.now c.hear_message.new.self) said
          c.hear_message.ensures.hears,
      c.hear_message.ensures.tally
          ∙ ap (λ (tally : Tally). message_counted c.in-Ok.message (slice_get c.args.self.now.gateways.items c.args.place) tally)
          c.tell_strange.ensures.tally
          ∙ ap (λ (outcome : Outcome). outcome_counted outcome (slice_get c.args.self.now.gateways.items c.args.place) c.args.journal.now.tally)
          said,
    )

pub returns-in-Err-OutOfMemory-clause-hears : goal.returns-in-Err-OutOfMemory-clause-hears
returns-in-Err-OutOfMemory-clause-hears c =
    let takes : takes_memory (read_text c.args.text.now) ≡ true = search rules in
    inr (takes, ap (λ (list : Worklist). record c.args.self.now { notifying = list }) c.put_all.ensures, refl)
