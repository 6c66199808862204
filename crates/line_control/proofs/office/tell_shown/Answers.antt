use Rattle.std.proofs.Common.{ap, ◌∙◌}
use Rattle.agent_log.proofs.TellingLemmas.{tells_both}
use Rattle.agent_log.specs.declared.journal.Journal.{Journal}
use Rattle.line_control.proofs.ShowingLemmas.{counted_behind, shown_rest, told_same}
use Rattle.line_control.proofs.office.tell_shown.Goals as goal

pub returns : goal.returns
returns c = record {
  same = λ e. told_same _ c.args.journal.now c.tell_standing.new.journal c.tell_refusals.new.journal (c.tell_standing.ensures.same e)
      c.tell_refusals.ensures.tells;
  changed = λ e. tells_both _ _ c.args.journal.now.told c.tell_standing.new.journal.told c.tell_refusals.new.journal.told
      (c.tell_standing.ensures.changed e) c.tell_refusals.ensures.tells;
  uncounted = λ e. counted_behind c.tell_standing.new.journal c.tell_refusals.new.journal c.tell_refusals.ensures.rest
      ∙ ap (λ (journal : Journal). journal.tally) (c.tell_standing.ensures.same e);
  counted = λ e. counted_behind c.tell_standing.new.journal c.tell_refusals.new.journal c.tell_refusals.ensures.rest
      ∙ c.tell_standing.ensures.counted e;
  rest = shown_rest c.args.journal.now c.tell_standing.new.journal c.tell_refusals.new.journal c.tell_standing.ensures.rest
      c.tell_refusals.ensures.rest;
}
