use Rattle.std.proofs.lemmas.Result.{IfOk-weaker}
use Rattle.page_state.specs.Totals.{totals_of}
use Rattle.page_http.specs.Texts.{state_data, lines_data, counts_data}
use Rattle.page_http.proofs.TellingLemmas.{told_in_order}
use Rattle.page_http.proofs.state.state_text.Goals as goal

pub returns : goal.returns
returns c =
    IfOk-weaker c.to_string.result _ _
    (λ text h. told_in_order _ _
    (state_data c.args.version c.args.picture.now.clock c.args.picture.now.first c.args.picture.now.is_serving
    c.args.picture.now.unanswered_since (totals_of c.args.picture.now.lines.items).lost
    (lines_data c.args.picture.now.lines.items) (counts_data c.args.picture.now.counts))
    h
    (rw (← c.agent_answers.ensures, ← c.totals.ensures, ← c.as_slice.ensures.value, ← c.from.ensures)
    (c.in_ok-value.ensures _ (c.put_made-2.ensures _ _ (c.put_made.ensures _ _ (c.put_number.ensures _ (c.put_maybe.ensures _
    (c.put_truth-2.ensures _ (c.put_truth.ensures _ (c.put_shown.ensures _ c.new-object.ensures)))))
    c.list_value.ensures) c.counts_value.ensures))))
    c.to_string.ensures.order
