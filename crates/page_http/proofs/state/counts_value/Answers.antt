use Rattle.page_http.proofs.state.counts_value.Goals as goal

pub returns : goal.returns
returns c =
    rw (← c.as_slice.ensures.value, ← c.as_slice-2.ensures.value)
    (c.end.ensures _ (c.put_made-2.ensures _ _ (c.put_made.ensures _ _ (c.put_counted.ensures _ c.new-object.ensures) c.commands_value.ensures)
    c.answers_value.ensures))
