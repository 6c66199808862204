use Rattle.page_http.proofs.state.LineViewTold.value.Goals as goal

pub returns : goal.returns
returns c =
    rw (← c.hook_word.ensures, ← c.as_slice.ensures.value, ← c.as_slice-2.ensures.value)
    (c.end.ensures _ (c.put_made-2.ensures _ _ (c.put_made.ensures _ _ (c.put_number.ensures _ (c.put_text.ensures _ c.new-object.ensures))
    c.list_value.ensures) c.list_value-connections.ensures))
