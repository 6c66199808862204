use Rattle.page_http.proofs.telling.happening_value.Goals as goal

pub returns : goal.returns
returns c =
    rw (← c.kind_word.ensures, ← c.as_slice.ensures.value, ← c.as_slice-2.ensures.value)
    (c.end.ensures _ (c.put_said.ensures _ (c.put_string-2.ensures _ _ (c.put_string.ensures _ _ (c.put_text.ensures _
    (c.put_number-2.ensures _ (c.put_number.ensures _ c.new-object.ensures))) c.to_string.ensures.ok) c.encode.ensures)))
