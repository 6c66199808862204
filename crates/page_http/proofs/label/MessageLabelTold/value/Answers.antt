use Rattle.page_http.proofs.label.MessageLabelTold.value.Goals as goal

pub returns : goal.returns
returns c =
    rw (← c.message_word.ensures)
    (c.end.ensures _ (c.put_maybe-4.ensures _ (c.put_maybe-3.ensures _ (c.put_maybe-2.ensures _ (c.put_maybe.ensures _
    (c.put_text.ensures _ c.new-object.ensures))))))
