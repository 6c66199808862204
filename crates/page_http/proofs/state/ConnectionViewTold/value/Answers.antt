use Rattle.page_http.proofs.state.ConnectionViewTold.value.Goals as goal

pub returns : goal.returns
returns c =
    rw (
      ← c.as_slice.ensures.value,
      ← c.as_slice-2.ensures.value,
      ← c.as_slice-3.ensures.value,
      ← c.from.ensures,
      ← c.from-2.ensures,
    )
    (c.end.ensures _ (c.put_number-2.ensures _ (c.put_number.ensures _ (c.put_name-5.ensures _ (c.put_name-4.ensures _
    (c.put_name-3.ensures _ (c.put_name-2.ensures _ (c.put_name.ensures _ c.new-object.ensures))))))))
