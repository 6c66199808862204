use Rattle.page_http.proofs.state.put_counted.Goals as goal

pub returns : goal.returns
returns c = λ was h.
    rw (← c.saturating_add-given_up.ensures)
    (c.put_number-14.ensures _ (c.put_number-13.ensures _ (c.put_number-12.ensures _ (c.put_number-11.ensures _ (c.put_number-10.ensures _
    (c.put_number-9.ensures _ (c.put_number-8.ensures _ (c.put_number-7.ensures _ (c.put_number-6.ensures _ (c.put_number-5.ensures _
    (c.put_number-4.ensures _ (c.put_number-3.ensures _ (c.put_number-2.ensures _ (c.put_number.ensures was h))))))))))))))
