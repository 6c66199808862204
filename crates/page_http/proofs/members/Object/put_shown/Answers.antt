use Rattle.page_http.proofs.members.Object.put_shown.Goals as goal

pub returns : goal.returns
returns c = λ was h. c.put_number-3.ensures _ (c.put_number-2.ensures _ (c.put_number.ensures was h))
