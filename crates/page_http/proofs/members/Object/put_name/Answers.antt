use Rattle.page_http.proofs.members.Object.put_name.Goals as goal

pub returns : goal.returns
returns c = λ was h. c.put_string.ensures was _ h c.from_utf8_lossy-made.ensures.lossy
