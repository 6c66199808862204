use Rattle.page_http.proofs.members.Object.put_text.Goals as goal

pub returns : goal.returns
returns c = λ was h. c.put_string.ensures was c.args.text.now h c.from_str-made.ensures.ok
