use Rattle.page_http.proofs.state.SignalViewTold.value.Goals as goal

pub returns : goal.returns
returns c = c.end.ensures _ (c.put_maybe.ensures _ (c.put_name.ensures _ c.new-object.ensures))
