use Rattle.log_format.proofs.note.put_repeat.Goals as goal

pub returns : goal.returns
returns c = rw (c.number_of.ensures) at c.put_around.ensures
