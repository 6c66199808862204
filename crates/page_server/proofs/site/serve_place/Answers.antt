use Rattle.page_server.proofs.site.serve_place.Goals as goal

pub returns-then-not-turn-clause-served : goal.returns-then-not-turn-clause-served
returns-then-not-turn-clause-served c = rw (c.in-Some.is) (
  c.turn.new.self,
  rw (c.deref_mut.ensures.value) at c.turn.ensures.answered,
  rw (c.deref_mut.ensures.value, c.if-not-turn.true) at c.turn.ensures.turns,
)

pub returns-else-not-turn-clause-served : goal.returns-else-not-turn-clause-served
returns-else-not-turn-clause-served c = rw (c.in-Some.is) (
  rw (c.deref_mut.ensures.value) at c.turn.ensures.answered,
  c.turn.ensures.all c.if-not-turn.false,
  rw (c.deref_mut.ensures.value, c.if-not-turn.false) at c.turn.ensures.turns,
)
