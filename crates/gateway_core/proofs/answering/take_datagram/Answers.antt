use Rattle.std.proofs.Common.{[], refl, ◌∙◌}
use Rattle.gateway_core.proofs.TextLemmas.{went_next, went_end, went_on, told_next, told_end, told_nothing, has_room, has_room_on}
use Rattle.gateway_core.proofs.StateLemmas.{happened_went}
use Rattle.gateway_core.proofs.answering.take_datagram.Goals as goal

pub take_next-requires-clause-room : goal.take_next-requires-clause-room
take_next-requires-clause-room c = has_room _ _ _ _ _ c.in-Some-next.ensures.steps c.loop-text.invariant.room

pub loop-text-preserved : goal.loop-text-preserved
loop-text-preserved c = record {
  completes = λ is are rest. c.loop-text.invariant.completes is are (went_next _ _ _ _ _ _ _ is _ _ are c.in-Some-next.ensures.steps c.in_ok-take_next.ensures.does rest);
  told = told_next _ _ _ _ _ _ _ _ _ _ _ _ c.in-Some-next.ensures.steps c.in_ok-take_next.ensures.does c.in_ok-take_next.ensures.told c.loop-text.invariant.told;
  room = has_room_on _ _ _ _ _ _ _ c.in-Some-next.ensures.steps c.in_ok-take_next.ensures.told c.loop-text.invariant.room;
  found = c.in_ok-take_next.ensures.does.found ∙ c.loop-text.invariant.found;
  clock = went_on _ _ _ _ _ _ _ c.in_ok-take_next.ensures.does ∙ c.loop-text.invariant.clock;
}

pub returns-clause-happens : goal.returns-clause-happens
returns-clause-happens c = happened_went _ _ _ [] _ refl (c.loop-text.invariant.completes c.loop-text.state _ (went_end _ _ _ _ _ c.in_default-next.ensures.steps.0))

pub returns-clause-told : goal.returns-clause-told
returns-clause-told c = told_end _ _ _ _ _ _ c.in_default-next.ensures.steps.0 c.loop-text.invariant.told

pub returns-in_default-clause-happens : goal.returns-in_default-clause-happens
returns-in_default-clause-happens c = happened_went _ _ _ _ _ c.new-out.ensures.items (went_end _ _ _ c.args.state.now _ c.in_default.ensures.texts)

pub returns-in_default-clause-told : goal.returns-in_default-clause-told
returns-in_default-clause-told c = told_nothing _ _ _ _ _ c.requires.untold c.in_default.ensures.texts

pub returns-clause-found : goal.returns-clause-found
returns-clause-found c = c.loop-text.invariant.found
