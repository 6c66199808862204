use Rattle.std.proofs.Common.{ℕ, List, Some, None, refl, subst}
use Rattle.live_agent.specs.Datagrams.{HearsDatagram}
use Rattle.live_agent.proofs.session.take_over.Goals as goal

pub returns-in-Some : goal.returns-in-Some
returns-in-Some g c = record {
  packet = Some c.in-Some.packet;
  handed = c.handed_over.new.self;
  is_found = refl;
  hands = c.in-Some.ensures.hands;
  over = c.in-Some.ensures.over;
  hears = subst
      (λ (bytes : List ℕ). HearsDatagram g.S.Surroundings.around c.in-Some.packet.peer bytes c.args.board.now c.handed_over.new.self c.hear.new.board c.hear.new.wire)
      c.as_bytes.ensures c.hear.ensures;
}

pub returns-in-None : goal.returns-in-None
returns-in-None g c = record {
  packet = None;
  handed = c.handed_over.new.self;
  is_found = refl;
  hands = c.in-None.ensures.hands;
  over = c.in-None.ensures.over;
  hears = (refl, refl);
}
