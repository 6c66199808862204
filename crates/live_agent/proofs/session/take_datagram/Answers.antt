use Rattle.std.proofs.Common.{◌≡◌, length, Some, None, take, refl, sym, ◌∙◌, rules}
use Rattle.live_agent.specs.declared.session.TheConstants.{ROOM}
use Rattle.live_agent.proofs.DatagramLemmas.{found_so, heard_plain, looked_so, offered_to}
use Rattle.live_agent.proofs.session.take_datagram.Goals as goal

pub returns-in_default : goal.returns-in_default
returns-in_default g c =
    let long : length c.receive.new.room ≡ ROOM = search rules in
    record {
      found = c.take_over.result;
      between = c.take_over.new.board;
      left = c.take_over.new.wire;
      over = c.take_over.ensures;
      looks = looked_so g.S.Surroundings.around c.take_over.result c.take_over.new.board c.take_over.new.board c.take_over.new.wire c.receive.new.self
          c.if-take_over.false (record {
            outcome = c.in_default.ensures.looked.0;
            room = c.receive.new.room;
            looked = c.receive.new.self;
            long = long;
            looks = c.in_default.ensures.looked.1;
            counts = c.in_default.ensures.looked.4;
            alone = c.in_default.ensures.alone;
            reads = c.in_default.ensures.looked.3;
            leaves = c.in_default.ensures.rest;
            takes = found_so g.S.Surroundings.around None _ c.receive.new.room c.take_over.new.board c.take_over.new.board c.receive.new.self c.receive.new.self
                c.in_default.ensures.looked.2 (refl, refl);
          });
    }

pub returns-then-offer : goal.returns-then-offer
returns-then-offer g c =
    let long : length c.receive.new.room ≡ ROOM = search rules in
    let bytes : c.unwrap_or-bytes.result.now ≡ take c.in-Some.found.1 c.receive.new.room = search rules in
    let taken = offered_to g.S.Surroundings.around c.receive.new.self.network c.take_over-then-offer.result c.in-Some.found.0 c.unwrap_or-bytes.result.now
    c.take_over.new.board c.take_over-then-offer.new.board c.receive.new.self c.offer.new.self c.take_over-then-offer.new.wire
    (sym c.offer.ensures.spoilt ∙ c.if-offer.true) c.offer.ensures.offers c.offer.ensures.notes c.offer.ensures.rest c.take_over-then-offer.ensures in
    record {
      found = c.take_over.result;
      between = c.take_over.new.board;
      left = c.take_over.new.wire;
      over = c.take_over.ensures;
      looks = looked_so g.S.Surroundings.around c.take_over.result c.take_over.new.board c.take_over-then-offer.new.board c.take_over.new.wire
          c.take_over-then-offer.new.wire c.if-take_over.false (record {
            outcome = c.in-Some.ensures.looked.0;
            room = c.receive.new.room;
            looked = c.receive.new.self;
            long = long;
            looks = c.in-Some.ensures.looked.1;
            counts = c.in-Some.ensures.looked.4;
            alone = c.in-Some.ensures.alone;
            reads = c.in-Some.ensures.looked.3;
            leaves = c.in-Some.ensures.rest;
            takes = found_so g.S.Surroundings.around (Some c.in-Some.found) _ c.receive.new.room c.take_over.new.board c.take_over-then-offer.new.board c.receive.new.self
                c.take_over-then-offer.new.wire c.in-Some.ensures.looked.2 (rw bytes at taken);
          });
    }

pub returns : goal.returns
returns g c =
    let long : length c.receive.new.room ≡ ROOM = search rules in
    let bytes : c.unwrap_or-bytes.result.now ≡ take c.in-Some.found.1 c.receive.new.room = search rules in
    let taken = heard_plain g.S.Surroundings.around c.receive.new.self.network c.offer.result c.in-Some.found.0 c.unwrap_or-bytes.result.now
    c.take_over.new.board c.hear.new.board c.receive.new.self c.offer.new.self c.hear.new.wire c.offer.ensures.spoilt c.if-offer.false
    (c.offer.ensures.none c.if-offer.false) c.hear.ensures in
    record {
      found = c.take_over.result;
      between = c.take_over.new.board;
      left = c.take_over.new.wire;
      over = c.take_over.ensures;
      looks = looked_so g.S.Surroundings.around c.take_over.result c.take_over.new.board c.hear.new.board c.take_over.new.wire
          c.hear.new.wire c.if-take_over.false (record {
            outcome = c.in-Some.ensures.looked.0;
            room = c.receive.new.room;
            looked = c.receive.new.self;
            long = long;
            looks = c.in-Some.ensures.looked.1;
            counts = c.in-Some.ensures.looked.4;
            alone = c.in-Some.ensures.alone;
            reads = c.in-Some.ensures.looked.3;
            leaves = c.in-Some.ensures.rest;
            takes = found_so g.S.Surroundings.around (Some c.in-Some.found) _ c.receive.new.room c.take_over.new.board c.hear.new.board c.receive.new.self
                c.hear.new.wire c.in-Some.ensures.looked.2 (rw bytes at taken);
          });
    }
