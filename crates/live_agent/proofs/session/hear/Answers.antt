use Rattle.std.proofs.Common.{◌≡◌, ℕ, true, false, Some, None, refl, ap, subst, rules}
use Rattle.std.specs.Box.{with_value}
use Rattle.live_agent.specs.Datagrams.{TakesEach}
use Rattle.live_agent.proofs.DatagramLemmas.{dealt_none, dealt_with, heard_by}
use Rattle.live_agent.proofs.session.hear.Goals as goal

pub returns-in_default : goal.returns-in_default
returns-in_default g c = record {
  came = record c.args.wire.now { journal = with_value c.args.wire.now.journal c.came.new.self };
  counts = rw (c.deref_mut.ensures.value) at c.came.ensures.tally;
  records = rw (c.deref_mut.ensures.value) at c.came.ensures.rest;
  leaves = refl;
  hears = heard_by g.S.Surroundings.around None _ c.args.source c.args.bytes.now c.args.board.now c.args.board.now _ _ c.in_default.ensures (
    refl,
    refl,
    rw (c.deref_mut-in_default.ensures.value) (
        ap (λ (strange : ℕ). record c.came.new.self { tally = record c.came.new.self.tally { strange = strange } })
        (rw (c.deref_mut-in_default.ensures.value) at c.count.ensures)
        ),
  );
}

pub returns-then-not-send_outputs : goal.returns-then-not-send_outputs
returns-then-not-send_outputs g c =
    let refused : c.send_outputs.result ≡ false = search rules in
    let came = record c.args.wire.now { journal = with_value c.args.wire.now.journal c.came.new.self } in
    record {
      came = came;
      counts = rw (c.deref_mut.ensures.value) at c.came.ensures.tally;
      records = rw (c.deref_mut.ensures.value) at c.came.ensures.rest;
      leaves = refl;
      hears = heard_by g.S.Surroundings.around (Some c.in-Some.place) _ c.args.source c.args.bytes.now c.args.board.now c.step-outputs.new.self came c.send_outputs.new.wire c.in-Some.ensures (record {
        outputs = c.step-outputs.result;
        went_on = c.send_outputs.result;
        stepped = c.step-outputs.new.self;
        sent = c.send_outputs.new.wire;
        steps = record {
          took = c.step-outputs.ensures.took;
          stays = c.step-outputs.ensures.err;
          ends = c.step-outputs.ensures.ends;
          nobody = c.step-outputs.ensures.nobody;
          own = c.step-outputs.ensures.own;
          others = c.step-outputs.ensures.others;
          rest = c.step-outputs.ensures.rest;
        };
        goes = c.send_outputs.ensures;
        deals = dealt_none g.S.Surroundings.around c.send_outputs.result c.in-Some.place c.args.bytes.now c.step-outputs.new.self c.send_outputs.new.wire refused;
      });
    }

pub returns : goal.returns
returns g c =
    let went : c.send_outputs.result ≡ true = search rules in
    let came = record c.args.wire.now { journal = with_value c.args.wire.now.journal c.came.new.self } in
    record {
      came = came;
      counts = rw (c.deref_mut.ensures.value) at c.came.ensures.tally;
      records = rw (c.deref_mut.ensures.value) at c.came.ensures.rest;
      leaves = refl;
      hears = heard_by g.S.Surroundings.around (Some c.in-Some.place) _ c.args.source c.args.bytes.now c.args.board.now c.take_each.new.board came c.take_each.new.wire c.in-Some.ensures (record {
        outputs = c.step-outputs.result;
        went_on = c.send_outputs.result;
        stepped = c.step-outputs.new.self;
        sent = c.send_outputs.new.wire;
        steps = record {
          took = c.step-outputs.ensures.took;
          stays = c.step-outputs.ensures.err;
          ends = c.step-outputs.ensures.ends;
          nobody = c.step-outputs.ensures.nobody;
          own = c.step-outputs.ensures.own;
          others = c.step-outputs.ensures.others;
          rest = c.step-outputs.ensures.rest;
        };
        goes = c.send_outputs.ensures;
        deals = dealt_with g.S.Surroundings.around c.send_outputs.result c.in-Some.place c.args.bytes.now c.step-outputs.new.self c.deal_with.new.board c.take_each.new.board
            c.send_outputs.new.wire c.deal_with.new.wire c.take_each.new.wire went c.deal_with.ensures (record {
              begun = c.begin_taking-lines.new.self;
              begins = c.begin_taking-lines.ensures.settles;
              rest = c.begin_taking-lines.ensures.rest;
              takes = subst (λ (lines : ℕ). TakesEach g.S.Surroundings.around c.in-Some.place lines c.begin_taking-lines.new.self c.deal_with.new.wire c.take_each.new.board c.take_each.new.wire)
                  c.begin_taking-lines.ensures.count c.take_each.ensures;
            });
      });
    }
