use Rattle.std.proofs.Common.{◌≡◌, ◌++◌, ◌∷◌, [], Some, None, inl, inr, refl, ◌∙◌, sym, arith}
use Rattle.live_agent.specs.declared.wire.TheConstants.{MOST_AT_ONCE}
use Rattle.live_agent.proofs.HandingLemmas.{first_none, first_of, goes_in, goes_out, one_longer, sent_on}
use Rattle.live_agent.proofs.SendingLemmas.{over_leaving, over_none, over_taken, sent_more}
use Rattle.live_agent.proofs.wire.Wire.handed_over.Goals as goal

pub loop-init : goal.loop-init
loop-init g c = record {
  over = over_none c.args.self.now c.args.self.now refl;
  out = ([], refl, refl);
}

pub loop-preserved : goal.loop-preserved
loop-preserved g c =
    let taken = record c.loop.self { network = Some c.take_due.new.self } in
    record {
      over = sent_more c.args.self.now taken c.transmit.new.self
          (sent_more c.args.self.now c.loop.self taken c.loop.invariant.over (over_taken c.loop.self taken refl))
          (over_leaving taken c.transmit.new.self c.transmit.ensures.rest);
      out = (
        c.loop.invariant.out.0 ++ c.in-Some-take_due.packet ∷ [],
        one_longer c.loop.invariant.out.0 c.in-Some-take_due.packet c.loop.counter c.loop.invariant.out.1,
        sent_on g.S.Surroundings.around c.loop.invariant.out.0 c.in-Some-take_due.packet c.args.self.now c.loop.self c.transmit.new.self c.loop.invariant.out.2 (record {
          handed = taken;
          hands = record {
            first = first_of c.loop.self.now.clock c.loop.self.network (Some c.in-Some-take_due.packet) c.in-Some.network c.take_due.new.self c.in-Some.is
                (c.in-Some-take_due.ensures.taken, c.in-Some-take_due.ensures.spoiling, c.in-Some-take_due.ensures.generators);
            rest = refl;
          };
          goes = goes_out c.in-Some-take_due.packet.way (sym c.comes_in.ensures ∙ c.if-comes_in.false);
          leaves = rw (c.as_bytes.ensures) at c.transmit.ensures.leaves;
        }),
      );
    }

pub returns-in_default-clause-over : goal.returns-in_default-clause-over
returns-in_default-clause-over g c = c.loop.invariant.over

pub returns-in_default-clause-hands : goal.returns-in_default-clause-hands
returns-in_default-clause-hands g c = record {
  out = c.loop.invariant.out.0;
  left = c.loop.self;
  each = c.loop.invariant.out.2;
  last = inl (record { first = first_none c.loop.self.now.clock c.loop.self.network c.in_default.is; rest = refl });
}

pub returns-in_default-take_due-clause-over : goal.returns-in_default-take_due-clause-over
returns-in_default-take_due-clause-over g c =
    let taken = record c.loop.self { network = Some c.take_due.new.self } in
    sent_more c.args.self.now c.loop.self taken c.loop.invariant.over (over_taken c.loop.self taken refl)

pub returns-in_default-take_due-clause-hands : goal.returns-in_default-take_due-clause-hands
returns-in_default-take_due-clause-hands g c = record {
  out = c.loop.invariant.out.0;
  left = c.loop.self;
  each = c.loop.invariant.out.2;
  last = inl (record {
    first = first_of c.loop.self.now.clock c.loop.self.network None c.in-Some.network c.take_due.new.self c.in-Some.is
        (c.in_default-take_due.ensures.taken, c.in_default-take_due.ensures.spoiling, c.in_default-take_due.ensures.generators);
    rest = refl;
  });
}

pub returns-then-comes_in-clause-comes : goal.returns-then-comes_in-clause-comes
returns-then-comes_in-clause-comes g c = goes_in c.in-Some-take_due.packet.way (sym c.comes_in.ensures ∙ c.if-comes_in.true)

pub returns-then-comes_in-clause-over : goal.returns-then-comes_in-clause-over
returns-then-comes_in-clause-over g c =
    let taken = record c.loop.self { network = Some c.take_due.new.self } in
    sent_more c.args.self.now c.loop.self taken c.loop.invariant.over (over_taken c.loop.self taken refl)

pub returns-then-comes_in-clause-hands : goal.returns-then-comes_in-clause-hands
returns-then-comes_in-clause-hands g c = record {
  out = c.loop.invariant.out.0;
  left = c.loop.self;
  each = c.loop.invariant.out.2;
  last = (
    record {
      first = first_of c.loop.self.now.clock c.loop.self.network (Some c.in-Some-take_due.packet) c.in-Some.network c.take_due.new.self c.in-Some.is
          (c.in-Some-take_due.ensures.taken, c.in-Some-take_due.ensures.spoiling, c.in-Some-take_due.ensures.generators);
      rest = refl;
    },
    goes_in c.in-Some-take_due.packet.way (sym c.comes_in.ensures ∙ c.if-comes_in.true),
  );
}

pub returns-clause-over : goal.returns-clause-over
returns-clause-over g c = c.loop.invariant.over

pub returns-clause-hands : goal.returns-clause-hands
returns-clause-hands g c =
    let all : c.loop.counter ≡ MOST_AT_ONCE = omega (arith, c.loop.auto.counter-end, c.loop-test.false) in
    record {
      out = c.loop.invariant.out.0;
      left = c.loop.self;
      each = c.loop.invariant.out.2;
      last = inr (c.loop.invariant.out.1 ∙ all, refl);
    }
