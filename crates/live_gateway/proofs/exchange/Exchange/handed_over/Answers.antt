use Rattle.std.proofs.Common.{◌≡◌, [], ◌∷◌, ◌++◌, inl, inr, refl, sym, ◌∙◌, ap, arith}
use Rattle.std.specs.Prelude.{is_some}
use Rattle.live_gateway.specs.declared.exchange.TheConstants.{MOST_AT_ONCE}
use Rattle.live_gateway.specs.Exchanging.{handed_by, received_by}
use Rattle.live_gateway.proofs.ArrivalLemmas.{found_none, found_between, found_behind, arrival_found, arrival_strange, same_tally}
use Rattle.live_gateway.proofs.HearingLemmas.{heard_still, hears_none, hears_further, outgoing, strange, incoming}
use Rattle.live_gateway.proofs.PassingLemmas.{one_longer, passed_on, handed_late}
use Rattle.live_gateway.proofs.exchange.Exchange.handed_over.Goals as goal
use Rattle.live_gateway.proofs.exchange.Exchange.handed_over.Goals.{in-Out, in-In+else-come}

-- none is due

pub returns-in_err-packet-clause-came : goal.returns-in_err-packet-clause-came
returns-in_err-packet-clause-came g c =
    rw (c.from_residual.ensures)
    (hears_further c.args.admission.now _ _ _ [] [] c.loop.invariant.came c.in_err-packet.ensures.came refl)

pub returns-in_err-packet-clause-faults : goal.returns-in_err-packet-clause-faults
returns-in_err-packet-clause-faults g c = ap (λ e. e.faults) c.take_due.ensures.rest ∙ c.loop.invariant.faults

pub returns-in_err-packet-clause-read : goal.returns-in_err-packet-clause-read
returns-in_err-packet-clause-read g c = ap (λ e. e.read) c.take_due.ensures.rest ∙ c.loop.invariant.read

pub returns-in_err-packet-clause-turn : goal.returns-in_err-packet-clause-turn
returns-in_err-packet-clause-turn g c =
    (ap (λ e. e.now) c.take_due.ensures.rest ∙ c.loop.invariant.turn.0, ap (λ e. e.is_offering) c.take_due.ensures.rest ∙ c.loop.invariant.turn.1)

pub returns-in_err-packet-clause-tally : goal.returns-in_err-packet-clause-tally
returns-in_err-packet-clause-tally g c =
    rw (c.from_residual.ensures)
    (found_between _ _ _ _ _ refl c.loop.invariant.tally (ap (λ e. e.journal.tally.value) c.take_due.ensures.rest))

pub returns-in_err-packet-clause-hands : goal.returns-in_err-packet-clause-hands
returns-in_err-packet-clause-hands g c = rw (c.from_residual.ensures) (record {
  passed = c.loop.invariant.out.0;
  left = c.loop.self;
  each = c.loop.invariant.out.2;
  last = inl (record { due = c.in_err-packet.ensures.due; rest = c.take_due.ensures.rest });
})

-- one is given on

pub returns-then-come-clause-came : goal.returns-then-come-clause-came
returns-then-come-clause-came g c =
    heard_still c.args.admission.now _ _ _ _
    (incoming c.args.admission.now _ _ _ c.in_ok-packet.packet.way c.in_ok-packet.packet.peer c.in_ok-packet.len c.take_due.new.room c.loop.invariant.came
    c.in_ok-packet.ensures.came c.in-In.is (sym c.come.ensures.heard ∙ c.if-come.true))
    (ap (λ e. received_by e.network (g.S.Surroundings.around.traffic e.around).received) c.come.ensures.rest)

pub returns-then-come-clause-handed : goal.returns-then-come-clause-handed
returns-then-come-clause-handed g c =
    ap (λ e. handed_by e.network (g.S.Surroundings.around.traffic e.around).sent) c.come.ensures.rest ∙ c.take_due.ensures.handed ∙ c.loop.invariant.handed

pub returns-then-come-clause-faults : goal.returns-then-come-clause-faults
returns-then-come-clause-faults g c =
    ap (λ e. e.faults) c.come.ensures.rest ∙ ap (λ e. e.faults) c.take_due.ensures.rest ∙ c.loop.invariant.faults

pub returns-then-come-clause-read : goal.returns-then-come-clause-read
returns-then-come-clause-read g c =
    ap (λ e. e.read) c.come.ensures.rest ∙ ap (λ e. e.read) c.take_due.ensures.rest ∙ c.loop.invariant.read

pub returns-then-come-clause-turn : goal.returns-then-come-clause-turn
returns-then-come-clause-turn g c = (
  ap (λ e. e.now) c.come.ensures.rest ∙ ap (λ e. e.now) c.take_due.ensures.rest ∙ c.loop.invariant.turn.0,
  ap (λ e. e.is_offering) c.come.ensures.rest ∙ ap (λ e. e.is_offering) c.take_due.ensures.rest ∙ c.loop.invariant.turn.1,
)

pub returns-then-come-clause-spoilt : goal.returns-then-come-clause-spoilt
returns-then-come-clause-spoilt g c = ap (λ e. is_some e.network) c.come.ensures.rest ∙ c.take_due.ensures.spoilt ∙ c.loop.invariant.spoilt

pub returns-then-come-clause-tally : goal.returns-then-come-clause-tally
returns-then-come-clause-tally g c =
    found_behind _ _ _ _ (found_between _ _ _ _ _ refl c.loop.invariant.tally (ap (λ e. e.journal.tally.value) c.take_due.ensures.rest))
    (arrival_found _ _ _ _ _ _ c.come.ensures.noted (sym c.come.ensures.heard ∙ c.if-come.true))

pub returns-then-come-clause-hands : goal.returns-then-come-clause-hands
returns-then-come-clause-hands g c = record {
  passed = c.loop.invariant.out.0;
  left = c.loop.self;
  each = c.loop.invariant.out.2;
  last = record {
    packet = c.in_ok-packet.packet;
    handed = c.take_due.new.self;
    hands = record { due = c.in_ok-packet.ensures.due; rest = c.take_due.ensures.rest };
    comes = c.in-In.is;
    heard = sym c.come.ensures.heard ∙ c.if-come.true;
    source = refl;
    bytes = rw (c.take_due.ensures.length) (c.in_ok-packet.ensures.put c.in-In.is);
    noted = rw (c.saturating_sub-late.ensures) at (c.come.ensures.received (sym c.come.ensures.heard ∙ c.if-come.true));
    rest = c.come.ensures.rest;
  };
}

-- too many were handed out

pub returns-clause-hands : goal.returns-clause-hands
returns-clause-hands g c =
    let all : c.loop.counter ≡ MOST_AT_ONCE = omega (arith, c.loop.auto.counter-end, c.loop-test.false) in
    record {
      passed = c.loop.invariant.out.0;
      left = c.loop.self;
      each = c.loop.invariant.out.2;
      last = inr (c.loop.invariant.out.1 ∙ all, refl);
    }

pub loop-init : goal.loop-init
loop-init g c = record {
  length = refl;
  handed = refl;
  faults = refl;
  read = refl;
  turn = (refl, refl);
  spoilt = refl;
  came = hears_none c.args.admission.now _ _ refl;
  tally = found_none _ _ refl;
  out = ([], refl, refl);
}

pub loop-preserved : goal.loop-preserved
loop-preserved g c = elim c.match-packet.branch [
  | in-Out w ↦ record {
    length = c.take_due.ensures.length ∙ c.loop.invariant.length;
    handed = rw w.self-is (handed_late g.S.Surroundings.around.traffic c.loop.self c.take_due.new.self w.send_late.new.self
        (ap (λ e. e.network) w.send_late.ensures.rest) c.in_ok-packet.ensures.behind ∙ c.loop.invariant.handed);
    faults = rw w.self-is (ap (λ e. e.faults) w.send_late.ensures.rest ∙ ap (λ e. e.faults) c.take_due.ensures.rest ∙ c.loop.invariant.faults);
    read = rw w.self-is (ap (λ e. e.read) w.send_late.ensures.rest ∙ ap (λ e. e.read) c.take_due.ensures.rest ∙ c.loop.invariant.read);
    turn = rw w.self-is (
      ap (λ e. e.now) w.send_late.ensures.rest ∙ ap (λ e. e.now) c.take_due.ensures.rest ∙ c.loop.invariant.turn.0,
      ap (λ e. e.is_offering) w.send_late.ensures.rest ∙ ap (λ e. e.is_offering) c.take_due.ensures.rest ∙ c.loop.invariant.turn.1,
    );
    spoilt = rw w.self-is (ap (λ e. is_some e.network) w.send_late.ensures.rest ∙ c.take_due.ensures.spoilt ∙ c.loop.invariant.spoilt);
    came = rw w.self-is (heard_still c.args.admission.now _ _ _ _
        (outgoing c.args.admission.now _ _ _ c.in_ok-packet.packet.way c.in_ok-packet.packet.peer _ c.loop.invariant.came c.in_ok-packet.ensures.came w.in-Out.is)
        (rw (ap (λ e. e.network) w.send_late.ensures.rest, w.send_late.ensures.received) refl));
    tally = rw w.self-is (found_between _ _ _ _ _ refl c.loop.invariant.tally
        (same_tally _ _ w.send_late.ensures.tally ∙ ap (λ e. e.journal.tally.value) c.take_due.ensures.rest));
    out = rw w.self-is (
      c.loop.invariant.out.0 ++ c.in_ok-packet.packet ∷ [],
      one_longer c.loop.invariant.out.0 c.in_ok-packet.packet c.loop.counter c.loop.invariant.out.1,
      passed_on g.S.Surroundings.around.sends c.args.admission.now c.loop.invariant.out.0 c.in_ok-packet.packet c.args.self.now c.loop.self w.send_late.new.self
          c.loop.invariant.out.2 (inl (record {
            handed = c.take_due.new.self;
            hands = record { due = c.in_ok-packet.ensures.due; rest = c.take_due.ensures.rest };
            goes = w.in-Out.is;
            sent = w.send_late.ensures.noted.0;
            leaves = rw (w.as_bytes.ensures) at w.send_late.ensures.noted.1;
            noted = w.send_late.ensures.noted.2;
            rest = w.send_late.ensures.rest;
          })),
    );
  }
  | in-In+else-come w ↦ record {
    length = c.take_due.ensures.length ∙ c.loop.invariant.length;
    handed = rw w.self-is (ap (λ e. handed_by e.network (g.S.Surroundings.around.traffic e.around).sent) w.come.ensures.rest ∙ c.take_due.ensures.handed ∙ c.loop.invariant.handed);
    faults = rw w.self-is (ap (λ e. e.faults) w.come.ensures.rest ∙ ap (λ e. e.faults) c.take_due.ensures.rest ∙ c.loop.invariant.faults);
    read = rw w.self-is (ap (λ e. e.read) w.come.ensures.rest ∙ ap (λ e. e.read) c.take_due.ensures.rest ∙ c.loop.invariant.read);
    turn = rw w.self-is (
      ap (λ e. e.now) w.come.ensures.rest ∙ ap (λ e. e.now) c.take_due.ensures.rest ∙ c.loop.invariant.turn.0,
      ap (λ e. e.is_offering) w.come.ensures.rest ∙ ap (λ e. e.is_offering) c.take_due.ensures.rest ∙ c.loop.invariant.turn.1,
    );
    spoilt = rw w.self-is (ap (λ e. is_some e.network) w.come.ensures.rest ∙ c.take_due.ensures.spoilt ∙ c.loop.invariant.spoilt);
    came = rw w.self-is (heard_still c.args.admission.now _ _ _ _
        (strange c.args.admission.now _ _ _ c.in_ok-packet.packet.way c.in_ok-packet.packet.peer _ c.loop.invariant.came c.in_ok-packet.ensures.came w.in-In.is
        (sym w.come.ensures.heard ∙ w.if-come.false))
        (ap (λ e. received_by e.network (g.S.Surroundings.around.traffic e.around).received) w.come.ensures.rest));
    tally = rw w.self-is (found_behind _ _ _ _ (found_between _ _ _ _ _ refl c.loop.invariant.tally (ap (λ e. e.journal.tally.value) c.take_due.ensures.rest))
        (arrival_strange _ _ _ _ _ w.come.ensures.noted (sym w.come.ensures.heard ∙ w.if-come.false)));
    out = rw w.self-is (
      c.loop.invariant.out.0 ++ c.in_ok-packet.packet ∷ [],
      one_longer c.loop.invariant.out.0 c.in_ok-packet.packet c.loop.counter c.loop.invariant.out.1,
      passed_on g.S.Surroundings.around.sends c.args.admission.now c.loop.invariant.out.0 c.in_ok-packet.packet c.args.self.now c.loop.self w.come.new.self
          c.loop.invariant.out.2 (inr (record {
            handed = c.take_due.new.self;
            hands = record { due = c.in_ok-packet.ensures.due; rest = c.take_due.ensures.rest };
            comes = w.in-In.is;
            strange = sym w.come.ensures.heard ∙ w.if-come.false;
            away = w.come.ensures.noted.strange (sym w.come.ensures.heard ∙ w.if-come.false);
            rest = w.come.ensures.rest;
          })),
    );
  }
]

-- what is so of each by the calls before it

pub returns-in_err-packet-clause-length : goal.returns-in_err-packet-clause-length
returns-in_err-packet-clause-length g c = c.take_due.ensures.length ∙ c.loop.invariant.length

pub returns-in_err-packet-clause-within : goal.returns-in_err-packet-clause-within
returns-in_err-packet-clause-within g c = rw (c.from_residual.ensures) tt

pub returns-in_err-packet-clause-admitted : goal.returns-in_err-packet-clause-admitted
returns-in_err-packet-clause-admitted g c = rw (c.from_residual.ensures) tt

pub returns-in_err-packet-clause-handed : goal.returns-in_err-packet-clause-handed
returns-in_err-packet-clause-handed g c = c.take_due.ensures.handed ∙ c.loop.invariant.handed

pub returns-in_err-packet-clause-spoilt : goal.returns-in_err-packet-clause-spoilt
returns-in_err-packet-clause-spoilt g c = c.take_due.ensures.spoilt ∙ c.loop.invariant.spoilt

pub returns-then-come-clause-length : goal.returns-then-come-clause-length
returns-then-come-clause-length g c = c.take_due.ensures.length ∙ c.loop.invariant.length

pub returns-then-come-clause-within : goal.returns-then-come-clause-within
returns-then-come-clause-within g c = c.in_ok-packet.ensures.within

pub returns-then-come-clause-admitted : goal.returns-then-come-clause-admitted
returns-then-come-clause-admitted g c = sym c.come.ensures.heard ∙ c.if-come.true

pub returns-clause-length : goal.returns-clause-length
returns-clause-length g c = c.loop.invariant.length

pub returns-clause-within : goal.returns-clause-within
returns-clause-within g c = tt

pub returns-clause-admitted : goal.returns-clause-admitted
returns-clause-admitted g c = tt

pub returns-clause-handed : goal.returns-clause-handed
returns-clause-handed g c = c.loop.invariant.handed

pub returns-clause-faults : goal.returns-clause-faults
returns-clause-faults g c = c.loop.invariant.faults

pub returns-clause-read : goal.returns-clause-read
returns-clause-read g c = c.loop.invariant.read

pub returns-clause-turn : goal.returns-clause-turn
returns-clause-turn g c = c.loop.invariant.turn

pub returns-clause-spoilt : goal.returns-clause-spoilt
returns-clause-spoilt g c = c.loop.invariant.spoilt

pub returns-clause-came : goal.returns-clause-came
returns-clause-came g c = c.loop.invariant.came

pub returns-clause-tally : goal.returns-clause-tally
returns-clause-tally g c = c.loop.invariant.tally
