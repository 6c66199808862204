use Rattle.std.proofs.Common.{true, false, take, None, Some, inl, inr, refl, sym, ◌∙◌, ap}
use Rattle.live_gateway.specs.Admitting.{is_heard}
use Rattle.live_gateway.specs.Exchanging.{handed_by, received_by}
use Rattle.live_gateway.proofs.ArrivalLemmas.{found_between, found_behind, strange_found, tally_of}
use Rattle.live_gateway.proofs.HearingLemmas.{heard_still, hears_none, hears_after, hears_past_a_look, still_over}
use Rattle.live_gateway.proofs.CountingLemmas.{read_behind_others}
use Rattle.live_gateway.proofs.PassingLemmas.{heard_goes, strange_goes, handed_still, lost_noted}
use Rattle.live_gateway.proofs.exchange.Exchange.receive_spoilt.Goals as goal

pub returns-in-Some-clause-counts : goal.returns-in-Some-clause-counts
returns-in-Some-clause-counts g c = inr (c.requires, inl (refl, c.handed_over.ensures.read, c.handed_over.ensures.faults))

pub returns-in_err-source-clause-came : goal.returns-in_err-source-clause-came
returns-in_err-source-clause-came g c =
    rw (c.from_residual.ensures)
    (heard_still c.args.admission.now _ _ _ _ c.in_default.ensures.came
    (still_over c.handed_over.new.self.network c.read_socket.new.self.network _ _ (c.handed_over.ensures.spoilt ∙ c.requires) (ap (λ e. e.network) c.read_socket.ensures.rest)))

pub returns-in_err-source-clause-counts : goal.returns-in_err-source-clause-counts
returns-in_err-source-clause-counts g c =
    read_behind_others _ c.args.admission.now _ _ _ _ _ _ _ _ c.requires c.handed_over.ensures.read c.handed_over.ensures.faults c.read_socket.ensures.counts refl refl

pub returns-in_err-source-clause-turn : goal.returns-in_err-source-clause-turn
returns-in_err-source-clause-turn g c =
    (ap (λ e. e.now) c.read_socket.ensures.rest ∙ c.handed_over.ensures.turn.0, ap (λ e. e.is_offering) c.read_socket.ensures.rest ∙ c.handed_over.ensures.turn.1)

pub returns-then-not-hears-clause-came : goal.returns-then-not-hears-clause-came
returns-then-not-hears-clause-came g c =
    heard_still c.args.admission.now _ _ _ _ c.in_default.ensures.came
    (ap (λ e. received_by e.network (g.S.Surroundings.around.traffic e.around).received) c.turn_away.ensures.rest
    ∙ still_over c.handed_over.new.self.network c.read_socket.new.self.network _ _ (c.handed_over.ensures.spoilt ∙ c.requires)
    (ap (λ e. e.network) c.read_socket.ensures.rest))

pub returns-then-not-hears-clause-counts : goal.returns-then-not-hears-clause-counts
returns-then-not-hears-clause-counts g c =
    read_behind_others _ c.args.admission.now _ _ _ _ _ None _ _ c.requires c.handed_over.ensures.read c.handed_over.ensures.faults c.read_socket.ensures.counts
    (ap (λ e. e.read) c.turn_away.ensures.rest) (ap (λ e. e.faults) c.turn_away.ensures.rest)

pub returns-then-not-hears-clause-turn : goal.returns-then-not-hears-clause-turn
returns-then-not-hears-clause-turn g c = (
  ap (λ e. e.now) c.turn_away.ensures.rest ∙ ap (λ e. e.now) c.read_socket.ensures.rest ∙ c.handed_over.ensures.turn.0,
  ap (λ e. e.is_offering) c.turn_away.ensures.rest ∙ ap (λ e. e.is_offering) c.read_socket.ensures.rest ∙ c.handed_over.ensures.turn.1,
)

pub returns-in_err-source-clause-tally : goal.returns-in_err-source-clause-tally
returns-in_err-source-clause-tally g c =
    rw (c.from_residual.ensures) (found_between _ _ _ _ _ refl c.in_default.ensures.tally (ap (λ e. e.journal.tally.value) c.read_socket.ensures.rest))

pub returns-then-not-hears-clause-tally : goal.returns-then-not-hears-clause-tally
returns-then-not-hears-clause-tally g c =
    found_behind _ _ _ _ (found_between _ _ _ _ _ refl c.in_default.ensures.tally (ap (λ e. e.journal.tally.value) c.read_socket.ensures.rest))
    (strange_found _ _ _ _ c.turn_away.ensures.noted)

pub returns-in_err-source-clause-handed : goal.returns-in_err-source-clause-handed
returns-in_err-source-clause-handed g c =
    handed_still g.S.Surroundings.around.traffic c.handed_over.new.self c.read_socket.new.self (ap (λ e. e.network) c.read_socket.ensures.rest) c.read_socket.ensures.sent ∙ c.handed_over.ensures.handed

pub returns-then-not-hears-clause-handed : goal.returns-then-not-hears-clause-handed
returns-then-not-hears-clause-handed g c =
    ap (λ e. handed_by e.network (g.S.Surroundings.around.traffic e.around).sent) c.turn_away.ensures.rest
    ∙ handed_still g.S.Surroundings.around.traffic c.handed_over.new.self c.read_socket.new.self (ap (λ e. e.network) c.read_socket.ensures.rest) c.read_socket.ensures.sent ∙ c.handed_over.ensures.handed

pub returns-then-not-hears-clause-refused : goal.returns-then-not-hears-clause-refused
returns-then-not-hears-clause-refused g c =
    ap (λ e. e.faults.refused) c.turn_away.ensures.rest ∙ c.read_socket.ensures.refused ∙ ap (λ faults. faults.refused) c.handed_over.ensures.faults

-- what was looked for

pub returns-in-Some-clause-looks : goal.returns-in-Some-clause-looks
returns-in-Some-clause-looks g c = inl (refl, c.in-Some.ensures.hands)

pub returns-in_err-source-clause-looks : goal.returns-in_err-source-clause-looks
returns-in_err-source-clause-looks g c = inr (record {
  before = c.handed_over.new.self;
  after = c.read_socket.new.self;
  found = None;
  first = c.handed_over.new.room;
  front = c.read_socket.new.room;
  whole = refl;
  none = c.in_default.ensures.hands;
  looked = c.in_err-source.ensures.counts;
  only = c.read_socket.ensures.rest;
  takes = (c.from_residual.ensures, refl);
})

pub returns-then-not-hears-clause-looks : goal.returns-then-not-hears-clause-looks
returns-then-not-hears-clause-looks g c = inr (record {
  before = c.handed_over.new.self;
  after = c.read_socket.new.self;
  found = Some (c.in_ok-source.source, c.in_ok-source.len);
  first = c.handed_over.new.room;
  front = c.read_socket.new.room;
  whole = refl;
  none = c.in_default.ensures.hands;
  looked = c.in_ok-source.ensures.counts;
  only = c.read_socket.ensures.rest;
  takes = strange_goes g.S.Surroundings.around.sends c.args.admission.now (is_heard c.args.admission.now c.in_ok-source.source) c.in_ok-source.source _ _
      c.read_socket.new.self c.turn_away.new.self (sym c.hears.ensures ∙ c.if-not-hears.true) c.turn_away.ensures.noted c.turn_away.ensures.rest;
})

-- the network loses what the socket gave

pub returns-then-is_lost-clause-came : goal.returns-then-is_lost-clause-came
returns-then-is_lost-clause-came g c =
    hears_past_a_look c.args.admission.now c.handed_over.new.self.network c.read_socket.new.self.network _ _ _ _ _
    (c.handed_over.ensures.spoilt ∙ c.requires) (ap (λ e. e.network) c.read_socket.ensures.rest) c.in_default.ensures.came
    (hears_none c.args.admission.now _ _ c.is_lost.ensures.received)

pub returns-then-is_lost-clause-handed : goal.returns-then-is_lost-clause-handed
returns-then-is_lost-clause-handed g c =
    c.is_lost.ensures.handed
    ∙ handed_still g.S.Surroundings.around.traffic c.handed_over.new.self c.read_socket.new.self (ap (λ e. e.network) c.read_socket.ensures.rest)
    c.read_socket.ensures.sent
    ∙ c.handed_over.ensures.handed

pub returns-then-is_lost-clause-refused : goal.returns-then-is_lost-clause-refused
returns-then-is_lost-clause-refused g c =
    ap (λ e. e.faults.refused) c.is_lost.ensures.rest ∙ c.read_socket.ensures.refused
    ∙ ap (λ faults. faults.refused) c.handed_over.ensures.faults

pub returns-then-is_lost-clause-counts : goal.returns-then-is_lost-clause-counts
returns-then-is_lost-clause-counts g c =
    read_behind_others _ c.args.admission.now _ _ _ _ _ None _ _ c.requires c.handed_over.ensures.read c.handed_over.ensures.faults
    c.read_socket.ensures.counts (ap (λ e. e.read) c.is_lost.ensures.rest) (ap (λ e. e.faults) c.is_lost.ensures.rest)

pub returns-then-is_lost-clause-turn : goal.returns-then-is_lost-clause-turn
returns-then-is_lost-clause-turn g c = (
  ap (λ e. e.now) c.is_lost.ensures.rest ∙ ap (λ e. e.now) c.read_socket.ensures.rest ∙ c.handed_over.ensures.turn.0,
  ap (λ e. e.is_offering) c.is_lost.ensures.rest ∙ ap (λ e. e.is_offering) c.read_socket.ensures.rest ∙ c.handed_over.ensures.turn.1,
)

pub returns-then-is_lost-clause-tally : goal.returns-then-is_lost-clause-tally
returns-then-is_lost-clause-tally g c =
    found_between _ _ _ _ _ refl c.in_default.ensures.tally
    (tally_of _ _ c.untaken.ensures.rest ∙ ap (λ e. e.journal.tally.value) c.is_lost.ensures.rest
    ∙ ap (λ e. e.journal.tally.value) c.read_socket.ensures.rest)

pub returns-then-is_lost-clause-looks : goal.returns-then-is_lost-clause-looks
returns-then-is_lost-clause-looks g c = inr (record {
  before = c.handed_over.new.self;
  after = c.read_socket.new.self;
  found = Some (c.in_ok-source.source, c.in_ok-source.len);
  first = c.handed_over.new.room;
  front = c.read_socket.new.room;
  whole = refl;
  none = c.in_default.ensures.hands;
  looked = c.in_ok-source.ensures.counts;
  only = c.read_socket.ensures.rest;
  takes = heard_goes g.S.Surroundings.around.sends c.args.admission.now (is_heard c.args.admission.now c.in_ok-source.source) c.in_ok-source.source
      (take c.in_ok-source.len c.read_socket.new.room) None c.read_socket.new.room c.read_socket.new.self
      (record c.is_lost.new.self { journal = c.untaken.new.self }) (sym c.hears.ensures ∙ c.if-not-hears.false)
      (record {
        lost = true;
        offered = c.is_lost.new.self;
        offers = rw (c.if-is_lost.true) at c.is_lost.ensures.lost;
        only = c.is_lost.ensures.rest;
        behind = (
          refl,
          lost_noted c.is_lost.new.self c.untaken.new.self c.untaken.ensures.rest,
          c.untaken.ensures.logged,
        );
      });
})

-- or hands out what is due

pub returns-clause-came : goal.returns-clause-came
returns-clause-came g c =
    hears_past_a_look c.args.admission.now c.handed_over.new.self.network c.read_socket.new.self.network _ _ _ _ _
    (c.handed_over.ensures.spoilt ∙ c.requires) (ap (λ e. e.network) c.read_socket.ensures.rest) c.in_default.ensures.came
    (hears_after c.args.admission.now _ _ _ _ c.is_lost.ensures.received c.handed_over-2.ensures.came)

pub returns-clause-handed : goal.returns-clause-handed
returns-clause-handed g c =
    c.handed_over-2.ensures.handed ∙ c.is_lost.ensures.handed
    ∙ handed_still g.S.Surroundings.around.traffic c.handed_over.new.self c.read_socket.new.self (ap (λ e. e.network) c.read_socket.ensures.rest)
    c.read_socket.ensures.sent
    ∙ c.handed_over.ensures.handed

pub returns-clause-refused : goal.returns-clause-refused
returns-clause-refused g c =
    ap (λ faults. faults.refused) c.handed_over-2.ensures.faults ∙ ap (λ e. e.faults.refused) c.is_lost.ensures.rest
    ∙ c.read_socket.ensures.refused ∙ ap (λ faults. faults.refused) c.handed_over.ensures.faults

pub returns-clause-counts : goal.returns-clause-counts
returns-clause-counts g c =
    read_behind_others _ c.args.admission.now _ _ _ _ _ _ _ _ c.requires c.handed_over.ensures.read c.handed_over.ensures.faults
    c.read_socket.ensures.counts (c.handed_over-2.ensures.read ∙ ap (λ e. e.read) c.is_lost.ensures.rest)
    (c.handed_over-2.ensures.faults ∙ ap (λ e. e.faults) c.is_lost.ensures.rest)

pub returns-clause-turn : goal.returns-clause-turn
returns-clause-turn g c = (
  c.handed_over-2.ensures.turn.0 ∙ ap (λ e. e.now) c.is_lost.ensures.rest ∙ ap (λ e. e.now) c.read_socket.ensures.rest
      ∙ c.handed_over.ensures.turn.0,
  c.handed_over-2.ensures.turn.1 ∙ ap (λ e. e.is_offering) c.is_lost.ensures.rest ∙ ap (λ e. e.is_offering) c.read_socket.ensures.rest
      ∙ c.handed_over.ensures.turn.1,
)

pub returns-clause-tally : goal.returns-clause-tally
returns-clause-tally g c =
    found_behind _ _ _ _
    (found_between _ _ _ _ _ refl c.in_default.ensures.tally
    (ap (λ e. e.journal.tally.value) c.is_lost.ensures.rest ∙ ap (λ e. e.journal.tally.value) c.read_socket.ensures.rest))
    c.handed_over-2.ensures.tally

pub returns-clause-looks : goal.returns-clause-looks
returns-clause-looks g c = inr (record {
  before = c.handed_over.new.self;
  after = c.read_socket.new.self;
  found = Some (c.in_ok-source.source, c.in_ok-source.len);
  first = c.handed_over.new.room;
  front = c.read_socket.new.room;
  whole = sym c.handed_over-2.ensures.length;
  none = c.in_default.ensures.hands;
  looked = c.in_ok-source.ensures.counts;
  only = c.read_socket.ensures.rest;
  takes = heard_goes g.S.Surroundings.around.sends c.args.admission.now (is_heard c.args.admission.now c.in_ok-source.source) c.in_ok-source.source
      (take c.in_ok-source.len c.read_socket.new.room) c.handed_over-2.result c.handed_over-2.new.room c.read_socket.new.self
      c.handed_over-2.new.self (sym c.hears.ensures ∙ c.if-not-hears.false)
      (record {
        lost = false;
        offered = c.is_lost.new.self;
        offers = rw (c.if-is_lost.false) at c.is_lost.ensures.lost;
        only = c.is_lost.ensures.rest;
        behind = c.handed_over-2.ensures.hands;
      });
})

-- what is so of each by the calls before it

pub returns-in-Some-clause-length : goal.returns-in-Some-clause-length
returns-in-Some-clause-length g c = c.handed_over.ensures.length

pub returns-in-Some-clause-within : goal.returns-in-Some-clause-within
returns-in-Some-clause-within g c = c.in-Some.ensures.within

pub returns-in-Some-clause-admitted : goal.returns-in-Some-clause-admitted
returns-in-Some-clause-admitted g c = c.in-Some.ensures.admitted

pub returns-in-Some-clause-handed : goal.returns-in-Some-clause-handed
returns-in-Some-clause-handed g c = c.handed_over.ensures.handed

pub returns-in-Some-clause-refused : goal.returns-in-Some-clause-refused
returns-in-Some-clause-refused g c = ap (λ faults. faults.refused) c.handed_over.ensures.faults

pub returns-in-Some-clause-turn : goal.returns-in-Some-clause-turn
returns-in-Some-clause-turn g c = c.handed_over.ensures.turn

pub returns-in-Some-clause-came : goal.returns-in-Some-clause-came
returns-in-Some-clause-came g c = c.in-Some.ensures.came

pub returns-in-Some-clause-tally : goal.returns-in-Some-clause-tally
returns-in-Some-clause-tally g c = c.in-Some.ensures.tally

pub returns-in_err-source-clause-length : goal.returns-in_err-source-clause-length
returns-in_err-source-clause-length g c = c.read_socket.ensures.length ∙ c.handed_over.ensures.length

pub returns-in_err-source-clause-within : goal.returns-in_err-source-clause-within
returns-in_err-source-clause-within g c = rw (c.from_residual.ensures) tt

pub returns-in_err-source-clause-admitted : goal.returns-in_err-source-clause-admitted
returns-in_err-source-clause-admitted g c = rw (c.from_residual.ensures) tt

pub returns-in_err-source-clause-refused : goal.returns-in_err-source-clause-refused
returns-in_err-source-clause-refused g c = c.read_socket.ensures.refused ∙ ap (λ faults. faults.refused) c.handed_over.ensures.faults

pub returns-then-not-hears-clause-length : goal.returns-then-not-hears-clause-length
returns-then-not-hears-clause-length g c = c.read_socket.ensures.length ∙ c.handed_over.ensures.length

pub returns-then-not-hears-clause-within : goal.returns-then-not-hears-clause-within
returns-then-not-hears-clause-within g c = tt

pub returns-then-not-hears-clause-admitted : goal.returns-then-not-hears-clause-admitted
returns-then-not-hears-clause-admitted g c = tt

pub returns-then-is_lost-clause-length : goal.returns-then-is_lost-clause-length
returns-then-is_lost-clause-length g c = c.read_socket.ensures.length ∙ c.handed_over.ensures.length

pub returns-then-is_lost-clause-within : goal.returns-then-is_lost-clause-within
returns-then-is_lost-clause-within g c = tt

pub returns-then-is_lost-clause-admitted : goal.returns-then-is_lost-clause-admitted
returns-then-is_lost-clause-admitted g c = tt

pub returns-clause-length : goal.returns-clause-length
returns-clause-length g c = c.handed_over-2.ensures.length ∙ c.read_socket.ensures.length ∙ c.handed_over.ensures.length

pub returns-clause-within : goal.returns-clause-within
returns-clause-within g c = c.handed_over-2.ensures.within

pub returns-clause-admitted : goal.returns-clause-admitted
returns-clause-admitted g c = c.handed_over-2.ensures.admitted
