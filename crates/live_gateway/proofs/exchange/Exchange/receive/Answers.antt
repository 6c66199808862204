use Rattle.std.proofs.Common.{None, Some, inl, refl, sym, ◌∙◌, ap}
use Rattle.live_gateway.specs.Admitting.{is_heard}
use Rattle.live_gateway.specs.Exchanging.{handed_by, received_by}
use Rattle.live_gateway.proofs.ArrivalLemmas.{found_none, found_between, arrival_found, arrival_strange, heard_looked, strange_looked}
use Rattle.live_gateway.proofs.HearingLemmas.{heard_still, hears_nothing, hears_one, passes_over}
use Rattle.live_gateway.proofs.CountingLemmas.{looked_before, heard_given, strange_kept}
use Rattle.live_gateway.proofs.PassingLemmas.{heard_gives, strange_gives, handed_still, looks_here, looks_over}
use Rattle.live_gateway.proofs.exchange.Exchange.receive.Goals as goal

pub returns-in_err-source-clause-came : goal.returns-in_err-source-clause-came
returns-in_err-source-clause-came g c =
    rw (c.from_residual.ensures)
    (hears_nothing c.args.admission.now c.args.self.now.network c.read_socket.new.self.network _ _ (sym c.is_some.ensures ∙ c.if-is_some.false) (ap (λ e. e.network) c.read_socket.ensures.rest)
    c.in_err-source.ensures.received)

pub returns-then-come-clause-came : goal.returns-then-come-clause-came
returns-then-come-clause-came g c =
    heard_still c.args.admission.now _ _ _ _
    (hears_one c.args.admission.now c.args.self.now.network c.read_socket.new.self.network _ _ _ _ _ (sym c.is_some.ensures ∙ c.if-is_some.false) (ap (λ e. e.network) c.read_socket.ensures.rest)
    c.in_ok-source.ensures.received (sym c.come.ensures.heard ∙ c.if-come.true))
    (ap (λ e. received_by e.network (g.S.Surroundings.around.traffic e.around).received) c.come.ensures.rest)

pub returns-in_err-source-clause-counts : goal.returns-in_err-source-clause-counts
returns-in_err-source-clause-counts g c =
    inl (sym c.is_some.ensures ∙ c.if-is_some.false, (None, c.in_err-source.ensures.counts, c.from_residual.ensures, ap (λ e. e.journal.tally.value) c.read_socket.ensures.rest))

pub returns-then-come-clause-counts : goal.returns-then-come-clause-counts
returns-then-come-clause-counts g c =
    inl (
      sym c.is_some.ensures ∙ c.if-is_some.false,
      (
        Some (c.in_ok-source.source, c.in_ok-source.len),
        looked_before _ _ _ _ _ _ c.in_ok-source.ensures.counts (ap (λ e. e.around) c.come.ensures.rest)
            (ap (λ e. e.read) c.come.ensures.rest) (ap (λ e. e.faults) c.come.ensures.rest),
        heard_given c.args.admission.now (c.in_ok-source.source, c.in_ok-source.len) (sym c.come.ensures.heard ∙ c.if-come.true),
        heard_looked c.args.admission.now _ _ _ _ (c.in_ok-source.source, c.in_ok-source.len)
            (ap (λ e. e.journal) c.read_socket.ensures.rest) c.come.ensures.noted
            (sym c.come.ensures.heard ∙ c.if-come.true),
      ),
    )

pub returns-then-come-clause-turn : goal.returns-then-come-clause-turn
returns-then-come-clause-turn g c =
    (ap (λ e. e.now) c.come.ensures.rest ∙ ap (λ e. e.now) c.read_socket.ensures.rest, ap (λ e. e.is_offering) c.come.ensures.rest ∙ ap (λ e. e.is_offering) c.read_socket.ensures.rest)

pub returns-clause-came : goal.returns-clause-came
returns-clause-came g c =
    heard_still c.args.admission.now _ _ _ _
    (passes_over c.args.admission.now c.args.self.now.network c.read_socket.new.self.network _ _ _ _ _ (sym c.is_some.ensures ∙ c.if-is_some.false) (ap (λ e. e.network) c.read_socket.ensures.rest)
    c.in_ok-source.ensures.received (sym c.come.ensures.heard ∙ c.if-come.false))
    (ap (λ e. received_by e.network (g.S.Surroundings.around.traffic e.around).received) c.come.ensures.rest)

pub returns-clause-counts : goal.returns-clause-counts
returns-clause-counts g c =
    inl (
      sym c.is_some.ensures ∙ c.if-is_some.false,
      (
        Some (c.in_ok-source.source, c.in_ok-source.len),
        looked_before _ _ _ _ _ _ c.in_ok-source.ensures.counts (ap (λ e. e.around) c.come.ensures.rest)
            (ap (λ e. e.read) c.come.ensures.rest) (ap (λ e. e.faults) c.come.ensures.rest),
        strange_kept c.args.admission.now (c.in_ok-source.source, c.in_ok-source.len) (sym c.come.ensures.heard ∙ c.if-come.false),
        strange_looked c.args.admission.now _ _ _ _ (c.in_ok-source.source, c.in_ok-source.len)
            (ap (λ e. e.journal) c.read_socket.ensures.rest) c.come.ensures.noted
            (sym c.come.ensures.heard ∙ c.if-come.false),
      ),
    )

pub returns-clause-turn : goal.returns-clause-turn
returns-clause-turn g c =
    (ap (λ e. e.now) c.come.ensures.rest ∙ ap (λ e. e.now) c.read_socket.ensures.rest, ap (λ e. e.is_offering) c.come.ensures.rest ∙ ap (λ e. e.is_offering) c.read_socket.ensures.rest)

pub returns-in_err-source-clause-tally : goal.returns-in_err-source-clause-tally
returns-in_err-source-clause-tally g c = rw (c.from_residual.ensures) (found_none _ _ (ap (λ e. e.journal.tally.value) c.read_socket.ensures.rest))

pub returns-then-come-clause-tally : goal.returns-then-come-clause-tally
returns-then-come-clause-tally g c =
    found_between _ _ _ _ _ (ap (λ e. e.journal.tally.value) c.read_socket.ensures.rest)
    (arrival_found _ _ _ _ _ _ c.come.ensures.noted (sym c.come.ensures.heard ∙ c.if-come.true)) refl

pub returns-clause-tally : goal.returns-clause-tally
returns-clause-tally g c =
    found_between _ _ _ _ _ (ap (λ e. e.journal.tally.value) c.read_socket.ensures.rest)
    (arrival_strange _ _ _ _ _ c.come.ensures.noted (sym c.come.ensures.heard ∙ c.if-come.false)) refl

pub returns-in_err-source-clause-handed : goal.returns-in_err-source-clause-handed
returns-in_err-source-clause-handed g c =
    handed_still g.S.Surroundings.around.traffic c.args.self.now c.read_socket.new.self (ap (λ e. e.network) c.read_socket.ensures.rest) c.read_socket.ensures.sent

pub returns-in_err-source-clause-turn : goal.returns-in_err-source-clause-turn
returns-in_err-source-clause-turn g c = (ap (λ e. e.now) c.read_socket.ensures.rest, ap (λ e. e.is_offering) c.read_socket.ensures.rest)

pub returns-in_err-source-clause-looks : goal.returns-in_err-source-clause-looks
returns-in_err-source-clause-looks g c =
    looks_here g.S.Surroundings.around c.args.admission.now c.from_residual.result c.read_socket.new.room c.args.self.now c.read_socket.new.self
    (sym c.is_some.ensures ∙ c.if-is_some.false)
    (record {
      after = c.read_socket.new.self;
      found = None;
      looked = c.in_err-source.ensures.counts;
      only = c.read_socket.ensures.rest;
      gives = (c.from_residual.ensures, refl);
    })

pub returns-then-come-clause-handed : goal.returns-then-come-clause-handed
returns-then-come-clause-handed g c =
    ap (λ e. handed_by e.network (g.S.Surroundings.around.traffic e.around).sent) c.come.ensures.rest
    ∙ handed_still g.S.Surroundings.around.traffic c.args.self.now c.read_socket.new.self (ap (λ e. e.network) c.read_socket.ensures.rest) c.read_socket.ensures.sent

pub returns-then-come-clause-refused : goal.returns-then-come-clause-refused
returns-then-come-clause-refused g c = ap (λ e. e.faults.refused) c.come.ensures.rest ∙ c.read_socket.ensures.refused

pub returns-then-come-clause-looks : goal.returns-then-come-clause-looks
returns-then-come-clause-looks g c =
    let may = sym c.come.ensures.heard ∙ c.if-come.true in
    looks_here g.S.Surroundings.around c.args.admission.now (Some (c.in_ok-source.source, c.in_ok-source.len)) c.read_socket.new.room c.args.self.now c.come.new.self
    (sym c.is_some.ensures ∙ c.if-is_some.false)
    (record {
      after = c.read_socket.new.self;
      found = Some (c.in_ok-source.source, c.in_ok-source.len);
      looked = c.in_ok-source.ensures.counts;
      only = c.read_socket.ensures.rest;
      gives = heard_gives (is_heard c.args.admission.now c.in_ok-source.source) (c.in_ok-source.source, c.in_ok-source.len) c.read_socket.new.room
          c.read_socket.new.self c.come.new.self may (c.come.ensures.received may) c.come.ensures.rest;
    })

pub returns-clause-handed : goal.returns-clause-handed
returns-clause-handed g c =
    ap (λ e. handed_by e.network (g.S.Surroundings.around.traffic e.around).sent) c.come.ensures.rest
    ∙ handed_still g.S.Surroundings.around.traffic c.args.self.now c.read_socket.new.self (ap (λ e. e.network) c.read_socket.ensures.rest) c.read_socket.ensures.sent

pub returns-clause-refused : goal.returns-clause-refused
returns-clause-refused g c = ap (λ e. e.faults.refused) c.come.ensures.rest ∙ c.read_socket.ensures.refused

pub returns-clause-looks : goal.returns-clause-looks
returns-clause-looks g c =
    let other = sym c.come.ensures.heard ∙ c.if-come.false in
    looks_here g.S.Surroundings.around c.args.admission.now None c.read_socket.new.room c.args.self.now c.come.new.self
    (sym c.is_some.ensures ∙ c.if-is_some.false)
    (record {
      after = c.read_socket.new.self;
      found = Some (c.in_ok-source.source, c.in_ok-source.len);
      looked = c.in_ok-source.ensures.counts;
      only = c.read_socket.ensures.rest;
      gives = strange_gives (is_heard c.args.admission.now c.in_ok-source.source) (c.in_ok-source.source, c.in_ok-source.len) c.read_socket.new.room
          c.read_socket.new.self c.come.new.self other (c.come.ensures.noted.strange other) c.come.ensures.rest;
    })

-- what is so of each by the calls before it

pub receive_spoilt-requires : goal.receive_spoilt-requires
receive_spoilt-requires g c = sym c.is_some.ensures ∙ c.if-is_some.true

pub returns-then-is_some-clause-length : goal.returns-then-is_some-clause-length
returns-then-is_some-clause-length g c = c.receive_spoilt.ensures.length

pub returns-then-is_some-clause-within : goal.returns-then-is_some-clause-within
returns-then-is_some-clause-within g c = c.receive_spoilt.ensures.within

pub returns-then-is_some-clause-admitted : goal.returns-then-is_some-clause-admitted
returns-then-is_some-clause-admitted g c = c.receive_spoilt.ensures.admitted

pub returns-then-is_some-clause-handed : goal.returns-then-is_some-clause-handed
returns-then-is_some-clause-handed g c = c.receive_spoilt.ensures.handed

pub returns-then-is_some-clause-refused : goal.returns-then-is_some-clause-refused
returns-then-is_some-clause-refused g c = c.receive_spoilt.ensures.refused

pub returns-then-is_some-clause-counts : goal.returns-then-is_some-clause-counts
returns-then-is_some-clause-counts g c = c.receive_spoilt.ensures.counts

pub returns-then-is_some-clause-turn : goal.returns-then-is_some-clause-turn
returns-then-is_some-clause-turn g c = c.receive_spoilt.ensures.turn

pub returns-then-is_some-clause-came : goal.returns-then-is_some-clause-came
returns-then-is_some-clause-came g c = c.receive_spoilt.ensures.came

pub returns-then-is_some-clause-tally : goal.returns-then-is_some-clause-tally
returns-then-is_some-clause-tally g c = c.receive_spoilt.ensures.tally

pub returns-then-is_some-clause-looks : goal.returns-then-is_some-clause-looks
returns-then-is_some-clause-looks g c =
    looks_over g.S.Surroundings.around c.args.admission.now c.receive_spoilt.result c.receive_spoilt.new.room c.args.self.now
    c.receive_spoilt.new.self (sym c.is_some.ensures ∙ c.if-is_some.true) c.receive_spoilt.ensures.looks

pub returns-in_err-source-clause-length : goal.returns-in_err-source-clause-length
returns-in_err-source-clause-length g c = c.read_socket.ensures.length

pub returns-in_err-source-clause-within : goal.returns-in_err-source-clause-within
returns-in_err-source-clause-within g c = rw (c.from_residual.ensures) tt

pub returns-in_err-source-clause-admitted : goal.returns-in_err-source-clause-admitted
returns-in_err-source-clause-admitted g c = rw (c.from_residual.ensures) tt

pub returns-in_err-source-clause-refused : goal.returns-in_err-source-clause-refused
returns-in_err-source-clause-refused g c = c.read_socket.ensures.refused

pub returns-then-come-clause-length : goal.returns-then-come-clause-length
returns-then-come-clause-length g c = c.read_socket.ensures.length

pub returns-then-come-clause-within : goal.returns-then-come-clause-within
returns-then-come-clause-within g c = c.in_ok-source.ensures.within

pub returns-then-come-clause-admitted : goal.returns-then-come-clause-admitted
returns-then-come-clause-admitted g c = sym c.come.ensures.heard ∙ c.if-come.true

pub returns-clause-length : goal.returns-clause-length
returns-clause-length g c = c.read_socket.ensures.length

pub returns-clause-within : goal.returns-clause-within
returns-clause-within g c = tt

pub returns-clause-admitted : goal.returns-clause-admitted
returns-clause-admitted g c = tt
