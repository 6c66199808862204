use Rattle.std.proofs.Common.{None, Some, refl, ◌∙◌, ap}
use Rattle.std.specs.Prelude.{is_ok}
use Rattle.live_io.specs.Speaking.{admitted_by}
use Rattle.live_play.specs.Coming.{Came}
use Rattle.live_gateway.specs.Desk.{Standing, at_desk}
use Rattle.live_gateway.proofs.DeskLemmas.{standing_of, counted_in, hears_nobody, hears}
use Rattle.live_gateway.proofs.HearingLemmas.{heard_still}
use Rattle.live_gateway.proofs.OverLemmas.{taken_in, refused_in}
use Rattle.live_gateway.proofs.TurningLemmas.{tries}
use Rattle.live_gateway.proofs.desk.Desk.datagram.Goals as goal

pub returns-in_default-clause-play : goal.returns-in_default-clause-play
returns-in_default-clause-play g c =
    hears_nobody g.T.Teller.told g.S.Surroundings.around.traffic _ _ c.in_default.ensures.came (rw (c.receive.ensures.handed) refl) c.receive.ensures.refused refl

pub returns-in_default-clause-looked : goal.returns-in_default-clause-looked
returns-in_default-clause-looked g c = record {
  found = None;
  room = c.receive.new.room;
  whole = c.receive.ensures.length;
  looked = c.receive.new.self;
  counts = c.in_default.ensures.counts;
  came = c.in_default.ensures.came;
  looks = c.in_default.ensures.looks;
  tried = (refl, rw (c.receive.ensures.handed) refl, c.receive.ensures.refused);
}

pub returns-clause-play : goal.returns-clause-play
returns-clause-play g c =
    let told = g.T.Teller.told in
    let traffic = g.S.Surroundings.around.traffic in
    let same = c.datagram-done.ensures.came in
    hears told traffic _ _ (standing_of told traffic c.datagram-done.new.self c.datagram-done.new.out) c.datagram-done.result c.in-Some.source _
    c.read_address.ensures c.read_bytes.ensures (heard_still c.args.self.now.admission _ _ _ _ c.in-Some.ensures.came (ap (λ (x : Came). x.received) same))
    (rw (c.receive.ensures.handed) at c.datagram-done.ensures.taken)
    (rw (c.receive.ensures.handed) at c.datagram-done.ensures.refused)
    (ap (λ (x : Came). x.refused) same ∙ c.receive.ensures.refused)
    (counted_in told traffic c.datagram-done.new.self c.datagram-done.new.out c.note_datagram.new.exchange c.note_taken.new.exchange _ _ _ _ _ _
    (rw (c.is_ok-is_taken.ensures.value) at c.note_datagram.ensures) (rw (c.is_ok-is_taken.ensures.value) at c.note_taken.ensures))
    refl

pub returns-clause-looked : goal.returns-clause-looked
returns-clause-looked g c =
    let told = g.T.Teller.told in
    let traffic = g.S.Surroundings.around.traffic in
    let same = c.datagram-done.ensures.came in
    let says = rw (c.is_ok-is_taken.ensures.value, c.outcomes.ensures.kept, c.deref.ensures) at c.note_datagram.ensures in
    let notes = rw (c.is_ok-is_taken.ensures.value, c.sent.ensures.kept, c.deref-2.ensures) at c.note_taken.ensures in
    let noted = counted_in told traffic c.datagram-done.new.self c.datagram-done.new.out c.note_datagram.new.exchange c.note_taken.new.exchange
    (is_ok c.datagram-done.result) _ _ _ _ _ says notes in
    record {
      found = Some (c.in-Some.source, c.in-Some.len);
      room = c.receive.new.room;
      whole = c.receive.ensures.length;
      looked = c.receive.new.self;
      counts = c.in-Some.ensures.counts;
      came = c.in-Some.ensures.came;
      looks = c.in-Some.ensures.looks;
      tried = (
        c.in-Some.ensures.admitted,
        ap (λ (s : Standing). s.came.received) noted ∙ ap (λ (x : Came). x.received) same,
        tries g.S.Surroundings.around.sends (admitted_by c.args.self.now.admission.speakers) _ _ c.datagram-done.result (at_desk told traffic c.args.self.now)
            (standing_of told traffic c.datagram-done.new.self c.datagram-done.new.out) _
            c.receive.new.self c.datagram-done.new.out c.note_taken.new.exchange
            (rw (c.receive.ensures.handed) at c.datagram-done.ensures.outlet)
            c.datagram-done.ensures.untouched
            (rw (c.receive.ensures.handed) at c.datagram-done.ensures.refused)
            (taken_in c.datagram-done.result _ _ _ c.datagram-done.new.self.gateway.value c.datagram-done.new.out c.note_datagram.new.exchange _ says
            notes)
            (refused_in c.datagram-done.result _ _ _ _ _ c.datagram-done.new.out c.note_datagram.new.exchange _ says notes)
            (ap (λ (x : Came). x.refused) same ∙ c.receive.ensures.refused)
            noted
            c.datagram-done.ensures.ends,
      );
    }

pub returns-clause-changes : goal.returns-clause-changes
returns-clause-changes g c = rw (c.is_ok-is_taken.ensures.value) c.datagram-done.ensures.changes
