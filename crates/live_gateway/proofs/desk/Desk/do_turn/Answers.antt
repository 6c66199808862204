use Rattle.std.proofs.Common.{◌≡◌, ℕ, [], false, refl, ◌∙◌, ap, subst, sym}
use Rattle.std.specs.Prelude.{not}
use Rattle.gateway_core.specs.GatewayState.{GatewayState}
use Rattle.plain_machine.specs.Event.{tick}
use Rattle.live_io.specs.Speaking.{admitted_by}
use Rattle.traces.specs.Writing.{passed}
use Rattle.output_queues.specs.declared.now.Now.{Now}
use Rattle.live_play.specs.Coming.{Came}
use Rattle.live_gateway.specs.Desk.{at_desk}
use Rattle.live_gateway.specs.Exchanging.{Waits}
use Rattle.live_gateway.proofs.DeskLemmas.{standing_of, changes_still, begun_live, begun_came, between, counted_by, ticks, stays_so, waited_same}
use Rattle.live_gateway.proofs.FrameLemmas.{made_of, heard_alone, heard_same, page_same, with_exchange, visit_same}
use Rattle.live_gateway.proofs.OverLemmas.{same_now, taken_quietly, refused_quietly, noted_of, noted_now}
use Rattle.live_gateway.proofs.TurningLemmas.{tries, takes_from, taken_from, refused_from, tries_begun}
use Rattle.live_gateway.proofs.desk.Desk.do_turn.Goals as goal

pub returns-in-Tick-clause-play : goal.returns-in-Tick-clause-play
returns-in-Tick-clause-play g c =
    let told = g.T.Teller.told in
    let traffic = g.S.Surroundings.around.traffic in
    let to = c.in-Tick.moment in
    let may = c.requires to c.in-Tick.is in
    let here = begun_live told traffic c.args.self.now.play c.args.self.now.exchange c.begin.new.self c.begin.ensures.network c.begin.ensures.around in
    ticks told traffic _ _ (standing_of told traffic c.tick-done.new.self c.tick-done.new.out) c.tick-done.result to may.0
    (taken_from c.tick-done.result (passed to) (tick to) _ _ _ here c.tick-done.ensures.taken)
    (refused_from c.tick-done.result _ _ _ here c.tick-done.ensures.refused)
    may.1
    (c.tick-done.ensures.came
    ∙ begun_came traffic c.args.self.now.exchange c.begin.new.self c.begin.ensures.network c.begin.ensures.around c.begin.ensures.faults)
    (counted_by told traffic c.tick-done.new.self c.tick-done.new.out c.note_taken.new.exchange _ _ _
    (noted_of _ _ _ _ _ _ _ c.is_ok-is_taken.ensures.value refl c.note_taken.ensures))
    refl

pub returns-in-Tick-clause-does : goal.returns-in-Tick-clause-does
returns-in-Tick-clause-does g c =
    let told = g.T.Teller.told in
    let traffic = g.S.Surroundings.around.traffic in
    let sends = g.S.Surroundings.around.sends in
    let to = c.in-Tick.moment in
    let notes = noted_of _ _ _ _ _ _ _ c.is_ok-is_taken.ensures.value
    (c.sent.ensures.kept ∙ ap (λ (gateway : GatewayState). gateway.account.sent) c.deref.ensures) c.note_taken.ensures in
    let here = begun_live told traffic c.args.self.now.play c.args.self.now.exchange c.begin.new.self c.begin.ensures.network c.begin.ensures.around in
    rw (c.in-Tick.is)
    (tries_begun sends (admitted_by c.args.self.now.admission.speakers) (passed to) (tick to) (at_desk told traffic c.args.self.now)
    (standing_of told traffic c.tick-done.new.self c.note_taken.new.exchange) c.args.self.now.exchange c.begin.new.self c.note_taken.new.exchange
    (made_of c.begin.new.self _ _ _ _ _ _ _ c.begin.ensures.around c.begin.ensures.network c.begin.ensures.journal refl c.begin.ensures.read
    c.begin.ensures.faults c.begin.ensures.offering)
    (noted_now _ _ _ _ _ c.note_taken.ensures
    ∙ same_now sends c.tick-done.result _ c.begin.new.self c.tick-done.new.out _ _ _ c.tick-done.ensures.outlet c.tick-done.ensures.untouched)
    (tries sends (admitted_by c.args.self.now.admission.speakers) (passed to) (tick to) c.tick-done.result
    (at_desk told traffic c.args.self.now) (standing_of told traffic c.tick-done.new.self c.tick-done.new.out) _ c.begin.new.self c.tick-done.new.out c.note_taken.new.exchange
    (takes_from sends (passed to) (tick to) c.tick-done.result _ _ _ c.begin.new.self c.tick-done.new.out here c.tick-done.ensures.outlet)
    c.tick-done.ensures.untouched
    (refused_from c.tick-done.result _ _ _ here c.tick-done.ensures.refused)
    (taken_quietly c.tick-done.result _ (tick to) c.tick-done.new.self.gateway.value c.tick-done.new.out _ (λ log. refl) notes)
    (refused_quietly c.tick-done.result _ (tick to) _ c.tick-done.new.out _ (λ log. refl) notes)
    (ap (λ (x : Came). x.refused) (c.tick-done.ensures.came
    ∙ begun_came traffic c.args.self.now.exchange c.begin.new.self c.begin.ensures.network c.begin.ensures.around c.begin.ensures.faults))
    (counted_by told traffic c.tick-done.new.self c.tick-done.new.out c.note_taken.new.exchange _ _ _ notes)
    c.tick-done.ensures.ends))

pub returns-in-Command-clause-play : goal.returns-in-Command-clause-play
returns-in-Command-clause-play g c =
    between g.T.Teller.told g.S.Surroundings.around.traffic _ _ _ _
    c.take_line-is_taken.ensures.play
    (heard_same g.T.Teller.told g.S.Surroundings.around.traffic c.args.self.now c.hear.new.self c.hear.new.lines c.hear.ensures.rest c.hear.ensures.traffic)
    refl
    (page_same g.T.Teller.told g.S.Surroundings.around.traffic g.S.Surroundings.around.tells (not c.args.self.now.is_of_page) false c.take_line-is_taken.new.self
    (record c.take_line-is_taken.new.self {
      exchange = c.take_from_page-self.new.exchange;
      lines = c.take_from_page-self.new.lines;
      is_of_page = c.take_from_page-self.result;
    })
    (record {
      asked = c.take_from_page-self.ensures.took.0;
      asks = c.take_from_page-self.ensures.took.1;
      rest = refl;
      shown = c.take_from_page-self.ensures.shown;
      took = c.take_from_page-self.ensures.took.2;
    })).0
    refl

pub returns-in-Command-clause-does : goal.returns-in-Command-clause-does
returns-in-Command-clause-does g c = rw (c.in-Command.is) (record {
  heard = record c.args.self.now { exchange = c.hear.new.self; lines = c.hear.new.lines };
  done = c.take_line-is_taken.new.self;
  taken = c.hear.ensures.heard.0;
  hearing = c.hear.ensures.heard.1;
  before = with_exchange (record c.args.self.now { lines = c.hear.new.lines }) _ _
      (heard_alone c.args.self.now.exchange c.hear.new.self _ c.hear.ensures.rest c.hear.ensures.heard.2);
  kept = c.hear.ensures.traffic;
  line = c.take_line-is_taken.ensures.line;
  behind = record {
    asked = c.take_from_page-self.ensures.took.0;
    asks = c.take_from_page-self.ensures.took.1;
    rest = refl;
    shown = c.take_from_page-self.ensures.shown;
    took = c.take_from_page-self.ensures.took.2;
  };
})

pub returns-in-Datagram-clause-play : goal.returns-in-Datagram-clause-play
returns-in-Datagram-clause-play g c = c.datagram.ensures.play

pub returns-in-Datagram-clause-does : goal.returns-in-Datagram-clause-does
returns-in-Datagram-clause-does g c = rw (c.in-Datagram.is) c.datagram.ensures.looked

pub returns-in-Visit-clause-play : goal.returns-in-Visit-clause-play
returns-in-Visit-clause-play g c =
    let same = visit_same g.T.Teller.told g.S.Surroundings.around _ _ _ _ _ _ c.visit.ensures in
    stays_so g.T.Teller.told g.S.Surroundings.around.traffic _ _ same.0 same.1

pub returns-in-Visit-clause-does : goal.returns-in-Visit-clause-does
returns-in-Visit-clause-does g c = rw (c.in-Visit.is) (visit_same g.T.Teller.told g.S.Surroundings.around _ _ _ _ _ _ c.visit.ensures).0

-- what stays as it was

pub returns-in-End-clause-leaves : goal.returns-in-End-clause-leaves
returns-in-End-clause-leaves g c = rw (c.in-End.is) (refl, refl)

pub returns-in-Look-clause-leaves : goal.returns-in-Look-clause-leaves
returns-in-Look-clause-leaves g c =
    rw (c.in-Look.is) (record { waited = c.wait.ensures.waited; rest = with_exchange c.args.self.now _ _ c.wait.ensures.rest }, refl)

pub returns-in-Wait-clause-leaves : goal.returns-in-Wait-clause-leaves
returns-in-Wait-clause-leaves g c =
    rw (c.in-Wait.is) (
      record {
        waited = subst (λ (n : ℕ). Waits g.S.Surroundings.around.sleeps n c.args.self.now.exchange c.wait-in-Wait.new.self)
            c.saturating_sub.ensures c.wait-in-Wait.ensures.waited;
        rest = with_exchange c.args.self.now _ _ c.wait-in-Wait.ensures.rest;
      },
      refl,
    )

pub returns-in-Tick-clause-leaves : goal.returns-in-Tick-clause-leaves
returns-in-Tick-clause-leaves g c =
    let same : c.note_taken.new.exchange.now ≡ c.begin.new.self.now =
    noted_now _ _ _ _ _ c.note_taken.ensures
    ∙ same_now g.S.Surroundings.around.sends c.tick-done.result _ c.begin.new.self c.tick-done.new.out _ _ _ c.tick-done.ensures.outlet c.tick-done.ensures.untouched in
    rw (c.in-Tick.is) (
      (
        refl,
        ap (λ (n : Now). n.clock) same ∙ c.begin.ensures.clock,
        subst (λ (n : Now). g.S.Surroundings.around.dates c.args.self.now.exchange.around n.time) (sym same) c.begin.ensures.time,
      ),
      refl,
    )

pub returns-in-Command-clause-leaves : goal.returns-in-Command-clause-leaves
returns-in-Command-clause-leaves g c = rw (c.in-Command.is) (c.take_line-is_taken.ensures.play.admission, c.take_line-is_taken.ensures.schedule, refl)

pub returns-in-Datagram-clause-leaves : goal.returns-in-Datagram-clause-leaves
returns-in-Datagram-clause-leaves g c = rw (c.in-Datagram.is) (c.datagram.ensures.rest, refl)

pub returns-in-Visit-clause-leaves : goal.returns-in-Visit-clause-leaves
returns-in-Visit-clause-leaves g c = rw (c.in-Visit.is) c.visit.ensures

pub returns-in-Note-clause-leaves : goal.returns-in-Note-clause-leaves
returns-in-Note-clause-leaves g c = rw (c.in-Note.is) ((refl, rw (c.deref_mut.ensures.value) at c.pause.ensures.puts), refl)

-- where nothing is done, or only waited or noted

pub returns-in-Look-clause-play : goal.returns-in-Look-clause-play
returns-in-Look-clause-play g c =
    stays_so g.T.Teller.told g.S.Surroundings.around.traffic _ _
    (waited_same g.T.Teller.told g.S.Surroundings.around.traffic c.args.self.now c.wait.new.self
    c.wait.ensures.handed c.wait.ensures.received c.wait.ensures.refused)
    refl

pub returns-in-Look-clause-does : goal.returns-in-Look-clause-does
returns-in-Look-clause-does g c =
    rw (c.in-Look.is)
    (waited_same g.T.Teller.told g.S.Surroundings.around.traffic c.args.self.now c.wait.new.self
    c.wait.ensures.handed c.wait.ensures.received c.wait.ensures.refused)

pub returns-in-Wait-clause-play : goal.returns-in-Wait-clause-play
returns-in-Wait-clause-play g c =
    stays_so g.T.Teller.told g.S.Surroundings.around.traffic _ _
    (waited_same g.T.Teller.told g.S.Surroundings.around.traffic c.args.self.now c.wait-in-Wait.new.self
    c.wait-in-Wait.ensures.handed c.wait-in-Wait.ensures.received c.wait-in-Wait.ensures.refused)
    refl

pub returns-in-Wait-clause-does : goal.returns-in-Wait-clause-does
returns-in-Wait-clause-does g c =
    rw (c.in-Wait.is)
    (waited_same g.T.Teller.told g.S.Surroundings.around.traffic c.args.self.now c.wait-in-Wait.new.self
    c.wait-in-Wait.ensures.handed c.wait-in-Wait.ensures.received c.wait-in-Wait.ensures.refused)

pub returns-in-Note-clause-play : goal.returns-in-Note-clause-play
returns-in-Note-clause-play g c = stays_so g.T.Teller.told g.S.Surroundings.around.traffic _ _ refl refl

pub returns-in-Note-clause-does : goal.returns-in-Note-clause-does
returns-in-Note-clause-does g c = rw (c.in-Note.is) refl

pub returns-in-End-clause-play : goal.returns-in-End-clause-play
returns-in-End-clause-play g c = stays_so g.T.Teller.told g.S.Surroundings.around.traffic _ _ refl refl

pub returns-in-End-clause-does : goal.returns-in-End-clause-does
returns-in-End-clause-does g c = rw (c.in-End.is) refl

-- none but one is the end

pub returns-in-Tick-clause-over : goal.returns-in-Tick-clause-over
returns-in-Tick-clause-over g c = rw (c.in-Tick.is) (λ over. absurd cc)

pub returns-in-Command-clause-over : goal.returns-in-Command-clause-over
returns-in-Command-clause-over g c = rw (c.in-Command.is) (λ over. absurd cc)

pub returns-in-Datagram-clause-over : goal.returns-in-Datagram-clause-over
returns-in-Datagram-clause-over g c = rw (c.in-Datagram.is) (λ over. absurd cc)

pub returns-in-Visit-clause-over : goal.returns-in-Visit-clause-over
returns-in-Visit-clause-over g c = rw (c.in-Visit.is) (λ over. absurd cc)

pub returns-in-Look-clause-over : goal.returns-in-Look-clause-over
returns-in-Look-clause-over g c = λ over. (refl, refl)

pub returns-in-Wait-clause-over : goal.returns-in-Wait-clause-over
returns-in-Wait-clause-over g c = λ over. (refl, refl)

pub returns-in-Note-clause-over : goal.returns-in-Note-clause-over
returns-in-Note-clause-over g c = λ over. (refl, refl)

pub returns-in-End-clause-over : goal.returns-in-End-clause-over
returns-in-End-clause-over g c = λ over. (refl, refl)

-- at which lines something may have changed

pub returns-in-Tick-clause-changes : goal.returns-in-Tick-clause-changes
returns-in-Tick-clause-changes g c = rw (c.is_ok-is_taken.ensures.value) c.tick-done.ensures.changes

pub returns-in-Command-clause-changes : goal.returns-in-Command-clause-changes
returns-in-Command-clause-changes g c = c.take_line-is_taken.ensures.changes

pub returns-in-Datagram-clause-changes : goal.returns-in-Datagram-clause-changes
returns-in-Datagram-clause-changes g c = c.datagram.ensures.changes

pub returns-in-Visit-clause-changes : goal.returns-in-Visit-clause-changes
returns-in-Visit-clause-changes g c =
    changes_still g.T.Teller.told g.S.Surroundings.around.traffic c.args.self.now c.visit.new.self []
    (visit_same g.T.Teller.told g.S.Surroundings.around _ _ _ _ _ _ c.visit.ensures).0

-- where none is taken

pub returns-in-Look-clause-may : goal.returns-in-Look-clause-may
returns-in-Look-clause-may g c = rw (c.in-Look.is) refl

pub returns-in-Wait-clause-may : goal.returns-in-Wait-clause-may
returns-in-Wait-clause-may g c = rw (c.in-Wait.is) refl

pub returns-in-Visit-clause-may : goal.returns-in-Visit-clause-may
returns-in-Visit-clause-may g c = rw (c.in-Visit.is) refl

pub returns-in-Note-clause-may : goal.returns-in-Note-clause-may
returns-in-Note-clause-may g c = rw (c.in-Note.is) refl

pub returns-in-End-clause-may : goal.returns-in-End-clause-may
returns-in-End-clause-may g c = rw (c.in-End.is) refl

pub returns-in-Tick-clause-may : goal.returns-in-Tick-clause-may
returns-in-Tick-clause-may g c = rw (c.in-Tick.is) tt

pub returns-in-Command-clause-may : goal.returns-in-Command-clause-may
returns-in-Command-clause-may g c = rw (c.in-Command.is) tt

pub returns-in-Datagram-clause-may : goal.returns-in-Datagram-clause-may
returns-in-Datagram-clause-may g c = rw (c.in-Datagram.is) tt
