use Rattle.std.proofs.Common.{◌≡◌, [], inr, refl, ap}
use Rattle.plain_machine.specs.Event.{phone}
use Rattle.live_io.specs.Speaking.{admitted_by}
use Rattle.live_play.specs.Coming.{Came}
use Rattle.telephone_control.specs.declared.telephones.TelephoneRequest.TheVariants.{Act as AsksAct, Show}
use Rattle.live_gateway.specs.Desk.{at_desk}
use Rattle.live_gateway.specs.Exchanging.{handed_by}
use Rattle.live_gateway.proofs.DeskLemmas.{stays_so, stays, changes_still, changes_asked, standing_of, counted_behind, acts, asks, untold_still}
use Rattle.live_gateway.proofs.LineLemmas.{taken_free}
use Rattle.live_gateway.proofs.OverLemmas.{taken_quietly, refused_quietly, shown_so, told_so as only_told}
use Rattle.live_gateway.proofs.AnsweringLemmas.{tries_act, asks_of}
use Rattle.live_gateway.proofs.desk.Desk.take_line.Goals as goal

pub returns-in-Show-clause-play : goal.returns-in-Show-clause-play
returns-in-Show-clause-play g c =
    let handed = handed_by c.args.self.now.exchange.network (g.S.Surroundings.around.traffic c.args.self.now.exchange.around).sent in
    asks g.T.Teller.told g.S.Surroundings.around.traffic _ _ c.ask-asked.result c.in-Some.text.now c.in-Show.line c.ask-asked.new.self.printed.items
    (taken_free _ c.in-Some.text.now _ c.in-Some.ensures)
    (rw (c.answer-in-Show.ensures.traffic) (c.ask-asked.ensures.answered handed))
    (rw (c.answer-in-Show.ensures.traffic)
    (untold_still c.ask-asked.result g.T.Teller.told c.args.self.now.play c.ask-asked.new.self handed c.ask-asked.ensures.unanswered))
    (rw (c.answer-in-Show.ensures.traffic) refl)
    refl

pub returns-in-Show-clause-line : goal.returns-in-Show-clause-line
returns-in-Show-clause-line g c =
    inr (
      c.in-Some.text.now,
      Show c.in-Show.line,
      c.in-Some.ensures,
      record {
        who = c.typist_of-who.result;
        typist = record {
          is_here = c.is_from_loopback-is_here.result;
          is_afar = c.is_from_afar-is_afar.result;
          here = c.is_from_loopback-is_here.ensures;
          afar = c.is_from_afar-is_afar.ensures;
          by = c.typist_of-who.ensures;
        };
        said = c.in-Show.ensures.said;
        asked = c.in-Show.ensures.request;
        memory = c.in-Show.ensures.memory;
      },
      (
        c.question_answer-answer.result.now,
        record {
          answered = c.answer-in-Show.ensures.answered;
          left = c.answer-in-Show.ensures.left;
          sender = c.answer-in-Show.ensures.sender;
        },
        asks_of _ _ c.ask-asked.result c.ask-asked.new.self.printed.items _ _ _
            (rw (c.answer-in-Show.ensures.traffic)
            (c.ask-asked.ensures.answered (handed_by c.args.self.now.exchange.network (g.S.Surroundings.around.traffic c.args.self.now.exchange.around).sent)))
            (rw (c.answer-in-Show.ensures.traffic)
            (c.ask-asked.ensures.ran (handed_by c.args.self.now.exchange.network (g.S.Surroundings.around.traffic c.args.self.now.exchange.around).sent)))
            (rw (c.printed.ensures) at c.question_answer-answer.ensures.asked)
            c.question_answer-answer.ensures.memory,
        refl,
      ),
    )

pub returns-in-Act-clause-play : goal.returns-in-Act-clause-play
returns-in-Act-clause-play g c =
    let told = g.T.Teller.told in
    let traffic = g.S.Surroundings.around.traffic in
    acts told traffic _ _ (standing_of told traffic c.act-done.new.self c.act-done.new.out) c.act-done.result c.in-Some.text.now
    (phone c.in-Act.line c.in-Act.act) c.act-done.new.self.printed.items
    (taken_free _ c.in-Some.text.now _ c.in-Some.ensures)
    c.act-done.ensures.taken
    c.act-done.ensures.refused
    c.act-done.ensures.came
    (counted_behind told traffic c.act-done.new.self c.act-done.new.out c.note_taken.new.exchange
    (record c.note_taken.new.exchange { around = c.answer.new.around; journal = c.answered.new.self }) _ _ _
    (rw (c.is_ok-is_taken.ensures.value, c.sent.ensures.kept, c.deref.ensures) at c.note_taken.ensures) (only_told c.note_taken.new.exchange c.answered.new.self c.answer.new.around c.answered.ensures.rest) c.answer.ensures.traffic)
    refl

pub returns-in-Act-clause-line : goal.returns-in-Act-clause-line
returns-in-Act-clause-line g c =
    let told = g.T.Teller.told in
    let traffic = g.S.Surroundings.around.traffic in
    let answer = c.act_answer-answer.result.now in
    let told_behind = only_told c.note_taken.new.exchange c.answered.new.self c.answer.new.around c.answered.ensures.rest in
    let notes = rw (c.is_ok-is_taken.ensures.value, c.sent.ensures.kept, c.deref.ensures) at c.note_taken.ensures in
    inr (
      c.in-Some.text.now,
      AsksAct c.in-Act.line c.in-Act.act,
      c.in-Some.ensures,
      record {
        who = c.typist_of-who.result;
        typist = record {
          is_here = c.is_from_loopback-is_here.result;
          is_afar = c.is_from_afar-is_afar.result;
          here = c.is_from_loopback-is_here.ensures;
          afar = c.is_from_afar-is_afar.ensures;
          by = c.typist_of-who.ensures;
        };
        said = c.in-Act.ensures.said;
        asked = c.in-Act.ensures.request;
        memory = c.in-Act.ensures.memory;
      },
      record {
        asked = record c.args.self.now.exchange { journal = c.act.new.self };
        done = c.note_taken.new.exchange;
        answer = answer;
        before = shown_so c.args.self.now.exchange c.act.new.self c.act.ensures.rest;
        shown = c.act.ensures.shown;
        tries = tries_act g.S.Surroundings.around.sends (admitted_by c.args.self.now.admission.speakers) _ _ _ c.act-done.result _ answer (at_desk told traffic c.args.self.now)
            (standing_of told traffic c.act-done.new.self c.act-done.new.out) _
            (record c.args.self.now.exchange { journal = c.act.new.self }) c.act-done.new.out c.note_taken.new.exchange
            c.act-done.ensures.outlet
            c.act-done.ensures.untouched
            c.act-done.ensures.refused
            (taken_quietly c.act-done.result _ (phone c.in-Act.line c.in-Act.act) c.act-done.new.self.gateway.value c.act-done.new.out _ (λ log. refl)
            notes)
            (refused_quietly c.act-done.result _ (phone c.in-Act.line c.in-Act.act) _ c.act-done.new.out _ (λ log. refl) notes)
            (ap (λ (x : Came). x.refused) c.act-done.ensures.came)
            (counted_behind told traffic c.act-done.new.self c.act-done.new.out c.note_taken.new.exchange
            (record c.note_taken.new.exchange { around = c.answer.new.around; journal = c.answered.new.self }) _ _ _
            notes told_behind c.answer.ensures.traffic)
            (record {
              done_so = c.act_answer-answer.ensures.done;
              memory = c.act_answer-answer.ensures.memory;
              refused = rw (c.printed-printed.ensures) at c.act_answer-answer.ensures.refused;
            })
            c.act-done.ensures.ends;
        says = record {
          answered = c.answer.ensures.answered;
          left = c.answer.ensures.left;
          sender = c.answer.ensures.sender;
        };
        kept = c.answer.ensures.traffic;
        told_so = c.answered.ensures.shown;
        behind = told_behind;
        rest = refl;
      },
    )

-- its schedule stays

pub returns-in_default-clause-schedule : goal.returns-in_default-clause-schedule
returns-in_default-clause-schedule g c = refl

pub returns-in-Act-clause-schedule : goal.returns-in-Act-clause-schedule
returns-in-Act-clause-schedule g c = refl

pub returns-in-Show-clause-schedule : goal.returns-in-Show-clause-schedule
returns-in-Show-clause-schedule g c = refl

-- no line is left

pub returns-in_default-clause-play : goal.returns-in_default-clause-play
returns-in_default-clause-play g c = stays g.T.Teller.told g.S.Surroundings.around.traffic _

-- it asks for something else

pub returns-in_default-request_in-clause-play : goal.returns-in_default-request_in-clause-play
returns-in_default-request_in-clause-play g c = stays_so g.T.Teller.told g.S.Surroundings.around.traffic _ _ c.answer_request.ensures.play c.answer_request.ensures.admission

pub returns-in_default-request_in-clause-schedule : goal.returns-in_default-request_in-clause-schedule
returns-in_default-request_in-clause-schedule g c = c.answer_request.ensures.schedule

-- at which lines something may have changed

pub returns-in-Act-clause-changes : goal.returns-in-Act-clause-changes
returns-in-Act-clause-changes g c = rw (c.is_ok-is_taken.ensures.value) c.act-done.ensures.changes

pub returns-in-Show-clause-changes : goal.returns-in-Show-clause-changes
returns-in-Show-clause-changes g c =
    let handed = handed_by c.args.self.now.exchange.network (g.S.Surroundings.around.traffic c.args.self.now.exchange.around).sent in
    changes_asked c.ask-asked.result c.args.self.now.play c.ask-asked.new.self _ _ c.in-Some.text.now c.in-Show.line c.ask-asked.new.self.printed.items []
    refl refl (c.ask-asked.ensures.answered handed) c.ask-asked.ensures.unanswered

pub returns-in_default-request_in-clause-changes : goal.returns-in_default-request_in-clause-changes
returns-in_default-request_in-clause-changes g c = changes_still g.T.Teller.told g.S.Surroundings.around.traffic c.args.self.now c.answer_request.new.self [] c.answer_request.ensures.play
