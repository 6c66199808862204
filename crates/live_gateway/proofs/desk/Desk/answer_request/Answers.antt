use Rattle.std.proofs.Common.{List, ℕ, refl}
use Rattle.live_io.specs.Hearing.{AnswersTo}
use Rattle.live_io.specs.Typing.{v4_of}
use Rattle.plain_machine.specs.Event.{GatewayEvent}
use Rattle.plain_machine.specs.Lists.{plain}
use Rattle.live_play.specs.Running.{lines_shown}
use Rattle.telephone_control.specs.Losses.{counts_text}
use Rattle.live_gateway.proofs.AnsweringLemmas.{put_so, watch_so}
use Rattle.live_gateway.proofs.desk.Desk.answer_request.Goals as goal

pub returns-in-ShowAll-clause-answered : goal.returns-in-ShowAll-clause-answered
returns-in-ShowAll-clause-answered g c =
    let setup = c.args.self.now.play.gateway.value.setup in
    let put = put_so (λ v. v.items) c.all_shown-answer.result c.args.self.now.play.gateway.value
    (λ (events : List GatewayEvent). lines_shown setup events setup.names.lines)
    (λ (text : List ℕ). AnswersTo g.S.Surroundings.around.answers c.args.self.now.lines.sender c.args.self.now.exchange.around text c.answer_put.new.around)
    (rw (c.deref.ensures) at c.all_shown-answer.ensures) c.answer_put.ensures.answered c.answer_put.ensures.refused in
    rw (c.in-ShowAll.is) (
      put.0,
      record {
        line = record {
          answered = put.2;
          left = c.answer_put.ensures.left;
          sender = c.answer_put.ensures.sender;
        };
        rest = refl;
      },
      put.1,
    )

pub returns-in-Watch-clause-answered : goal.returns-in-Watch-clause-answered
returns-in-Watch-clause-answered g c =
    let put = watch_so (λ v. v.items) c.ask-answer.result (v4_of c.args.self.now.lines.sender) c.args.self.now.play.gateway.value c.in-Watch.seconds
    c.args.self.now.watch c.ask-answer.new.self
    (λ (text : List ℕ). AnswersTo g.S.Surroundings.around.answers c.args.self.now.lines.sender c.args.self.now.exchange.around text c.answer_put-in-Watch.new.around)
    (rw (c.sender-sender.ensures) at c.ask-answer.ensures.nobody)
    (rw (c.deref-in-Watch.ensures, c.sender-sender.ensures) at c.ask-answer.ensures.answered)
    (rw (c.deref-in-Watch.ensures, c.sender-sender.ensures) at c.ask-answer.ensures.seen)
    (rw (c.deref-in-Watch.ensures) at c.ask-answer.ensures.unasked) c.answer_put-in-Watch.ensures.answered c.answer_put-in-Watch.ensures.refused in
    rw (c.in-Watch.is) (
      put.0,
      record {
        answered = put.2;
        left = c.answer_put-in-Watch.ensures.left;
        sender = c.answer_put-in-Watch.ensures.sender;
      },
      put.1,
      refl,
    )

pub returns-in-Counts-clause-answered : goal.returns-in-Counts-clause-answered
returns-in-Counts-clause-answered g c =
    let exchange = c.args.self.now.exchange in
    let setup = c.args.self.now.play.gateway.value.setup in
    let put = put_so (λ v. v.items) c.counts-answer.result c.args.self.now.play.gateway.value
    (λ (events : List GatewayEvent). counts_text exchange.journal exchange.faults setup (plain setup events))
    (λ (text : List ℕ). AnswersTo g.S.Surroundings.around.answers c.args.self.now.lines.sender c.args.self.now.exchange.around text c.answer_put-in-Counts.new.around)
    c.counts-answer.ensures c.answer_put-in-Counts.ensures.answered c.answer_put-in-Counts.ensures.refused in
    rw (c.in-Counts.is) (
      put.0,
      record {
        line = record {
          answered = put.2;
          left = c.answer_put-in-Counts.ensures.left;
          sender = c.answer_put-in-Counts.ensures.sender;
        };
        rest = refl;
      },
      put.1,
    )

-- the gateway does nothing

pub returns-in-ShowAll-clause-play : goal.returns-in-ShowAll-clause-play
returns-in-ShowAll-clause-play g c = rw (c.answer_put.ensures.traffic) refl

pub returns-in-Watch-clause-play : goal.returns-in-Watch-clause-play
returns-in-Watch-clause-play g c = rw (c.answer_put-in-Watch.ensures.traffic) refl

pub returns-in-Counts-clause-play : goal.returns-in-Counts-clause-play
returns-in-Counts-clause-play g c = rw (c.answer_put-in-Counts.ensures.traffic) refl

pub returns-in-Stop-clause-play : goal.returns-in-Stop-clause-play
returns-in-Stop-clause-play g c = refl

pub returns-in-Stop-clause-answered : goal.returns-in-Stop-clause-answered
returns-in-Stop-clause-answered g c = rw (c.in-Stop.is) refl

pub returns-in-Refused-clause-play : goal.returns-in-Refused-clause-play
returns-in-Refused-clause-play g c = rw (c.answer_all.ensures.traffic) refl

pub returns-in-ShowAll-clause-admission : goal.returns-in-ShowAll-clause-admission
returns-in-ShowAll-clause-admission g c = refl

pub returns-in-ShowAll-clause-schedule : goal.returns-in-ShowAll-clause-schedule
returns-in-ShowAll-clause-schedule g c = refl

pub returns-in-Watch-clause-admission : goal.returns-in-Watch-clause-admission
returns-in-Watch-clause-admission g c = refl

pub returns-in-Watch-clause-schedule : goal.returns-in-Watch-clause-schedule
returns-in-Watch-clause-schedule g c = refl

pub returns-in-Counts-clause-admission : goal.returns-in-Counts-clause-admission
returns-in-Counts-clause-admission g c = refl

pub returns-in-Counts-clause-schedule : goal.returns-in-Counts-clause-schedule
returns-in-Counts-clause-schedule g c = refl

pub returns-in-Stop-clause-admission : goal.returns-in-Stop-clause-admission
returns-in-Stop-clause-admission g c = refl

pub returns-in-Stop-clause-schedule : goal.returns-in-Stop-clause-schedule
returns-in-Stop-clause-schedule g c = refl

pub returns-in-Refused-clause-admission : goal.returns-in-Refused-clause-admission
returns-in-Refused-clause-admission g c = refl

pub returns-in-Refused-clause-schedule : goal.returns-in-Refused-clause-schedule
returns-in-Refused-clause-schedule g c = refl

pub returns-in-Act-clause-play : goal.returns-in-Act-clause-play
returns-in-Act-clause-play g c = rw (c.answer.ensures.traffic) refl

pub returns-in-Act-clause-admission : goal.returns-in-Act-clause-admission
returns-in-Act-clause-admission g c = refl

pub returns-in-Act-clause-schedule : goal.returns-in-Act-clause-schedule
returns-in-Act-clause-schedule g c = refl
