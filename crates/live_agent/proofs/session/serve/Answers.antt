use Rattle.std.proofs.Common.{◌≡◌, ◌-◌, Bool, true, false, inl, inr, refl, ap, sym, subst, ◌∙◌, arith}
use Rattle.std.specs.Box.{with_value}
use Rattle.std.specs.Prelude.{not}
use Rattle.turns.specs.Runs.{is_end}
use Rattle.turns.specs.declared.schedule.Schedule.{Schedule}
use Rattle.turns.specs.declared.turn.Turn.{Turn}
use Rattle.live_agent.specs.Serving.{TurnsOnce}
use Rattle.live_agent.specs.Turning.{DoesTurn}
use Rattle.live_agent.proofs.SendingLemmas.{begun_so}
use Rattle.live_agent.proofs.ServingLemmas.{not_end, runs_more, serves_so, written_so}
use Rattle.live_agent.proofs.session.serve.Goals as goal

pub loop-init : goal.loop-init
loop-init g c = (refl, refl, refl)

pub loop-preserved : goal.loop-preserved
loop-preserved g c =
    let goes : true ≡ not (is_end c.next-turn.result) = ap (λ (over : Bool). not over) (sym (sym c.is_end.ensures ∙ c.if-is_end.false)) in
    let begun = record c.loop.wire { now = record c.loop.wire.now { time = c.time-wire.result } } in
    let written = record c.do_turn.new.wire { journal = with_value c.do_turn.new.wire.journal c.write.new.journal } in
    let offered = record written { is_offering = c.is_offering-wire.result } in
    runs_more (TurnsOnce g.S.Surroundings.around g.W.Recorder.writes)
    c.loop.counter c.args.board.now c.loop.board c.do_turn.new.board c.args.wire.now c.loop.wire offered c.starting_at-schedule.result c.loop.schedule
    c.next-turn.new.self c.loop.invariant (record {
      done = c.do_turn.new.wire;
      asks = record {
        at = c.in-Ok-situation.at;
        turn = c.next-turn.result;
        situation = c.in-Ok-situation.ensures.stands;
        comes = c.next-turn.ensures;
        goes = goes;
      };
      does = record {
        at = c.in-Ok-situation.at;
        settled = c.settle.new.board;
        begun = _;
        sent = c.settle.new.wire;
        situation = c.in-Ok-situation.ensures.stands;
        goes_on = ap (λ (next : Turn × Schedule). is_end next.0) (sym c.next-turn.ensures) ∙ not_end (is_end c.next-turn.result) goes;
        behind = ap (λ (next : Turn × Schedule). next.1) c.next-turn.ensures;
        begins = begun_so c.loop.wire begun _ _ refl c.is_behind-wire.ensures;
        dated = c.time-wire.ensures;
        settles = c.settle.ensures;
        does = subst (λ (turn : Turn). DoesTurn g.S.Surroundings.around c.in-Ok-situation.at.moment turn c.settle.new.board
            c.do_turn.new.board c.settle.new.wire c.do_turn.new.wire)
            (ap (λ (next : Turn × Schedule). next.0) c.next-turn.ensures) c.do_turn.ensures;
      };
      written = written_so g.W.Recorder.writes c.loop.recorder c.write.new.self c.do_turn.new.wire written offered
          (rw (c.deref_mut.ensures.value) at c.write.ensures.wrote) (rw (c.deref_mut.ensures.value) at c.write.ensures.kept) refl refl;
    })

pub returns-in-Err-situation : goal.returns-in-Err-situation
returns-in-Err-situation g c =
    serves_so g.S.Surroundings.around (TurnsOnce g.S.Surroundings.around g.W.Recorder.writes)
    c.in-Ok.start _ c.args.board.now _ c.args.wire.now _ c.starting_at-schedule.result c.in-Ok.ensures c.starting_at-schedule.ensures (record {
      count = c.loop.counter;
      behind = c.loop.schedule;
      runs = c.loop.invariant;
      stops = c.in-Err-situation.ensures.failed;
    })

pub returns-then-is_end : goal.returns-then-is_end
returns-then-is_end g c =
    let over : false ≡ not (is_end c.next-turn.result) = ap (λ (one : Bool). not one) (sym (sym c.is_end.ensures ∙ c.if-is_end.true)) in
    serves_so g.S.Surroundings.around (TurnsOnce g.S.Surroundings.around g.W.Recorder.writes)
    c.in-Ok.start _ c.args.board.now _ c.args.wire.now _ c.starting_at-schedule.result c.in-Ok.ensures c.starting_at-schedule.ensures (record {
      count = c.loop.counter;
      behind = c.loop.schedule;
      runs = c.loop.invariant;
      stops = inl (
        c.next-turn.new.self,
        record {
          at = c.in-Ok-situation.at;
          turn = c.next-turn.result;
          situation = c.in-Ok-situation.ensures.stands;
          comes = c.next-turn.ensures;
          goes = over;
        },
      );
    })

pub returns : goal.returns
returns g c =
    serves_so g.S.Surroundings.around (TurnsOnce g.S.Surroundings.around g.W.Recorder.writes)
    c.in-Ok.start _ c.args.board.now _ c.args.wire.now _ c.starting_at-schedule.result c.in-Ok.ensures c.starting_at-schedule.ensures (record {
      count = c.loop.counter;
      behind = c.loop.schedule;
      runs = c.loop.invariant;
      stops = inr (omega (arith, c.loop.auto.counter-end, c.loop-test.false));
    })

pub returns-in-Err : goal.returns-in-Err
returns-in-Err g c = inr (c.in-Err.fault, c.in-Err.ensures, refl, refl, refl)
