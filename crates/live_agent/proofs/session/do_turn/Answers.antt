use Rattle.std.proofs.Common.{ℕ, Bool, Option, length, refl, ap, subst, ◌∙◌}
use Rattle.agent_log.specs.declared.journal.Journal.{Journal}
use Rattle.turns.specs.Clock.{earlier}
use Rattle.live_agent.specs.Ticking.{GivesUpEach, TicksEach, WakesEach}
use Rattle.live_agent.proofs.ServingLemmas.{waited_until}
use Rattle.live_agent.proofs.TickingLemmas.{did_tick}
use Rattle.live_agent.proofs.session.do_turn.Goals as goal

pub returns-in-Command : goal.returns-in-Command
returns-in-Command g c = rw (c.in-Command.is) c.take_line.ensures

pub returns-in-Tick : goal.returns-in-Tick
returns-in-Tick g c =
    rw (c.in-Tick.is)
    (did_tick g.S.Surroundings.around c.args.moment c.in-Tick.to c.args.board.now c.settle.new.board
    c.args.wire.now c.settle.new.wire (record {
      ticked = c.tick_each.new.board;
      said = c.tick_each.new.wire;
      given = c.give_up_each.new.board;
      told = c.give_up_each.new.wire;
      woken = c.wake_each.new.board;
      ticks = subst
          (λ (gateways : ℕ). TicksEach g.S.Surroundings.around c.in-Tick.to gateways c.args.board.now (record c.args.wire.now { now = record c.args.wire.now.now { clock = c.in-Tick.to } })
          c.tick_each.new.board c.tick_each.new.wire)
          c.gateways-ticking.ensures c.tick_each.ensures;
      gives_up = subst
          (λ (is_behind : Bool). GivesUpEach g.S.Surroundings.around (length c.tick_each.new.board.gateways.items) c.tick_each.new.board
          (record c.tick_each.new.wire { is_behind = is_behind }) c.give_up_each.new.board c.give_up_each.new.wire)
          c.is_behind-wire.ensures
          (subst
          (λ (gateways : ℕ). GivesUpEach g.S.Surroundings.around gateways c.tick_each.new.board (record c.tick_each.new.wire { is_behind = c.is_behind-wire.result })
          c.give_up_each.new.board c.give_up_each.new.wire)
          c.gateways-giving_up.ensures c.give_up_each.ensures);
      wakes = subst (λ (gateways : ℕ). WakesEach gateways c.give_up_each.new.board c.wake_each.new.board) c.gateways-waking.ensures c.wake_each.ensures;
      settles = c.settle.ensures;
    }))

pub returns-in-Datagram : goal.returns-in-Datagram
returns-in-Datagram g c = rw (c.in-Datagram.is) c.take_datagram.ensures

pub returns-in-Look : goal.returns-in-Look
returns-in-Look g c = rw (c.in-Look.is) (refl, (c.wait.ensures.traffic, c.wait.ensures.waited, c.wait.ensures.journal, c.wait.ensures.rest))

pub returns-in-Wait : goal.returns-in-Wait
returns-in-Wait g c =
    rw (c.in-Wait.is) (
      refl,
      waited_until g.S.Surroundings.around c.in-Wait.until c.args.moment _ c.earlier-due.result c.args.board.now.gateways.items c.args.wire.now
          c.wait-in-Wait.new.self (
            c.next_due.result,
            c.next_due.ensures,
            c.earlier-due.ensures ∙ ap (λ (due : Option ℕ). earlier c.next_due.result due) c.network_due.ensures,
          ) c.longest_until.ensures
          (c.wait-in-Wait.ensures.traffic, c.wait-in-Wait.ensures.waited, c.wait-in-Wait.ensures.journal, c.wait-in-Wait.ensures.rest),
    )

pub returns-in-Note : goal.returns-in-Note
returns-in-Note g c =
    rw (c.in-Note.is) (
      refl,
      (rw (c.deref_mut.ensures.value) at c.log_pause.ensures, ap (λ (journal : Journal). record journal { log = c.log_pause.new.log }) c.deref_mut.ensures.value, refl),
    )
