use Rattle.std.proofs.Common.{ℕ, subst}
use Rattle.live_agent.specs.Settling.{SendsEach, ShowsEach}
use Rattle.live_agent.proofs.SettlingLemmas.{settled_none, settled_now}
use Rattle.live_agent.proofs.session.settle.Goals as goal

pub returns-then-wire : goal.returns-then-wire
returns-then-wire g c = settled_none g.S.Surroundings.around c.args.board.now c.args.wire.now c.if-wire.true

pub returns : goal.returns
returns g c =
    settled_now g.S.Surroundings.around c.args.board.now c.send_each.new.board c.args.wire.now c.send_each.new.wire c.if-wire.false (record {
      begun = c.begin_settling.new.self;
      shown = c.show_each.new.board;
      told = c.show_each.new.wire;
      begins = c.begin_settling.ensures.settles;
      rest = c.begin_settling.ensures.rest;
      shows = subst (λ (lines : ℕ). ShowsEach lines c.begin_settling.new.self c.args.wire.now c.show_each.new.board c.show_each.new.wire)
          c.settling-lines.ensures c.show_each.ensures;
      goes = subst (λ (lines : ℕ). SendsEach g.S.Surroundings.around lines c.show_each.new.board c.show_each.new.wire c.send_each.new.board c.send_each.new.wire)
          c.settling-lines.ensures c.send_each.ensures;
    })
