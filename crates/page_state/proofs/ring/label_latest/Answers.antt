use Rattle.std.proofs.Common.{arith}
use Rattle.page_state.proofs.KeepingLemmas.{told_none, told_last}
use Rattle.page_state.proofs.ring.label_latest.Goals as goal

pub returns-in-None-clause-told : goal.returns-in-None-clause-told
returns-in-None-clause-told c =
    told_none c.args.latest c.args.said.items _ _ (omega (arith, c.args.kept.now.ok.0, c.in-None.ensures.cases.0)) c.in-None.ensures.items

pub returns-in-Some-clause-told : goal.returns-in-Some-clause-told
returns-in-Some-clause-told c =
    rw (c.push_back_reserved.ensures.items, c.in-Some.ensures.items)
    (told_last c.args.latest c.args.said.items c.pop_back.new.self.items c.in-Some.happening _ c.label_one.ensures)
