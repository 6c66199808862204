use Rattle.std.proofs.Common.{◌<◌, ◌≤◌, length, sym, arith}
use Rattle.call_agent.specs.Growing.{committed}
use Rattle.call_agent.proofs.TellingLemmas.{changed_next, committed_whole}
use Rattle.call_agent.proofs.told.TakenEvents.commit.Goals as goal

pub loop-place-preserved : goal.loop-place-preserved
loop-place-preserved c =
    let end = c.len-place-end.ensures in
    let before = c.loop-place-test.true in
    let within : c.loop-place.place < length c.self.inside.lines.items = omega (arith, end, before) in
    changed_next committed c.self.inside.lines.items c.loop-place.self-inside.lines.items c.loop-place.place c.index_mut.result.now _ c.loop-place.invariant within
    c.index_mut.ensures.value c.commit.ensures

pub returns : goal.returns
returns c =
    let end = c.len-place-end.ensures in
    let done = c.loop-place-test.false in
    let past : length c.self.inside.lines.items ≤ c.loop-place.place = omega (arith, end, done) in
    committed_whole c.args.self.now c.self.inside.lines.items c.loop-place.self-inside.lines.items c.loop-place.place (sym c.self.view_is) c.loop-place.invariant past
