use Rattle.std.proofs.Common.{◌≡◌, ◌+◌, ◌-◌, ◌<◌, drop, length, None, sym, arith}
use Rattle.std.proofs.lemmas.List.{take_rest}
use Rattle.transmission.specs.Looking.{latest}
use Rattle.transmission.proofs.SearchLaws.{latest_here, latest_not_here, latest-drop_all}
use Rattle.transmission.proofs.recall.latest.Goals as goal

pub loop-place-init : goal.loop-place-init
loop-place-init c = latest-drop_all c.args.entries.now c.args.id c.args.now

pub returns-in-Some : goal.returns-in-Some
returns-in-Some c =
    let one : c.loop-place.place - 1 + 1 ≡ c.loop-place.place = omega arith in
    let inside : c.loop-place.place - 1 < length c.args.entries.now = omega (arith, c.loop-place.auto.place) in
    let none : latest (drop (c.loop-place.place - 1 + 1) c.args.entries.now) c.args.id c.args.now ≡ None = rw one c.loop-place.invariant in
    rw take_rest (sym (latest_here c.args.entries.now (c.loop-place.place - 1) c.args.id c.args.now c.index-entries-place.result c.in-Some.first.now inside c.index-entries-place.is none (sym c.in-Some.ensures)))

pub loop-place-preserved : goal.loop-place-preserved
loop-place-preserved c =
    let one : c.loop-place.place - 1 + 1 ≡ c.loop-place.place = omega arith in
    let inside : c.loop-place.place - 1 < length c.args.entries.now = omega (arith, c.loop-place.auto.place) in
    let none : latest (drop (c.loop-place.place - 1 + 1) c.args.entries.now) c.args.id c.args.now ≡ None = rw one c.loop-place.invariant in
    latest_not_here c.args.entries.now (c.loop-place.place - 1) c.args.id c.args.now c.index-entries-place.result inside c.index-entries-place.is none (sym c.in_default.ensures)
