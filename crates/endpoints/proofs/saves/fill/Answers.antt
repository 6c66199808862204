use Rattle.std.proofs.Common.{◌≡◌, ◌<◌, length, arith, refl}
use Rattle.endpoints.proofs.SavingLemmas.{on_err, refilled, still_filled, filled_behind}
use Rattle.endpoints.proofs.saves.fill.Goals as goal

pub returns-then-count-len-clause-ok : goal.returns-then-count-len-clause-ok
returns-then-count-len-clause-ok c =
    let inside : c.args.count < length c.args.slots.now.items = omega (arith, c.args.slots.now.ok.0) in
    refilled c.args.slots.now.items _ c.args.count c.args.place c.args.endpoint.now c.refill.new.slot inside c.in_ok-refill.ensures refl

pub returns-in_err-refill-clause-err : goal.returns-in_err-refill-clause-err
returns-in_err-refill-clause-err c =
    let inside : c.args.count < length c.args.slots.now.items = omega (arith, c.args.slots.now.ok.0) in
    on_err c.from_residual.result (still_filled c.args.slots.now.items _ c.args.count c.refill.new.slot inside refl)

pub returns-clause-ok : goal.returns-clause-ok
returns-clause-ok c =
    let all : c.args.count ≡ length c.args.slots.now.items = omega (arith, c.args.slots.now.ok.0, c.requires.within) in
    filled_behind c.args.slots.now.items c.push_reserved.new.self.items c.args.count c.args.place c.args.endpoint.now c.in_ok-endpoint.endpoint all c.in_ok-endpoint.ensures
    c.push_reserved.ensures.items
