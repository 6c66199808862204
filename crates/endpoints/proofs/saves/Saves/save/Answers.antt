use Rattle.std.proofs.Common.{◌≡◌, ◌<◌, ◌∙◌, ap, length, take, vec_capacity, arith}
use Rattle.std.proofs.lemmas.List.{length-take-le}
use Rattle.endpoints.specs.Saving.{with_saved}
use Rattle.endpoints.proofs.SavingLemmas.{on_err, saves_is}
use Rattle.endpoints.proofs.saves.Saves.save.Goals as goal

pub fill-requires-clause-room : goal.fill-requires-clause-room
fill-requires-clause-room c =
    let asked : length (take c.self.inside.count c.self.inside.slots.items) < vec_capacity c.self.inside.slots = rw (← c.self.view_is) at c.requires in
    omega (arith, asked, length-take-le c.self.inside.count c.self.inside.slots.items c.self.invariant)

pub returns-clause-ok : goal.returns-clause-ok
returns-clause-ok c =
    saves_is _ _ _ _ c.in_ok-fill.ensures.ok.filled c.in_ok-fill.ensures.room ∙ ap (with_saved c.args.place c.args.endpoint.now) c.self.view_is

pub returns-in_err-fill-clause-err : goal.returns-in_err-fill-clause-err
returns-in_err-fill-clause-err c =
    on_err c.from_residual.result (saves_is _ _ _ _ c.in_err-fill.ensures.err.filled c.in_err-fill.ensures.room ∙ c.self.view_is)
