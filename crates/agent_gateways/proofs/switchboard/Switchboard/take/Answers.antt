use Rattle.std.proofs.Common.{◌≡◌, Some, None, refl, arith, rules}
use Rattle.std.proofs.lemmas.Grind.{common_steps, elements}
use Rattle.std.specs.Prelude.{slice_get}
use Rattle.agent_gateways.specs.Taking.{taken_place}
use Rattle.agent_gateways.proofs.TakingLemmas.{no_gateway, taken_so, waits_so}
use Rattle.agent_gateways.proofs.switchboard.Switchboard.take.Goals as goal

pub returns-in_default-clause-takes : goal.returns-in_default-clause-takes
returns-in_default-clause-takes c =
    let none : slice_get c.args.self.now.gateways.items c.args.place ≡ None = first_of (search rules, grind (arith, common_steps), grind (arith, elements)) in
    no_gateway c.args.place _ c.args.self.now none

pub returns-in_default-at-clause-takes : goal.returns-in_default-at-clause-takes
returns-in_default-at-clause-takes c =
    let none : None ≡ taken_place c.args.index (slice_get c.args.self.now.gateways.items c.args.place) c.args.self.now.notifying = first_of (search rules, grind (arith, common_steps), grind (arith, elements)) in
    taken_so c.args.place None _ _ _ _ none (refl, refl, refl)

pub returns-in_default-get_mut-clause-takes : goal.returns-in_default-get_mut-clause-takes
returns-in_default-get_mut-clause-takes c =
    let found : Some c.in-Some-at.line
    ≡ taken_place c.args.index (slice_get c.args.self.now.gateways.items c.args.place) c.args.self.now.notifying = first_of (search rules, grind (arith, common_steps), grind (arith, elements)) in
    taken_so c.args.place (Some c.in-Some-at.line) _ _ _ _ found (first_of (search rules, grind (arith, common_steps), grind (arith, elements)))

pub returns-clause-takes : goal.returns-clause-takes
returns-clause-takes c =
    let found : Some c.in-Some-at.line
    ≡ taken_place c.args.index (slice_get c.args.self.now.gateways.items c.args.place) c.args.self.now.notifying = first_of (search rules, grind (arith, common_steps), grind (arith, elements)) in
    taken_so c.args.place (Some c.in-Some-at.line) _ _ _ _ found (first_of (search rules, grind (arith, common_steps), grind (arith, elements)))

pub returns-clause-waits : goal.returns-clause-waits
returns-clause-waits c = λ told.
    let found : Some c.in-Some-at.line
    ≡ taken_place c.args.index (slice_get c.args.self.now.gateways.items c.args.place) c.args.self.now.notifying = first_of (search rules, grind (arith, common_steps), grind (arith, elements)) in
    waits_so (Some c.in-Some-at.line) _ _ found (c.take_from.ensures.waits told)
