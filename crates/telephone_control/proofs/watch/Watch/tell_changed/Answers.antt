use Rattle.std.proofs.Common.{◌≡◌, true, false, refl, sym, ◌∙◌}
use Rattle.gateway_core.specs.Changing.{is_marked}
use Rattle.telephone_control.proofs.watch.Watch.tell_changed.Goals as goal

pub returns-then-not-is_changed-clause-told : goal.returns-then-not-is_changed-clause-told
returns-then-not-is_changed-clause-told g c = λ events stands.
    let off : is_marked c.args.gateway.now.changed c.args.line ≡ false = sym c.is_changed.ensures ∙ c.if-not-is_changed.true in
    rw off (refl, refl)

pub returns-clause-told : goal.returns-clause-told
returns-clause-told g c = λ events stands.
    let on : is_marked c.args.gateway.now.changed c.args.line ≡ true = sym c.is_changed.ensures ∙ c.if-not-is_changed.false in
    rw on (c.tell_line.ensures.told events stands)
