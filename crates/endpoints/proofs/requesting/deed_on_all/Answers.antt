use Rattle.std.proofs.Common.{sym, ap, ◌∙◌, subst}
use Rattle.command_forms.specs.declared.forms.Target.{Target}
use Rattle.plain_machine.specs.Effect.{Effect}
use Rattle.plain_machine.specs.Machine.{Endpoints}
use Rattle.plain_machine.specs.Requesting.{deed_on, deed_on_all}
use Rattle.endpoints.specs.Tells.{Tells}
use Rattle.endpoints.proofs.OneLemmas.{lines_one}
use Rattle.endpoints.proofs.requesting.deed_on_all.Goals as goal

pub returns-in-One-clause-told : goal.returns-in-One-clause-told
returns-in-One-clause-told c =
    subst (λ (change : Effect Endpoints). Tells c.deed_on_line.result change c.args.store.now c.deed_on_line.new.store c.args.sent.now.items c.deed_on_line.new.sent.items)
    (sym (lines_one c.args.store.now.endpoints c.in-One.line (deed_on c.args.context.setup.now c.args.deed.now c.args.moment))
    ∙ ap (λ (lines : Target). deed_on_all c.args.context.setup.now c.args.store.now.endpoints lines c.args.deed.now c.args.moment) (sym c.in-One.is))
    c.deed_on_line.ensures.told
