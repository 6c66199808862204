use Rattle.std.proofs.Common.{sym, ap, ◌∙◌}
use Rattle.std.specs.Prelude.{option_and_then}
use Rattle.command_forms.specs.declared.forms.Target.{Target}
use Rattle.plain_machine.specs.Requesting.{refusal_by, refused_by}
use Rattle.endpoints.proofs.OneLemmas.{refused_one}
use Rattle.endpoints.proofs.requesting.refused_by.Goals as goal

pub returns-in-Some : goal.returns-in-Some
returns-in-Some c =
    c.refusal_by.ensures
    ∙ ap (option_and_then (refusal_by c.args.deed.now)) c.in-Some.ensures.value
    ∙ sym (refused_one c.args.store.now.endpoints c.in-One.line c.args.deed.now)
    ∙ ap (λ (lines : Target). refused_by c.args.store.now.endpoints lines c.args.deed.now) (sym c.in-One.is)

pub returns-in-None : goal.returns-in-None
returns-in-None c =
    ap (option_and_then (refusal_by c.args.deed.now)) c.in-None.ensures.value
    ∙ sym (refused_one c.args.store.now.endpoints c.in-One.line c.args.deed.now)
    ∙ ap (λ (lines : Target). refused_by c.args.store.now.endpoints lines c.args.deed.now) (sym c.in-One.is)
