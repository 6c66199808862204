use Rattle.std.proofs.Common.{◌≡◌, Ok, [], sym, ap, ◌∙◌}
use Rattle.std.proofs.lemmas.Bool.{eqb-true}
use Rattle.std.proofs.lemmas.List.{nil_from_length}
use Rattle.event_syntax.specs.Requested.{requested_of}
use Rattle.command_forms.specs.declared.refused.FaultyPart.TheVariants.{Value}
use Rattle.command_forms.specs.Refusing.{letter_r}
use Rattle.command_forms.proofs.EventLemmas.{nothing_meanwhile, read_there}
use Rattle.command_forms.proofs.deeds.events_of.Goals as goal

pub returns-then-is_empty : goal.returns-then-is_empty
returns-then-is_empty c =
    let empty : c.value_at-value.result.now ≡ [] = nil_from_length _ (eqb-true _ _ (sym c.if-is_empty.ensures)) in
    let read : requested_of c.value_at.result.now ≡ Ok c.in_ok-requested.requested =
    read_there (Value letter_r) (requested_of c.value_at.result.now) c.read_events.result c.in_ok-requested.requested
    c.read_events.ensures.answers c.in_ok-requested.ensures in
    nothing_meanwhile c.args.params.now c.in_ok-requested.requested (ap requested_of (sym c.value_at.ensures) ∙ read)
    (sym c.value_at-value.ensures ∙ empty)
    ∙ ap Ok (sym c.in_ok-requesting.ensures)
