use Rattle.command_forms.proofs.FormLemmas.{form_lines, form_may_be}
use Rattle.command_forms.proofs.laws.a_form_is_for_lines.Goals as goal

pub returns : goal.returns
returns c = record { lines = form_lines; wildcards = form_may_be }
