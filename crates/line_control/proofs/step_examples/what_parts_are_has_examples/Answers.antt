use Rattle.line_control.proofs.step_examples.what_parts_are_has_examples.Goals as goal

pub returns-clause-older_still : goal.returns-clause-older_still
returns-clause-older_still c = λ text is kept takes. takes.0
