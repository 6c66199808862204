use Rattle.std.proofs.Common.{◌≡◌, ℕ, ◌+◌, ◌∷◌, [], ◌++◌, length, ap, ◌∙◌, arith}
use Rattle.std.specs.List.{flat_map}
use Rattle.mg_bytes.specs.Lines.{ended}
use Rattle.rgw_scripts.specs.declared.step.ScriptStep.TheVariants as steps
use Rattle.rgw_scripts.specs.Script.{read_from, steps_after}
use Rattle.rgw_scripts.proofs.ScriptLaws.{ended_from, unended_from}
use Rattle.rgw_scripts.proofs.laws.a_from_is_one_step.Goals as goal

pub returns-clause-whole : goal.returns-clause-whole
unfolding read_from
returns-clause-whole c = λ number before line source text more is none.
    let far : number + 1 + length text + 1 ≡ number + length text + 2 = omega arith in
    rw is (ended_from (number + 1) number before source [] text more none
    ∙ ap (λ (n : ℕ). steps_after n (before ++ steps.Datagram source (flat_map ended text) ∷ []) more) far)

pub returns-clause-open : goal.returns-clause-open
unfolding read_from
returns-clause-open c = λ number before line source text is none. rw is (unended_from (number + 1) number before source [] text none)
