-- What lines for the telephones ask for, where memory may be wanted to read them.
use Rattle.std.proofs.Common.{◌≡◌, true, refl, Option, Some, None}
use Rattle.rgw_scripts.specs.declared.step.ScriptLine.{ScriptLine}
use Rattle.rgw_scripts.specs.declared.step.ScriptLine.TheVariants.{Empty, From, Whole}
use Rattle.rgw_scripts.specs.declared.step.ScriptStep.TheVariants as steps
use Rattle.telephone_control.specs.Asking.{request_by, wants_memory}

pub by_step : (said : Option ScriptLine) → wants_memory (request_by said) ≡ true
by_step None = refl
by_step (Some Empty) = refl
by_step (Some (From source)) = refl
by_step (Some (Whole (steps.Phone line act))) = refl
by_step (Some (Whole (steps.Show line))) = refl
by_step (Some (Whole (steps.Datagram source bytes))) = refl
by_step (Some (Whole (steps.Tick by))) = refl
by_step (Some (Whole (steps.At moment))) = refl
by_step (Some (Whole (steps.Wait by))) = refl
