-- What is said of a step whose last piece is to post what an end sent: that is done, or memory was refused.
use Rattle.std.proofs.Common.{◌≡◌, Option, Some, None}
use Rattle.std.specs.Prelude.{IfErr, OnOk, Result, Ok, Err}
use Rattle.std.specs.Result.{result_err}
use Rattle.agent_core.specs.declared.step.StepRefusal.{StepRefusal}
use Rattle.agent_core.specs.declared.step.StepRefusal.TheVariants.{OutOfMemory}
use Rattle.agent_core.specs.WorldStands.{Leaves}

pub post_ok : (result : Result (Unit {0}) StepRefusal) (posts done : Type 0) → OnOk result posts → (posts → done) → OnOk result done
post_ok (Ok x) posts done was f = f was
post_ok (Err refusal) posts done was f = tt

pub post_err : (result : Result (Unit {0}) StepRefusal) (same : Type 0) → IfErr result (λ refusal. refusal ≡ OutOfMemory) → IfErr result (λ refusal. Leaves refusal (Unit {0}) same)
post_err (Ok x) same wants = tt
post_err (Err refusal) same wants = rw wants tt

pub post_ends : (P : Option StepRefusal → Type 0) (result : Result (Unit {0}) StepRefusal) → IfErr result (λ refusal. refusal ≡ OutOfMemory) → P None → P (Some OutOfMemory) → P (result_err result)
post_ends P (Ok x) wants done spent = done
post_ends P (Err refusal) wants done spent = rw wants spent
