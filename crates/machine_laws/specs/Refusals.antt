-- Whether a line refuses a deed (RFC 3435, 3.2.1.3: a command on all lines is done on all of them or on none).
use Rattle.std.specs.Prelude.{◌≡◌, ℕ, ◌<◌, Option, Some, None, option_and_then}
use Rattle.command_forms.specs.declared.forms.Target.{Target}
use Rattle.command_forms.specs.declared.forms.Deed.{Deed}
use Rattle.plain_machine.specs.Machine.{Endpoints, endpoint_at}
use Rattle.plain_machine.specs.Requesting.{refusal_on}

-- the code with which the line with this number refuses a deed, if there is such a line, it is meant, and it refuses
abbrev pub refusal_at : Endpoints → Target → Deed → ℕ → Option ℕ
refusal_at endpoints lines deed line =
    option_and_then (λ endpoint. refusal_on lines deed (line, endpoint)) (endpoint_at endpoints line)

-- a line refuses the deed: the least that does, with its code
pub record IsRefused (endpoints : Endpoints) (lines : Target) (deed : Deed) : Type 0 where
  pub line : ℕ
  pub code : ℕ
  pub refuses : refusal_at endpoints lines deed line ≡ Some code
  pub least : (other : ℕ) → other < line → refusal_at endpoints lines deed other ≡ None

-- no line does
abbrev pub NoneRefuses : Endpoints → Target → Deed → Type 0
NoneRefuses endpoints lines deed = (line : ℕ) → refusal_at endpoints lines deed line ≡ None
