-- What falls due on one line, or of the gateway itself, as if nothing else did (RFC 3435, 2.1.5, 2.1.7, 3.5.3 and 4.4.6).
use Rattle.std.specs.Prelude.{◌≡◌, ℕ, Option, Some, None, option_and_then}
use Rattle.timers.specs.declared.due_item.DueItem.{DueItem}
use Rattle.plain_machine.specs.declared.post.Post.{Post}
use Rattle.plain_machine.specs.declared.setup.Setup.{Setup}
use Rattle.plain_machine.specs.declared.endpoint.Endpoint.{Endpoint}
use Rattle.plain_machine.specs.Effect.{Effect, silently, effect_map, behind}
use Rattle.plain_machine.specs.Machine.{Endpoints}
use Rattle.plain_machine.specs.Falling.{due_on, if_by, happened_on, happened_under}
use Rattle.machine_laws.specs.Belonging.{of_line}

-- what is seen of an effect on the endpoints: what this shows of them, and what this line sends
abbrev pub seen : {S : Type 0} → (Endpoints → S) → ℕ → Effect Endpoints → Effect S
seen view line effect = record { value = view effect.value; sent = of_line line effect.sent }

-- While something is due up to a moment, the first of it happens at its own moment; when nothing is, all is done.
pub data PassesAlone {S : Type 0} (due : S → Option DueItem) (happens : DueItem → S → Effect S) (moment : ℕ) : S → Effect S → Type 0 where
  rests : (was : S) (is : Effect S) → if_by moment (due was) ≡ None → is ≡ silently was → PassesAlone due happens moment was is
  goes_on : (was : S) (item : DueItem) (rest is : Effect S) → if_by moment (due was) ≡ Some item
      → PassesAlone due happens moment (happens item was).value rest
      → is ≡ behind (happens item was).sent rest → PassesAlone due happens moment was is

-- of the endpoint of a line, if there is one
abbrev pub line_due : ℕ → Option Endpoint → Option DueItem
line_due line found = option_and_then (λ endpoint. due_on (line, endpoint)) found

abbrev pub line_happens : Setup → ℕ → DueItem → Option Endpoint → Effect (Option Endpoint)
line_happens setup line item None = silently None
line_happens setup line item (Some endpoint) = effect_map Some (happened_on item.kind setup line item.moment endpoint)

-- of the gateway itself
abbrev pub own_happens : Setup → DueItem → Post → Effect Post
own_happens setup item own = happened_under item.kind setup 0 item.moment own
