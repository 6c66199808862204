-- What an answer to an audit tells of a line's hook, and what that is to the exchange.
use Rattle.std.specs.Prelude.{ℕ, Bool, true, false, ◌||◌, ◌&&◌, codes, if◌then◌else◌, List, [], ◌∷◌, Option, Some, None}
use Rattle.mg_bytes.specs.Case.{same_but_case}
use Rattle.mg_bytes.specs.Items.{items_of}
use Rattle.mgcp_text.specs.declared.message.Param.{Param}
use Rattle.mgcp_text.specs.Message.{params_in, param_at}
use Rattle.mgcp_text.specs.Reading.{Outcome as Read, message, no_header, bad_version, bad_body}
use Rattle.call_processing.specs.declared.phase.Side.{Side}
use Rattle.call_processing.specs.declared.phase.Side.TheVariants.{Caller, Called}
use Rattle.call_processing.specs.declared.phase.Phase.{Phase}
use Rattle.call_processing.specs.declared.phase.Phase.TheVariants.{Resting, Dialling, Hearing, InCall}
use Rattle.call_processing.specs.declared.told.Told.{Told}
use Rattle.call_processing.specs.declared.told.Told.TheVariants.{OffHook, OnHook, Flash, Dialled, TimedOut, Restarted, Disconnected}

-- off hook or on hook, as an event state says it, with its package or without (RFC 3435, 2.3.10)
abbrev pub hook_of : List ℕ → Option Bool
hook_of state =
    if same_but_case state (codes "L/hd") || same_but_case state (codes "hd") then Some true
    else if same_but_case state (codes "L/hu") || same_but_case state (codes "hu") then Some false
    else None

abbrev pub hook_or : Option Bool → Option Bool → Option Bool
hook_or None later = later
hook_or (Some hook) later = Some hook

-- the first of them that says it
unfoldable pub hook_among : List (List ℕ) → Option Bool
hook_among [] = None
hook_among (state ∷ more) = hook_or (hook_of state) (hook_among more)

abbrev pub hook_at : Option Param → Option Bool
hook_at None = None
hook_at (Some param) = hook_among (items_of param.value)

-- what the parameters of an answer tell
abbrev pub hook_told : List Param → Option Bool
hook_told params = hook_at (param_at (codes "ES") params)

-- what an answer tells, by what it was read as; one that can't be read tells nothing
abbrev pub hook_by : Read → Option Bool
hook_by (message answer) = hook_told (params_in answer)
hook_by no_header = None
hook_by (bad_version id) = None
hook_by (bad_body id) = None

abbrev pub is_lifted : Side → Bool → Bool
is_lifted Caller answered = true
is_lifted Called answered = answered

-- the exchange has the line off hook
abbrev pub is_off : Phase → Bool
is_off Resting = false
is_off Dialling = true
is_off (Hearing tone) = true
is_off (InCall part) = is_lifted part.side part.answered

abbrev pub was_off : Option Phase → Bool
was_off None = false
was_off (Some phase) = is_off phase

-- only what is new of a hook is told; what is known already uses the line's request up alone
abbrev pub changed : Bool → Bool → Told
changed is_off was_off =
    if is_off then (if was_off then Flash else OffHook) else (if was_off then OnHook else Flash)

abbrev pub told_by_hook : Option Bool → Bool → Told
told_by_hook None was = Flash
told_by_hook (Some is) was = changed is was

abbrev pub is_off_hook : Option Told → Bool
is_off_hook None = false
is_off_hook (Some OffHook) = true
is_off_hook (Some OnHook) = false
is_off_hook (Some Flash) = false
is_off_hook (Some (Dialled to)) = false
is_off_hook (Some TimedOut) = false
is_off_hook (Some Restarted) = false
is_off_hook (Some Disconnected) = false

-- what a notification is to the exchange: one of what an audit has found says nothing new
abbrev pub notified : Bool → Option Told → Option Told
notified was_found_off told = if was_found_off && is_off_hook told then Some Flash else told
