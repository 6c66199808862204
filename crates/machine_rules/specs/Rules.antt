-- Rules of a line (RFC 3435, 2.3.3 and 4.4.1), over which its definition is written.
use Rattle.std.specs.Prelude.{ℕ, Bool, true, false, ◌||◌, List, [], Option, Some, None}
use Rattle.packages.specs.declared.handling.Notifying.{Notifying}
use Rattle.packages.specs.declared.handling.Notifying.TheVariants.{Step, Loop}
use Rattle.packages.specs.declared.handling.Quarantined.{Quarantined}
use Rattle.packages.specs.declared.handling.Quarantined.TheVariants.{Process, Discard}
use Rattle.packages.specs.declared.observed.Observed.{Observed}
use Rattle.machine_rules.specs.declared.state.State.{State}
use Rattle.machine_rules.specs.declared.state.State.TheVariants.{Normal, Notification, Lockstep}

-- how many events can be quarantined (this gateway's profile)
abbrev pub most_quarantined : ℕ
most_quarantined = 256

-- quarantined events occur up to the first that notifies
abbrev pub ends_drain : {A : Type 0} → Option A → Bool
ends_drain None = false
ends_drain (Some notice) = true

-- where a notification isn't answered yet, or the opening, a request is remembered, and what is quarantined doesn't occur yet
abbrev pub awaits_answer : State → Bool
awaits_answer Normal = false
awaits_answer Notification = true
awaits_answer Lockstep = false

-- a request drops the quarantined events, or they are processed
abbrev pub discards : Quarantined → Bool
discards Process = false
discards Discard = true

abbrev pub is_loop : Notifying → Bool
is_loop Loop = true
is_loop Step = false

-- once the notification is answered, events occur from now on in loop, or where a request came since it began
abbrev pub resumes_when_answered : Notifying → Bool → Bool
resumes_when_answered notifying renewed = is_loop notifying || renewed

-- with E alone what was accumulated is dropped
abbrev pub accumulated_after_embedding : List Observed → List Observed
accumulated_after_embedding events = []
