-- What is counted of the texts that come, by what they were. A count stays at its greatest value.
use Rattle.std.specs.Prelude.{ℕ, Bool, true, false, ◌==◌, List, [], ◌∷◌, ◌++◌, replicate, Option, Some, None}
use Rattle.std.specs.List.{fold}
use Rattle.mgcp_text.specs.declared.message.Verb.{Verb}
use Rattle.plain_machine.specs.declared.setup.Setup.{Setup}
use Rattle.plain_machine.specs.Event.{GatewayEvent}
use Rattle.plain_machine.specs.Machine.{Machine}
use Rattle.plain_machine.specs.Happening.{effect}
use Rattle.gateway_core.specs.declared.outcome.Reply.{Reply}
use Rattle.gateway_core.specs.declared.outcome.Reply.TheVariants.{First, Again, Silence, NoRoom}
use Rattle.gateway_core.specs.declared.outcome.TextOutcome.{TextOutcome}
use Rattle.gateway_core.specs.declared.outcome.TextOutcome.TheVariants.{NoMessage, Command, Response}
use Rattle.gateway_core.specs.Outcomes.{outcomes_of}
use Rattle.gateway_core.specs.Wire.{counted}
use Rattle.message_counts.specs.SentCounting.{one_more_at, place_of}
use Rattle.message_counts.specs.declared.text_counts.TextCounts.{TextCounts}

-- commands by verb, responses, texts that are no message that can be read, and commands that found no room
pub record Counts : Type 0 where
  pub commands : List ℕ
  pub responses : ℕ
  pub others : ℕ
  pub lost : ℕ

abbrev pub counts_in : TextCounts → Counts
counts_in counts = record { commands = counts.commands; responses = counts.responses; others = counts.others; lost = counts.lost }

abbrev pub no_counts : Counts
no_counts = record { commands = replicate 10 0; responses = 0; others = 0; lost = 0 }

-- a command with this verb came, or one that can't be read
abbrev pub with_command : Counts → Option Verb → Counts
with_command counts None = record counts { others = counted counts.others 1 }
with_command counts (Some verb) = record counts { commands = one_more_at counts.commands (place_of verb) }

-- a command got this: one that found no room is lost
abbrev pub with_reply : Counts → Reply → Counts
with_reply counts (First code fault) = counts
with_reply counts (Again code) = counts
with_reply counts Silence = counts
with_reply counts NoRoom = record counts { lost = counted counts.lost 1 }

-- a text came that was this
abbrev pub with_text : Counts → TextOutcome → Counts
with_text counts NoMessage = record counts { others = counted counts.others 1 }
with_text counts (Command verb id reply) = with_reply (with_command counts verb) reply
with_text counts (Response id is_acknowledged) = record counts { responses = counted counts.responses 1 }

-- texts came that were these
abbrev pub with_texts : Counts → List TextOutcome → Counts
with_texts counts outcomes = fold with_text counts outcomes

-- events came, one after the other
unfoldable pub counts_after : Setup → Machine → Counts → List GatewayEvent → Counts
counts_after setup m counts [] = counts
counts_after setup m counts (event ∷ events) =
    counts_after setup (effect setup m event).value (with_texts counts (outcomes_of setup m event)) events

-- all that their texts were
unfoldable pub outcomes_from : Setup → Machine → List GatewayEvent → List TextOutcome
outcomes_from setup m [] = []
outcomes_from setup m (event ∷ events) = outcomes_of setup m event ++ outcomes_from setup (effect setup m event).value events

-- What each count is the number of

abbrev pub is_verb_at : ℕ → Option Verb → Bool
is_verb_at place None = false
is_verb_at place (Some verb) = place_of verb == place

-- a command whose verb has this place
abbrev pub is_command_at : ℕ → TextOutcome → Bool
is_command_at place NoMessage = false
is_command_at place (Command verb id reply) = is_verb_at place verb
is_command_at place (Response id is_acknowledged) = false

abbrev pub is_response : TextOutcome → Bool
is_response NoMessage = false
is_response (Command verb id reply) = false
is_response (Response id is_acknowledged) = true

abbrev pub is_unread : Option Verb → Bool
is_unread None = true
is_unread (Some verb) = false

-- no message, or a command that can't be read
abbrev pub is_other : TextOutcome → Bool
is_other NoMessage = true
is_other (Command verb id reply) = is_unread verb
is_other (Response id is_acknowledged) = false

abbrev pub is_loss : Reply → Bool
is_loss (First code fault) = false
is_loss (Again code) = false
is_loss Silence = false
is_loss NoRoom = true

-- a command that found no room among those that are remembered
abbrev pub is_lost : TextOutcome → Bool
is_lost NoMessage = false
is_lost (Command verb id reply) = is_loss reply
is_lost (Response id is_acknowledged) = false
