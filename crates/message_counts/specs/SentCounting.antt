-- What is counted of what a gateway sends and gives up. A count stays at its greatest value.
use Rattle.std.specs.Prelude.{ℕ, Bool, true, false, not, ◌==◌, if◌then◌else◌, List, [], ◌∷◌, ◌++◌, replicate, slice_set, slice_index_or}
use Rattle.std.specs.List.{fold}
use Rattle.mgcp_text.specs.declared.message.Verb.{Verb}
use Rattle.mgcp_text.specs.declared.message.Verb.TheVariants.{Epcf, Rqnt, Ntfy, Crcx, Mdcx, Dlcx, Auep, Aucx, Rsip, Other}
use Rattle.plain_machine.specs.declared.given_up.GivenUpCommand.{GivenUpCommand}
use Rattle.gateway_core.specs.declared.sent.SentMessage.{SentMessage}
use Rattle.plain_machine.specs.declared.label.What.{What}
use Rattle.plain_machine.specs.declared.label.What.TheVariants.{Answer, Again, Command, Resent, Acknowledgement}
use Rattle.plain_machine.specs.declared.setup.Setup.{Setup}
use Rattle.plain_machine.specs.Event.{GatewayEvent}
use Rattle.plain_machine.specs.GivingUp.{given_up_with}
use Rattle.gateway_core.specs.Labelling.{labels_of}
use Rattle.plain_machine.specs.Machine.{Machine}
use Rattle.plain_machine.specs.Happening.{effect}
use Rattle.gateway_core.specs.Wire.{counted}
use Rattle.message_counts.specs.declared.sent_counts.SentCounts.{SentCounts}

-- sends of its own commands by verb, and of these the ones that were sent before; responses by return code, and of these the
-- answers that were given before; commands that were given up, of the gateway itself and of its lines
pub record Tally : Type 0 where
  pub commands : List ℕ
  pub commands_again : List ℕ
  pub answers : List ℕ
  pub again : ℕ
  pub given_up_by_gateway : ℕ
  pub given_up_by_lines : ℕ

abbrev pub tally_in : SentCounts → Tally
tally_in counts = record {
  commands = counts.commands;
  commands_again = counts.commands_again;
  answers = counts.answers.items;
  again = counts.again;
  given_up_by_gateway = counts.given_up_by_gateway;
  given_up_by_lines = counts.given_up_by_lines;
}

abbrev pub no_tally : Tally
no_tally = record {
  commands = replicate 10 0;
  commands_again = replicate 10 0;
  answers = replicate 1000 0;
  again = 0;
  given_up_by_gateway = 0;
  given_up_by_lines = 0;
}

-- one more at this place, if it is one
abbrev pub one_more_at : List ℕ → ℕ → List ℕ
one_more_at numbers place = slice_set numbers place (counted (slice_index_or numbers place 0) 1)

-- the place of a verb's count (RFC 3435, 3.2.1.1)
abbrev pub place_of : Verb → ℕ
place_of Epcf = 0
place_of Rqnt = 1
place_of Ntfy = 2
place_of Crcx = 3
place_of Mdcx = 4
place_of Dlcx = 5
place_of Auep = 6
place_of Aucx = 7
place_of Rsip = 8
place_of Other = 9

-- a response with this return code was sent
abbrev pub with_answer : Tally → ℕ → Tally
with_answer tally code = record tally { answers = one_more_at tally.answers code }

-- a message was sent that was this
abbrev pub with_what : Tally → What → Tally
with_what tally (Answer code) = with_answer tally code
with_what tally (Again code) = record (with_answer tally code) { again = counted tally.again 1 }
with_what tally (Command verb) = record tally { commands = one_more_at tally.commands (place_of verb) }
with_what tally (Resent verb send) = record tally {
  commands = one_more_at tally.commands (place_of verb);
  commands_again = one_more_at tally.commands_again (place_of verb);
}
with_what tally Acknowledgement = with_answer tally 0

abbrev pub with_message : Tally → SentMessage → Tally
with_message tally message = with_what tally message.label.what

-- these were sent
abbrev pub with_sent : Tally → List SentMessage → Tally
with_sent tally sent = fold with_message tally sent

-- the command is the gateway's own: its line is 0
abbrev pub is_of_gateway : GivenUpCommand → Bool
is_of_gateway given_up = given_up.line == 0

abbrev pub is_of_line : GivenUpCommand → Bool
is_of_line given_up = not (is_of_gateway given_up)

abbrev pub with_own_given_up : Tally → Tally
with_own_given_up tally = record tally { given_up_by_gateway = counted tally.given_up_by_gateway 1 }

abbrev pub with_line_given_up : Tally → Tally
with_line_given_up tally = record tally { given_up_by_lines = counted tally.given_up_by_lines 1 }

-- a command was given up
abbrev pub with_one_given_up : Tally → GivenUpCommand → Tally
with_one_given_up tally given_up =
    if is_of_gateway given_up then with_own_given_up tally else with_line_given_up tally

-- these were given up
abbrev pub with_given_up : Tally → List GivenUpCommand → Tally
with_given_up tally given_up = fold with_one_given_up tally given_up

-- how many were, whosever they are
abbrev pub all_given_up : Tally → ℕ
all_given_up tally = counted tally.given_up_by_gateway tally.given_up_by_lines

-- events came, one after the other
unfoldable pub tally_after : Setup → Machine → Tally → List GatewayEvent → Tally
tally_after setup m tally [] = tally
tally_after setup m tally (event ∷ events) =
    tally_after setup (effect setup m event).value
    (with_given_up (with_sent tally (labels_of (effect setup m event).sent)) (given_up_with setup m event)) events

-- all that was given up at them
unfoldable pub given_up_from : Setup → Machine → List GatewayEvent → List GivenUpCommand
given_up_from setup m [] = []
given_up_from setup m (event ∷ events) =
    given_up_with setup m event ++ given_up_from setup (effect setup m event).value events

-- What each count is the number of

-- a command of its own whose verb has this place
abbrev pub has_verb_at : ℕ → What → Bool
has_verb_at place (Answer code) = false
has_verb_at place (Again code) = false
has_verb_at place (Command verb) = place_of verb == place
has_verb_at place (Resent verb send) = place_of verb == place
has_verb_at place Acknowledgement = false

abbrev pub is_command_at : ℕ → SentMessage → Bool
is_command_at place message = has_verb_at place message.label.what

-- one that was sent before
abbrev pub has_again_at : ℕ → What → Bool
has_again_at place (Answer code) = false
has_again_at place (Again code) = false
has_again_at place (Command verb) = false
has_again_at place (Resent verb send) = place_of verb == place
has_again_at place Acknowledgement = false

abbrev pub is_sent_again_at : ℕ → SentMessage → Bool
is_sent_again_at place message = has_again_at place message.label.what

-- a response with this return code
abbrev pub has_code : ℕ → What → Bool
has_code code (Answer given) = given == code
has_code code (Again given) = given == code
has_code code (Command verb) = false
has_code code (Resent verb send) = false
has_code code Acknowledgement = 0 == code

abbrev pub is_answer_with : ℕ → SentMessage → Bool
is_answer_with code message = has_code code message.label.what

-- an answer that was given before
abbrev pub is_again : What → Bool
is_again (Answer code) = false
is_again (Again code) = true
is_again (Command verb) = false
is_again (Resent verb send) = false
is_again Acknowledgement = false

abbrev pub is_given_again : SentMessage → Bool
is_given_again message = is_again message.label.what
