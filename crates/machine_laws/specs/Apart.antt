-- When lines keep apart: by what arrived, no command is for several lines, none has to do with a transaction of another
-- line, and none was lost (RFC 3435, 3.2.1.2, 3.2.1.3, 3.2.2.1 and 3.5.1).
use Rattle.std.specs.Prelude.{◌≡◌, ℕ, ◌==◌, ◌&&◌, ◌||◌, not, Bool, true, false, List, [], ◌∷◌, map, flat_map, Option, Some, None, Result, Ok, Err}
use Rattle.std.specs.List.{list_all}
use Rattle.endpoint_names.specs.declared.name.Pattern.{Pattern}
use Rattle.endpoint_names.specs.declared.name.Pattern.TheVariants.{One, All, Any}
use Rattle.endpoint_names.specs.declared.name.NameFault.{NameFault}
use Rattle.endpoint_names.specs.Name.{name_of}
use Rattle.transmission.specs.Arrival.{Arrival}
use Rattle.transmission.specs.Firsts.{Kind, a_first, a_repeat, lost, kind_of, firsts_with}
use Rattle.transmission.specs.Memory.{most_firsts}
use Rattle.transmission.specs.Span.{is_named}
use Rattle.mgcp_text.specs.declared.message.Message.TheVariants as messages
use Rattle.mgcp_text.specs.Reading.{Outcome, message, no_header, bad_version, bad_body}
use Rattle.plain_machine.specs.declared.setup.Setup.{Setup}
use Rattle.plain_machine.specs.Arriving.{TextArrival, arrivals_of}
use Rattle.plain_machine.specs.Event.{GatewayEvent}
use Rattle.plain_machine.specs.Transactions.{Asked, asked, commands_of}
use Rattle.machine_laws.specs.OwnEvents.{line_read}

-- No command is for several lines

-- a name of one line, or of none
abbrev pub is_single : Result Pattern NameFault → Bool
is_single (Ok (One line)) = true
is_single (Ok All) = false
is_single (Ok Any) = false
is_single (Err fault) = true

-- it isn't a command for all lines or for any one
abbrev pub is_for_one : Setup → Outcome → Bool
is_for_one setup no_header = true
is_for_one setup (bad_version id) = true
is_for_one setup (bad_body id) = true
is_for_one setup (message (messages.Command verb id name params body)) =
    is_single (name_of name setup.names.domain setup.names.lines)
is_for_one setup (message (messages.Response code id params body)) = true

-- No two commands of different lines have to do with each other

-- a command that arrived, and the line as which it reads, if it reads as one
pub record ReadCommand : Type 0 where
  pub asked : Asked
  pub line : Option ℕ

abbrev pub read_as : Option ℕ → Asked → ReadCommand
read_as line one = record { asked = one; line = line }

abbrev pub commands_at : Setup → TextArrival → List ReadCommand
commands_at setup a = map (read_as (line_read setup a.outcome)) (asked a)

-- all commands that arrived with these events
abbrev pub commands_read : Setup → List GatewayEvent → List ReadCommand
commands_read setup events = flat_map (commands_at setup) (arrivals_of events)

-- they have one transaction id, or the K of the one names the id of the other
abbrev pub has_to_do_with : Asked → Asked → Bool
has_to_do_with one other = one.id == other.id || is_named other.id one.confirms

abbrev pub same_line : Option ℕ → Option ℕ → Bool
same_line None None = true
same_line None (Some other) = false
same_line (Some line) None = false
same_line (Some line) (Some other) = line == other

-- then they read as the same line, or both as none
abbrev pub keeps_apart : ReadCommand → ReadCommand → Bool
keeps_apart one other = not (has_to_do_with one.asked other.asked) || same_line one.line other.line

-- No command was lost to a full history

abbrev pub is_lost : Kind → Bool
is_lost a_first = false
is_lost (a_repeat copied) = false
is_lost lost = true

-- none of these arrivals is lost, each after those before it
unfoldable pub none_lost : ℕ → List Arrival → List Arrival → Bool
none_lost limit firsts [] = true
none_lost limit firsts (a ∷ arrivals) =
    not (is_lost (kind_of limit firsts a)) && none_lost limit (firsts_with limit firsts a) arrivals

-- All three, of all that arrived with these events
pub record LinesKeepApart (setup : Setup) (events : List GatewayEvent) : Type 0 where
  pub one_each : list_all (λ (a : TextArrival). is_for_one setup a.outcome) (arrivals_of events) ≡ true
  pub apart : list_all (λ (one : ReadCommand). list_all (keeps_apart one) (commands_read setup events))
      (commands_read setup events) ≡ true
  pub remembered : none_lost most_firsts [] (commands_of setup events) ≡ true
