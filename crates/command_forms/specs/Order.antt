-- What a command asks for, and the order in which it is checked: the first fault gives the return code (RFC 3435, 2.4;
-- the order is this gateway's profile).
use Rattle.std.specs.Prelude.{ℕ, Bool, true, false, ◌&&◌, ◌||◌, not, codes, List, [], ◌∷◌, Option, Some, None, is_none, option_map, Result, Ok, Err}
use Rattle.mg_bytes.specs.Checks.{unless, first_fault, checked, given}
use Rattle.mgcp_text.specs.declared.message.Param.{Param}
use Rattle.mgcp_text.specs.declared.message.Message.{Message}
use Rattle.mgcp_text.specs.declared.confirmation.KValue.{KValue}
use Rattle.mgcp_text.specs.Message.{params_in}
use Rattle.endpoint_names.specs.declared.names.Names.{Names}
use Rattle.endpoint_names.specs.declared.table.Host.{Host}
use Rattle.command_forms.specs.declared.forms.Asks.{Asks}
use Rattle.command_forms.specs.declared.forms.Asks.TheVariants.{Reports, Does}
use Rattle.command_forms.specs.declared.forms.Audit.{Audit}
use Rattle.command_forms.specs.declared.refused.FaultyPart.TheVariants.{Verb, Value}
use Rattle.command_forms.specs.declared.refused.Refused.{Refused}
use Rattle.command_forms.specs.declared.verbs.Connecting.{Connecting}
use Rattle.command_forms.specs.declared.verbs.Connecting.TheVariants.{Keeps, Creates, Modifies, Deletes}
use Rattle.command_forms.specs.declared.verbs.Meant.{Meant}
use Rattle.command_forms.specs.declared.verbs.Purpose.{Purpose}
use Rattle.command_forms.specs.declared.verbs.Purpose.TheVariants.{ForReport, ForDeed}
use Rattle.command_forms.specs.declared.verbs.Reporting.{Reporting}
use Rattle.command_forms.specs.declared.verbs.Reporting.TheVariants.{Endpoint, Connection}
use Rattle.command_forms.specs.declared.verbs.Task.{Task}
use Rattle.command_forms.specs.declared.verbs.Task.TheVariants.{ReportOf, DeedOn}
use Rattle.command_forms.specs.declared.verbs.VerbRow.{VerbRow}
use Rattle.command_forms.specs.Command.{Command, command_in}
use Rattle.mg_bytes.specs.Steps.{◌>>=◌}
use Rattle.command_forms.specs.Refusing.{letter_c, letter_i, letter_k, letter_x, refusal, absence, placed, coded}
use Rattle.command_forms.specs.Meaning.{meant, meant_in}
use Rattle.command_forms.specs.Params.{params_fault, missing_letter, has, has_none, value_at}
use Rattle.command_forms.specs.Values.{is_readable, identifier_from}
use Rattle.command_forms.specs.Deeds.{deed_of}

-- what is to be reported: the items of F (RFC 3435, 2.3.10), and of a connection that which I names (RFC 3435, 2.3.11)
abbrev pub audit_of : Reporting → List Param → Result Audit Refused
audit_of Endpoint params = Ok (record { items = value_at (codes "F") params; connection = None })
audit_of Connection params =
    placed (Value letter_i) (identifier_from (value_at (codes "I") params))
    >>= λ identifier. Ok (record { items = value_at (codes "F") params; connection = Some identifier })

-- a connection that is to be deleted is named together with its call (RFC 3435, 2.3.7)
abbrev pub names_call : Purpose → List Param → Bool
names_call (ForReport reporting) params = true
names_call (ForDeed Keeps) params = true
names_call (ForDeed Creates) params = true
names_call (ForDeed Modifies) params = true
names_call (ForDeed Deletes) params = has (codes "C") params || not (has (codes "I") params)

-- R, S, D, T and Q are of a request, and stand where its X does (RFC 3435, 2.3.3 and 2.3.5)
abbrev pub are_requested : List Param → Bool
are_requested params = has (codes "X") params || has_none (codes "RSDTQ") params

-- the letter of the first parameter that is missing: one that the verb must have, C beside I, X beside what is requested
unfoldable pub absent_letter : VerbRow → List Param → Option ℕ
absent_letter row params = first_fault
    (missing_letter row.must params
    ∷ unless (names_call row.purpose params) letter_c
    ∷ unless (are_requested params) letter_x
    ∷ [])

-- the text behind the parameters, which counts where a connection is created or modified (RFC 3435, 2.3.5 and 2.3.6)
abbrev pub counted : Connecting → List ℕ → List ℕ
counted Keeps body = []
counted Creates body = body
counted Modifies body = body
counted Deletes body = []

-- what is to be done on these lines, by these parameters and the text behind them
abbrev pub asked_for : Task → List Param → List ℕ → List Host → Result Asks Refused
asked_for (ReportOf reporting target) params body hosts =
    audit_of reporting params >>= λ audit. Ok (Reports target audit)
asked_for (DeedOn connecting target) params body hosts =
    deed_of connecting params (counted connecting body) hosts >>= λ deed. Ok (Does target deed)

-- the fault that is found before any value but K's: that of a parameter from top to bottom, of one that is missing: 510
-- (protocol error), of a K that can't be read
abbrev pub early_fault : Meant → List Param → KValue → Option Refused
early_fault found params confirms = first_fault
    (params_fault found.row 1 [] params
    ∷ option_map absence (absent_letter found.row params)
    ∷ unless (is_readable confirms) (refusal (Value letter_k) 510)
    ∷ [])

-- What a command asks for whose verb and name mean this. The faults are in this order: those of the parameters, one that
-- is missing, and then those of the values, wherever their lines stand, K first, and of the description
unfoldable pub asked : Meant → List Param → List ℕ → KValue → List Host → Result Asks Refused
asked found params body confirms hosts =
    checked (early_fault found params confirms) (asked_for found.task params body hosts)

-- an audit asks for a report
abbrev pub is_audit : Purpose → Bool
is_audit (ForReport reporting) = true
is_audit (ForDeed connecting) = false

-- What a command asks for, whose K was read before, or what it is refused for: the verb and the name are judged first,
-- and then a gateway that doesn't serve yet refuses what is no audit: 405 (the endpoint is restarting)
unfoldable pub judged_while : Bool → Command → KValue → Names → Result Asks Refused
judged_while serves command confirms names = do
  found ← meant command names
  checked (unless (serves || is_audit found.row.purpose) (refusal Verb 405))
      (asked found command.params command.body confirms names.table)

-- the same of a message: one that is no command has no verb that is served
abbrev pub judged_while_in : Bool → Message → KValue → Names → Result Asks Refused
judged_while_in serves message confirms names =
    given (command_in message) (refusal Verb 504) (λ command. judged_while serves command confirms names)

-- what a command asks for, or the return code of its first fault
unfoldable pub form_while : Bool → Command → KValue → Names → Result Asks ℕ
form_while serves command confirms names = coded (judged_while serves command confirms names)

abbrev pub form_while_in : Bool → Message → KValue → Names → Result Asks ℕ
form_while_in serves message confirms names =
    given (command_in message) 504 (λ command. form_while serves command confirms names)

-- these of a gateway that serves
abbrev pub judged : Command → KValue → Names → Result Asks Refused
judged command confirms names = judged_while true command confirms names

abbrev pub judged_in : Message → KValue → Names → Result Asks Refused
judged_in message confirms names = judged_while_in true message confirms names

abbrev pub form_of : Command → KValue → Names → Result Asks ℕ
form_of command confirms names = form_while true command confirms names

abbrev pub form_in : Message → KValue → Names → Result Asks ℕ
form_in message confirms names = form_while_in true message confirms names

-- Memory

-- a deed takes it, and a report none
abbrev pub is_deed : Task → Bool
is_deed (ReportOf reporting target) = false
is_deed (DeedOn connecting target) = true

-- to judge a command that means this takes memory: it is a deed, and has no early fault
abbrev pub takes_memory : Meant → List Param → KValue → Bool
takes_memory found params confirms = is_none (early_fault found params confirms) && is_deed found.task

abbrev pub meant_takes_memory : Result Meant Refused → List Param → KValue → Bool
meant_takes_memory (Ok found) params confirms = takes_memory found params confirms
meant_takes_memory (Err refused) params confirms = false

-- and so of a message, where the gateway serves; a verb and a name that mean nothing take none
abbrev pub takes_memory_in : Bool → Message → KValue → Names → Bool
takes_memory_in serves message confirms names =
    serves && meant_takes_memory (meant_in message names) (params_in message) confirms
