-- For people: what a command is refused for, and what of it is at fault, in words (this gateway's profile).
use Rattle.std.specs.Prelude.{ℕ, codes, decimal, List, [], ◌∷◌, ◌++◌, Option, Some, None, option_map, Result}
use Rattle.std.specs.Result.{result_err}
use Rattle.mg_bytes.specs.declared.return_code.ReturnCode.{ReturnCode}
use Rattle.mg_bytes.specs.ReturnCode.{words_of, code_with}
use Rattle.mgcp_text.specs.declared.message.Message.{Message}
use Rattle.mgcp_text.specs.declared.confirmation.KValue.{KValue}
use Rattle.endpoint_names.specs.declared.names.Names.{Names}
use Rattle.command_forms.specs.declared.refused.FaultyPart.{FaultyPart}
use Rattle.command_forms.specs.declared.refused.FaultyPart.TheVariants.{Verb, Name, Line, Missing, Value, Description}
use Rattle.command_forms.specs.declared.refused.Refused.{Refused}
use Rattle.command_forms.specs.Order.{judged_in}

-- what a message is refused for, whose K was read before, if it is refused
abbrev pub explained_in : Message → KValue → Names → Option Refused
explained_in message confirms names = result_err (judged_in message confirms names)

-- what of a command is at fault that is judged so, if that is refused
abbrev pub fault_by : {A : Type 0} → Result A Refused → Option FaultyPart
fault_by judged = option_map (λ refused. refused.at) (result_err judged)

-- its code
abbrev pub refused_code : Option Refused → Option ℕ
refused_code refused = option_map (λ found. found.code) refused

-- In words

-- what is at fault, and which of these it is
abbrev pub part_name : FaultyPart → List ℕ
part_name Verb = codes "verb"
part_name Name = codes "endpoint name"
part_name (Line number) = codes "parameter line "
part_name (Missing letter) = codes "missing parameter "
part_name (Value letter) = codes "value of parameter "
part_name Description = codes "remote description"

abbrev pub part_number : FaultyPart → List ℕ
part_number Verb = []
part_number Name = []
part_number (Line number) = decimal number
part_number (Missing letter) = letter ∷ []
part_number (Value letter) = letter ∷ []
part_number Description = []

abbrev pub words_from : Option ReturnCode → List ℕ
words_from None = []
words_from (Some code) = words_of code

-- a line such as `510 protocol error: value of parameter R`
unfoldable pub explanation_of : Refused → List ℕ
explanation_of refused =
    decimal refused.code ++ codes " " ++ words_from (code_with refused.code) ++ codes ": "
    ++ part_name refused.at ++ part_number refused.at
