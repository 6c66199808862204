-- What messages and their faults have (RFC 3435, 3.2 and 3.3).
use Rattle.std.specs.Prelude.{ℕ, Bool, List, find, Option}
use Rattle.mg_bytes.specs.Case.{same_but_case}
use Rattle.mgcp_text.specs.declared.message.Param.{Param}
use Rattle.mgcp_text.specs.declared.message.Message.{Message}
use Rattle.mgcp_text.specs.declared.message.Message.TheVariants.{Command, Response}
use Rattle.mgcp_text.specs.declared.message.TextFault.{TextFault}
use Rattle.mgcp_text.specs.declared.message.TextFault.TheVariants.{OutOfMemory, NoHeader, BadVersion, BadBody}

-- the parameters of a message
abbrev pub params_in : Message → List Param
params_in (Command verb id name params body) = params
params_in (Response code id params body) = params

-- the parameter has this code, without case (RFC 3435, 3.2.2)
abbrev pub has_code : List ℕ → Param → Bool
has_code code param = same_but_case param.code code

-- the first parameter with this code
abbrev pub param_at : List ℕ → List Param → Option Param
param_at code params = find (has_code code) params

-- a fault's number, from 1
abbrev pub number_of : TextFault → ℕ
number_of OutOfMemory = 1
number_of NoHeader = 2
number_of (BadVersion id) = 3
number_of (BadBody id) = 4
