-- What the verb and the name of a command mean: they are judged before all else, by 504, 500 and 503 (RFC 3435, 2.3,
-- 2.4 and 3.2.1; the order is this gateway's profile).
use Rattle.std.specs.Prelude.{ℕ, Bool, true, false, ◌==◌, ◌||◌, not, codes, List, Result, Ok, Err}
use Rattle.std.specs.Option.{ok_or}
use Rattle.mg_bytes.specs.Lists.{is_empty}
use Rattle.mg_bytes.specs.Checks.{unless, checked, given}
use Rattle.mgcp_text.specs.declared.message.Param.{Param}
use Rattle.mgcp_text.specs.declared.message.Message.{Message}
use Rattle.endpoint_names.specs.declared.name.Pattern.{Pattern}
use Rattle.endpoint_names.specs.declared.name.Pattern.TheVariants as patterns
use Rattle.endpoint_names.specs.declared.name.NameFault.{NameFault}
use Rattle.endpoint_names.specs.declared.name.NameFault.TheVariants.{Unknown, TooComplicated}
use Rattle.endpoint_names.specs.declared.names.Names.{Names}
use Rattle.endpoint_names.specs.Name.{name_of}
use Rattle.command_forms.specs.declared.forms.AuditTarget.{AuditTarget}
use Rattle.command_forms.specs.declared.forms.AuditTarget.TheVariants as audits
use Rattle.command_forms.specs.declared.forms.Target.{Target}
use Rattle.command_forms.specs.declared.forms.Target.TheVariants.{One, All, Any}
use Rattle.command_forms.specs.declared.refused.FaultyPart.TheVariants.{Verb, Name}
use Rattle.command_forms.specs.declared.refused.Refused.{Refused}
use Rattle.command_forms.specs.declared.verbs.Meant.{Meant}
use Rattle.command_forms.specs.declared.verbs.Purpose.{Purpose}
use Rattle.command_forms.specs.declared.verbs.Purpose.TheVariants.{ForReport, ForDeed}
use Rattle.command_forms.specs.declared.verbs.Task.{Task}
use Rattle.command_forms.specs.declared.verbs.Task.TheVariants.{ReportOf, DeedOn}
use Rattle.command_forms.specs.declared.verbs.Wildcard.{Wildcard}
use Rattle.command_forms.specs.declared.verbs.Wildcard.TheVariants as wildcards
use Rattle.command_forms.specs.Command.{Command, command_in}
use Rattle.mg_bytes.specs.Steps.{◌>>=◌}
use Rattle.command_forms.specs.Refusing.{refusal, placed}
use Rattle.command_forms.specs.Verbs.{row_of}
use Rattle.command_forms.specs.Params.{has, value_at}

-- the endpoints of a name: a name that no endpoint has is 500, a wildcard in another place 503
abbrev pub named : Result Pattern NameFault → Result Pattern ℕ
named (Ok pattern) = Ok pattern
named (Err Unknown) = Err 500
named (Err TooComplicated) = Err 503

-- whether a command with these parameters may be for all lines
abbrev pub takes_all : Wildcard → List Param → Bool
takes_all wildcards.Never params = false
takes_all wildcards.All params = true
takes_all wildcards.AllWithoutItems params = is_empty (value_at (codes "F") params)
takes_all wildcards.AllWithoutCall params = not (has (codes "C") params || has (codes "I") params)
takes_all wildcards.Any params = false

-- whether it may be for any one line
abbrev pub takes_any : Wildcard → Bool
takes_any wildcards.Never = false
takes_any wildcards.All = false
takes_any wildcards.AllWithoutItems = false
takes_any wildcards.AllWithoutCall = false
takes_any wildcards.Any = true

-- the lines that an audit is for: one line, or all lines where its row says so. Any other wildcard is 503
abbrev pub audit_target_of : Wildcard → List Param → Pattern → Result AuditTarget ℕ
audit_target_of wildcard params (patterns.One line) = Ok (audits.One line)
audit_target_of wildcard params patterns.All = checked (unless (takes_all wildcard params) 503) (Ok audits.All)
audit_target_of wildcard params patterns.Any = Err 503

-- the lines that any other command is for: one line, or all lines or any one line where its row says so. Any other
-- wildcard is 503
abbrev pub target_of : Wildcard → List Param → Pattern → Result Target ℕ
target_of wildcard params (patterns.One line) = Ok (One line)
target_of wildcard params patterns.All = checked (unless (takes_all wildcard params) 503) (Ok All)
target_of wildcard params patterns.Any = checked (unless (takes_any wildcard) 503) (Ok Any)

-- whether a line is among them; any one line is that which is chosen, and none by its number
abbrev pub is_for : Target → ℕ → Bool
is_for (One number) line = number == line
is_for All line = true
is_for Any line = false

-- what a command of this purpose is to do, and on which lines
abbrev pub task_of : Purpose → Wildcard → List Param → Pattern → Result Task ℕ
task_of (ForReport reporting) wildcard params pattern =
    audit_target_of wildcard params pattern >>= λ target. Ok (ReportOf reporting target)
task_of (ForDeed connecting) wildcard params pattern =
    target_of wildcard params pattern >>= λ target. Ok (DeedOn connecting target)

-- the row of the verb, and what is to be done on the lines of the name; a verb that has no row is 504 (unknown or
-- unsupported command)
unfoldable pub meant : Command → Names → Result Meant Refused
meant command names = do
  row ← placed Verb (ok_or (row_of command.verb) 504)
  pattern ← placed Name (named (name_of command.name names.domain names.lines))
  task ← placed Name (task_of row.purpose row.wildcard command.params pattern)
  Ok (record { row = row; task = task })

-- the same of a message: one that is no command has no verb that is served
abbrev pub meant_in : Message → Names → Result Meant Refused
meant_in message names = given (command_in message) (refusal Verb 504) (λ command. meant command names)
