-- What the laws of this crate speak of: which codes there are, and what a form has.
use Rattle.std.specs.Prelude.{◌≡◌, ℕ, ◌≤◌, Bool, true, false, ◌==◌, codes, List, [], ◌∷◌, Option, Some, None, is_some, Result, Ok, IfSome, ◌⊎◌}
use Rattle.std.specs.List.{list_any}
use Rattle.mg_bytes.specs.Numbers.{is_hex_text}
use Rattle.mgcp_text.specs.declared.message.Param.{Param}
use Rattle.mgcp_text.specs.declared.message.Verb.{Verb}
use Rattle.mgcp_text.specs.declared.message.Verb.TheVariants.{Auep, Aucx}
use Rattle.mgcp_text.specs.Message.{param_at}
use Rattle.endpoint_names.specs.declared.table.Host.{Host}
use Rattle.event_syntax.specs.Requested.{requested_of, are_writable_requested}
use Rattle.event_syntax.specs.Detect.{detected_of, are_writable_events}
use Rattle.packages.specs.Signals.{signals_of, are_writable_signals}
use Rattle.events_and_signals.specs.declared.request.Request.{Request}
use Rattle.connections.specs.declared.connection.Change.{Change}
use Rattle.connections.specs.declared.connection.Creation.{Creation}
use Rattle.connections.specs.declared.deletion.Deletion.{Deletion}
use Rattle.connections.specs.declared.deletion.Deletion.TheVariants as deletions
use Rattle.connections.specs.declared.options.Options.{Options}
use Rattle.connections.specs.Modes.{mode_named}
use Rattle.connections.specs.Options.{options_of, no_options}
use Rattle.command_forms.specs.declared.forms.Asks.{Asks}
use Rattle.command_forms.specs.declared.forms.Asks.TheVariants.{Reports, Does}
use Rattle.command_forms.specs.declared.forms.AuditTarget.{AuditTarget}
use Rattle.command_forms.specs.declared.forms.AuditTarget.TheVariants as audits
use Rattle.command_forms.specs.declared.forms.ConnectionDeed.{ConnectionDeed}
use Rattle.command_forms.specs.declared.forms.ConnectionDeed.TheVariants as deeds
use Rattle.command_forms.specs.declared.forms.Deed.{Deed}
use Rattle.command_forms.specs.declared.forms.Target.{Target}
use Rattle.command_forms.specs.declared.forms.Target.TheVariants.{One, All, Any}
use Rattle.command_forms.specs.declared.verbs.Connecting.{Connecting}
use Rattle.command_forms.specs.declared.verbs.Connecting.TheVariants.{Keeps, Creates, Modifies, Deletes}
use Rattle.command_forms.specs.declared.verbs.Purpose.{Purpose}
use Rattle.command_forms.specs.declared.verbs.Purpose.TheVariants.{ForReport, ForDeed}
use Rattle.command_forms.specs.declared.verbs.Task.{Task}
use Rattle.command_forms.specs.declared.verbs.Task.TheVariants.{ReportOf, DeedOn}
use Rattle.command_forms.specs.Params.{has, value_at}
use Rattle.command_forms.specs.Values.{said_at, entity_at, encoding_from, mode_from, handling_at, change_at, remote_of}

-- the codes of the verb and the name
abbrev pub name_codes : List ℕ
name_codes = 500 ∷ 503 ∷ 504 ∷ []

-- the codes of the parameters, their values and the description
abbrev pub param_codes : List ℕ
param_codes =
    502 ∷ 508 ∷ 509 ∷ 510 ∷ 511 ∷ 512 ∷ 513 ∷ 517 ∷ 518 ∷ 522 ∷ 523 ∷ 535 ∷ 538 ∷ 539 ∷ 541 ∷ []

abbrev pub has_code : List ℕ → ℕ → Bool
has_code known code = list_any (λ one. one == code) known

-- the verbs of audits (RFC 3435, 2.3.10 and 2.3.11)
abbrev pub Audits : Verb → Type 0
Audits verb = (verb ≡ Auep) ⊎ (verb ≡ Aucx)

-- the lines that an audit is for, as those of a command
abbrev pub target_for : AuditTarget → Target
target_for (audits.One line) = One line
target_for audits.All = All

-- the lines that a form is for
abbrev pub target_in : Asks → Target
target_in (Reports target audit) = target_for target
target_in (Does target deed) = target

-- the lines that a verb and a name mean, and for what they are meant
abbrev pub target_meant : Task → Target
target_meant (ReportOf reporting target) = target_for target
target_meant (DeedOn connecting target) = target

abbrev pub purpose_meant : Task → Purpose
purpose_meant (ReportOf reporting target) = ForReport reporting
purpose_meant (DeedOn connecting target) = ForDeed connecting

-- a line from 1 to the number of lines, or all of them, or any one
abbrev pub AreOf : ℕ → Target → Type 0
AreOf lines (One line) = (1 ≤ line) × (line ≤ lines)
AreOf lines All = Unit {0}
AreOf lines Any = Unit {0}

-- of all lines all connections may be deleted, and else these stay
abbrev pub may_connect_all : ConnectionDeed → Bool
may_connect_all deeds.Keep = true
may_connect_all (deeds.Create creation) = false
may_connect_all (deeds.Modify call id change) = false
may_connect_all (deeds.Delete deletions.All) = true
may_connect_all (deeds.Delete (deletions.OfCall call)) = false
may_connect_all (deeds.Delete (deletions.One call id)) = false

-- on any one line a connection may be created
abbrev pub may_connect_any : ConnectionDeed → Bool
may_connect_any deeds.Keep = false
may_connect_any (deeds.Create creation) = true
may_connect_any (deeds.Modify call id change) = false
may_connect_any (deeds.Delete deletion) = false

-- what may be asked of more than one line: of all a report without items, and of no connection by itself, and such a
-- deed; of any one such a deed
abbrev pub MayBeOf : Asks → Type 0
MayBeOf (Reports (audits.One line) audit) = Unit {0}
MayBeOf (Reports audits.All audit) = (audit.items ≡ []) × (audit.connection ≡ None)
MayBeOf (Does (One line) deed) = Unit {0}
MayBeOf (Does All deed) = may_connect_all deed.connections ≡ true
MayBeOf (Does Any deed) = may_connect_any deed.connections ≡ true

-- what a request has: its values are those of the command's parameters, its identifier is 1 to 32 hexadecimal digits, and
-- its events, 32 of R and of T at most, and its signals, at most 8, can be written
pub record HasValues (params : List Param) (request : Request) : Type 0 where
  pub identifier : request.identifier ≡ value_at (codes "X") params
  pub digits : is_hex_text request.identifier ≡ true
  pub handling : handling_at (param_at (codes "Q") params) ≡ Ok request.handling
  pub map : change_at (param_at (codes "D") params) ≡ Ok request.map
  pub requested : requested_of (value_at (codes "R") params) ≡ Ok request.events.requested
  pub detected : detected_of (value_at (codes "T") params) ≡ Ok request.events.detected
  pub signals : signals_of (value_at (codes "S") params) ≡ Ok request.signals
  pub writable_requested : are_writable_requested request.events.requested ≡ true
  pub writable_detected : are_writable_events request.events.detected ≡ true
  pub writable_signals : are_writable_signals request.signals ≡ true

-- an identifier is what stands there, and 1 to 32 hexadecimal digits
abbrev pub IsAt : List ℕ → List Param → List ℕ → Type 0
IsAt code params identifier = (identifier ≡ value_at code params) × (is_hex_text identifier ≡ true)

-- the options of L, or those that stand for it where it is absent
abbrev pub options_or : Option Param → Result Options ℕ
options_or None = Ok no_options
options_or (Some param) = options_of param.value

-- what a creation has: its call and its mode stand there, and it has the options and the description of the remote end
pub record HasCreation (params : List Param) (body : List ℕ) (creation : Creation) : Type 0 where
  pub call : IsAt (codes "C") params creation.call
  pub mode : mode_named (value_at (codes "M") params) ≡ Some creation.mode
  pub options : options_or (param_at (codes "L") params) ≡ Ok creation.options
  pub remote : remote_of body ≡ Ok creation.remote

-- what a modification has: its call and its connection stand there, and what else does is to change
pub record HasModification (params : List Param) (body call id : List ℕ) (change : Change) : Type 0 where
  pub call_there : IsAt (codes "C") params call
  pub id_there : IsAt (codes "I") params id
  pub mode : said_at mode_from (param_at (codes "M") params) ≡ Ok change.mode
  pub options : said_at options_of (param_at (codes "L") params) ≡ Ok change.options
  pub remote : remote_of body ≡ Ok change.remote

-- all are deleted where neither C nor I stands there, and one where both do
abbrev pub HasDeletion : List Param → Deletion → Type 0
HasDeletion params deletions.All = (has (codes "C") params ≡ false) × (has (codes "I") params ≡ false)
HasDeletion params (deletions.OfCall call) = IsAt (codes "C") params call × (has (codes "I") params ≡ false)
HasDeletion params (deletions.One call id) = IsAt (codes "C") params call × IsAt (codes "I") params id

abbrev pub HasConnections : List Param → List ℕ → ConnectionDeed → Type 0
HasConnections params body deeds.Keep = Unit {0}
HasConnections params body (deeds.Create creation) = HasCreation params body creation
HasConnections params body (deeds.Modify call id change) = HasModification params body call id change
HasConnections params body (deeds.Delete deletion) = HasDeletion params deletion

-- which of the four becomes of connections
abbrev pub connecting_in : ConnectionDeed → Connecting
connecting_in deeds.Keep = Keeps
connecting_in (deeds.Create creation) = Creates
connecting_in (deeds.Modify call id change) = Modifies
connecting_in (deeds.Delete deletion) = Deletes

-- what a deed has: the entity that N says, the encoding that B says, its connections, and a request, with its values,
-- exactly where X stands
pub record HasDeed (params : List Param) (body : List ℕ) (hosts : List Host) (deed : Deed) : Type 0 where
  pub entity : entity_at hosts (param_at (codes "N") params) ≡ Ok deed.entity
  pub encoding : said_at encoding_from (param_at (codes "B") params) ≡ Ok deed.encoding
  pub connections : HasConnections params body deed.connections
  pub there : is_some deed.request ≡ has (codes "X") params
  pub request : IfSome deed.request (HasValues params)
