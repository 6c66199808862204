-- A connection (RFC 3435, 2.1.3): what it is made of, and what becomes of it (2.3.5, 2.3.6).
use Rattle.std.specs.Prelude.{ℕ, Bool, true, false, ◌&&◌, ◌||◌, ◌+◌, not, ◌==◌, nat_lt, is_some, [], ◌∷◌, Option, Some, None, Result, Ok}
use Rattle.mg_bytes.specs.Checks.{unless, first_fault, checked, given}
use Rattle.mg_bytes.specs.Option.{◌>>=◌}
use Rattle.sdp_subset.specs.declared.session.Session.{Session}
use Rattle.connections.specs.declared.codec.Codecs.{Codecs}
use Rattle.connections.specs.declared.codec.Encoding.{Encoding}
use Rattle.connections.specs.declared.mode.Mode.{Mode}
use Rattle.connections.specs.declared.options.CodecChoice.{CodecChoice}
use Rattle.connections.specs.declared.options.CodecChoice.TheVariants.{ByEncoding, NoneKnown, These}
use Rattle.connections.specs.declared.options.Options.{Options}
use Rattle.connections.specs.declared.connection.Agreement.{Agreement}
use Rattle.connections.specs.declared.connection.Connection.{Connection}
use Rattle.connections.specs.declared.connection.Creation.{Creation}
use Rattle.connections.specs.declared.connection.Change.{Change}
use Rattle.connections.specs.Codecs.{codecs_by, offered_of, are_same_codecs}
use Rattle.connections.specs.Modes.{sends}
use Rattle.connections.specs.Numbers.{greatest}

-- the local list: of the codecs that were asked for those that are known; where none were asked for, those of the
-- line's encoding
abbrev pub local_list : CodecChoice → Encoding → Option Codecs
local_list ByEncoding encoding = Some (codecs_by encoding)
local_list NoneKnown encoding = None
local_list (These codecs) encoding = Some codecs

-- the list in force: those of the local list that the remote description offers, or without one the local list
abbrev pub list_in_force : Codecs → Option Session → Option Codecs
list_in_force codecs None = Some codecs
list_in_force codecs (Some remote) = offered_of remote.payloads codecs

abbrev pub agreed_on : Option Session → Codecs → Option Agreement
agreed_on remote codecs = list_in_force codecs remote >>= λ in_force. Some (record { local = codecs; in_force = in_force })

-- both lists; nothing where one of them is empty
abbrev pub agreed : CodecChoice → Encoding → Option Session → Option Agreement
agreed choice encoding remote = local_list choice encoding >>= agreed_on remote

-- a mode in which the gateway sends needs to be told where
abbrev pub can_be : Mode → Option Session → Bool
can_be mode remote = not (sends mode) || is_some remote

-- A connection that is created

abbrev pub begun_with : Creation → ℕ → Agreement → Connection
begun_with creation number codecs = record {
  call = creation.call;
  number = number;
  mode = creation.mode;
  options = creation.options;
  codecs = codecs;
  remote = creation.remote;
  version = 1;
}

-- no codec is 534, and then a mode that can't be 527
unfoldable pub begun : Encoding → Creation → ℕ → Result Connection ℕ
begun encoding creation number =
    given (agreed creation.options.codecs encoding creation.remote) 534 (λ codecs.
    checked (unless (can_be creation.mode creation.remote) 527) (Ok (begun_with creation number codecs)))

-- A connection that is modified

-- what the command gives, or else what stands
abbrev pub given_or : {A : Type 0} → Option A → A → A
given_or None was = was
given_or (Some new) was = new

abbrev pub remote_or : Option Session → Option Session → Option Session
remote_or None was = was
remote_or (Some new) was = Some new

-- the list in force or the packet time isn't what it was
abbrev pub is_changed : Connection → Options → Agreement → Bool
is_changed was options codecs =
    not (are_same_codecs was.codecs.in_force codecs.in_force && was.options.packet_time == options.packet_time)

abbrev pub next_version : Bool → ℕ → ℕ
next_version true version = version + 1
next_version false version = version

abbrev pub renewed_with : Connection → Mode → Options → Option Session → Agreement → Connection
renewed_with was mode options remote codecs = record was {
  mode = mode;
  options = options;
  codecs = codecs;
  remote = remote;
  version = next_version (is_changed was options codecs) was.version;
}

-- no codec is 534; then a mode that can't be is 527; then a version past the greatest one is 502
abbrev pub renewed_to : Encoding → Connection → Mode → Options → Option Session → Result Connection ℕ
renewed_to encoding was mode options remote =
    given (agreed options.codecs encoding remote) 534 (λ codecs.
    checked (first_fault (unless (can_be mode remote) 527
    ∷ unless (not (is_changed was options codecs) || nat_lt was.version greatest) 502 ∷ []))
    (Ok (renewed_with was mode options remote codecs)))

-- the command replaces what it gives: the mode, the options as a whole, the remote description
unfoldable pub renewed : Encoding → Change → Connection → Result Connection ℕ
renewed encoding change was =
    renewed_to encoding was (given_or change.mode was.mode) (given_or change.options was.options)
    (remote_or change.remote was.remote)
