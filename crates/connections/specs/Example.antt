-- What the worked examples speak of.
use Rattle.std.specs.Prelude.{ℕ, List, [], ◌∷◌, map, replicate, codes, Option, Some, None, Result}
use Rattle.std.specs.declared.net.ipv4_addr.Ipv4Addr.{Ipv4Addr}
use Rattle.sdp_subset.specs.declared.session.Session.{Session}
use Rattle.connections.specs.declared.answer.Created.{Created}
use Rattle.connections.specs.declared.codec.Codec.TheVariants.{Pcmu, Pcma}
use Rattle.connections.specs.declared.codec.Codecs.{Codecs}
use Rattle.connections.specs.declared.codec.Codecs.TheVariants.{Only, Both}
use Rattle.connections.specs.declared.codec.Encoding.TheVariants.{Mu}
use Rattle.connections.specs.declared.connection.Connection.{Connection}
use Rattle.connections.specs.declared.connection.Creation.{Creation}
use Rattle.connections.specs.declared.connection.Change.{Change}
use Rattle.connections.specs.declared.mode.Mode.{Mode}
use Rattle.connections.specs.declared.mode.Mode.TheVariants.{ReceiveOnly}
use Rattle.connections.specs.declared.options.CodecChoice.TheVariants.{ByEncoding, NoneKnown, These}
use Rattle.connections.specs.declared.options.Options.{Options}
use Rattle.connections.specs.Options.{no_options}
use Rattle.connections.specs.Standing.{Standing, no_connections, created, modified, answered_by}
use Rattle.connections.specs.Life.{creates, after}

abbrev pub this_host : Ipv4Addr
this_host = record { octets = 127 ∷ 0 ∷ 0 ∷ 1 ∷ [] }

abbrev pub other_host : Ipv4Addr
other_host = record { octets = 10 ∷ 0 ∷ 0 ∷ 9 ∷ [] }

-- a remote description that offers these payload types
abbrev pub offering : List ℕ → Session
offering payloads = record { origin = None; address = other_host; port = 4000; payloads = payloads; ptime = None }

-- a local description: the number of its connection, its version, its port and payload types, and the packet time
abbrev pub local_with : ℕ → ℕ → ℕ → List ℕ → ℕ → Session
local_with number version port payloads ms = record {
  origin = Some (record { number = number; version = version });
  address = this_host;
  port = port;
  payloads = payloads;
  ptime = Some ms;
}

abbrev pub local_of : ℕ → ℕ → ℕ → List ℕ → Session
local_of number version port payloads = local_with number version port payloads 20

-- a line without connections
abbrev pub line : Standing
line = no_connections this_host 3000

-- a creation of this call in this mode
abbrev pub calls_in : Mode → List ℕ → Creation
calls_in mode call = record { call = call; mode = mode; options = no_options; remote = None }

-- one that receives only
abbrev pub receives : List ℕ → Creation
receives call = calls_in ReceiveOnly call

abbrev pub towards : Creation → List ℕ → Creation
towards creation payloads = record creation { remote = Some (offering payloads) }

abbrev pub asking : Creation → Options → Creation
asking creation options = record creation { options = options }

-- the answer of a creation on a line with encoding mu
abbrev pub creating : Creation → Standing → Result Created ℕ
creating creation standing = answered_by (created Mu creation standing)

-- the line after these creations
abbrev pub with_calls : List (List ℕ) → Standing
with_calls calls = after line (map (λ call. creates Mu (receives call)) calls)

-- a change that gives nothing
abbrev pub no_change : Change
no_change = record { mode = None; options = None; remote = None }

abbrev pub changes_mode : Mode → Change
changes_mode mode = record no_change { mode = Some mode }

abbrev pub changes_options : Options → Change
changes_options options = record no_change { options = Some options }

abbrev pub changes_remote : List ℕ → Change
changes_remote payloads = record no_change { remote = Some (offering payloads) }

-- the answer of a change of the connection of call 1A with this identifier
abbrev pub changing : List ℕ → Change → Standing → Result (Option Session) ℕ
changing id change standing = answered_by (modified Mu (codes "1a") id change standing)

-- options of these codecs and this packet time
abbrev pub asked : Codecs → ℕ → Options
asked codecs ms = record { codecs = These codecs; packet_time = ms }

abbrev pub asked_time : ℕ → Options
asked_time ms = record { codecs = ByEncoding; packet_time = ms }

abbrev pub none_known : Options
none_known = record { codecs = NoneKnown; packet_time = 20 }

-- a connection of call 1A as it was created on the line
abbrev pub first_connection : Connection
first_connection = record {
  call = codes "1A";
  number = 1;
  mode = ReceiveOnly;
  options = no_options;
  codecs = record { local = Both Pcmu; in_force = Both Pcmu };
  remote = None;
  version = 1;
}

-- the same as it was modified: with PCMA alone, 30 ms and a remote description
abbrev pub pcma_connection : Connection
pcma_connection = record first_connection {
  options = asked (Only Pcma) 30;
  codecs = record { local = Only Pcma; in_force = Only Pcma };
  remote = Some (offering (8 ∷ []));
}

-- the same as it was modified: with a remote description that offers PCMA alone, so that the local list has both
abbrev pub cut_connection : Connection
cut_connection = record first_connection {
  codecs = record { local = Both Pcmu; in_force = Only Pcma };
  remote = Some (offering (8 ∷ []));
  version = 2;
}

-- a line with this connection alone
abbrev pub with_one : Connection → Standing
with_one connection = record line { last = 1; places = Some connection ∷ replicate 3 None }
