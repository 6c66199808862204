-- The values of a command's parameters, and its description: what each says, or the code of its fault (RFC 3435, 3.2.2
-- and 3.4).
use Rattle.std.specs.Prelude.{ℕ, Bool, true, false, List, [], ◌∷◌, Option, Some, None, option_map, Result, Ok}
use Rattle.std.specs.Option.{ok_or}
use Rattle.mg_bytes.specs.Numbers.{identifier_of}
use Rattle.mgcp_text.specs.declared.message.Param.{Param}
use Rattle.mgcp_text.specs.declared.confirmation.KValue.{KValue}
use Rattle.mgcp_text.specs.declared.confirmation.KValue.TheVariants.{Absent, Unreadable, Items}
use Rattle.endpoint_names.specs.declared.table.Host.{Host}
use Rattle.endpoint_names.specs.declared.entity.Entity.{Entity}
use Rattle.endpoint_names.specs.Entity.{entity_of}
use Rattle.sdp_subset.specs.declared.session.Session.{Session}
use Rattle.sdp_subset.specs.Reading.{session_of}
use Rattle.connections.specs.declared.codec.Encoding.{Encoding}
use Rattle.connections.specs.declared.mode.Mode.{Mode}
use Rattle.connections.specs.Codecs.{encoding_named}
use Rattle.connections.specs.Modes.{mode_named}
use Rattle.digit_map.specs.declared.change.MapChange.{MapChange}
use Rattle.digit_map.specs.Reading.{or_code}
use Rattle.digit_map.specs.Change.{change_of}
use Rattle.packages.specs.declared.handling.Handling.{Handling}
use Rattle.packages.specs.declared.handling.Notifying.TheVariants.{Step}
use Rattle.packages.specs.declared.handling.Quarantined.TheVariants.{Process}
use Rattle.mg_bytes.specs.Steps.{◌>>=◌}
use Rattle.packages.specs.Handling.{handling_of}

-- K, what is confirmed (RFC 3435, 3.2.2.1): whether it can be read
abbrev pub is_readable : KValue → Bool
is_readable Absent = true
is_readable Unreadable = false
is_readable (Items ranges) = true

-- what a parameter says, where it stands there
abbrev pub said_at : {A : Type 0} → (List ℕ → Result A ℕ) → Option Param → Result (Option A) ℕ
said_at read None = Ok None
said_at read (Some param) = read param.value >>= λ said. Ok (Some said)

-- N, the entity that is to be notified, where one is said (RFC 3435, 2.1.4 and 2.3.3)
abbrev pub entity_at : List Host → Option Param → Result (Option Entity) ℕ
entity_at hosts param = said_at (λ value. ok_or (entity_of hosts value) 539) param

-- B, the encoding of a line (RFC 3435, 2.3.2 and 3.2.2)
abbrev pub encoding_from : List ℕ → Result Encoding ℕ
encoding_from value = ok_or (encoding_named value) 539

-- C, I and X, the identifiers of a call, a connection and a request: 1 to 32 hexadecimal digits (RFC 3435, 2.1.3, 2.3.3
-- and appendix A)
abbrev pub identifier_from : List ℕ → Result (List ℕ) ℕ
identifier_from value = ok_or (identifier_of value) 510

-- M, the mode of a connection (RFC 3435, 2.3.5 and 3.2.2)
abbrev pub mode_from : List ℕ → Result Mode ℕ
mode_from value = ok_or (mode_named value) 517

-- Q, how quarantined events are handled (RFC 3435, 2.3.3 and 4.4.1); absent it is `step` and `process`, and an empty one
-- is a fault
abbrev pub handling_at : Option Param → Result Handling ℕ
handling_at None = Ok (record { notifying = Step; quarantined = Process })
handling_at (Some param) = handling_of param.value

-- D, what the request does with the digit map (RFC 3435, 2.3.3)
abbrev pub change_at : Option Param → Result MapChange ℕ
change_at param = or_code (change_of (option_map (λ found. found.value) param))

-- the description of the remote end, where there is a text (RFC 3435, 2.3.5 and 3.4)
abbrev pub remote_of : List ℕ → Result (Option Session) ℕ
remote_of [] = Ok None
remote_of (b ∷ bs) = ok_or (session_of (b ∷ bs)) 509 >>= λ session. Ok (Some session)
