-- The codes of commands in their order, what is in force, and versions.
use Rattle.std.proofs.Common.{◌≡◌, ℕ, ◌+◌, Bool, true, false, nat_lt, List, [], ◌∷◌, filter, get_or, Some, None, refl}
use Rattle.std.specs.Prelude.{Ok, Err}
use Rattle.std.specs.List.{list_any}
use Rattle.connections.specs.declared.codec.Codec.{Codec}
use Rattle.connections.specs.declared.codec.Codecs.{Codecs}
use Rattle.connections.specs.declared.codec.Codecs.TheVariants.{Only, Both}
use Rattle.connections.specs.declared.codec.Encoding.{Encoding}
use Rattle.connections.specs.declared.connection.Agreement.{Agreement}
use Rattle.connections.specs.declared.connection.Change.{Change}
use Rattle.connections.specs.declared.connection.Connection.{Connection}
use Rattle.connections.specs.declared.connection.Creation.{Creation}
use Rattle.connections.specs.declared.deletion.Deletion.{Deletion}
use Rattle.connections.specs.Codecs.{offers, listed, listed_or_none, offered_of, other_than}
use Rattle.connections.specs.Numbers.{greatest}
use Rattle.connections.specs.Connection.{agreed, can_be, begun, begun_with, given_or, remote_or, renewed, is_changed}
use Rattle.connections.specs.Places.{is_free, holds_call, holds_both, place_where}
use Rattle.connections.specs.Standing.{Standing, created, created_done, place_of, modified, deleted}
use Rattle.connections.specs.Life.{creates, modifies, deletes, after_one}

pub refused_creation : (encoding : Encoding) (creation : Creation) (standing : Standing) (code : ℕ)
    → created encoding creation standing ≡ Err code → after_one standing (creates encoding creation) ≡ standing
refused_creation encoding creation standing code e = rw e refl

pub refused_change : (encoding : Encoding) (call id : List ℕ) (change : Change) (standing : Standing) (code : ℕ)
    → modified encoding call id change standing ≡ Err code → after_one standing (modifies encoding call id change) ≡ standing
refused_change encoding call id change standing code e = rw e refl

pub refused_deletion : (deletion : Deletion) (standing : Standing) (code : ℕ) → deleted deletion standing ≡ Err code
    → after_one standing (deletes deletion) ≡ standing
refused_deletion deletion standing code e = rw e refl

pub no_place : (encoding : Encoding) (creation : Creation) (standing : Standing) → place_where is_free standing.places ≡ None
    → created encoding creation standing ≡ Err 540
unfolding created
no_place encoding creation standing e = rw e refl

pub no_number : (encoding : Encoding) (creation : Creation) (standing : Standing) (place : ℕ)
    → place_where is_free standing.places ≡ Some place → nat_lt standing.last greatest ≡ false
    → created encoding creation standing ≡ Err 502
unfolding created
no_number encoding creation standing place e f = rw (e, f) refl

pub no_codec : (encoding : Encoding) (creation : Creation) (standing : Standing) (place : ℕ)
    → place_where is_free standing.places ≡ Some place → nat_lt standing.last greatest ≡ true
    → agreed creation.options.codecs encoding creation.remote ≡ None → created encoding creation standing ≡ Err 534
unfolding created begun
no_codec encoding creation standing place e f g = rw (e, f, g) refl

pub no_mode : (encoding : Encoding) (creation : Creation) (standing : Standing) (place : ℕ) (codecs : Agreement)
    → place_where is_free standing.places ≡ Some place → nat_lt standing.last greatest ≡ true
    → agreed creation.options.codecs encoding creation.remote ≡ Some codecs
    → can_be creation.mode creation.remote ≡ false → created encoding creation standing ≡ Err 527
unfolding created begun
no_mode encoding creation standing place codecs e f g h = rw (e, f, g, h) refl

pub stands : (encoding : Encoding) (creation : Creation) (standing : Standing) (place : ℕ) (codecs : Agreement)
    → place_where is_free standing.places ≡ Some place → nat_lt standing.last greatest ≡ true
    → agreed creation.options.codecs encoding creation.remote ≡ Some codecs
    → can_be creation.mode creation.remote ≡ true → created encoding creation standing
    ≡ Ok (created_done standing place (standing.last + 1) (begun_with creation (standing.last + 1) codecs))
unfolding created begun
stands encoding creation standing place codecs e f g h = rw (e, f, g, h) refl

pub no_call : (encoding : Encoding) (call id : List ℕ) (change : Change) (standing : Standing)
    → list_any (holds_call call) standing.places ≡ false → modified encoding call id change standing ≡ Err 516
unfolding modified place_of
no_call encoding call id change standing e = rw e refl

pub no_id : (encoding : Encoding) (call id : List ℕ) (change : Change) (standing : Standing)
    → list_any (holds_call call) standing.places ≡ true → place_where (holds_both call id) standing.places ≡ None
    → modified encoding call id change standing ≡ Err 515
unfolding modified place_of
no_id encoding call id change standing e f = rw (e, f) refl

pub not_renewed : (encoding : Encoding) (call id : List ℕ) (change : Change) (standing : Standing) (place code : ℕ)
    (was : Connection) → list_any (holds_call call) standing.places ≡ true
    → place_where (holds_both call id) standing.places ≡ Some place → get_or standing.places place None ≡ Some was
    → renewed encoding change was ≡ Err code → modified encoding call id change standing ≡ Err code
unfolding modified place_of
not_renewed encoding call id change standing place code was e f g h = rw (e, f, g, h) refl

pub renewed_no_codec : (encoding : Encoding) (change : Change) (was : Connection)
    → agreed (given_or change.options was.options).codecs encoding (remote_or change.remote was.remote) ≡ None
    → renewed encoding change was ≡ Err 534
unfolding renewed
renewed_no_codec encoding change was e = rw e refl

pub renewed_no_mode : (encoding : Encoding) (change : Change) (was : Connection) (codecs : Agreement)
    → agreed (given_or change.options was.options).codecs encoding (remote_or change.remote was.remote) ≡ Some codecs
    → can_be (given_or change.mode was.mode) (remote_or change.remote was.remote) ≡ false
    → renewed encoding change was ≡ Err 527
unfolding renewed
renewed_no_mode encoding change was codecs e f = rw (e, f) refl

pub renewed_no_version : (encoding : Encoding) (change : Change) (was : Connection) (codecs : Agreement)
    → agreed (given_or change.options was.options).codecs encoding (remote_or change.remote was.remote) ≡ Some codecs
    → can_be (given_or change.mode was.mode) (remote_or change.remote was.remote) ≡ true
    → is_changed was (given_or change.options was.options) codecs ≡ true → nat_lt was.version greatest ≡ false
    → renewed encoding change was ≡ Err 502
unfolding renewed
renewed_no_version encoding change was codecs e f g h = rw (e, f, g, h) refl

-- What is in force

only_left : (codec : Codec) (payloads : List ℕ) (is : Bool) → offers payloads codec ≡ is
    → listed_or_none (offered_of payloads (Only codec)) ≡ filter (offers payloads) (codec ∷ [])
only_left codec payloads true e = rw e refl
only_left codec payloads false e = rw e refl

both_left : (first : Codec) (payloads : List ℕ) (is other : Bool) → offers payloads first ≡ is → offers payloads (other_than first) ≡ other
    → listed_or_none (offered_of payloads (Both first)) ≡ filter (offers payloads) (first ∷ other_than first ∷ [])
both_left first payloads true true e f = rw (e, f) refl
both_left first payloads true false e f = rw (e, f) refl
both_left first payloads false true e f = rw (e, f) refl
both_left first payloads false false e f = rw (e, f) refl

pub left_in_force : (payloads : List ℕ) (codecs : Codecs) → listed_or_none (offered_of payloads codecs) ≡ filter (offers payloads) (listed codecs)
left_in_force payloads (Only codec) = only_left codec payloads (offers payloads codec) refl
left_in_force payloads (Both first) = both_left first payloads (offers payloads first) (offers payloads (other_than first)) refl refl
