-- The codes of refusals are those of final responses, of three digits (RFC 3435, 2.4).
use Rattle.std.proofs.Common.{◌≡◌, ℕ, ◌+◌, ◌≤◌, Bool, true, false, ◌||◌, not, nat_lt, List, [], ◌∷◌, get_or, map, Option, Some, None, is_some, refl, sym, ap, subst, arith}
use Rattle.std.specs.Prelude.{Result, Ok, Err, ⊤}
use Rattle.std.specs.List.{list_any}
use Rattle.mg_bytes.specs.Checks.{unless, first_fault, checked, given}
use Rattle.mg_bytes.specs.CodeFault.{AnswersAs, answer_of}
use Rattle.connections.specs.declared.codec.Encoding.{Encoding}
use Rattle.connections.specs.declared.connection.Agreement.{Agreement}
use Rattle.connections.specs.declared.connection.Connection.{Connection}
use Rattle.connections.specs.declared.connection.Creation.{Creation}
use Rattle.connections.specs.declared.connection.Change.{Change}
use Rattle.connections.specs.declared.deletion.Deletion.{Deletion}
use Rattle.connections.specs.declared.deletion.Deletion.TheVariants.{All, OfCall, One}
use Rattle.connections.specs.Numbers.{greatest}
use Rattle.connections.specs.Connection.{agreed, can_be, begun, begun_with, given_or, remote_or, is_changed, renewed, renewed_with}
use Rattle.connections.specs.Places.{is_free, holds_call, holds_id, holds_both, place_where}
use Rattle.connections.specs.Standing.{Standing, Left, answered_by, created, created_from, place_of, modified, modified_at, modified_held, modified_from, refused, without, deleted, whether, audited, audited_held}

-- the code of a final response
abbrev pub IsFinalCode : ℕ → Type 0
IsFinalCode code = (200 ≤ code) × (code ≤ 999)

-- such a code, if there is one
abbrev pub IsFinal : {A : Type 0} → Result A ℕ → Type 0
IsFinal (Ok value) = ⊤
IsFinal (Err code) = IsFinalCode code

abbrev IsFinalFault : Option ℕ → Type 0
IsFinalFault None = ⊤
IsFinalFault (Some code) = IsFinalCode code

answers_as : {A : Type 0} (said : Result A ℕ) → IsFinal said → AnswersAs said (answer_of said)
answers_as (Ok value) final = refl
answers_as (Err code) final = (refl, final.1)

answered_final : {A : Type 0} (made : Result (Left A) ℕ) → IsFinal made → IsFinal (answered_by made)
answered_final (Ok done) final = tt
answered_final (Err code) final = final

begun_by : (found : Option Agreement) (can : Bool) (made : Agreement → Connection)
    → IsFinal (given {F = ℕ} found 534 (λ codecs. checked (unless can 527) (Ok (made codecs))))
begun_by None can made = (omega arith, omega arith)
begun_by (Some codecs) true made = tt
begun_by (Some codecs) false made = (omega arith, omega arith)

begun_final : (encoding : Encoding) (creation : Creation) (number : ℕ) → IsFinal (begun encoding creation number)
unfolding begun
begun_final encoding creation number =
    begun_by (agreed creation.options.codecs encoding creation.remote) (can_be creation.mode creation.remote) (begun_with creation number)

created_from_final : (standing : Standing) (place number : ℕ) (made : Result Connection ℕ) → IsFinal made
    → IsFinal (created_from standing place number made)
created_from_final standing place number (Ok connection) final = tt
created_from_final standing place number (Err code) final = final

created_by : (standing : Standing) (found : Option ℕ) (below : Bool) (made : Result Connection ℕ) → IsFinal made
    → IsFinal (given {F = ℕ} found 540 (λ place. checked (unless below 502) (created_from standing place (standing.last + 1) made)))
created_by standing None below made final = (omega arith, omega arith)
created_by standing (Some place) false made final = (omega arith, omega arith)
created_by standing (Some place) true made final = created_from_final standing place (standing.last + 1) made final

pub created_final : (encoding : Encoding) (creation : Creation) (standing : Standing) → IsFinal (created encoding creation standing)
unfolding created
created_final encoding creation standing =
    created_by standing (place_where is_free standing.places) (nat_lt standing.last greatest)
    (begun encoding creation (standing.last + 1)) (begun_final encoding creation (standing.last + 1))

pub creation_answers : (encoding : Encoding) (creation : Creation) (standing : Standing)
    → AnswersAs (answered_by (created encoding creation standing)) (answer_of (answered_by (created encoding creation standing)))
creation_answers encoding creation standing = answers_as (answered_by (created encoding creation standing))
    (answered_final (created encoding creation standing) (created_final encoding creation standing))

renewed_checked : (can late : Bool) (made : Connection)
    → IsFinal (checked (first_fault (unless can 527 ∷ unless late 502 ∷ [])) (Ok made))
renewed_checked true true made = tt
renewed_checked true false made = (omega arith, omega arith)
renewed_checked false late made = (omega arith, omega arith)

renewed_by : (found : Option Agreement) (can : Bool) (late : Agreement → Bool) (made : Agreement → Connection)
    → IsFinal (given {F = ℕ} found 534 (λ codecs. checked (first_fault (unless can 527 ∷ unless (late codecs) 502 ∷ [])) (Ok (made codecs))))
renewed_by None can late made = (omega arith, omega arith)
renewed_by (Some codecs) can late made = renewed_checked can (late codecs) (made codecs)

renewed_final : (encoding : Encoding) (change : Change) (was : Connection) → IsFinal (renewed encoding change was)
unfolding renewed
renewed_final encoding change was =
    renewed_by (agreed (given_or change.options was.options).codecs encoding (remote_or change.remote was.remote))
    (can_be (given_or change.mode was.mode) (remote_or change.remote was.remote))
    (λ codecs. not (is_changed was (given_or change.options was.options) codecs) || nat_lt was.version greatest)
    (λ codecs. renewed_with was (given_or change.mode was.mode) (given_or change.options was.options) (remote_or change.remote was.remote) codecs)

modified_from_final : (standing : Standing) (place : ℕ) (was : Connection) (made : Result Connection ℕ) → IsFinal made
    → IsFinal (modified_from standing place was made)
modified_from_final standing place was (Ok is) final = tt
modified_from_final standing place was (Err code) final = final

modified_held_final : (encoding : Encoding) (change : Change) (standing : Standing) (place : ℕ) (held : Option Connection)
    → IsFinal (modified_held encoding change standing place held)
modified_held_final encoding change standing place None = (omega arith, omega arith)
modified_held_final encoding change standing place (Some was) =
    modified_from_final standing place was (renewed encoding change was) (renewed_final encoding change was)

modified_at_final : (encoding : Encoding) (change : Change) (standing : Standing) (found : Result ℕ ℕ) → IsFinal found
    → IsFinal (modified_at encoding change standing found)
modified_at_final encoding change standing (Ok place) final = modified_held_final encoding change standing place (get_or standing.places place None)
modified_at_final encoding change standing (Err code) final = final

place_by : (call : Bool) (found : Option ℕ) → IsFinal (checked {F = ℕ} (unless call 516) (given found 515 Ok))
place_by false found = (omega arith, omega arith)
place_by true None = (omega arith, omega arith)
place_by true (Some place) = tt

place_of_final : (call id : List ℕ) (places : List (Option Connection)) → IsFinal (place_of call id places)
unfolding place_of
place_of_final call id places = place_by (list_any (holds_call call) places) (place_where (holds_both call id) places)

pub modified_final : (encoding : Encoding) (call id : List ℕ) (change : Change) (standing : Standing)
    → IsFinal (modified encoding call id change standing)
unfolding modified
modified_final encoding call id change standing =
    modified_at_final encoding change standing (place_of call id standing.places) (place_of_final call id standing.places)

pub change_answers : (encoding : Encoding) (call id : List ℕ) (change : Change) (standing : Standing)
    → AnswersAs (answered_by (modified encoding call id change standing)) (answer_of (answered_by (modified encoding call id change standing)))
change_answers encoding call id change standing = answers_as (answered_by (modified encoding call id change standing))
    (answered_final (modified encoding call id change standing) (modified_final encoding call id change standing))

unless_final : (test : Bool) (code : ℕ) → IsFinalCode code → IsFinalFault (unless test code)
unless_final true code final = tt
unless_final false code final = final

both_final : (call id : Bool) → IsFinalFault (first_fault {F = ℕ} (unless call 516 ∷ unless id 515 ∷ []))
both_final true true = tt
both_final true false = (omega arith, omega arith)
both_final false id = (omega arith, omega arith)

refused_final : (deletion : Deletion) (places : List (Option Connection)) → IsFinalFault (refused deletion places)
refused_final All places = tt
refused_final (OfCall call) places = unless_final (list_any (holds_call call) places) 516 (omega arith, omega arith)
refused_final (One call id) places =
    both_final (list_any (holds_call call) places) (is_some (place_where (holds_both call id) places))

deleted_by : (fault : Option ℕ) (is : Standing) → IsFinalFault fault → IsFinal (checked fault (Ok is))
deleted_by None is final = tt
deleted_by (Some code) is final = final

whether_final : (made : Result Standing ℕ) → IsFinal made → IsFinal (whether made)
whether_final (Ok is) final = tt
whether_final (Err code) final = final

pub deleted_final : (deletion : Deletion) (standing : Standing) → IsFinal (deleted deletion standing)
unfolding deleted
deleted_final deletion standing =
    deleted_by (refused deletion standing.places) (record standing { places = map (without deletion) standing.places })
    (refused_final deletion standing.places)

pub deletion_answers : (deletion : Deletion) (standing : Standing)
    → AnswersAs (whether (deleted deletion standing)) (answer_of (whether (deleted deletion standing)))
deletion_answers deletion standing = answers_as (whether (deleted deletion standing))
    (whether_final (deleted deletion standing) (deleted_final deletion standing))

audited_held_final : (standing : Standing) (place : ℕ) (held : Option Connection) → IsFinal (audited_held standing place held)
audited_held_final standing place None = (omega arith, omega arith)
audited_held_final standing place (Some connection) = tt

audited_by : (standing : Standing) (found : Option ℕ)
    → IsFinal (given {F = ℕ} found 515 (λ place. audited_held standing place (get_or standing.places place None)))
audited_by standing None = (omega arith, omega arith)
audited_by standing (Some place) = audited_held_final standing place (get_or standing.places place None)

pub audited_final : (id : List ℕ) (standing : Standing) → IsFinal (audited id standing)
unfolding audited
audited_final id standing = audited_by standing (place_where (holds_id id) standing.places)

pub audit_answers : (id : List ℕ) (standing : Standing) → AnswersAs (audited id standing) (answer_of (audited id standing))
audit_answers id standing = answers_as (audited id standing) (audited_final id standing)

pub code_of : {A : Type 0} (said : Result A ℕ) (code : ℕ) → Err code ≡ said → AnswersAs said (answer_of said)
    → (said ≡ Err code) × (code ≤ 999)
code_of said code is answers = (sym is, (subst (λ (r : Result _ ℕ). AnswersAs r (answer_of r)) (sym is) answers).1)

-- the code of a command that was planned
pub refused_code : {A : Type 0} (made : Result (Left A) ℕ) (code : ℕ) → Err code ≡ made → AnswersAs (answered_by made) (answer_of (answered_by made))
    → (answered_by made ≡ Err code) × (code ≤ 999)
refused_code made code is answers = code_of (answered_by made) code (ap (λ (r : Result (Left _) ℕ). answered_by r) is) answers

pub refused_deletion_code : (made : Result Standing ℕ) (code : ℕ) → Err code ≡ made → AnswersAs (whether made) (answer_of (whether made))
    → (whether made ≡ Err code) × (code ≤ 999)
refused_deletion_code made code is answers = code_of (whether made) code (ap whether is) answers
