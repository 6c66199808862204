-- Numbers, places and versions, whatever happens.
use Rattle.std.proofs.Common.{◌≡◌, ◌≢◌, ℕ, ◌+◌, ◌<◌, ◌≤◌, Bool, true, false, nat_lt, List, [], ◌∷◌, get_or, map, Option, Some, None, refl, sym, ap, arith}
use Rattle.std.specs.Prelude.{Result, Ok, Err}
use Rattle.std.proofs.lemmas.Bool.Decides.{nat_tests}
use Rattle.mg_bytes.specs.Checks.{unless, checked, given}
use Rattle.connections.specs.declared.answer.Created.{Created}
use Rattle.connections.specs.declared.codec.Encoding.{Encoding}
use Rattle.connections.specs.declared.connection.Connection.{Connection}
use Rattle.connections.specs.declared.connection.Creation.{Creation}
use Rattle.connections.specs.declared.connection.Change.{Change}
use Rattle.connections.specs.Numbers.{greatest}
use Rattle.connections.specs.Connection.{begun, renewed}
use Rattle.connections.specs.Places.{is_free, place_where}
use Rattle.connections.specs.Standing.{Standing, Left, described, left_by, left_of, created, created_from, place_of, modified, modified_at, modified_held, modified_from, refused, deleted, without}
use Rattle.connections.specs.Life.{Happening, creates, modifies, deletes, after_one, after}

-- The number of a connection that is created

abbrev creation_by : Standing → Option ℕ → Bool → Result Connection ℕ → Result (Left Created) ℕ
creation_by standing found below made =
    given found 540 (λ place. checked (unless below 502) (created_from standing place (standing.last + 1) made))

pub record IsNext (standing : Standing) (done : Left Created) : Type 0 where
  pub number : done.answer.number ≡ standing.last + 1
  pub last : done.leaves.last ≡ standing.last + 1

abbrev number_in : Result (Left Created) ℕ → ℕ
number_in (Ok done) = done.answer.number
number_in (Err code) = 0

abbrev last_in : Result (Left Created) ℕ → ℕ
last_in (Ok done) = done.leaves.last
last_in (Err code) = 0

next_by : (standing : Standing) (found : Option ℕ) (below : Bool) (made : Result Connection ℕ) (done : Left Created)
    → creation_by standing found below made ≡ Ok done → IsNext standing done
next_by standing None below made done e = absurd cc
next_by standing (Some place) false made done e = absurd cc
next_by standing (Some place) true (Err code) done e = absurd cc
next_by standing (Some place) true (Ok connection) done e = record { number = sym (ap number_in e); last = sym (ap last_in e) }

is_next : (encoding : Encoding) (creation : Creation) (standing : Standing) (done : Left Created)
    → created encoding creation standing ≡ Ok done → IsNext standing done
unfolding created
is_next encoding creation standing done e =
    next_by standing (place_where is_free standing.places) (nat_lt standing.last greatest) (begun encoding creation (standing.last + 1)) done e

pub next_number : (encoding : Encoding) (creation : Creation) (standing : Standing) (done : Left Created)
    → created encoding creation standing ≡ Ok done → (done.answer.number ≡ standing.last + 1) × (done.leaves.last ≡ standing.last + 1)
next_number encoding creation standing done e = let n = is_next encoding creation standing done e in (n.number, n.last)

-- The last number is never less

created_later : (standing : Standing) (found : Option ℕ) (below : Bool) (made : Result Connection ℕ)
    → standing.last ≤ (left_by standing (creation_by standing found below made)).last
created_later standing None below made = omega arith
created_later standing (Some place) false made = omega arith
created_later standing (Some place) true (Err code) = omega arith
created_later standing (Some place) true (Ok connection) = omega arith

modified_from_same : (standing : Standing) (place : ℕ) (was : Connection) (made : Result Connection ℕ)
    → (left_by standing (modified_from standing place was made)).last ≡ standing.last
modified_from_same standing place was (Ok is) = refl
modified_from_same standing place was (Err code) = refl

modified_held_same : (encoding : Encoding) (change : Change) (standing : Standing) (place : ℕ) (held : Option Connection)
    → (left_by standing (modified_held encoding change standing place held)).last ≡ standing.last
modified_held_same encoding change standing place None = refl
modified_held_same encoding change standing place (Some was) = modified_from_same standing place was (renewed encoding change was)

modified_at_same : (encoding : Encoding) (change : Change) (standing : Standing) (found : Result ℕ ℕ)
    → (left_by standing (modified_at encoding change standing found)).last ≡ standing.last
modified_at_same encoding change standing (Ok place) = modified_held_same encoding change standing place (get_or standing.places place None)
modified_at_same encoding change standing (Err code) = refl

deleted_same : (standing is : Standing) (fault : Option ℕ) → is.last ≡ standing.last → (left_of standing (checked fault (Ok is))).last ≡ standing.last
deleted_same standing is None same = same
deleted_same standing is (Some code) same = refl

one_later : (standing : Standing) (happening : Happening) → standing.last ≤ (after_one standing happening).last
unfolding created modified deleted
one_later standing (creates encoding creation) =
    created_later standing (place_where is_free standing.places) (nat_lt standing.last greatest) (begun encoding creation (standing.last + 1))
one_later standing (modifies encoding call id change) =
    let e = modified_at_same encoding change standing (place_of call id standing.places) in rw e (omega arith)
one_later standing (deletes deletion) =
    let e = deleted_same standing (record standing { places = map (without deletion) standing.places }) (refused deletion standing.places) refl in
    rw e (omega arith)

trans_le : (a b c : ℕ) → a ≤ b → b ≤ c → a ≤ c
trans_le a b c ab bc = omega arith

pub never_less : (standing : Standing) (happenings : List Happening) → standing.last ≤ (after standing happenings).last
unfolding after
never_less standing [] = omega arith
never_less standing (happening ∷ more) = trans_le _ _ _ (one_later standing happening) (never_less (after_one standing happening) more)

-- The last number never goes past the greatest

created_at_most : (standing : Standing) (found : Option ℕ) (below : Bool) (made : Result Connection ℕ) → (below ≡ true → standing.last < greatest) → standing.last ≤ greatest
    → (left_by standing (creation_by standing found below made)).last ≤ greatest
created_at_most standing None below made less few = few
created_at_most standing (Some place) false made less few = few
created_at_most standing (Some place) true (Err code) less few = few
created_at_most standing (Some place) true (Ok connection) less few = let below : standing.last < greatest = less refl in omega arith

one_at_most : (standing : Standing) (happening : Happening) → standing.last ≤ greatest → (after_one standing happening).last ≤ greatest
unfolding created modified deleted
one_at_most standing (creates encoding creation) few =
    created_at_most standing (place_where is_free standing.places) (nat_lt standing.last greatest) (begun encoding creation (standing.last + 1))
    (λ (e : nat_lt standing.last greatest ≡ true). grind (arith, nat_tests)) few
one_at_most standing (modifies encoding call id change) few =
    let e = modified_at_same encoding change standing (place_of call id standing.places) in rw e few
one_at_most standing (deletes deletion) few =
    let e = deleted_same standing (record standing { places = map (without deletion) standing.places }) (refused deletion standing.places) refl in
    rw e few

pub never_past : (standing : Standing) (happenings : List Happening) → standing.last ≤ greatest → (after standing happenings).last ≤ greatest
unfolding after
never_past standing [] few = few
never_past standing (happening ∷ more) few = never_past (after_one standing happening) more (one_at_most standing happening few)

pub numbers_rise : (encoding other : Encoding) (creation later : Creation) (standing : Standing) (happenings : List Happening)
    (first second : Left Created) → created encoding creation standing ≡ Ok first
    → created other later (after first.leaves happenings) ≡ Ok second → first.answer.number < second.answer.number
numbers_rise encoding other creation later standing happenings first second e f =
    let a = is_next encoding creation standing first e in
    let b = is_next other later (after first.leaves happenings) second f in
    let l = never_less first.leaves happenings in
    let number = a.number in let last = a.last in let next = b.number in
    omega arith

pub other_port : (standing : Standing) (place other : ℕ) (connection next : Connection) → place ≢ other
    → (described standing place connection).port ≢ (described standing other next).port
other_port standing place other connection next differ e = differ (omega arith)
