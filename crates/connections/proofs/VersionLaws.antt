-- Versions of local descriptions.
use Rattle.std.proofs.Common.{◌≡◌, ℕ, ◌+◌, Bool, true, false, ◌&&◌, ◌||◌, not, eqb, nat_lt, List, [], ◌∷◌, get_or, Option, Some, None, refl, sym, ap, ◌∙◌, arith, subst, ⊎_elim}
use Rattle.std.specs.Prelude.{Result, Ok, Err}
use Rattle.std.proofs.lemmas.Bool.{cases_Bool}
use Rattle.std.proofs.lemmas.Bool.Decides.{nat_tests}
use Rattle.mg_bytes.specs.Checks.{unless, first_fault, checked, given}
use Rattle.sdp_subset.specs.declared.session.Origin.{Origin}
use Rattle.sdp_subset.specs.declared.session.Session.{Session}
use Rattle.connections.specs.declared.codec.Codec.{Codec}
use Rattle.connections.specs.declared.codec.Codec.TheVariants.{Pcmu, Pcma}
use Rattle.connections.specs.declared.codec.Codecs.{Codecs}
use Rattle.connections.specs.declared.codec.Codecs.TheVariants.{Only, Both}
use Rattle.connections.specs.declared.codec.Encoding.{Encoding}
use Rattle.connections.specs.declared.connection.Agreement.{Agreement}
use Rattle.connections.specs.declared.connection.Change.{Change}
use Rattle.connections.specs.declared.connection.Connection.{Connection}
use Rattle.connections.specs.declared.mode.Mode.{Mode}
use Rattle.connections.specs.declared.options.Options.{Options}
use Rattle.connections.specs.Codecs.{is_same_codec, are_same_codecs, listed}
use Rattle.connections.specs.Numbers.{greatest}
use Rattle.connections.specs.Connection.{agreed, can_be, given_or, remote_or, renewed, renewed_with, is_changed}
use Rattle.connections.specs.Standing.{Standing, no_connections, described, answered_by, shown_if, place_of, modified}

abbrev or_ok : {A : Type 0} → A → Result A ℕ → A
or_ok other (Ok value) = value
or_ok other (Err code) = other

checked_ok : {A : Type 0} (fault : Option ℕ) (value is : A) → checked fault (Ok value) ≡ Ok is → value ≡ is
checked_ok None value is e = ap (or_ok value) e
checked_ok (Some code) value is e = absurd cc

-- what a connection that was renewed is
record IsRenewed (was is : Connection) : Type 0 where
  mode : Mode
  options : Options
  remote : Option Session
  codecs : Agreement
  made : renewed_with was mode options remote codecs ≡ is

renewed_by : (was is : Connection) (mode : Mode) (options : Options) (remote : Option Session) (found : Option Agreement)
    → given {F = ℕ} found 534 (λ codecs. checked (first_fault (unless (can_be mode remote) 527
    ∷ unless (not (is_changed was options codecs) || nat_lt was.version greatest) 502 ∷ []))
    (Ok (renewed_with was mode options remote codecs))) ≡ Ok is → IsRenewed was is
renewed_by was is mode options remote None e = absurd cc
renewed_by was is mode options remote (Some codecs) e =
    record { mode = mode; options = options; remote = remote; codecs = codecs; made = checked_ok _ _ is e }

is_renewed : (encoding : Encoding) (change : Change) (was is : Connection) → renewed encoding change was ≡ Ok is → IsRenewed was is
unfolding renewed
is_renewed encoding change was is e =
    renewed_by was is (given_or change.mode was.mode) (given_or change.options was.options) (remote_or change.remote was.remote)
    (agreed (given_or change.options was.options).codecs encoding (remote_or change.remote was.remote)) e

next_of : (was : Connection) (mode : Mode) (options : Options) (remote : Option Session) (codecs : Agreement)
    → is_changed was options codecs ≡ true → (renewed_with was mode options remote codecs).version ≡ was.version + 1
next_of was mode options remote codecs h = rw h refl

next_if_changed : (encoding : Encoding) (change : Change) (was is : Connection) → renewed encoding change was ≡ Ok is
    → is_changed was is.options is.codecs ≡ true → is.version ≡ was.version + 1
next_if_changed encoding change was is e =
    let r = is_renewed encoding change was is e in
    subst (λ (c : Connection). is_changed was c.options c.codecs ≡ true → c.version ≡ was.version + 1) r.made
    (next_of was r.mode r.options r.remote r.codecs)

same_codec : (a b : Codec) → is_same_codec a b ≡ true → a ≡ b
same_codec Pcmu Pcmu h = refl
same_codec Pcma Pcma h = refl
same_codec Pcmu Pcma h = absurd cc
same_codec Pcma Pcmu h = absurd cc

same_codecs : (a b : Codecs) → are_same_codecs a b ≡ true → a ≡ b
same_codecs (Only a) (Only b) h = ap Only (same_codec a b h)
same_codecs (Both a) (Both b) h = ap Both (same_codec a b h)
same_codecs (Only a) (Both b) h = absurd cc
same_codecs (Both a) (Only b) h = absurd cc

both_same : (a b : Bool) → not (a && b) ≡ false → (a ≡ true) × (b ≡ true)
both_same true true h = (refl, refl)
both_same true false h = absurd cc
both_same false true h = absurd cc
both_same false false h = absurd cc

same_time : (m n : ℕ) → eqb m n ≡ true → m ≡ n
same_time m n h = grind (arith, nat_tests)

same_of : (was : Connection) (mode : Mode) (options : Options) (remote : Option Session) (codecs : Agreement) (standing : Standing) (place : ℕ)
    → is_changed was options codecs ≡ false
    → described standing place (renewed_with was mode options remote codecs) ≡ described standing place was
same_of was mode options remote codecs standing place h =
    let b = both_same (are_same_codecs was.codecs.in_force codecs.in_force) (eqb was.options.packet_time options.packet_time) h in
    let f : was.codecs.in_force ≡ codecs.in_force = same_codecs _ _ b.0 in
    let t : was.options.packet_time ≡ options.packet_time = same_time _ _ b.1 in
    rw h (rw (sym f, sym t) refl)

same_if_unchanged : (encoding : Encoding) (change : Change) (was is : Connection) (standing : Standing) (place : ℕ)
    → renewed encoding change was ≡ Ok is → is_changed was is.options is.codecs ≡ false
    → described standing place is ≡ described standing place was
same_if_unchanged encoding change was is standing place e =
    let r = is_renewed encoding change was is e in
    subst (λ (c : Connection). is_changed was c.options c.codecs ≡ false → described standing place c ≡ described standing place was) r.made
    (same_of was r.mode r.options r.remote r.codecs standing place)

-- In the words of what is described: the list in force and the packet time

same_listed : (a b : Codecs) → listed a ≡ listed b → are_same_codecs b a ≡ true
same_listed (Only Pcmu) (Only Pcmu) e = refl
same_listed (Only Pcma) (Only Pcma) e = refl
same_listed (Only Pcmu) (Only Pcma) e = absurd cc
same_listed (Only Pcma) (Only Pcmu) e = absurd cc
same_listed (Both Pcmu) (Both Pcmu) e = refl
same_listed (Both Pcma) (Both Pcma) e = refl
same_listed (Both Pcmu) (Both Pcma) e = absurd cc
same_listed (Both Pcma) (Both Pcmu) e = absurd cc
same_listed (Only codec) (Both first) e = absurd cc
same_listed (Both first) (Only codec) e = absurd cc

-- the list in force is what it was, and so is the packet time
abbrev IsAsItWas : Connection → Connection → Type 0
IsAsItWas was is = (listed is.codecs.in_force ≡ listed was.codecs.in_force) × (is.options.packet_time ≡ was.options.packet_time)

unchanged : (was is : Connection) → IsAsItWas was is → is_changed was is.options is.codecs ≡ false
unchanged was is same =
    let f : are_same_codecs was.codecs.in_force is.codecs.in_force ≡ true = same_listed _ _ same.0 in
    let s = same.1 in
    let t : eqb was.options.packet_time is.options.packet_time ≡ true = grind (arith, nat_tests) in
    rw (f, t) refl

as_it_was : (was is : Connection) → is_changed was is.options is.codecs ≡ false → IsAsItWas was is
as_it_was was is h =
    let b = both_same (are_same_codecs was.codecs.in_force is.codecs.in_force) (eqb was.options.packet_time is.options.packet_time) h in
    (ap listed (sym (same_codecs _ _ b.0)), sym (same_time _ _ b.1))

abbrev Differs : Connection → Connection → Type 0
Differs was is = listed is.codecs.in_force ≡ listed was.codecs.in_force → is.options.packet_time ≡ was.options.packet_time → ⊥

changed : (was is : Connection) → Differs was is → is_changed was is.options is.codecs ≡ true
changed was is differs = ⊎_elim
    (λ (h : is_changed was is.options is.codecs ≡ true). h)
    (λ (h : is_changed was is.options is.codecs ≡ false). absurd (differs (as_it_was was is h).0 (as_it_was was is h).1))
    (cases_Bool (is_changed was is.options is.codecs))

pub next_version_of : (encoding : Encoding) (change : Change) (was is : Connection) → renewed encoding change was ≡ Ok is
    → Differs was is → is.version ≡ was.version + 1
next_version_of encoding change was is e differs = next_if_changed encoding change was is e (changed was is differs)

pub same_description : (encoding : Encoding) (change : Change) (was is : Connection) (standing : Standing) (place : ℕ)
    → renewed encoding change was ≡ Ok is → listed is.codecs.in_force ≡ listed was.codecs.in_force
    → is.options.packet_time ≡ was.options.packet_time → described standing place is ≡ described standing place was
same_description encoding change was is standing place e list time =
    same_if_unchanged encoding change was is standing place e (unchanged was is (list, time))

version_in : Session → ℕ
version_in session = by_origin session.origin where
  by_origin : Option Origin → ℕ
  by_origin None = 0
  by_origin (Some origin) = origin.version

pub same_version : (encoding : Encoding) (change : Change) (was is : Connection) → renewed encoding change was ≡ Ok is
    → listed is.codecs.in_force ≡ listed was.codecs.in_force → is.options.packet_time ≡ was.options.packet_time
    → is.version ≡ was.version
unfolding version_in
same_version encoding change was is e list time =
    ap version_in (same_description encoding change was is (no_connections (record { octets = [] }) 0) 0 e list time)

-- What is answered

answer_by : (encoding : Encoding) (call id : List ℕ) (change : Change) (standing : Standing) (place : ℕ) (was is : Connection)
    → place_of call id standing.places ≡ Ok place → get_or standing.places place None ≡ Some was → renewed encoding change was ≡ Ok is
    → answered_by (modified encoding call id change standing) ≡ Ok (shown_if (is_changed was is.options is.codecs) (described standing place is))
unfolding modified
answer_by encoding call id change standing place was is found here e = rw found (rw here (rw e refl))

pub told_if_changed : (encoding : Encoding) (call id : List ℕ) (change : Change) (standing : Standing) (place : ℕ) (was is : Connection)
    → place_of call id standing.places ≡ Ok place → get_or standing.places place None ≡ Some was → renewed encoding change was ≡ Ok is
    → Differs was is → answered_by (modified encoding call id change standing) ≡ Ok (Some (described standing place is))
told_if_changed encoding call id change standing place was is found here e differs =
    answer_by encoding call id change standing place was is found here e ∙ rw (changed was is differs) refl

pub untold_if_unchanged : (encoding : Encoding) (call id : List ℕ) (change : Change) (standing : Standing) (place : ℕ) (was is : Connection)
    → place_of call id standing.places ≡ Ok place → get_or standing.places place None ≡ Some was → renewed encoding change was ≡ Ok is
    → listed is.codecs.in_force ≡ listed was.codecs.in_force → is.options.packet_time ≡ was.options.packet_time
    → answered_by (modified encoding call id change standing) ≡ Ok None
untold_if_unchanged encoding call id change standing place was is found here e list time =
    answer_by encoding call id change standing place was is found here e ∙ rw (unchanged was is (list, time)) refl
