-- One name of a text, and the mark behind it.
use Rattle.std.proofs.Common.{◌≡◌, ℕ, Bool, true, false, ◌&&◌, List, [], ◌∷◌, ◌++◌, Option, Some, None, refl, sym, ap, ◌∙◌, append-nil, append_assoc, arith}
use Rattle.std.specs.List.{list_all}
use Rattle.std.proofs.lemmas.Bool.Decides.{nat_tests}
use Rattle.mg_bytes.proofs.DigitLemmas.{both_true}
use Rattle.packages.specs.declared.cut.Cut.TheVariants.{Commas}
use Rattle.packages.specs.Cuts.{pieces}
use Rattle.packages.specs.Spelling.{is_parameter_byte}
use Rattle.packages.proofs.CutLemmas.{put_front, put_front-nil}
use Rattle.packages.proofs.JoinLemmas.{is_flat}
use Rattle.event_syntax.specs.Walking.{with_byte, closing, by_pieces, inside_is, by_closing, left, is_free_byte, is_inner}
use Rattle.event_syntax.proofs.ClosingLemmas.{is_quiet, is_quiet_byte, with_front, and_then, closing_flat, closing_deeper, ClosesAt, closes_at, name_pieces, comma_pieces, open_pieces, group_pieces}

quiet_byte : (nested : Bool) (b : ℕ) → is_free_byte nested b ≡ true → is_quiet_byte b ≡ true
quiet_byte true b free = grind (arith, nat_tests)
quiet_byte false b free = grind (arith, nat_tests)

pub quiet_of : (nested : Bool) (name : List ℕ) → list_all (is_free_byte nested) name ≡ true → is_quiet name ≡ true
quiet_of nested [] free = refl
quiet_of nested (b ∷ bs) free = let parts = both_true (is_free_byte nested b) (list_all (is_free_byte nested) bs) free in rw (quiet_byte nested b parts.0) (quiet_of nested bs parts.1)

flat_byte : (b : ℕ) → is_free_byte true b ≡ true → is_parameter_byte b ≡ true
flat_byte b free = grind (arith, nat_tests)

pub flat_of : (name : List ℕ) → list_all (is_free_byte true) name ≡ true → is_flat name ≡ true
flat_of [] free = refl
flat_of (b ∷ bs) free = let parts = both_true (is_free_byte true b) (list_all (is_free_byte true) bs) free in rw (flat_byte b parts.0) (flat_of bs parts.1)

and_false : (c : Bool) → (c && false) ≡ false
and_false true = refl
and_false false = refl

and_assoc : (a b c : Bool) → ((a && b) && c) ≡ (a && (b && c))
and_assoc true b c = refl
and_assoc false b c = refl

-- A comma

comma_inside : (h next : List ℕ → List (List ℕ) → Bool) (c : Bool) (name rest : List ℕ) → is_quiet name ≡ true
    → ((q : List ℕ) (qs : List (List ℕ)) → h name (q ∷ qs) ≡ (c && next q qs)) → inside_is h (name ++ 44 ∷ rest) ≡ (c && inside_is next rest)
comma_inside h next c name rest quiet so =
    ap (by_pieces h) (comma_pieces name rest quiet)
    ∙ (rw (put_front-nil Commas 0 rest) at (by_some (pieces Commas 0 rest)))
  where
    by_some : (ps : List (List ℕ)) → h name (put_front [] ps) ≡ (c && by_pieces next (put_front [] ps))
    by_some [] = so [] []
    by_some (q ∷ qs) = so q qs

pub left_comma : (h next : List ℕ → List (List ℕ) → Bool) (c : Bool) (outside : Option (List ℕ → Bool)) (name rest : List ℕ)
    → list_all (is_free_byte (is_inner outside)) name ≡ true
    → ((q : List ℕ) (qs : List (List ℕ)) → h name (q ∷ qs) ≡ (c && next q qs)) → left h outside (name ++ 44 ∷ rest) ≡ (c && left next outside rest)
unfolding closing
left_comma h next c None name rest free so = comma_inside h next c name rest (quiet_of false name free) so
left_comma h next c (Some on) name rest free so =
    ap (by_closing h on) (closing_flat 0 name (44 ∷ rest) (flat_of name free)) ∙ by_found (closing 0 rest)
  where
    by_found : (found : Option (List ℕ × List ℕ)) → by_closing h on (with_front name (with_byte 44 found)) ≡ (c && by_closing next on found)
    by_found None = sym (and_false c)
    by_found (Some sides) = rw (comma_inside h next c name sides.0 (quiet_of true name free) so) (and_assoc c (inside_is next sides.0) (on sides.1))

-- The parenthesis that closes

name_inside : (h : List ℕ → List (List ℕ) → Bool) (name : List ℕ) → is_quiet name ≡ true → inside_is h name ≡ h name []
name_inside h name quiet = ap (by_pieces h) (name_pieces Commas name quiet)

pub left_close : (h : List ℕ → List (List ℕ) → Bool) (on : List ℕ → Bool) (name rest : List ℕ) → list_all (is_free_byte true) name ≡ true
    → left h (Some on) (name ++ 41 ∷ rest) ≡ (h name [] && on rest)
unfolding closing
left_close h on name rest free =
    ap (by_closing h on) (closing_flat 0 name (41 ∷ rest) (flat_of name free))
    ∙ rw (append-nil name, name_inside h name (quiet_of true name free)) refl

-- The end

pub left_end : (h : List ℕ → List (List ℕ) → Bool) (name : List ℕ) → list_all (is_free_byte false) name ≡ true → left h None name ≡ h name []
left_end h name free = name_inside h name (quiet_of false name free)

pub left_unclosed : (h : List ℕ → List (List ℕ) → Bool) (on : List ℕ → Bool) (name : List ℕ) → list_all (is_free_byte true) name ≡ true
    → left h (Some on) name ≡ false
unfolding closing
left_unclosed h on name free =
    ap (by_closing h on) (ap (closing 0) (sym (append-nil name)) ∙ closing_flat 0 name [] (flat_of name free))

-- A parenthesis that opens

abbrev pub up_to : (List ℕ → Bool) → (List ℕ → Bool) → Option (List ℕ × List ℕ) → Bool
up_to inner on None = false
up_to inner on (Some sides) = inner sides.0 && on sides.1

pub record Opens (h next : List ℕ → List (List ℕ) → Bool) (c : Bool) (inner : List ℕ → Bool) (name : List ℕ) : Type 0 where
  pub closed : (text x y : List ℕ) (ps : List (List ℕ)) → ClosesAt 0 text x y → h (name ++ 40 ∷ text) ps ≡ (c && (inner x && next y ps))
  pub unclosed : (text : List ℕ) → closing 0 text ≡ None → h (name ++ 40 ∷ text) [] ≡ false

again : (text x y q : List ℕ) → ClosesAt 0 text x y → ClosesAt 0 (x ++ 41 ∷ q) x q
again text x y q closes = record { whole = refl; level = closes.level; uncut = closes.uncut }

regrouped : (name x q : List ℕ) → (name ++ 40 ∷ (x ++ 41 ∷ [])) ++ q ≡ name ++ 40 ∷ (x ++ 41 ∷ q)
regrouped name x q = simp append_assoc

opens_inside : (h next : List ℕ → List (List ℕ) → Bool) (c : Bool) (inner : List ℕ → Bool) (name text x y : List ℕ) → is_quiet name ≡ true
    → Opens h next c inner name → ClosesAt 0 text x y → inside_is h (name ++ 40 ∷ text) ≡ (c && (inner x && inside_is next y))
opens_inside h next c inner name text x y quiet so closes =
    ap (by_pieces h) (group_pieces name text x y quiet closes)
    ∙ (rw (put_front-nil Commas 0 y) at (by_some (pieces Commas 0 y)))
  where
    one : (q : List ℕ) (qs : List (List ℕ)) → h ((name ++ 40 ∷ (x ++ 41 ∷ [])) ++ q) qs ≡ (c && (inner x && next q qs))
    one q qs = ap (λ piece. h piece qs) (regrouped name x q) ∙ so.closed (x ++ 41 ∷ q) x q qs (again text x y q closes)

    by_some : (ps : List (List ℕ)) → by_pieces h (put_front (name ++ 40 ∷ (x ++ 41 ∷ [])) (put_front [] ps)) ≡ (c && (inner x && by_pieces next (put_front [] ps)))
    by_some [] = one [] []
    by_some (q ∷ qs) = one q qs

three : (a b c d : Bool) → ((a && (b && c)) && d) ≡ (a && (b && (c && d)))
three true true c d = refl
three true false c d = refl
three false b c d = refl

opened : (name rest : List ℕ) → closing 0 (40 ∷ rest) ≡ with_byte 40 (and_then 0 (closing 0 rest))
unfolding closing
opened name rest = ap (with_byte 40) (closing_deeper rest 0 0)

by_second : (h next : List ℕ → List (List ℕ) → Bool) (c : Bool) (inner on : List ℕ → Bool) (name rest x y : List ℕ) → is_quiet name ≡ true
    → Opens h next c inner name → ClosesAt 0 rest x y → (found : Option (List ℕ × List ℕ))
    → by_closing h on (with_front name (with_byte 40 (with_front (x ++ 41 ∷ []) found))) ≡ (c && (inner x && by_closing next on found))
by_second h next c inner on name rest x y quiet so closes None = sym (none c (inner x))
  where
    none : (a b : Bool) → (a && (b && false)) ≡ false
    none true true = refl
    none true false = refl
    none false b = refl
by_second h next c inner on name rest x y quiet so closes (Some more) =
    let text : List ℕ = (x ++ 41 ∷ []) ++ more.0 in
    let same : (x ++ 41 ∷ []) ++ more.0 ≡ x ++ 41 ∷ more.0 = append_assoc x (41 ∷ []) more.0 in
    let inside : inside_is h (name ++ 40 ∷ (x ++ 41 ∷ more.0)) ≡ (c && (inner x && inside_is next more.0)) =
    opens_inside h next c inner name (x ++ 41 ∷ more.0) x more.0 quiet so (again rest x y more.0 closes) in
    rw (same, inside) (three c (inner x) (inside_is next more.0) (on more.1))

pub left_open : (h next : List ℕ → List (List ℕ) → Bool) (c : Bool) (inner : List ℕ → Bool) (outside : Option (List ℕ → Bool)) (name rest : List ℕ)
    → list_all (is_free_byte (is_inner outside)) name ≡ true → Opens h next c inner name
    → left h outside (name ++ 40 ∷ rest) ≡ (c && up_to inner (left next outside) (closing 0 rest))
left_open h next c inner None name rest free so = by_found (closing 0 rest) refl
  where
    by_found : (found : Option (List ℕ × List ℕ)) → closing 0 rest ≡ found → inside_is h (name ++ 40 ∷ rest) ≡ (c && up_to inner (inside_is next) found)
    by_found None is = ap (by_pieces h) (open_pieces name rest (quiet_of false name free) is) ∙ so.unclosed rest is ∙ sym (and_false c)
    by_found (Some sides) is = opens_inside h next c inner name rest sides.0 sides.1 (quiet_of false name free) so (closes_at rest 0 sides.0 sides.1 is)
left_open h next c inner (Some on) name rest free so =
    ap (by_closing h on) (closing_flat 0 name (40 ∷ rest) (flat_of name free) ∙ ap (with_front name) (opened name rest)) ∙ by_found (closing 0 rest) refl
  where
    by_found : (found : Option (List ℕ × List ℕ)) → closing 0 rest ≡ found
        → by_closing h on (with_front name (with_byte 40 (and_then 0 found))) ≡ (c && up_to inner (left next (Some on)) found)
    by_found None is = sym (and_false c)
    by_found (Some sides) is = by_second h next c inner on name rest sides.0 sides.1 (quiet_of true name free) so (closes_at rest 0 sides.0 sides.1 is) (closing 0 sides.1)
