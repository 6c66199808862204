-- Texts up to the parenthesis that closes them.
use Rattle.std.proofs.Common.{◌≡◌, ℕ, suc, ◌+◌, Bool, true, false, ◌&&◌, ◌==◌, List, [], ◌∷◌, ◌++◌, Option, Some, None, refl, sym, ap, ◌∙◌, append-nil, append_assoc, arith, ⊎_elim}
use Rattle.std.specs.Prelude.{not}
use Rattle.std.specs.List.{list_all}
use Rattle.std.proofs.lemmas.Bool.{cases_Bool}
use Rattle.std.proofs.lemmas.Bool.Decides.{nat_tests}
use Rattle.mg_bytes.proofs.DigitLemmas.{both_true}
use Rattle.packages.specs.declared.cut.Cut.{Cut}
use Rattle.packages.specs.declared.cut.Cut.TheVariants.{Commas, Parentheses}
use Rattle.packages.specs.Cuts.{deeper, is_cut, after, is_uncut, pieces}
use Rattle.packages.specs.Spelling.{is_parameter_byte}
use Rattle.packages.proofs.CutLemmas.{put_front}
use Rattle.packages.proofs.JoinLemmas.{is_flat, pieces_uncut, uncut_append, after_append}
use Rattle.event_syntax.specs.Walking.{with_byte, closing}

-- a name: no comma, and nothing opens in it
abbrev pub is_quiet_byte : ℕ → Bool
is_quiet_byte b = not (b == 44) && not (b == 40)

abbrev pub is_quiet : List ℕ → Bool
is_quiet text = list_all is_quiet_byte text

quiet_deeper : (b : ℕ) → is_quiet_byte b ≡ true → deeper 0 b ≡ 0
quiet_deeper b quiet = grind (arith, nat_tests)

quiet_not_cut : (cut : Cut) (b : ℕ) → is_quiet_byte b ≡ true → is_cut cut 0 b ≡ false
quiet_not_cut Commas b quiet = grind (arith, nat_tests)
quiet_not_cut Parentheses b quiet = grind (arith, nat_tests)

pub quiet_after : (text : List ℕ) → is_quiet text ≡ true → after 0 text ≡ 0
quiet_after [] quiet = refl
quiet_after (b ∷ bs) quiet =
    let parts : (is_quiet_byte b ≡ true) × (is_quiet bs ≡ true) = both_true _ _ quiet in
    rw (quiet_deeper b parts.0) (quiet_after bs parts.1)

pub quiet_uncut : (cut : Cut) (text : List ℕ) → is_quiet text ≡ true → is_uncut cut 0 text ≡ true
quiet_uncut cut [] quiet = refl
quiet_uncut cut (b ∷ bs) quiet =
    let parts : (is_quiet_byte b ≡ true) × (is_quiet bs ≡ true) = both_true _ _ quiet in
    let here : is_cut cut 0 b ≡ false = quiet_not_cut cut b parts.0 in
    rw (here, quiet_deeper b parts.0) (quiet_uncut cut bs parts.1)

-- a name before
abbrev pub with_front : List ℕ → Option (List ℕ × List ℕ) → Option (List ℕ × List ℕ)
with_front front None = None
with_front front (Some sides) = Some (front ++ sides.0, sides.1)

front_none : (found : Option (List ℕ × List ℕ)) → found ≡ with_front [] found
front_none None = refl
front_none (Some sides) = refl

byte_front : (b : ℕ) (front : List ℕ) (found : Option (List ℕ × List ℕ)) → with_byte b (with_front front found) ≡ with_front (b ∷ front) found
byte_front b front None = refl
byte_front b front (Some sides) = refl

flat_here : (d b : ℕ) → is_parameter_byte b ≡ true → ((b == 41 && d == 0) ≡ false) × (deeper d b ≡ d)
flat_here d b flat = (grind (arith, nat_tests), grind (arith, nat_tests))

pub closing_flat : (d : ℕ) (front rest : List ℕ) → is_flat front ≡ true → closing d (front ++ rest) ≡ with_front front (closing d rest)
unfolding closing
closing_flat d [] rest flat = front_none (closing d rest)
closing_flat d (b ∷ bs) rest flat =
    let parts : (is_parameter_byte b ≡ true) × (is_flat bs ≡ true) = both_true _ _ flat in
    let here = flat_here d b parts.0 in
    rw (here.0, here.1, closing_flat d bs rest parts.1) (byte_front b bs (closing d rest))

-- what closes one deeper, and then what closes
abbrev pub and_then : ℕ → Option (List ℕ × List ℕ) → Option (List ℕ × List ℕ)
and_then d None = None
and_then d (Some sides) = with_front (sides.0 ++ 41 ∷ []) (closing d sides.1)

then_byte : (d b : ℕ) (found : Option (List ℕ × List ℕ)) → with_byte b (and_then d found) ≡ and_then d (with_byte b found)
then_byte d b None = refl
then_byte d b (Some sides) = byte_front b (sides.0 ++ 41 ∷ []) (closing d sides.1)

closes_here : (e b : ℕ) → (b == 41 && e == 0) ≡ true → (b ≡ 41) × (e ≡ 0)
closes_here e b here = (grind (arith, nat_tests), grind (arith, nat_tests))

closes_more : (e d b : ℕ) → (b == 41 && e == 0) ≡ true → ((b == 41 && (e + suc d) == 0) ≡ false) × (deeper (e + suc d) b ≡ d)
closes_more e d b here = (grind (arith, nat_tests), grind (arith, nat_tests))

byte_one : (found : Option (List ℕ × List ℕ)) → with_byte 41 found ≡ with_front (41 ∷ []) found
byte_one None = refl
byte_one (Some sides) = refl

not_here : (e d b : ℕ) → (b == 41 && e == 0) ≡ false → ((b == 41 && (e + suc d) == 0) ≡ false) × (deeper (e + suc d) b ≡ deeper e b + suc d)
not_here e d b here = (grind (arith, nat_tests), grind (arith, nat_tests))

pub closing_deeper : (text : List ℕ) (e d : ℕ) → closing (e + suc d) text ≡ and_then d (closing e text)
unfolding closing
closing_deeper [] e d = refl
closing_deeper (b ∷ bs) e d =
    ⊎_elim
    (λ (h : (b == 41 && e == 0) ≡ true).
    let here = closes_here e b h in
    let more = closes_more e d b h in
    rw (h, more.0, more.1, here.0) (byte_one (closing d bs)))
    (λ (h : (b == 41 && e == 0) ≡ false).
    let more = not_here e d b h in
    rw (h, more.0, more.1, closing_deeper bs (deeper e b) d) (then_byte d b (closing (deeper e b) bs)))
    (cases_Bool (b == 41 && e == 0))

abbrev Same : Option (List ℕ × List ℕ) → Option (List ℕ × List ℕ) → Type 0
Same found wanted = found ≡ wanted

abbrev front_in : Option (List ℕ × List ℕ) → List ℕ
front_in None = []
front_in (Some sides) = sides.0

abbrev back_in : Option (List ℕ × List ℕ) → List ℕ
back_in None = []
back_in (Some sides) = sides.1

-- what stands before it closes what it opens, and is cut nowhere in more parentheses
pub record ClosesAt (e : ℕ) (text inside behind : List ℕ) : Type 0 where
  pub whole : text ≡ inside ++ 41 ∷ behind
  pub level : (d : ℕ) → after (e + suc d) inside ≡ suc d
  pub uncut : (cut : Cut) (d : ℕ) → is_uncut cut (e + suc d) inside ≡ true

uncut_here : (cut : Cut) (e d b : ℕ) → (b == 41 && e == 0) ≡ false → is_cut cut (e + suc d) b ≡ false
uncut_here Commas e d b here = grind (arith, nat_tests)
uncut_here Parentheses e d b here = grind (arith, nat_tests)

sum_none : (e d : ℕ) → e ≡ 0 → e + suc d ≡ suc d
sum_none e d none = omega arith

pub closes_at : (text : List ℕ) (e : ℕ) (inside behind : List ℕ) → closing e text ≡ Some (inside, behind) → ClosesAt e text inside behind
unfolding closing
closes_at [] e inside behind found = absurd cc
closes_at (b ∷ bs) e inside behind found =
    ⊎_elim
    (λ (h : (b == 41 && e == 0) ≡ true).
    let same : Same (Some ([], bs)) (Some (inside, behind)) = (rw h at found) in
    let here = closes_here e b h in
    closed_here b bs e inside behind here.0 here.1 same)
    (λ (h : (b == 41 && e == 0) ≡ false).
    let more : Same (with_byte b (closing (deeper e b) bs)) (Some (inside, behind)) = (rw h at found) in
    by_found (closing (deeper e b) bs) b bs e inside behind h (closes_at bs (deeper e b)) more)
    (cases_Bool (b == 41 && e == 0))
  where
    closed_here : (b : ℕ) (bs : List ℕ) (e : ℕ) (inside behind : List ℕ) → b ≡ 41 → e ≡ 0
        → Same (Some ([], bs)) (Some (inside, behind)) → ClosesAt e (b ∷ bs) inside behind
    closed_here b bs e [] behind is none same = record {
      whole = (let tail : bs ≡ behind = ap back_in same in rw (is, tail) refl);
      level = λ (d : ℕ). sum_none e d none;
      uncut = λ (cut : Cut) (d : ℕ). refl;
    }
    closed_here b bs e (x ∷ xs) behind is none same = let no : [] ≡ x ∷ xs = ap front_in same in absurd cc

    by_found : (found : Option (List ℕ × List ℕ)) (b : ℕ) (bs : List ℕ) (e : ℕ) (inside behind : List ℕ) → (b == 41 && e == 0) ≡ false
        → ((x y : List ℕ) → found ≡ Some (x, y) → ClosesAt (deeper e b) bs x y)
        → with_byte b found ≡ Some (inside, behind) → ClosesAt e (b ∷ bs) inside behind
    by_found None b bs e inside behind here rest same = absurd cc
    by_found (Some sides) b bs e [] behind here rest same = let no : b ∷ sides.0 ≡ [] = ap front_in same in absurd cc
    by_found (Some sides) b bs e (x ∷ xs) behind here rest same =
        let heads : b ∷ sides.0 ≡ x ∷ xs = ap front_in same in
        let first : b ≡ x = cc in
        let others : sides.0 ≡ xs = cc in
        let last : sides.1 ≡ behind = ap back_in same in
        let so : ClosesAt (deeper e b) bs xs behind = rw (others, last) at (rest sides.0 sides.1 refl) in
        record {
          whole = rw (so.whole, first) refl;
          level = λ (d : ℕ). let deep = not_here e d b here in rw (← first, deep.1) (so.level d);
          uncut = λ (cut : Cut) (d : ℕ). let deep = not_here e d b here in let apart = uncut_here cut e d b here in rw (← first, apart, deep.1) (so.uncut cut d);
        }

pub unclosed : (text : List ℕ) (e : ℕ) → closing e text ≡ None → (cut : Cut) → is_uncut cut (suc e) text ≡ true
unfolding closing
unclosed [] e none cut = refl
unclosed (b ∷ bs) e none cut =
    ⊎_elim
    (λ (h : (b == 41 && e == 0) ≡ true). let no : Same (Some ([], bs)) None = (rw h at none) in absurd cc)
    (λ (h : (b == 41 && e == 0) ≡ false).
    let more : with_byte b (closing (deeper e b) bs) ≡ None = (rw h at none) in
    let apart : is_cut cut (suc e) b ≡ false = apart_here cut e b h in
    let deep : deeper (suc e) b ≡ suc (deeper e b) = deep_here e b h in
    rw (apart, deep) (unclosed bs (deeper e b) (none_inside b (closing (deeper e b) bs) more) cut))
    (cases_Bool (b == 41 && e == 0))
  where
    none_inside : (b : ℕ) (found : Option (List ℕ × List ℕ)) → with_byte b found ≡ None → found ≡ None
    none_inside b None none = refl
    none_inside b (Some sides) none = absurd cc

    apart_here : (cut : Cut) (e b : ℕ) → (b == 41 && e == 0) ≡ false → is_cut cut (suc e) b ≡ false
    apart_here Commas e b here = grind (arith, nat_tests)
    apart_here Parentheses e b here = grind (arith, nat_tests)

    deep_here : (e b : ℕ) → (b == 41 && e == 0) ≡ false → deeper (suc e) b ≡ suc (deeper e b)
    deep_here e b here = grind (arith, nat_tests)

-- The pieces of texts that begin with a name

pub name_pieces : (cut : Cut) (name : List ℕ) → is_quiet name ≡ true → pieces cut 0 name ≡ name ∷ []
unfolding pieces
name_pieces cut name quiet =
    ap (pieces cut 0) (sym (append-nil name)) ∙ pieces_uncut cut 0 name [] (quiet_uncut cut name quiet) ∙ ap (λ x. x ∷ []) (append-nil name)

pub comma_pieces : (name rest : List ℕ) → is_quiet name ≡ true → pieces Commas 0 (name ++ 44 ∷ rest) ≡ name ∷ pieces Commas 0 rest
unfolding pieces
comma_pieces name rest quiet =
    pieces_uncut Commas 0 name (44 ∷ rest) (quiet_uncut Commas name quiet)
    ∙ rw (quiet_after name quiet) (ap (λ x. x ∷ pieces Commas 0 rest) (append-nil name))

pub open_pieces : (name rest : List ℕ) → is_quiet name ≡ true → closing 0 rest ≡ None → pieces Commas 0 (name ++ 40 ∷ rest) ≡ (name ++ 40 ∷ rest) ∷ []
unfolding pieces
open_pieces name rest quiet none =
    let level : after 0 name ≡ 0 = quiet_after name quiet in
    let more : is_uncut Commas 1 rest ≡ true = unclosed rest 0 none Commas in
    let whole : is_uncut Commas 0 (name ++ 40 ∷ rest) ≡ true =
    uncut_append Commas 0 name (40 ∷ rest) (quiet_uncut Commas name quiet) (rw (level, more) refl) in
    ap (pieces Commas 0) (sym (append-nil (name ++ 40 ∷ rest))) ∙ pieces_uncut Commas 0 (name ++ 40 ∷ rest) [] whole
    ∙ ap (λ x. x ∷ []) (append-nil (name ++ 40 ∷ rest))

pub open_parts : (name rest : List ℕ) → is_quiet name ≡ true → closing 0 rest ≡ None → pieces Parentheses 0 (name ++ 40 ∷ rest) ≡ name ∷ rest ∷ []
unfolding pieces
open_parts name rest quiet none =
    let level : after 0 name ≡ 0 = quiet_after name quiet in
    let second : pieces Parentheses 1 rest ≡ rest ∷ [] =
    ap (pieces Parentheses 1) (sym (append-nil rest)) ∙ pieces_uncut Parentheses 1 rest [] (unclosed rest 0 none Parentheses) ∙ ap (λ x. x ∷ []) (append-nil rest) in
    pieces_uncut Parentheses 0 name (40 ∷ rest) (quiet_uncut Parentheses name quiet) ∙ rw (level, second) (ap (λ x. x ∷ rest ∷ []) (append-nil name))

pub group_pieces : (name text inside behind : List ℕ) → is_quiet name ≡ true → ClosesAt 0 text inside behind
    → pieces Commas 0 (name ++ 40 ∷ text) ≡ put_front (name ++ 40 ∷ (inside ++ 41 ∷ [])) (pieces Commas 0 behind)
unfolding pieces
group_pieces name text inside behind quiet closes =
    let level : after 0 name ≡ 0 = quiet_after name quiet in
    let deep : after 1 inside ≡ 1 = closes.level 0 in
    let within : is_uncut Commas 1 inside ≡ true = closes.uncut Commas 0 in
    let ending : is_uncut Commas 1 (inside ++ 41 ∷ []) ≡ true = uncut_append Commas 1 inside (41 ∷ []) within (ap (λ d. is_uncut Commas d (41 ∷ [])) deep) in
    let whole : is_uncut Commas 0 (name ++ 40 ∷ (inside ++ 41 ∷ [])) ≡ true =
    uncut_append Commas 0 name _ (quiet_uncut Commas name quiet) (rw (level, ending) refl) in
    let closed : after 0 (name ++ 40 ∷ (inside ++ 41 ∷ [])) ≡ 0 = after_append 0 name _ ∙ rw (level, after_append 1 inside (41 ∷ []), deep) refl in
    let parted : name ++ 40 ∷ text ≡ (name ++ 40 ∷ (inside ++ 41 ∷ [])) ++ behind = rw (closes.whole) (simp append_assoc) in
    ap (pieces Commas 0) parted ∙ pieces_uncut Commas 0 (name ++ 40 ∷ (inside ++ 41 ∷ [])) behind whole ∙ rw closed refl

pub group_parts : (name text inside behind : List ℕ) → is_quiet name ≡ true → ClosesAt 0 text inside behind
    → pieces Parentheses 0 (name ++ 40 ∷ text) ≡ name ∷ inside ∷ pieces Parentheses 0 behind
unfolding pieces
group_parts name text inside behind quiet closes =
    let level : after 0 name ≡ 0 = quiet_after name quiet in
    let deep : after 1 inside ≡ 1 = closes.level 0 in
    let second : pieces Parentheses 1 text ≡ inside ∷ pieces Parentheses 0 behind =
    ap (pieces Parentheses 1) (closes.whole) ∙ pieces_uncut Parentheses 1 inside (41 ∷ behind) (closes.uncut Parentheses 0)
    ∙ rw deep (ap (λ x. x ∷ pieces Parentheses 0 behind) (append-nil inside)) in
    pieces_uncut Parentheses 0 name (40 ∷ text) (quiet_uncut Parentheses name quiet)
    ∙ rw (level, second) (ap (λ x. x ∷ inside ∷ pieces Parentheses 0 behind) (append-nil name))
