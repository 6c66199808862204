-- Entries that are written with commas between them are cut at these commas.
use Rattle.std.proofs.Common.{◌≡◌, ℕ, ◌-◌, ◌<◌, Bool, true, false, List, [], ◌∷◌, ◌++◌, length, map, get_or, refl, sym, ap, ◌∙◌, append-nil, arith, suc, ⊎_elim, Some}
use Rattle.std.specs.Prelude.{not}
use Rattle.std.specs.List.{onto_first, list_all, AllByRecursion, join_with_byte}
use Rattle.std.proofs.lemmas.Bool.{cases_Bool}
use Rattle.std.proofs.lemmas.Bool.Decides.{nat_tests}
use Rattle.std.proofs.lemmas.List.Folds.{list_all-append}
use Rattle.std.proofs.lemmas.List.Sums.{AllPass-from_list_all}
use Rattle.mg_bytes.proofs.DigitLemmas.{both_true}
use Rattle.mg_bytes.specs.Blanks.{is_blank, trimmed_start, trimmed}
use Rattle.mg_bytes.proofs.TextLaws.{trimmed_same}
use Rattle.packages.specs.declared.cut.Cut.{Cut}
use Rattle.packages.specs.declared.cut.Cut.TheVariants.{Commas, Parentheses}
use Rattle.packages.specs.Cuts.{deeper, is_cut, after, is_uncut, pieces, items, entries, form_of, form_from}
use Rattle.packages.specs.Spelling.{is_parenthesis, is_parameter_byte}
use Rattle.packages.proofs.CutLemmas.{put_front, put_front-nil}

onto_front : (b : ℕ) (front : List ℕ) (ps : List (List ℕ)) → onto_first b (put_front front ps) ≡ put_front (b ∷ front) ps
onto_front b front [] = refl
onto_front b front (p ∷ ps) = refl

front_none : (cut : Cut) (depth : ℕ) (text : List ℕ) → pieces cut depth text ≡ put_front [] (pieces cut depth text)
front_none cut depth text = sym (put_front-nil cut depth text)

pub false_of_not : (b : Bool) → not b ≡ true → b ≡ false
false_of_not true e = absurd cc
false_of_not false e = refl

-- what isn't cut goes before the first piece of the rest
pub pieces_uncut : (cut : Cut) (depth : ℕ) (front rest : List ℕ) → is_uncut cut depth front ≡ true
    → pieces cut depth (front ++ rest) ≡ put_front front (pieces cut (after depth front) rest)
unfolding pieces
pieces_uncut cut depth [] rest whole = front_none cut depth rest
pieces_uncut cut depth (b ∷ bs) rest whole =
    let parts : (not (is_cut cut depth b) ≡ true) × (is_uncut cut (deeper depth b) bs ≡ true) = both_true _ _ whole in
    let here : is_cut cut depth b ≡ false = false_of_not _ parts.0 in
    rw (here, pieces_uncut cut (deeper depth b) bs rest parts.1) (onto_front b bs (pieces cut (after (deeper depth b) bs) rest))

-- no byte is blank
abbrev pub is_solid : ℕ → Bool
is_solid b = not (is_blank b)

abbrev pub is_plain : List ℕ → Bool
is_plain text = list_all is_solid text

plain_last : (text : List ℕ) → is_plain text ≡ true → 0 < length text → is_blank (get_or text (length text - 1) 0) ≡ false
plain_last text plain some = false_of_not _ (AllPass-from_list_all is_solid text plain (length text - 1) 0 (omega arith))

plain_start : (text : List ℕ) → is_plain text ≡ true → trimmed_start text ≡ text
plain_start [] plain = refl
plain_start (b ∷ bs) plain = let solid : is_blank b ≡ false = false_of_not _ (both_true _ _ plain).0 in rw solid refl

pub plain_trimmed : (text : List ℕ) → is_plain text ≡ true → trimmed text ≡ text
plain_trimmed text plain = trimmed_same text (record { start = plain_start text plain; end = plain_last text plain })

-- so the pieces of a plain text are as they stand
plain_onto : (b : ℕ) (ps : List (List ℕ)) → is_solid b ≡ true → list_all is_plain ps ≡ true → list_all is_plain (onto_first b ps) ≡ true
plain_onto b [] solid plain = rw solid refl
plain_onto b (p ∷ ps) solid plain = rw solid plain

plain_pieces : (cut : Cut) (depth : ℕ) (text : List ℕ) → is_plain text ≡ true → list_all is_plain (pieces cut depth text) ≡ true
unfolding pieces
plain_pieces cut depth [] plain = refl
plain_pieces cut depth (b ∷ bs) plain =
    let parts : (is_solid b ≡ true) × (is_plain bs ≡ true) = both_true _ _ plain in
    let rest : list_all is_plain (pieces cut (deeper depth b) bs) ≡ true = plain_pieces cut (deeper depth b) bs parts.1 in
    ⊎_elim
    (λ (h : is_cut cut depth b ≡ true). rw h rest)
    (λ (h : is_cut cut depth b ≡ false). rw h (plain_onto b _ parts.0 rest))
    (cases_Bool (is_cut cut depth b))

all_trimmed : (ps : List (List ℕ)) → list_all is_plain ps ≡ true → map trimmed ps ≡ ps
all_trimmed [] plain = refl
all_trimmed (p ∷ ps) plain =
    let parts : (is_plain p ≡ true) × (list_all is_plain ps ≡ true) = both_true _ _ plain in
    rw (plain_trimmed p parts.0, all_trimmed ps parts.1) refl

pub plain_cut : (cut : Cut) (depth : ℕ) (text : List ℕ) → is_plain text ≡ true → map trimmed (pieces cut depth text) ≡ pieces cut depth text
plain_cut cut depth text plain = all_trimmed _ (plain_pieces cut depth text plain)

-- a text without parentheses leaves the depth, and is cut nowhere inside of parentheses
abbrev pub is_calm_byte : ℕ → Bool
is_calm_byte b = not (is_parenthesis b)

abbrev pub is_calm : List ℕ → Bool
is_calm text = list_all is_calm_byte text

-- one without commas too is cut nowhere
abbrev pub is_flat : List ℕ → Bool
is_flat text = list_all is_parameter_byte text

calm_deeper : (depth b : ℕ) → is_calm_byte b ≡ true → deeper depth b ≡ depth
calm_deeper depth b calm = grind (arith, nat_tests)

calm_not_cut : (depth b : ℕ) → is_calm_byte b ≡ true → is_cut Commas (suc depth) b ≡ false
calm_not_cut depth b calm = grind (arith, nat_tests)

calm_not_parted : (depth b : ℕ) → is_calm_byte b ≡ true → is_cut Parentheses depth b ≡ false
calm_not_parted depth b calm = grind (arith, nat_tests)

flat_not_cut : (depth b : ℕ) → is_parameter_byte b ≡ true → is_cut Commas depth b ≡ false
flat_not_cut depth b flat = grind (arith, nat_tests)

flat_calm : (b : ℕ) → is_parameter_byte b ≡ true → is_calm_byte b ≡ true
flat_calm b flat = grind (arith, nat_tests)

pub flat_is_calm : (text : List ℕ) → is_flat text ≡ true → is_calm text ≡ true
flat_is_calm [] flat = refl
flat_is_calm (b ∷ bs) flat =
    let parts : (is_parameter_byte b ≡ true) × (is_flat bs ≡ true) = both_true _ _ flat in
    rw (flat_calm b parts.0) (flat_is_calm bs parts.1)

pub calm_after : (depth : ℕ) (text : List ℕ) → is_calm text ≡ true → after depth text ≡ depth
calm_after depth [] calm = refl
calm_after depth (b ∷ bs) calm =
    let parts : (is_calm_byte b ≡ true) × (is_calm bs ≡ true) = both_true _ _ calm in
    rw (calm_deeper depth b parts.0) (calm_after depth bs parts.1)

pub calm_uncut : (depth : ℕ) (text : List ℕ) → is_calm text ≡ true → is_uncut Commas (suc depth) text ≡ true
calm_uncut depth [] calm = refl
calm_uncut depth (b ∷ bs) calm =
    let parts : (is_calm_byte b ≡ true) × (is_calm bs ≡ true) = both_true _ _ calm in
    let here : is_cut Commas (suc depth) b ≡ false = calm_not_cut depth b parts.0 in
    rw (here, calm_deeper (suc depth) b parts.0) (calm_uncut depth bs parts.1)

pub calm_unparted : (depth : ℕ) (text : List ℕ) → is_calm text ≡ true → is_uncut Parentheses depth text ≡ true
calm_unparted depth [] calm = refl
calm_unparted depth (b ∷ bs) calm =
    let parts : (is_calm_byte b ≡ true) × (is_calm bs ≡ true) = both_true _ _ calm in
    let here : is_cut Parentheses depth b ≡ false = calm_not_parted depth b parts.0 in
    rw (here, calm_deeper depth b parts.0) (calm_unparted depth bs parts.1)

pub flat_uncut : (depth : ℕ) (text : List ℕ) → is_flat text ≡ true → is_uncut Commas depth text ≡ true
flat_uncut depth [] flat = refl
flat_uncut depth (b ∷ bs) flat =
    let parts : (is_parameter_byte b ≡ true) × (is_flat bs ≡ true) = both_true _ _ flat in
    let here : is_cut Commas depth b ≡ false = flat_not_cut depth b parts.0 in
    rw (here, calm_deeper depth b (flat_calm b parts.0)) (flat_uncut depth bs parts.1)

pub uncut_append : (cut : Cut) (depth : ℕ) (a b : List ℕ) → is_uncut cut depth a ≡ true → is_uncut cut (after depth a) b ≡ true → is_uncut cut depth (a ++ b) ≡ true
uncut_append cut depth [] b whole rest = rest
uncut_append cut depth (x ∷ xs) b whole rest =
    let parts : (not (is_cut cut depth x) ≡ true) × (is_uncut cut (deeper depth x) xs ≡ true) = both_true _ _ whole in
    rw (parts.0) (uncut_append cut (deeper depth x) xs b parts.1 rest)

pub after_append : (depth : ℕ) (a b : List ℕ) → after depth (a ++ b) ≡ after (after depth a) b
after_append depth [] b = refl
after_append depth (x ∷ xs) b = after_append (deeper depth x) xs b

-- an entry of a list: no comma of it stands outside of parentheses, these are closed, and nothing is blank
pub record IsEntry (text : List ℕ) : Type 0 where
  pub uncut : is_uncut Commas 0 text ≡ true
  pub closed : after 0 text ≡ 0
  pub plain : is_plain text ≡ true
  pub some : 0 < length text

pub pieces_join : (e : List ℕ) (es : List (List ℕ)) → AllByRecursion IsEntry (e ∷ es) → pieces Commas 0 (join_with_byte 44 (e ∷ es)) ≡ e ∷ es
unfolding pieces
pieces_join e [] h =
    ap (pieces Commas 0) (sym (append-nil e)) ∙ pieces_uncut Commas 0 e [] h.0.uncut ∙ ap (λ x. x ∷ []) (append-nil e)
pieces_join e (f ∷ fs) h =
    let rest : pieces Commas 0 (join_with_byte 44 (f ∷ fs)) ≡ f ∷ fs = pieces_join f fs h.1 in
    pieces_uncut Commas 0 e (44 ∷ join_with_byte 44 (f ∷ fs)) h.0.uncut
    ∙ rw (h.0.closed, rest) (ap (λ x. x ∷ f ∷ fs) (append-nil e))

pub plain_join : (e : List ℕ) (es : List (List ℕ)) → AllByRecursion IsEntry (e ∷ es) → is_plain (join_with_byte 44 (e ∷ es)) ≡ true
plain_join e [] h = h.0.plain
plain_join e (f ∷ fs) h = list_all-append is_solid e _ ∙ rw (h.0.plain) (plain_join f fs h.1)

not_blank : (e rest : List ℕ) → is_plain e ≡ true → 0 < length e → list_all is_blank (e ++ rest) ≡ false
not_blank [] rest plain some = absurd (omega arith)
not_blank (b ∷ bs) rest plain some = let solid : is_blank b ≡ false = false_of_not _ (both_true _ _ plain).0 in rw solid refl

join_not_blank : (e : List ℕ) (es : List (List ℕ)) → AllByRecursion IsEntry (e ∷ es) → list_all is_blank (join_with_byte 44 (e ∷ es)) ≡ false
join_not_blank e [] h = ap (list_all is_blank) (sym (append-nil e)) ∙ not_blank e [] h.0.plain h.0.some
join_not_blank e (f ∷ fs) h = not_blank e _ h.0.plain h.0.some

-- entries that are written with commas between them are read again
pub items_join : (e : List ℕ) (es : List (List ℕ)) → AllByRecursion IsEntry (e ∷ es) → items (join_with_byte 44 (e ∷ es)) ≡ e ∷ es
unfolding items
items_join e es h = plain_cut Commas 0 _ (plain_join e es h) ∙ pieces_join e es h

pub entries_join : (es : List (List ℕ)) → AllByRecursion IsEntry es → entries (join_with_byte 44 es) ≡ es
unfolding entries
entries_join [] h = refl
entries_join (e ∷ es) h = rw (join_not_blank e es h) (items_join e es h)

-- a name without parentheses behind it
pub name_entry : (head : List ℕ) → is_flat head ≡ true → is_plain head ≡ true → 0 < length head → IsEntry head
name_entry head flat plain some =
    record { uncut = flat_uncut 0 head flat; closed = calm_after 0 head (flat_is_calm head flat); plain = plain; some = some }

pub name_form : (head : List ℕ) → is_flat head ≡ true → is_plain head ≡ true → form_of head ≡ Some (record { head = head; inside = [] })
unfolding form_of pieces
name_form head flat plain =
    let parted : pieces Parentheses 0 head ≡ head ∷ [] =
    ap (pieces Parentheses 0) (sym (append-nil head)) ∙ pieces_uncut Parentheses 0 head [] (calm_unparted 0 head (flat_is_calm head flat)) ∙ ap (λ x. x ∷ []) (append-nil head) in
    ap form_from (plain_cut Parentheses 0 head plain ∙ parted)

-- a name with parentheses behind it
abbrev pub grouped : List ℕ → List ℕ → List ℕ
grouped head inside = head ++ (40 ∷ (inside ++ (41 ∷ [])))

pub plain_grouped : (head inside : List ℕ) → is_plain head ≡ true → is_plain inside ≡ true → is_plain (grouped head inside) ≡ true
plain_grouped head inside plain inner =
    list_all-append is_solid head _ ∙ rw (plain, list_all-append is_solid inside (41 ∷ []), inner) refl

pub some_grouped : (head rest : List ℕ) (b : ℕ) → 0 < length (head ++ (b ∷ rest))
some_grouped [] rest b = omega arith
some_grouped (x ∷ xs) rest b = omega arith

pub group_entry : (head inside : List ℕ) → is_flat head ≡ true → is_plain head ≡ true → is_calm inside ≡ true → is_plain inside ≡ true → IsEntry (grouped head inside)
group_entry head inside flat plain calm inner =
    let level : after 0 head ≡ 0 = calm_after 0 head (flat_is_calm head flat) in
    let behind : after 1 inside ≡ 1 = calm_after 1 inside calm in
    let ending : is_uncut Commas 1 (inside ++ (41 ∷ [])) ≡ true = uncut_append Commas 1 inside (41 ∷ []) (calm_uncut 0 inside calm) (ap (λ d. is_uncut Commas d (41 ∷ [])) behind) in
    record {
      uncut = uncut_append Commas 0 head _ (flat_uncut 0 head flat) (rw (level, ending) refl);
      closed = after_append 0 head _ ∙ rw (level, after_append 1 inside (41 ∷ []), behind) refl;
      plain = plain_grouped head inside plain inner;
      some = some_grouped head _ 40;
    }

pub group_form : (head inside : List ℕ) → is_flat head ≡ true → is_plain head ≡ true → is_calm inside ≡ true → is_plain inside ≡ true
    → form_of (grouped head inside) ≡ Some (record { head = head; inside = inside ∷ [] })
unfolding form_of pieces
group_form head inside flat plain calm inner =
    let level : after 0 head ≡ 0 = calm_after 0 head (flat_is_calm head flat) in
    let behind : after 1 inside ≡ 1 = calm_after 1 inside calm in
    let second : pieces Parentheses 1 (inside ++ (41 ∷ [])) ≡ inside ∷ [] ∷ [] =
    pieces_uncut Parentheses 1 inside (41 ∷ []) (calm_unparted 1 inside calm) ∙ rw behind (ap (λ x. x ∷ [] ∷ []) (append-nil inside)) in
    let first : pieces Parentheses 0 (grouped head inside) ≡ head ∷ inside ∷ [] ∷ [] =
    pieces_uncut Parentheses 0 head _ (calm_unparted 0 head (flat_is_calm head flat)) ∙ rw (level, second) (ap (λ x. x ∷ inside ∷ [] ∷ []) (append-nil head)) in
    ap form_from (plain_cut Parentheses 0 (grouped head inside) (plain_grouped head inside plain inner) ∙ first)
