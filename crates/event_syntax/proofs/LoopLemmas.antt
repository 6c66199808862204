-- The loops of a walk.
use Rattle.std.proofs.Common.{◌≡◌, ℕ, zero, suc, ◌+◌, ◌-◌, ◌<◌, ◌≤◌, Bool, true, false, ◌&&◌, ◌==◌, List, [], ◌∷◌, ◌++◌, length, take, drop, get_or, drop-cons, take_all, Option, Some, None, refl, sym, ap, ◌∙◌, arith, append-nil, append_assoc, length-append, length-drop, add-one}
use Rattle.std.specs.Prelude.{nat_lt, codes, reverse, if◌then◌else◌}
use Rattle.std.specs.List.{list_all}
use Rattle.std.proofs.lemmas.Bool.Decides.{nat_tests}
use Rattle.std.proofs.lemmas.List.{drop_all, reverse-append}
use Rattle.std.proofs.lemmas.Grind.{reverse_onto}
use Rattle.std.proofs.Math.Seq.{take-suc}
use Rattle.mg_bytes.specs.Blanks.{trimmed}
use Rattle.mg_bytes.specs.Case.{same_but_case}
use Rattle.mg_bytes.specs.Lists.{is_empty}
use Rattle.packages.specs.Cuts.{deeper}
use Rattle.packages.specs.Spelling.{are_parameters}
use Rattle.event_syntax.specs.EventSpelling.{is_event}
use Rattle.event_syntax.specs.RequestSpelling.{is_embed}
use Rattle.event_syntax.specs.declared.walk.Seen.{Seen}
use Rattle.event_syntax.specs.declared.walk.Mark.{Mark}
use Rattle.event_syntax.specs.declared.walk.Mark.TheVariants.{End, Comma, Opening, Closing}
use Rattle.event_syntax.specs.declared.walk.Outer.{Outer}
use Rattle.event_syntax.specs.declared.walk.Stand.{Stand}
use Rattle.event_syntax.specs.declared.walk.Stand.TheVariants.{Entry, BehindActions, BehindParameters, Action, BehindEmbedded, Part, BehindPart}
use Rattle.event_syntax.specs.Walking.{with_byte, closing, is_free_byte, is_inner, goes_on, closes_value, is_left, marked, is_mark, nested_at, Stepped, wrong, ends, on, into, out, entry_stepped, behind_parameters, behind_actions_stepped, behind_parameters_stepped, is_plain_action, action_stepped, behind_embedded_stepped, behind_signals, behind_map, part_stepped, behind_part_stepped, stepped, is_outermost, is_left_by}
use Rattle.event_syntax.proofs.ClosingLemmas.{with_front, closes_at}
use Rattle.event_syntax.proofs.WalkLaws.{each_step}

-- The parenthesis that closes, place by place

front_more : (front : List ℕ) (b : ℕ) (found : Option (List ℕ × List ℕ)) → with_front front (with_byte b found) ≡ with_front (front ++ b ∷ []) found
front_more front b None = refl
front_more front b (Some sides) = ap (λ (x : List ℕ). Some (x, sides.1)) (sym (append_assoc front (b ∷ []) sides.0))

pub next_place : (text : List ℕ) (place depth : ℕ) (wanted : Option (List ℕ × List ℕ)) → place < length text
    → (get_or text place 0 == 41 && depth == 0) ≡ false → with_front (take place text) (closing depth (drop place text)) ≡ wanted
    → with_front (take (place + 1) text) (closing (deeper depth (get_or text place 0)) (drop (place + 1) text)) ≡ wanted
unfolding closing
next_place text place depth wanted inside apart so =
    let more : with_front (take place text) (closing depth (drop place text)) ≡ with_front (take (suc place) text) (closing (deeper depth (get_or text place 0)) (drop (suc place) text)) =
    rw (drop-cons text place 0, apart, take-suc text place 0) (front_more (take place text) (get_or text place 0) _) in
    rw add-one (sym more ∙ so)

pub closed_place : (text : List ℕ) (place depth : ℕ) (wanted : Option (List ℕ × List ℕ)) → place < length text
    → (get_or text place 0 == 41 && depth == 0) ≡ true → with_front (take place text) (closing depth (drop place text)) ≡ wanted
    → Some (take place text, take (length text - (place + 1)) (drop (place + 1) text)) ≡ wanted
unfolding closing
closed_place text place depth wanted inside here so =
    let found : with_front (take place text) (closing depth (drop place text)) ≡ Some (take place text, drop (suc place) text) =
    rw (drop-cons text place 0, here) (ap (λ (x : List ℕ). Some (x, drop (suc place) text)) (append-nil (take place text))) in
    let all : take (length text - (place + 1)) (drop (place + 1) text) ≡ drop (place + 1) text =
    take_all _ (drop (place + 1) text) (omega (arith, length-drop (place + 1) text)) in
    rw (all, add-one) (sym found ∙ so)

pub no_place : (text : List ℕ) (place depth : ℕ) (wanted : Option (List ℕ × List ℕ)) → length text ≤ place
    → with_front (take place text) (closing depth (drop place text)) ≡ wanted → None ≡ wanted
unfolding closing
no_place text place depth wanted past so =
    let none : with_front (take place text) (closing depth (drop place text)) ≡ None = rw (drop_all place text past) refl in sym none ∙ so

-- What is left is shorter behind each step

pub is_shorter : ℕ → Stepped → Bool
is_shorter n wrong = true
is_shorter n ends = true
is_shorter n (on stand rest) = nat_lt (length rest) n
is_shorter n (into seen rest) = nat_lt (length rest) n
is_shorter n (out rest) = nat_lt (length rest) n

short_if : (n : ℕ) (c : Bool) (s : Stepped) → is_shorter n s ≡ true → is_shorter n (if c then s else wrong) ≡ true
unfolding is_shorter
short_if n true s short = short
short_if n false s short = refl

short_else : (n : ℕ) (c : Bool) (s : Stepped) → is_shorter n s ≡ true → is_shorter n (if c then wrong else s) ≡ true
unfolding is_shorter
short_else n true s short = refl
short_else n false s short = short

short_either : (n : ℕ) (c : Bool) (s t : Stepped) → is_shorter n s ≡ true → is_shorter n t ≡ true → is_shorter n (if c then s else t) ≡ true
short_either n true s t short other = short
short_either n false s t short other = other

by_one : (n : ℕ) → nat_lt n (suc n) ≡ true
by_one n = grind (arith, nat_tests)

behind_short : (rest x y : List ℕ) → closing 0 rest ≡ Some (x, y) → nat_lt (length y) (suc (length rest)) ≡ true
behind_short rest x y found =
    let whole : rest ≡ x ++ 41 ∷ y = (closes_at rest 0 x y found).whole in
    let count : length rest ≡ length x + suc (length y) = ap length whole ∙ length-append x (41 ∷ y) in
    short (length rest) (length x) (length y) count
  where
    short : (n a b : ℕ) → n ≡ a + suc b → nat_lt b (suc n) ≡ true
    short n a b count = grind (arith, nat_tests)

parameters_short : (rest : List ℕ) (found : Option (List ℕ × List ℕ)) → closing 0 rest ≡ found → is_shorter (suc (length rest)) (behind_parameters found) ≡ true
unfolding is_shorter
parameters_short rest None is = refl
parameters_short rest (Some sides) is =
    short_if (suc (length rest)) (are_parameters (trimmed sides.0)) (on BehindParameters sides.1) (behind_short rest sides.0 sides.1 is)

signals_short : (seen : Seen) (rest : List ℕ) (found : Option (List ℕ × List ℕ)) → closing 0 rest ≡ found → is_shorter (suc (length rest)) (behind_signals seen found) ≡ true
unfolding is_shorter
signals_short seen rest None is = refl
signals_short seen rest (Some sides) is =
    short_if (suc (length rest)) _ (on (BehindPart (record seen { signals = true })) sides.1) (behind_short rest sides.0 sides.1 is)

map_short : (seen : Seen) (rest : List ℕ) (found : Option (List ℕ × List ℕ)) → closing 0 rest ≡ found → is_shorter (suc (length rest)) (behind_map seen found) ≡ true
unfolding is_shorter
map_short seen rest None is = refl
map_short seen rest (Some sides) is =
    short_if (suc (length rest)) _ (on (BehindPart (record seen { map = true })) sides.1) (behind_short rest sides.0 sides.1 is)

entry_short : (mark : Mark) (rest : List ℕ) → is_shorter (length (marked mark rest)) (entry_stepped mark rest) ≡ true
unfolding is_shorter
entry_short End rest = refl
entry_short Comma rest = by_one (length rest)
entry_short Opening rest = by_one (length rest)
entry_short Closing rest = by_one (length rest)

actions_short : (mark : Mark) (rest : List ℕ) → is_shorter (length (marked mark rest)) (behind_actions_stepped mark rest) ≡ true
unfolding is_shorter
actions_short End rest = refl
actions_short Comma rest = by_one (length rest)
actions_short Opening rest = parameters_short rest (closing 0 rest) refl
actions_short Closing rest = by_one (length rest)

behind_parameters_short : (mark : Mark) (rest : List ℕ) → is_shorter (length (marked mark rest)) (behind_parameters_stepped mark rest) ≡ true
unfolding is_shorter
behind_parameters_short End rest = refl
behind_parameters_short Comma rest = by_one (length rest)
behind_parameters_short Opening rest = refl
behind_parameters_short Closing rest = by_one (length rest)

action_short : (name : List ℕ) (mark : Mark) (rest : List ℕ) → is_shorter (length (marked mark rest)) (action_stepped name mark rest) ≡ true
unfolding is_shorter
action_short name End rest = refl
action_short name Comma rest = short_if _ (is_plain_action name) (on Action rest) (by_one (length rest))
action_short name Opening rest = short_if _ (is_embed name) (on (Part _) rest) (by_one (length rest))
action_short name Closing rest = short_if _ (is_plain_action name) (on BehindActions rest) (by_one (length rest))

embedded_short : (mark : Mark) (rest : List ℕ) → is_shorter (length (marked mark rest)) (behind_embedded_stepped mark rest) ≡ true
unfolding is_shorter
embedded_short End rest = refl
embedded_short Comma rest = by_one (length rest)
embedded_short Opening rest = refl
embedded_short Closing rest = by_one (length rest)

part_short : (seen : Seen) (name : List ℕ) (mark : Mark) (rest : List ℕ) → is_shorter (length (marked mark rest)) (part_stepped seen name mark rest) ≡ true
unfolding is_shorter
part_short seen name End rest = refl
part_short seen name Comma rest = refl
part_short seen name Opening rest =
    short_either _ (same_but_case name (codes "R")) _ _
    (short_else _ (seen.events) (into (record seen { events = true }) rest) (by_one (length rest)))
    (short_either _ (same_but_case name (codes "S")) _ _
    (short_else _ (seen.signals) (behind_signals seen (closing 0 rest)) (signals_short seen rest (closing 0 rest) refl))
    (short_if _ (same_but_case name (codes "D")) _ (short_else _ (seen.map) (behind_map seen (closing 0 rest)) (map_short seen rest (closing 0 rest) refl))))
part_short seen name Closing rest = refl

behind_part_short : (seen : Seen) (mark : Mark) (rest : List ℕ) → is_shorter (length (marked mark rest)) (behind_part_stepped seen mark rest) ≡ true
unfolding is_shorter
behind_part_short seen End rest = refl
behind_part_short seen Comma rest = by_one (length rest)
behind_part_short seen Opening rest = refl
behind_part_short seen Closing rest = by_one (length rest)

each_short : (stand : Stand) (name : List ℕ) (mark : Mark) (rest : List ℕ) → is_shorter (length (marked mark rest)) (stepped stand name mark rest) ≡ true
unfolding stepped
each_short Entry name mark rest = short_if _ (is_event name) _ (entry_short mark rest)
each_short BehindActions name mark rest = short_if _ (is_empty name) _ (actions_short mark rest)
each_short BehindParameters name mark rest = short_if _ (is_empty name) _ (behind_parameters_short mark rest)
each_short Action name mark rest = action_short name mark rest
each_short BehindEmbedded name mark rest = short_if _ (is_empty name) _ (embedded_short mark rest)
each_short (Part seen) name mark rest = part_short seen name mark rest
each_short (BehindPart seen) name mark rest = short_if _ (is_empty name) _ (behind_part_short seen mark rest)

-- One turn of the walk

nested_is : (stand : Stand) (d : ℕ) (outers : List Outer) → is_inner (goes_on stand d outers) ≡ nested_at stand (is_outermost outers)
unfolding closes_value
nested_is Entry d [] = refl
nested_is Entry d (outer ∷ outers) = refl
nested_is BehindActions d [] = refl
nested_is BehindActions d (outer ∷ outers) = refl
nested_is BehindParameters d [] = refl
nested_is BehindParameters d (outer ∷ outers) = refl
nested_is Action d outers = refl
nested_is BehindEmbedded d outers = refl
nested_is (Part seen) d outers = refl
nested_is (BehindPart seen) d outers = refl

pub record Turns (d : ℕ) (outers : List Outer) (text : List ℕ) (wanted : Bool) (step : Stepped) : Type 0 where
  pub left : is_left_by d outers step ≡ wanted
  pub short : is_shorter (length text) step ≡ true

shorter_more : (n m : ℕ) (step : Stepped) → n ≤ m → is_shorter n step ≡ true → is_shorter m step ≡ true
unfolding is_shorter
shorter_more n m wrong more short = refl
shorter_more n m ends more short = refl
shorter_more n m (on stand rest) more short = grind (arith, nat_tests)
shorter_more n m (into seen rest) more short = grind (arith, nat_tests)
shorter_more n m (out rest) more short = grind (arith, nat_tests)

pub turns : (stand : Stand) (d : ℕ) (outers : List Outer) (text name rest : List ℕ) (mark : Mark) (nested : Bool) (wanted : Bool)
    → is_left stand d outers text ≡ wanted → nested ≡ nested_at stand (is_outermost outers) → text ≡ name ++ marked mark rest
    → list_all (is_free_byte nested) name ≡ true → is_mark nested mark ≡ true
    → Turns d outers text wanted (stepped stand (trimmed name) mark rest)
turns stand d outers text name rest mark nested wanted so inner whole free fits =
    let same : nested ≡ is_inner (goes_on stand d outers) = inner ∙ sym (nested_is stand d outers) in
    let free_too : list_all (is_free_byte (is_inner (goes_on stand d outers))) name ≡ true = ap (λ n. list_all (is_free_byte n) name) (sym same) ∙ free in
    let fits_too : is_mark (is_inner (goes_on stand d outers)) mark ≡ true = ap (λ n. is_mark n mark) (sym same) ∙ fits in
    record {
      left = sym (each_step stand d outers name mark rest free_too fits_too) ∙ ap (is_left stand d outers) (sym whole) ∙ so;
      short = shorter_more (length (marked mark rest)) (length text) _ (omega (arith, ap length whole, length-append name (marked mark rest))) (each_short stand (trimmed name) mark rest);
    }

not_none : (n : ℕ) → false ≡ (suc n == 0)
not_none n = grind (arith, nat_tests)

some_last : (outers : List Outer) (outer : Outer) (n : ℕ) → is_outermost (outers ++ outer ∷ []) ≡ (suc n == 0)
some_last [] outer n = not_none n
some_last (first ∷ outers) outer n = not_none n

pub outermost_is : (items : List Outer) → is_outermost (reverse items) ≡ (length items == 0)
outermost_is [] = refl
outermost_is (outer ∷ outers) = ap is_outermost (reverse_onto outers outer []) ∙ some_last (reverse outers) outer (length outers)

pub turns_at : (stand : Stand) (d : ℕ) (items : List Outer) (text name rest : List ℕ) (mark : Mark) (empty nested wanted : Bool) (trim : List ℕ) (step : Stepped)
    → is_left stand d (reverse items) text ≡ wanted → empty ≡ (length items == 0) → nested ≡ nested_at stand empty → text ≡ name ++ marked mark rest
    → list_all (is_free_byte nested) name ≡ true → is_mark nested mark ≡ true → trim ≡ trimmed name → step ≡ stepped stand trim mark rest
    → Turns d (reverse items) text wanted step
turns_at stand d items text name rest mark empty nested wanted trim step so none inner whole free fits is_trim is_step =
    let inner_too : nested ≡ nested_at stand (is_outermost (reverse items)) = inner ∙ ap (nested_at stand) (none ∙ sym (outermost_is items)) in
    let step_is : step ≡ stepped stand (trimmed name) mark rest = is_step ∙ ap (λ t. stepped stand t mark rest) is_trim in
    rw step_is (turns stand d (reverse items) text name rest mark nested wanted so inner_too whole free fits)

lt_of : (a b : ℕ) → nat_lt a b ≡ true → a < b
lt_of a b short = grind (arith, nat_tests)

pub on_short : (d : ℕ) (outers : List Outer) (text : List ℕ) (wanted : Bool) (stand : Stand) (rest : List ℕ) → Turns d outers text wanted (on stand rest) → length rest < length text
unfolding is_shorter
on_short d outers text wanted stand rest turn = lt_of (length rest) (length text) (turn.short)

pub into_short : (d : ℕ) (outers : List Outer) (text : List ℕ) (wanted : Bool) (seen : Seen) (rest : List ℕ) → Turns d outers text wanted (into seen rest) → length rest < length text
unfolding is_shorter
into_short d outers text wanted seen rest turn = lt_of (length rest) (length text) (turn.short)

pub out_short : (d : ℕ) (outers : List Outer) (text : List ℕ) (wanted : Bool) (rest : List ℕ) → Turns d outers text wanted (out rest) → length rest < length text
unfolding is_shorter
out_short d outers text wanted rest turn = lt_of (length rest) (length text) (turn.short)

pub into_none : (d : ℕ) (outers : List Outer) (text : List ℕ) (wanted : Bool) (seen : Seen) (rest : List ℕ) → d ≡ 0 → Turns d outers text wanted (into seen rest) → false ≡ wanted
into_none zero outers text wanted seen rest none turn = turn.left
into_none (suc d) outers text wanted seen rest none turn = absurd (omega arith)

pub into_more : (d : ℕ) (items : List Outer) (text : List ℕ) (wanted : Bool) (seen : Seen) (rest : List ℕ) (more : List Outer) → 0 < d
    → more ≡ items ++ (record { seen = seen; depth = d }) ∷ [] → Turns d (reverse items) text wanted (into seen rest)
    → is_left Entry (d - 1) (reverse more) rest ≡ wanted
into_more zero items text wanted seen rest more some is turn = absurd (omega arith)
into_more (suc d) items text wanted seen rest more some is turn =
    let back : reverse (items ++ (record { seen = seen; depth = suc d }) ∷ []) ≡ record { seen = seen; depth = suc d } ∷ reverse items =
    reverse-append items ((record { seen = seen; depth = suc d }) ∷ []) in
    let one : suc d - 1 ≡ d = omega arith in
    rw (is, back, one) (turn.left)

pub out_none : (d : ℕ) (items : List Outer) (text : List ℕ) (wanted : Bool) (rest : List ℕ) → length items ≡ 0 → Turns d (reverse items) text wanted (out rest) → false ≡ wanted
out_none d [] text wanted rest none turn = turn.left
out_none d (outer ∷ outers) text wanted rest none turn = absurd (omega arith)

pub out_more : (d : ℕ) (items : List Outer) (text : List ℕ) (wanted : Bool) (rest : List ℕ) (outer : Outer) (more : List Outer) → items ≡ more ++ outer ∷ []
    → Turns d (reverse items) text wanted (out rest) → is_left (BehindPart outer.seen) outer.depth (reverse more) rest ≡ wanted
out_more d items text wanted rest outer more is turn =
    let back : reverse items ≡ outer ∷ reverse more = ap reverse is ∙ reverse-append more (outer ∷ []) in
    let turned : Turns d (outer ∷ reverse more) text wanted (out rest) = rw back at turn in turned.left
