-- Each step of a walk leaves what is left.
use Rattle.std.proofs.Common.{◌≡◌, ℕ, suc, zero, Bool, true, false, ◌&&◌, List, [], ◌∷◌, ◌++◌, length, Option, Some, None, refl, sym, ap, ◌∙◌, map, ⊎_elim, append-nil}
use Rattle.std.specs.Prelude.{not, nat_le, codes, if◌then◌else◌}
use Rattle.std.specs.List.{list_all}
use Rattle.std.proofs.lemmas.Bool.{cases_Bool}
use Rattle.mg_bytes.specs.Blanks.{is_blank, trimmed}
use Rattle.mg_bytes.specs.Case.{same_but_case}
use Rattle.mg_bytes.specs.Lists.{is_empty}
use Rattle.packages.specs.Cuts.{items, entries}
use Rattle.packages.specs.Spelling.{is_word, are_parameters}
use Rattle.packages.specs.SignalSpelling.{are_signals}
use Rattle.event_syntax.specs.EventSpelling.{is_event}
use Rattle.event_syntax.specs.RequestSpelling.{is_embed, is_action, is_requested, are_requested_within, are_requested}
use Rattle.event_syntax.specs.declared.walk.Seen.{Seen}
use Rattle.event_syntax.specs.declared.walk.Mark.{Mark}
use Rattle.event_syntax.specs.declared.walk.Mark.TheVariants.{End, Comma, Opening, Closing}
use Rattle.event_syntax.specs.declared.walk.Outer.{Outer}
use Rattle.event_syntax.specs.declared.walk.Stand.{Stand}
use Rattle.event_syntax.specs.declared.walk.Stand.TheVariants.{Entry, BehindActions, BehindParameters, Action, BehindEmbedded, Part, BehindPart}
use Rattle.event_syntax.specs.Walking.{closing, inside_is, by_closing, left, is_free_byte, is_inner, is_bare, parted, are_parts_after, nothing_seen, spelled_at, closes_actions, closes_embedded, closes_value, goes_on, is_left, marked, Stepped, wrong, ends, on, into, out, behind_parameters, behind_signals, behind_map, part_opened, stepped, is_left_into, is_left_out, is_outermost, is_left_by, is_mark}
use Rattle.event_syntax.proofs.ClosingLemmas.{is_quiet}
use Rattle.event_syntax.proofs.MarkLemmas.{Opens, up_to, quiet_of, left_comma, left_close, left_end, left_unclosed, left_open}
use Rattle.event_syntax.proofs.StandLemmas.{and_true, and_false, all_inside, entry_name, entry_opens, action_name, action_opens, actions_name, parameters_open, bare_name, bare_opens}
use Rattle.event_syntax.proofs.PartLemmas.{part_name, events_open, events_too_deep, signals_open, map_opens, events_never, signals_never, map_never, others_never}

if_and : (c : Bool) (d : ℕ) (outers : List Outer) (s : Stepped) → (c && is_left_by d outers s) ≡ is_left_by d outers (if c then s else wrong)
if_and true d outers s = refl
if_and false d outers s = refl

up_by : (h : List ℕ → List (List ℕ) → Bool) (on_ : List ℕ → Bool) (found : Option (List ℕ × List ℕ)) → up_to (inside_is h) on_ found ≡ by_closing h on_ found
up_by h on_ None = refl
up_by h on_ (Some sides) = refl

up_never : (on_ : List ℕ → Bool) (found : Option (List ℕ × List ℕ)) → up_to (λ x. false) on_ found ≡ false
up_never on_ None = refl
up_never on_ (Some sides) = refl

abbrev is_free : Option (List ℕ → Bool) → List ℕ → Type 0
is_free outside name = list_all (is_free_byte (is_inner outside)) name ≡ true

level_end : (h : List ℕ → List (List ℕ) → Bool) (c : Bool) (outers : List Outer) (name : List ℕ) → is_free (closes_value outers) name → h name [] ≡ c
    → left h (closes_value outers) (name ++ []) ≡ (c && is_outermost outers)
unfolding closes_value
level_end h c [] name free is = ap (left h None) (append-nil name) ∙ left_end h name free ∙ is ∙ sym (and_true c)
level_end h c (outer ∷ outers) name free is =
    ap (left h (closes_value (outer ∷ outers))) (append-nil name) ∙ left_unclosed h _ name free ∙ sym (and_false c)

level_close : (h : List ℕ → List (List ℕ) → Bool) (c : Bool) (outers : List Outer) (name rest : List ℕ) → is_free (closes_value outers) name
    → is_inner (closes_value outers) ≡ true → h name [] ≡ c → left h (closes_value outers) (name ++ 41 ∷ rest) ≡ (c && is_left_out outers rest)
unfolding closes_value is_left
level_close h c [] name rest free inner is = absurd cc
level_close h c (outer ∷ outers) name rest free inner is =
    left_close h _ name rest free ∙ ap (λ b. b && is_left_out (outer ∷ outers) rest) is

inner_free : (outside : Option (List ℕ → Bool)) (name : List ℕ) → is_free outside name → is_quiet name ≡ true
inner_free outside name free = quiet_of (is_inner outside) name free

entry_step : (d : ℕ) (outers : List Outer) (name : List ℕ) (mark : Mark) (rest : List ℕ) → is_free (closes_value outers) name
    → is_mark (is_inner (closes_value outers)) mark ≡ true
    → is_left Entry d outers (name ++ marked mark rest) ≡ is_left_by d outers (stepped Entry (trimmed name) mark rest)
unfolding is_left stepped
entry_step d outers name End rest free fits =
    level_end (spelled_at Entry d) (is_event (trimmed name)) outers name free (entry_name d name [] (inner_free _ name free) ∙ and_true _)
    ∙ if_and (is_event (trimmed name)) d outers ends
entry_step d outers name Comma rest free fits =
    left_comma (spelled_at Entry d) (spelled_at Entry d) (is_event (trimmed name)) (closes_value outers) name rest free
    (λ q qs. entry_name d name (q ∷ qs) (inner_free _ name free))
    ∙ if_and (is_event (trimmed name)) d outers (on Entry rest)
entry_step d outers name Opening rest free fits =
    left_open (spelled_at Entry d) (spelled_at BehindActions d) (is_event (trimmed name)) (inside_is (spelled_at Action d)) (closes_value outers) name rest free
    (entry_opens d name (inner_free _ name free))
    ∙ ap (λ b. is_event (trimmed name) && b) (up_by (spelled_at Action d) (left (spelled_at BehindActions d) (closes_value outers)) (closing 0 rest))
    ∙ if_and (is_event (trimmed name)) d outers (on Action rest)
entry_step d outers name Closing rest free fits =
    level_close (spelled_at Entry d) (is_event (trimmed name)) outers name rest free fits (entry_name d name [] (inner_free _ name free) ∙ and_true _)
    ∙ if_and (is_event (trimmed name)) d outers (out rest)

by_parameters : (d : ℕ) (outers : List Outer) (found : Option (List ℕ × List ℕ))
    → up_to (λ x. are_parameters (trimmed x)) (left (spelled_at BehindParameters d) (closes_value outers)) found ≡ is_left_by d outers (behind_parameters found)
unfolding is_left
by_parameters d outers None = refl
by_parameters d outers (Some sides) = if_and (are_parameters (trimmed sides.0)) d outers (on BehindParameters sides.1)

actions_step : (d : ℕ) (outers : List Outer) (name : List ℕ) (mark : Mark) (rest : List ℕ) → is_free (closes_value outers) name
    → is_mark (is_inner (closes_value outers)) mark ≡ true
    → is_left BehindActions d outers (name ++ marked mark rest) ≡ is_left_by d outers (stepped BehindActions (trimmed name) mark rest)
unfolding is_left stepped
actions_step d outers name End rest free fits =
    level_end (spelled_at BehindActions d) (is_empty (trimmed name)) outers name free (actions_name d name [] (inner_free _ name free) ∙ and_true _)
    ∙ if_and (is_empty (trimmed name)) d outers ends
actions_step d outers name Comma rest free fits =
    left_comma (spelled_at BehindActions d) (spelled_at Entry d) (is_empty (trimmed name)) (closes_value outers) name rest free
    (λ q qs. actions_name d name (q ∷ qs) (inner_free _ name free))
    ∙ if_and (is_empty (trimmed name)) d outers (on Entry rest)
actions_step d outers name Opening rest free fits =
    left_open (spelled_at BehindActions d) (spelled_at BehindParameters d) (is_empty (trimmed name)) (λ x. are_parameters (trimmed x)) (closes_value outers) name rest free
    (parameters_open d name (inner_free _ name free))
    ∙ ap (λ b. is_empty (trimmed name) && b) (by_parameters d outers (closing 0 rest))
    ∙ if_and (is_empty (trimmed name)) d outers (behind_parameters (closing 0 rest))
actions_step d outers name Closing rest free fits =
    level_close (spelled_at BehindActions d) (is_empty (trimmed name)) outers name rest free fits (actions_name d name [] (inner_free _ name free) ∙ and_true _)
    ∙ if_and (is_empty (trimmed name)) d outers (out rest)

bare_is : (is : List (List ℕ) → Bool) (name : List ℕ) (rest : List (List ℕ)) → is_quiet name ≡ true → (is_bare (parted name) && is rest) ≡ (is_empty (trimmed name) && is rest)
bare_is is name rest quiet = rw (bare_name name quiet) refl

parameters_step : (d : ℕ) (outers : List Outer) (name : List ℕ) (mark : Mark) (rest : List ℕ) → is_free (closes_value outers) name
    → is_mark (is_inner (closes_value outers)) mark ≡ true
    → is_left BehindParameters d outers (name ++ marked mark rest) ≡ is_left_by d outers (stepped BehindParameters (trimmed name) mark rest)
unfolding is_left stepped
parameters_step d outers name End rest free fits =
    level_end (spelled_at BehindParameters d) (is_empty (trimmed name)) outers name free
    (bare_is (λ ps. list_all (is_requested (are_requested_within d)) (map trimmed ps)) name [] (inner_free _ name free) ∙ and_true _)
    ∙ if_and (is_empty (trimmed name)) d outers ends
parameters_step d outers name Comma rest free fits =
    left_comma (spelled_at BehindParameters d) (spelled_at Entry d) (is_empty (trimmed name)) (closes_value outers) name rest free
    (λ q qs. bare_is (λ ps. list_all (is_requested (are_requested_within d)) (map trimmed ps)) name (q ∷ qs) (inner_free _ name free))
    ∙ if_and (is_empty (trimmed name)) d outers (on Entry rest)
parameters_step d outers name Opening rest free fits =
    left_open (spelled_at BehindParameters d) (λ piece more. false) false (λ x. false) (closes_value outers) name rest free
    (bare_opens (λ ps. list_all (is_requested (are_requested_within d)) (map trimmed ps)) name (inner_free _ name free))
    ∙ sym (and_false (is_empty (trimmed name))) ∙ if_and (is_empty (trimmed name)) d outers wrong
parameters_step d outers name Closing rest free fits =
    level_close (spelled_at BehindParameters d) (is_empty (trimmed name)) outers name rest free fits
    (bare_is (λ ps. list_all (is_requested (are_requested_within d)) (map trimmed ps)) name [] (inner_free _ name free) ∙ and_true _)
    ∙ if_and (is_empty (trimmed name)) d outers (out rest)

inner_end : (h : List ℕ → List (List ℕ) → Bool) (next : List ℕ → Bool) (name : List ℕ) → is_free (Some next) name → left h (Some next) (name ++ []) ≡ false
inner_end h next name free = ap (left h (Some next)) (append-nil name) ∙ left_unclosed h next name free

inner_close : (h : List ℕ → List (List ℕ) → Bool) (c : Bool) (next : List ℕ → Bool) (name rest : List ℕ) → is_free (Some next) name → h name [] ≡ c
    → left h (Some next) (name ++ 41 ∷ rest) ≡ (c && next rest)
inner_close h c next name rest free is = left_close h next name rest free ∙ ap (λ b. b && next rest) is

action_step : (d : ℕ) (outers : List Outer) (name : List ℕ) (mark : Mark) (rest : List ℕ) → list_all (is_free_byte true) name ≡ true
    → is_left Action d outers (name ++ marked mark rest) ≡ is_left_by d outers (stepped Action (trimmed name) mark rest)
unfolding is_left stepped
action_step d outers name End rest free = inner_end (spelled_at Action d) (closes_actions d (closes_value outers)) name free
action_step d outers name Comma rest free =
    left_comma (spelled_at Action d) (spelled_at Action d) (is_word (trimmed name) && not (is_embed (trimmed name))) (Some (closes_actions d (closes_value outers))) name rest free
    (λ q qs. action_name d name (q ∷ qs) (quiet_of true name free))
    ∙ if_and (is_word (trimmed name) && not (is_embed (trimmed name))) d outers (on Action rest)
action_step d outers name Opening rest free =
    left_open (spelled_at Action d) (spelled_at BehindEmbedded d) (is_embed (trimmed name)) (inside_is (spelled_at (Part nothing_seen) d)) (Some (closes_actions d (closes_value outers))) name rest free
    (action_opens d name (quiet_of true name free))
    ∙ ap (λ b. is_embed (trimmed name) && b) (up_by (spelled_at (Part nothing_seen) d) (closes_embedded d (closes_value outers)) (closing 0 rest))
    ∙ if_and (is_embed (trimmed name)) d outers (on (Part nothing_seen) rest)
action_step d outers name Closing rest free =
    inner_close (spelled_at Action d) (is_word (trimmed name) && not (is_embed (trimmed name))) (closes_actions d (closes_value outers)) name rest free
    (action_name d name [] (quiet_of true name free) ∙ and_true _)
    ∙ if_and (is_word (trimmed name) && not (is_embed (trimmed name))) d outers (on BehindActions rest)

embedded_step : (d : ℕ) (outers : List Outer) (name : List ℕ) (mark : Mark) (rest : List ℕ) → list_all (is_free_byte true) name ≡ true
    → is_left BehindEmbedded d outers (name ++ marked mark rest) ≡ is_left_by d outers (stepped BehindEmbedded (trimmed name) mark rest)
unfolding is_left stepped
embedded_step d outers name End rest free =
    inner_end (spelled_at BehindEmbedded d) (closes_actions d (closes_value outers)) name free
    ∙ sym (and_false (is_empty (trimmed name))) ∙ if_and (is_empty (trimmed name)) d outers wrong
embedded_step d outers name Comma rest free =
    left_comma (spelled_at BehindEmbedded d) (spelled_at Action d) (is_empty (trimmed name)) (Some (closes_actions d (closes_value outers))) name rest free
    (λ q qs. bare_is (λ ps. list_all (is_action (are_requested_within d)) (map trimmed ps)) name (q ∷ qs) (quiet_of true name free))
    ∙ if_and (is_empty (trimmed name)) d outers (on Action rest)
embedded_step d outers name Opening rest free =
    left_open (spelled_at BehindEmbedded d) (λ piece more. false) false (λ x. false) (Some (closes_actions d (closes_value outers))) name rest free
    (bare_opens (λ ps. list_all (is_action (are_requested_within d)) (map trimmed ps)) name (quiet_of true name free))
    ∙ sym (and_false (is_empty (trimmed name))) ∙ if_and (is_empty (trimmed name)) d outers wrong
embedded_step d outers name Closing rest free =
    inner_close (spelled_at BehindEmbedded d) (is_empty (trimmed name)) (closes_actions d (closes_value outers)) name rest free
    (bare_is (λ ps. list_all (is_action (are_requested_within d)) (map trimmed ps)) name [] (quiet_of true name free) ∙ and_true _)
    ∙ if_and (is_empty (trimmed name)) d outers (on BehindActions rest)

none_left : (v : List ℕ → Bool) (seen : Seen) → are_parts_after v seen [] ≡ true
none_left v seen = by_flags seen.events seen.signals seen.map
  where
    by_flags : (r s d : Bool) → (((true && nat_le 0 (if r then 0 else 1)) && nat_le 0 (if s then 0 else 1)) && nat_le 0 (if d then 0 else 1)) ≡ true
    by_flags true true true = refl
    by_flags true true false = refl
    by_flags true false true = refl
    by_flags true false false = refl
    by_flags false true true = refl
    by_flags false true false = refl
    by_flags false false true = refl
    by_flags false false false = refl

behind_part_step : (seen : Seen) (d : ℕ) (outers : List Outer) (name : List ℕ) (mark : Mark) (rest : List ℕ) → list_all (is_free_byte true) name ≡ true
    → is_left (BehindPart seen) d outers (name ++ marked mark rest) ≡ is_left_by d outers (stepped (BehindPart seen) (trimmed name) mark rest)
unfolding is_left stepped
behind_part_step seen d outers name End rest free =
    inner_end (spelled_at (BehindPart seen) d) (closes_embedded d (closes_value outers)) name free
    ∙ sym (and_false (is_empty (trimmed name))) ∙ if_and (is_empty (trimmed name)) d outers wrong
behind_part_step seen d outers name Comma rest free =
    left_comma (spelled_at (BehindPart seen) d) (spelled_at (Part seen) d) (is_empty (trimmed name)) (Some (closes_embedded d (closes_value outers))) name rest free
    (λ q qs. bare_is (λ ps. are_parts_after (are_requested_within d) seen (map trimmed ps)) name (q ∷ qs) (quiet_of true name free))
    ∙ if_and (is_empty (trimmed name)) d outers (on (Part seen) rest)
behind_part_step seen d outers name Opening rest free =
    left_open (spelled_at (BehindPart seen) d) (λ piece more. false) false (λ x. false) (Some (closes_embedded d (closes_value outers))) name rest free
    (bare_opens (λ ps. are_parts_after (are_requested_within d) seen (map trimmed ps)) name (quiet_of true name free))
    ∙ sym (and_false (is_empty (trimmed name))) ∙ if_and (is_empty (trimmed name)) d outers wrong
behind_part_step seen d outers name Closing rest free =
    inner_close (spelled_at (BehindPart seen) d) (is_empty (trimmed name) && are_parts_after (are_requested_within d) seen []) (closes_embedded d (closes_value outers)) name rest free
    (bare_is (λ ps. are_parts_after (are_requested_within d) seen (map trimmed ps)) name [] (quiet_of true name free))
    ∙ ap (λ b. (is_empty (trimmed name) && b) && closes_embedded d (closes_value outers) rest) (none_left (are_requested_within d) seen)
    ∙ ap (λ b. b && closes_embedded d (closes_value outers) rest) (and_true (is_empty (trimmed name)))
    ∙ if_and (is_empty (trimmed name)) d outers (on BehindEmbedded rest)

-- A part with parentheses

abbrev behind : Seen → ℕ → List Outer → List ℕ → Bool
behind seen d outers = left (spelled_at (BehindPart seen) d) (Some (closes_embedded d (closes_value outers)))

abbrev part_left : Seen → ℕ → List Outer → List ℕ → Bool
part_left seen d outers = left (spelled_at (Part seen) d) (Some (closes_embedded d (closes_value outers)))

never : (seen : Seen) (d : ℕ) (outers : List Outer) (name rest : List ℕ) → list_all (is_free_byte true) name ≡ true
    → Opens (spelled_at (Part seen) d) (λ piece more. false) false (λ x. false) name → part_left seen d outers (name ++ 40 ∷ rest) ≡ false
never seen d outers name rest free opens =
    left_open (spelled_at (Part seen) d) (λ piece more. false) false (λ x. false) (Some (closes_embedded d (closes_value outers))) name rest free opens

never_called : (seen : Seen) (d : ℕ) (outers : List Outer) (name rest : List ℕ) → list_all (is_free_byte true) name ≡ true
    → Opens (spelled_at (Part seen) d) (spelled_at (BehindPart seen) d) false (λ x. false) name → part_left seen d outers (name ++ 40 ∷ rest) ≡ false
never_called seen d outers name rest free opens =
    left_open (spelled_at (Part seen) d) (spelled_at (BehindPart seen) d) false (λ x. false) (Some (closes_embedded d (closes_value outers))) name rest free opens

events_opening : (seen : Seen) (d : ℕ) (outers : List Outer) (name rest : List ℕ) → list_all (is_free_byte true) name ≡ true
    → same_but_case (trimmed name) (codes "R") ≡ true → seen.events ≡ false
    → part_left seen d outers (name ++ 40 ∷ rest) ≡ is_left_into (record seen { events = true }) d outers rest
unfolding is_left closes_value
events_opening seen zero outers name rest free letter fresh =
    left_open (spelled_at (Part seen) 0) (spelled_at (BehindPart (record seen { events = true })) 0) true (λ x. false)
    (Some (closes_embedded 0 (closes_value outers))) name rest free (events_too_deep seen name (quiet_of true name free) letter fresh)
    ∙ up_never (behind (record seen { events = true }) 0 outers) (closing 0 rest)
events_opening seen (suc d) outers name rest free letter fresh =
    left_open (spelled_at (Part seen) (suc d)) (spelled_at (BehindPart (record seen { events = true })) (suc d)) true (inside_is (spelled_at Entry d))
    (Some (closes_embedded (suc d) (closes_value outers))) name rest free (events_open d seen name (quiet_of true name free) letter fresh)
    ∙ up_by (spelled_at Entry d) (behind (record seen { events = true }) (suc d) outers) (closing 0 rest)

signals_up : (seen : Seen) (d : ℕ) (outers : List Outer) (found : Option (List ℕ × List ℕ))
    → up_to (λ x. nat_le 1 (length (trimmed x)) && are_signals (trimmed x)) (behind (record seen { signals = true }) d outers) found
    ≡ is_left_by d outers (behind_signals seen found)
unfolding is_left
signals_up seen d outers None = refl
signals_up seen d outers (Some sides) =
    if_and (nat_le 1 (length (trimmed sides.0)) && are_signals (trimmed sides.0)) d outers (on (BehindPart (record seen { signals = true })) sides.1)

map_up : (seen : Seen) (d : ℕ) (outers : List Outer) (found : Option (List ℕ × List ℕ))
    → up_to (λ x. nat_le 1 (length (trimmed x))) (behind (record seen { map = true }) d outers) found ≡ is_left_by d outers (behind_map seen found)
unfolding is_left
map_up seen d outers None = refl
map_up seen d outers (Some sides) = if_and (nat_le 1 (length (trimmed sides.0))) d outers (on (BehindPart (record seen { map = true })) sides.1)

part_opening : (seen : Seen) (d : ℕ) (outers : List Outer) (name rest : List ℕ) → list_all (is_free_byte true) name ≡ true
    → part_left seen d outers (name ++ 40 ∷ rest) ≡ is_left_by d outers (part_opened seen (trimmed name) rest)
part_opening seen d outers name rest free =
    let t : List ℕ = trimmed name in
    let quiet : is_quiet name ≡ true = quiet_of true name free in
    let by : Stepped → Bool = is_left_by d outers in
    ⊎_elim
    (λ (r : same_but_case t (codes "R") ≡ true).
    ⊎_elim
    (λ (had : seen.events ≡ true).
    let so : part_opened seen t rest ≡ wrong = rw (r, had) refl in
    never seen d outers name rest free (events_never d seen name quiet r had) ∙ sym (ap by so))
    (λ (fresh : seen.events ≡ false).
    let so : part_opened seen t rest ≡ into (record seen { events = true }) rest = rw (r, fresh) refl in
    events_opening seen d outers name rest free r fresh ∙ sym (ap by so))
    (cases_Bool (seen.events)))
    (λ (r : same_but_case t (codes "R") ≡ false).
    ⊎_elim
    (λ (s : same_but_case t (codes "S") ≡ true).
    ⊎_elim
    (λ (had : seen.signals ≡ true).
    let so : part_opened seen t rest ≡ wrong = rw (r, s, had) refl in
    never seen d outers name rest free (signals_never d seen name quiet s had) ∙ sym (ap by so))
    (λ (fresh : seen.signals ≡ false).
    let so : part_opened seen t rest ≡ behind_signals seen (closing 0 rest) = rw (r, s, fresh) refl in
    left_open (spelled_at (Part seen) d) (spelled_at (BehindPart (record seen { signals = true })) d) true
    (λ x. nat_le 1 (length (trimmed x)) && are_signals (trimmed x)) (Some (closes_embedded d (closes_value outers))) name rest free
    (signals_open d seen name quiet r s fresh)
    ∙ signals_up seen d outers (closing 0 rest) ∙ sym (ap by so))
    (cases_Bool (seen.signals)))
    (λ (s : same_but_case t (codes "S") ≡ false).
    ⊎_elim
    (λ (m : same_but_case t (codes "D") ≡ true).
    ⊎_elim
    (λ (had : seen.map ≡ true).
    let so : part_opened seen t rest ≡ wrong = rw (r, s, m, had) refl in
    never seen d outers name rest free (map_never d seen name quiet m had) ∙ sym (ap by so))
    (λ (fresh : seen.map ≡ false).
    let so : part_opened seen t rest ≡ behind_map seen (closing 0 rest) = rw (r, s, m, fresh) refl in
    left_open (spelled_at (Part seen) d) (spelled_at (BehindPart (record seen { map = true })) d) true
    (λ x. nat_le 1 (length (trimmed x))) (Some (closes_embedded d (closes_value outers))) name rest free
    (map_opens d seen name quiet r s m fresh)
    ∙ map_up seen d outers (closing 0 rest) ∙ sym (ap by so))
    (cases_Bool (seen.map)))
    (λ (m : same_but_case t (codes "D") ≡ false).
    let so : part_opened seen t rest ≡ wrong = rw (r, s, m) refl in
    never_called seen d outers name rest free (others_never d seen name quiet r s m) ∙ sym (ap by so))
    (cases_Bool (same_but_case t (codes "D"))))
    (cases_Bool (same_but_case t (codes "S"))))
    (cases_Bool (same_but_case t (codes "R")))

part_step : (seen : Seen) (d : ℕ) (outers : List Outer) (name : List ℕ) (mark : Mark) (rest : List ℕ) → list_all (is_free_byte true) name ≡ true
    → is_left (Part seen) d outers (name ++ marked mark rest) ≡ is_left_by d outers (stepped (Part seen) (trimmed name) mark rest)
unfolding is_left stepped
part_step seen d outers name End rest free = inner_end (spelled_at (Part seen) d) (closes_embedded d (closes_value outers)) name free
part_step seen d outers name Comma rest free =
    left_comma (spelled_at (Part seen) d) (spelled_at (Part seen) d) false (Some (closes_embedded d (closes_value outers))) name rest free
    (λ q qs. part_name d seen name (q ∷ qs) (quiet_of true name free))
part_step seen d outers name Opening rest free = part_opening seen d outers name rest free
part_step seen d outers name Closing rest free =
    inner_close (spelled_at (Part seen) d) false (closes_embedded d (closes_value outers)) name rest free (part_name d seen name [] (quiet_of true name free))

-- Every step

pub each_step : (stand : Stand) (d : ℕ) (outers : List Outer) (name : List ℕ) (mark : Mark) (rest : List ℕ)
    → list_all (is_free_byte (is_inner (goes_on stand d outers))) name ≡ true → is_mark (is_inner (goes_on stand d outers)) mark ≡ true
    → is_left stand d outers (name ++ marked mark rest) ≡ is_left_by d outers (stepped stand (trimmed name) mark rest)
each_step Entry d outers name mark rest free fits = entry_step d outers name mark rest free fits
each_step BehindActions d outers name mark rest free fits = actions_step d outers name mark rest free fits
each_step BehindParameters d outers name mark rest free fits = parameters_step d outers name mark rest free fits
each_step Action d outers name mark rest free fits = action_step d outers name mark rest free
each_step BehindEmbedded d outers name mark rest free fits = embedded_step d outers name mark rest free
each_step (Part seen) d outers name mark rest free fits = part_step seen d outers name mark rest free
each_step (BehindPart seen) d outers name mark rest free fits = behind_part_step seen d outers name mark rest free

-- The whole value
pub from_start : (value : List ℕ) → list_all is_blank value ≡ false → is_left Entry (length value) [] value ≡ are_requested value
unfolding is_left closes_value are_requested are_requested_within entries items
from_start value some = all_inside (is_requested (are_requested_within (length value))) value ∙ rw some refl

pub from_blank : (value : List ℕ) → list_all is_blank value ≡ true → true ≡ are_requested value
unfolding are_requested are_requested_within entries
from_blank value blank = rw blank refl
