-- What is told of what happened, as it is gone through from the oldest.
use Rattle.std.proofs.Common.{◌≡◌, ℕ, suc, ◌+◌, ◌-◌, ◌<◌, ◌≤◌, refl, codes, List, [], ◌∷◌, ◌++◌, length, map, nat_lt, subst, Bool, true, false, Option, Some, None, append_assoc, length-append, arith, rules}
use Rattle.std.specs.Prelude.{◌==◌, not}
use Rattle.std.proofs.lemmas.List.{map-append}
use Rattle.std.proofs.lemmas.Bool.Decides.{nat_tests}
use Rattle.serde_json.specs.declared.value.Value.{Value}
use Rattle.hex.specs.Hex.{encode_lower}
use Rattle.serde_json.specs.Data.{Data, array, boolean, string, object, no_members, put}
use Rattle.serde_json.specs.View.{view, items_of}
use Rattle.serde_json.specs.Written.{has_float, items_have_float, compact_text, IsInOrder}
use Rattle.page_state.specs.declared.label.MessageLabel.{MessageLabel}
use Rattle.page_state.specs.Keeping.{Event, RingState}
use Rattle.page_http.specs.Labelling.{label_data, with_said}
use Rattle.page_http.specs.declared.telling.TheConstants.{MOST_TOLD}
use Rattle.page_http.specs.Telling.{event_data, put_circumstances, told_after, last_number, next_after, is_any, has_more, first_number, events_data}
use Rattle.page_http.specs.Texts.{number_data, put_number, put_shown}

is_newer : (after n : ℕ) → after < n → nat_lt after n ≡ true
is_newer after n h = grind (arith, nat_tests)

is_older : (after n : ℕ) → n ≤ after → nat_lt after n ≡ false
is_older after n h = grind (arith, nat_tests)

-- one that is told leaves room for one less
told_next : (most n after : ℕ) (e : Event) (es : List Event) → after < e.number → n < most
    → told_after (most - n) after (e ∷ es) ≡ e ∷ told_after (most - (n + 1)) after es
told_next most n after e es newer room =
    let more : most - n ≡ suc (most - (n + 1)) = omega arith in
    rw (is_newer after e.number newer, more) refl

-- one that the reader has is passed over
told_older : (most after : ℕ) (e : Event) (es : List Event) → e.number ≤ after
    → told_after most after (e ∷ es) ≡ told_after most after es
told_older most after e es older = rw (is_older after e.number older) refl

-- where as many are told as may be, no more is
told_full : (most n after : ℕ) (es : List Event) → most ≤ n → told_after (most - n) after es ≡ []
told_full most n after es full = let none : most - n ≡ 0 = omega arith in rw none refl

-- one more is told
pub goes_on : (most after : ℕ) (list : List Value) (v : Value) (e : Event) (es : List Event) (whole : List Data)
    → after < e.number → length list < most → view v ≡ event_data e
    → map view list ++ map event_data (told_after (most - length list) after (e ∷ es)) ≡ whole
    → map view (list ++ v ∷ []) ++ map event_data (told_after (most - length (list ++ v ∷ [])) after es) ≡ whole
goes_on most after list v e es whole newer room same told =
    rw (
      length-append list (v ∷ []),
      map-append view list (v ∷ []),
      append_assoc (map view list) (view v ∷ [])
          (map event_data (told_after (most - (length list + 1)) after es)),
      same,
    )
    (rw (told_next most (length list) after e es newer room) at told)

-- and its number is the last
pub goes_on_from : (most after : ℕ) (list : List Value) (v : Value) (last next : ℕ) (e : Event) (es : List Event)
    → after < e.number → length list < most
    → last_number last (told_after (most - length list) after (e ∷ es)) ≡ next
    → last_number e.number (told_after (most - length (list ++ v ∷ [])) after es) ≡ next
goes_on_from most after list v last next e es newer room told =
    rw (length-append list (v ∷ [])) (rw (told_next most (length list) after e es newer room) at told)

-- one that the reader has leaves all as it was
pub goes_past : (most after : ℕ) (list : List Value) (e : Event) (es : List Event) (whole : List Data) → e.number ≤ after
    → map view list ++ map event_data (told_after (most - length list) after (e ∷ es)) ≡ whole
    → map view list ++ map event_data (told_after (most - length list) after es) ≡ whole
goes_past most after list e es whole older told = rw (told_older (most - length list) after e es older) at told

pub goes_past_from : (most after : ℕ) (list : List Value) (last next : ℕ) (e : Event) (es : List Event) → e.number ≤ after
    → last_number last (told_after (most - length list) after (e ∷ es)) ≡ next
    → last_number last (told_after (most - length list) after es) ≡ next
goes_past_from most after list last next e es older told = rw (told_older (most - length list) after e es older) at told

-- and so does one for which there is no room
pub goes_without : (most after : ℕ) (list : List Value) (e : Event) (es : List Event) (whole : List Data) → most ≤ length list
    → map view list ++ map event_data (told_after (most - length list) after (e ∷ es)) ≡ whole
    → map view list ++ map event_data (told_after (most - length list) after es) ≡ whole
goes_without most after list e es whole full told =
    rw (told_full most (length list) after es full) (rw (told_full most (length list) after (e ∷ es) full) at told)

pub goes_without_from : (most after : ℕ) (list : List Value) (last next : ℕ) (e : Event) (es : List Event) → most ≤ length list
    → last_number last (told_after (most - length list) after (e ∷ es)) ≡ next
    → last_number last (told_after (most - length list) after es) ≡ next
goes_without_from most after list last next e es full told =
    rw (told_full most (length list) after es full) (rw (told_full most (length list) after (e ∷ es) full) at told)

-- anything is told where its values are
pub any_told : (values : List Value) (events : List Event) → map view values ≡ map event_data events
    → not (length values == 0) ≡ is_any events
any_told [] [] same = refl
any_told [] (e ∷ es) same = absurd (search rules)
any_told (v ∷ vs) [] same = absurd (search rules)
any_told (v ∷ vs) (e ∷ es) same =
    let filled : (length (v ∷ vs) == 0) ≡ false = grind (arith, nat_tests) in
    rw filled refl

-- an object of these members is what is told
pub told_as : (ring : RingState) (after version clock next first : ℕ) (more : Bool) (events : Data) → next ≡ next_after after ring
    → first ≡ first_number ring.last ring.events → events ≡ array (items_of (map event_data (told_after MOST_TOLD after ring.events)))
    → more ≡ has_more after ring
    → object (put (codes "more") (boolean more) (put_number (codes "next") next (put (codes "events") events
    (put_number (codes "first") first (put_shown version clock no_members))))) ≡ events_data ring after version clock
told_as ring after version clock next first more events is begins are left = rw (is, begins, are, left) refl

-- no number that is told has a fraction
number_whole : (number : Option ℕ) → has_float (number_data number) ≡ false
number_whole None = refl
number_whole (Some n) = refl

label_whole : (label : MessageLabel) → has_float (label_data label) ≡ false
label_whole label = rw (number_whole label.code, number_whole label.id, number_whole label.line, number_whole label.send) refl

labels_whole : (labels : List MessageLabel) → items_have_float (items_of (map label_data labels)) ≡ false
labels_whole [] = refl
labels_whole (label ∷ labels) = rw (label_whole label, labels_whole labels) refl

event_whole : (said : List MessageLabel) (e : Event)
    → has_float (object (with_said said (put (codes "hex") (string (encode_lower e.text)) (put_circumstances e no_members)))) ≡ false
event_whole [] e = refl
event_whole (label ∷ labels) e = rw (label_whole label, labels_whole labels) refl

items_whole : (es : List Event) → items_have_float (items_of (map event_data es)) ≡ false
items_whole [] = refl
items_whole (e ∷ es) = rw (event_whole e.said e, items_whole es) refl

pub events_whole : (ring : RingState) (after version clock : ℕ) → has_float (events_data ring after version clock) ≡ false
events_whole ring after version clock = rw (items_whole _) refl

-- a text is that of what was to be told
pub told_whole : (value told : Data) (text : List ℕ) → value ≡ told → has_float told ≡ false
    → (has_float value ≡ false → text ≡ compact_text value) → text ≡ compact_text told
told_whole value told text e whole says = rw (← e) (says (rw e whole))

-- whatever the order of its members, a text tells what was to be told
pub told_in_order : (text : List ℕ) (value told : Data) → IsInOrder text value → value ≡ told → IsInOrder text told
told_in_order text value told says e = subst (IsInOrder text) e says
