-- Payload types that are read one after the other.
use Rattle.std.proofs.Common.{◌≡◌, ℕ, ◌≤◌, ◌+◌, ◌&&◌, true, false, Bool, List, [], ◌∷◌, ◌++◌, length, Option, Some, None, refl, sym, ap, ◌∙◌, arith, length-append, append_assoc, append-nil, if◌then◌else◌}
use Rattle.std.specs.Prelude.{nat_lt, unwrap_or}
use Rattle.std.proofs.lemmas.Bool.{and_parts, ltb-true, ltb-false}
use Rattle.std.proofs.lemmas.Option.{none-some}
use Rattle.mg_bytes.specs.Numbers.{decimal_of}
use Rattle.mg_bytes.specs.Option.{◌>>=◌}
use Rattle.sdp_subset.specs.Payloads.{is_payload, are_payloads, payloads_from, has_room, with_payload}
use Rattle.sdp_subset.specs.Reading.{payload_from, payload_of, each_payload, payloads_of}
use Rattle.sdp_subset.proofs.PayloadLemmas.{payloads_are, payloads_more}

-- the payload types of further words, after these
abbrev pub with_rest : List ℕ → List (List ℕ) → Option (List ℕ)
with_rest front numbers = each_payload numbers >>= λ rest. payloads_from (front ++ rest)

pub some_is : {A : Type 0} (x y : A) → Some x ≡ Some y → x ≡ y
some_is {A = A} x y e = ap (λ (o : Option A). unwrap_or o x) e

-- a payload type that was read is one
pub payload_is : (text : List ℕ) (payload : ℕ) → payload_of text ≡ Some payload → (decimal_of text ≡ Some payload) × (is_payload payload ≡ true)
payload_is text payload read = by_number (decimal_of text) refl read where
  by_test : (n : ℕ) (b : Bool) → is_payload n ≡ b → (if b then Some n else None) ≡ Some payload → (Some n ≡ Some payload) × (is_payload payload ≡ true)
  by_test n true is e = (e, rw (← some_is n payload e) is)
  by_test n false is e = absurd (none-some payload e)

  by_number : (number : Option ℕ) → decimal_of text ≡ number → (number >>= payload_from) ≡ Some payload → (decimal_of text ≡ Some payload) × (is_payload payload ≡ true)
  by_number None none e = absurd (none-some payload e)
  by_number (Some n) some e = let h = by_test n (is_payload n) refl e in (some ∙ h.0, h.1)

-- none stands among them that can't be one more
no_more : (front : List ℕ) (payload : ℕ) (rest : List ℕ) → has_room front payload ≡ false → is_payload payload ≡ true → are_payloads (front ++ payload ∷ rest) ≡ false
no_more front payload rest full is = by_all (are_payloads (front ++ payload ∷ rest)) refl where
  by_room : (b : Bool) → nat_lt (length front) 32 ≡ b → (b && is_payload payload) ≡ false → are_payloads (front ++ payload ∷ rest) ≡ true → ⊥
  by_room true room e all = let other : true ≡ false = sym is ∙ e in absurd cc
  by_room false none e all =
      let few = (payloads_are _ all).few in
      let size : length (front ++ payload ∷ rest) ≡ length front + length (payload ∷ rest) = length-append front (payload ∷ rest) in
      let long : 32 ≤ length front = ltb-false _ _ none in
      omega arith

  by_all : (b : Bool) → are_payloads (front ++ payload ∷ rest) ≡ b → b ≡ false
  by_all true all = absurd (by_room (nat_lt (length front) 32) refl full all)
  by_all false none = refl

none_fit : (front : List ℕ) (payload : ℕ) (numbers : List (List ℕ)) → has_room front payload ≡ false → is_payload payload ≡ true
    → (each_payload numbers >>= λ rest. payloads_from (front ++ payload ∷ rest)) ≡ None
unfolding payloads_from
none_fit front payload numbers full is = by_rest (each_payload numbers) where
  by_rest : (read : Option (List ℕ)) → (read >>= λ rest. payloads_from (front ++ payload ∷ rest)) ≡ None
  by_rest None = refl
  by_rest (Some rest) = rw (no_more front payload rest full is) refl

regrouped : (front : List ℕ) (payload : ℕ) (read : Option (List ℕ))
    → (read >>= λ rest. payloads_from ((front ++ payload ∷ []) ++ rest)) ≡ (read >>= λ rest. payloads_from (front ++ payload ∷ rest))
regrouped front payload None = refl
regrouped front payload (Some rest) = ap payloads_from (append_assoc front (payload ∷ []) rest)

spread : (front : List ℕ) (payload : ℕ) (read : Option (List ℕ))
    → (read >>= λ rest. payloads_from (front ++ payload ∷ rest)) ≡ ((read >>= λ payloads. Some (payload ∷ payloads)) >>= λ rest. payloads_from (front ++ rest))
spread front payload None = refl
spread front payload (Some rest) = refl

with_one : (front : List ℕ) (text : List ℕ) (texts : List (List ℕ)) (payload : ℕ) → payload_of text ≡ Some payload
    → with_rest front (text ∷ texts) ≡ (each_payload texts >>= λ rest. payloads_from (front ++ payload ∷ rest))
unfolding each_payload
with_one front text texts payload read = rw read (sym (spread front payload (each_payload texts)))

-- one more
pub rest_more : (front next : List ℕ) (left texts : List (List ℕ)) (text : List ℕ) (payload : ℕ) (all : Option (List ℕ))
    → left ≡ text ∷ texts → Some payload ≡ payload_of text → next ≡ front ++ payload ∷ [] → with_rest front left ≡ all → with_rest next texts ≡ all
rest_more front next left texts text payload all steps read pushed whole =
    rw pushed (regrouped front payload (each_payload texts) ∙ sym (with_one front text texts payload (sym read)) ∙ sym (ap (with_rest front) steps) ∙ whole)

-- one too many
pub rest_full : (front : List ℕ) (left texts : List (List ℕ)) (text : List ℕ) (payload : ℕ) (all : Option (List ℕ))
    → left ≡ text ∷ texts → Some payload ≡ payload_of text → has_room front payload ≡ false → with_rest front left ≡ all → None ≡ all
rest_full front left texts text payload all steps read full whole =
    let is = payload_is text payload (sym read) in
    sym (none_fit front payload texts full is.1) ∙ sym (with_one front text texts payload (sym read)) ∙ sym (ap (with_rest front) steps) ∙ whole

rest_none : (front : List ℕ) (text : List ℕ) (texts : List (List ℕ)) → payload_of text ≡ None → with_rest front (text ∷ texts) ≡ None
unfolding each_payload
rest_none front text texts none = rw none refl

-- a word that is none
pub rest_stops : (front : List ℕ) (left texts : List (List ℕ)) (text : List ℕ) (all : Option (List ℕ))
    → left ≡ text ∷ texts → None ≡ payload_of text → with_rest front left ≡ all → None ≡ all
rest_stops front left texts text all steps none whole =
    sym (rest_none front text texts (sym none)) ∙ sym (ap (with_rest front) steps) ∙ whole

rest_end : (front : List ℕ) → are_payloads front ≡ true → with_rest front [] ≡ Some front
unfolding each_payload payloads_from
rest_end front are = rw (append-nil front, are) refl

-- the end
pub rest_done : (front : List ℕ) (left : List (List ℕ)) (all : Option (List ℕ))
    → left ≡ [] → are_payloads front ≡ true → with_rest front left ≡ all → Some front ≡ all
rest_done front left all none are whole = sym (rest_end front are) ∙ sym (ap (with_rest front) none) ∙ whole

pub list_from : (list payloads : List ℕ) → Some payloads ≡ payloads_from list → (payloads ≡ list) × (are_payloads list ≡ true)
unfolding payloads_from
list_from list payloads some = by_test (are_payloads list) refl where
  by_test : (b : Bool) → are_payloads list ≡ b → (payloads ≡ list) × (are_payloads list ≡ true)
  by_test true is = (some_is _ _ (some ∙ rw is refl), is)
  by_test false is = absurd (none-some payloads (sym (some ∙ rw is refl)))

pub list_are : (payload : ℕ) (payloads : List ℕ) → Some payloads ≡ payloads_from (payload ∷ []) → are_payloads payloads ≡ true
list_are payload payloads some = let h = list_from (payload ∷ []) payloads some in ap are_payloads h.0 ∙ h.1

-- one was pushed
pub pushed_on : (list next : List ℕ) (payload : ℕ) → has_room list payload ≡ true → next ≡ with_payload list payload → next ≡ list ++ payload ∷ []
pushed_on list next payload room is = is ∙ rw room refl

pub pushed_are : (list next : List ℕ) (payload : ℕ) → has_room list payload ≡ true → next ≡ list ++ payload ∷ [] → are_payloads list ≡ true → are_payloads next ≡ true
pushed_are list next payload room pushed are =
    let both = and_parts (nat_lt (length list) 32) (is_payload payload) room in
    ap are_payloads pushed ∙ payloads_more list payload are (ltb-true _ _ both.0) both.1

-- the first word
pub rest_first : (numbers texts : List (List ℕ)) (text : List ℕ) (payload : ℕ) (payloads : List ℕ)
    → numbers ≡ text ∷ texts → Some payload ≡ payload_of text → Some payloads ≡ payloads_from (payload ∷ []) → with_rest payloads texts ≡ payloads_of numbers
unfolding payloads_of
rest_first numbers texts text payload payloads steps read some =
    rest_more [] payloads numbers texts text payload (payloads_of numbers) steps read (list_from (payload ∷ []) payloads some).0 (whole (each_payload numbers)) where
      whole : (r : Option (List ℕ)) → (r >>= λ rest. payloads_from ([] ++ rest)) ≡ (r >>= payloads_from)
      whole None = refl
      whole (Some rest) = refl

single : (payload : ℕ) → is_payload payload ≡ true → payloads_from (payload ∷ []) ≡ Some (payload ∷ [])
unfolding payloads_from are_payloads
single payload is = rw is refl

-- one payload type is a list of them
pub first_fits : (text : List ℕ) (payload : ℕ) → Some payload ≡ payload_of text → None ≡ payloads_from (payload ∷ []) → ⊥
first_fits text payload read none =
    let is = payload_is text payload (sym read) in
    none-some (payload ∷ []) (none ∙ single payload is.1)

pub first_stops : (numbers texts : List (List ℕ)) (text : List ℕ) → numbers ≡ text ∷ texts → None ≡ payload_of text → None ≡ payloads_of numbers
unfolding payloads_of each_payload
first_stops numbers texts text steps none = rw (steps, ← none) refl

pub first_missing : (numbers : List (List ℕ)) → numbers ≡ [] → None ≡ payloads_of numbers
unfolding payloads_of each_payload payloads_from are_payloads
first_missing numbers none = rw none refl
