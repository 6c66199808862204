-- What is packed: what its parts are, how long it is, and that nothing is lost.
use Rattle.std.proofs.Common.{◌≡◌, ℕ, ◌+◌, ◌-◌, ◌<◌, ◌≤◌, true, false, not, ◌&&◌, ◌||◌, List, [], ◌∷◌, ◌++◌, length, get_or, map, All, refl, sym, ap, ◌∙◌, arith, ⊎_elim, append_assoc}
use Rattle.std.specs.List.{concat, list_all, list_any, flat_map}
use Rattle.std.proofs.lemmas.List.Folds.{list_any-append}
use Rattle.std.proofs.lemmas.Bool.{cases_Bool, and_parts, not-true, leb-true, le-leb}
use Rattle.std.proofs.lemmas.List.{append_cancel_left, length-append, map-append, get_or-append_right}
use Rattle.std.proofs.lemmas.List.Elements.{All-nil, All-cons, All-head, All-tail}
use Rattle.mg_bytes.specs.Blanks.{trimmed, trimmed_end}
use Rattle.mg_bytes.specs.Lines.{cut, is_dot_line}
use Rattle.mgcp_text.specs.Parts.{has_dot_line, parts_of}
use Rattle.mgcp_text.specs.Packing.{dot_line, with_text, has_room, packed_behind, packed, ends_in_line_feed, is_joinable, joined, with_next}
use Rattle.mgcp_text.proofs.SplitLemmas.{split, split_append}
use Rattle.mg_bytes.proofs.CutLemmas.{cut_append, ends_append}
use Rattle.mgcp_text.proofs.PartingLaws.{parts-apart}

-- the two ways of a text
pub pack_room : (max : ℕ) (begun text : List ℕ) (texts : List (List ℕ)) → has_room max begun text ≡ true → packed_behind max begun (text ∷ texts) ≡ packed_behind max (with_text begun text) texts
unfolding packed_behind
pack_room max begun text texts room = rw room refl

pub pack_next : (max : ℕ) (begun text : List ℕ) (texts : List (List ℕ)) → has_room max begun text ≡ false → packed_behind max begun (text ∷ texts) ≡ begun ∷ packed_behind max text texts
unfolding packed_behind
pack_next max begun text texts full = rw full refl

pub pack_end : (max : ℕ) (begun : List ℕ) → packed_behind max begun [] ≡ begun ∷ []
unfolding packed_behind
pack_end max begun = refl

-- what a text that can be joined is
pub record Joins (max : ℕ) (text : List ℕ) : Type 0 where
  pub ends : ends_in_line_feed text ≡ true
  pub apart : has_dot_line text ≡ false
  pub short : length text ≤ max

pub joins-from : (max : ℕ) (text : List ℕ) → is_joinable max text ≡ true → Joins max text
joins-from max text can =
    let both = and_parts (ends_in_line_feed text && not (has_dot_line text)) _ can in
    let front = and_parts (ends_in_line_feed text) _ both.0 in
    record { ends = front.0; apart = not-true _ front.1; short = leb-true _ _ both.1 }

pub joinable-from : (max : ℕ) (text : List ℕ) → Joins max text → is_joinable max text ≡ true
joinable-from max text joins = rw (joins.ends, joins.apart) (le-leb (length text) max joins.short)

-- behind a line end, more text adds its dot lines
pub has_dot_line-append : (text rest : List ℕ) → ends_in_line_feed text ≡ true → has_dot_line (text ++ rest) ≡ (has_dot_line text || has_dot_line rest)
has_dot_line-append text rest ends = ap (list_any is_dot_line) (cut_append text rest ends) ∙ list_any-append is_dot_line (cut text) (cut rest)

-- The parts

cut_dot : (text : List ℕ) → cut (dot_line ++ text) ≡ dot_line ∷ cut text
unfolding cut
cut_dot text = refl

dot_is : is_dot_line dot_line ≡ true
unfolding trimmed trimmed_end
dot_is = refl

-- behind a line end, a dot line and a text add the parts of the text
pub parts-with_text : (begun text : List ℕ) → ends_in_line_feed begun ≡ true → parts_of (with_text begun text) ≡ parts_of begun ++ parts_of text
unfolding parts_of
parts-with_text begun text ends =
    ap (λ (lines : List (List ℕ)). map concat (split lines)) (cut_append begun (dot_line ++ text) ends ∙ ap (λ (lines : List (List ℕ)). cut begun ++ lines) (cut_dot text))
    ∙ ap (map concat) (split_append (cut begun) dot_line (cut text) dot_is)
    ∙ map-append concat (split (cut begun)) (split (cut text))

pub ends-with_text : (begun text : List ℕ) → ends_in_line_feed text ≡ true → ends_in_line_feed (with_text begun text) ≡ true
ends-with_text begun text ends = ends_append begun (dot_line ++ text) (ends_append dot_line text ends)

parts-behind : (max : ℕ) (begun : List ℕ) (texts : List (List ℕ)) → ends_in_line_feed begun ≡ true → list_all (is_joinable max) texts ≡ true
    → flat_map parts_of (packed_behind max begun texts) ≡ parts_of begun ++ texts
parts-behind max begun [] ends can = ap (flat_map parts_of) (pack_end max begun)
parts-behind max begun (text ∷ texts) ends can =
    let each = and_parts (is_joinable max text) _ can in
    let this = joins-from max text each.0 in
    let one : parts_of text ≡ text ∷ [] = parts-apart text this.apart in
    ⊎_elim
    (λ (room : has_room max begun text ≡ true).
    ap (flat_map parts_of) (pack_room max begun text texts room) ∙ parts-behind max (with_text begun text) texts (ends-with_text begun text this.ends) each.1
    ∙ rw (parts-with_text begun text ends, one) (append_assoc (parts_of begun) (text ∷ []) texts))
    (λ (full : has_room max begun text ≡ false).
    ap (flat_map parts_of) (pack_next max begun text texts full) ∙ ap (λ (parts : List (List ℕ)). parts_of begun ++ parts) (parts-behind max text texts this.ends each.1 ∙ rw one refl))
    (cases_Bool (has_room max begun text))

-- what was joined is taken apart again
pub parts-packed : (max : ℕ) (texts : List (List ℕ)) → list_all (is_joinable max) texts ≡ true → flat_map parts_of (packed max texts) ≡ texts
parts-packed max [] can = refl
parts-packed max (text ∷ texts) can =
    let each = and_parts (is_joinable max text) _ can in
    let this = joins-from max text each.0 in
    parts-behind max text texts this.ends each.1 ∙ ap (λ (parts : List (List ℕ)). parts ++ texts) (parts-apart text this.apart)

-- The lengths

abbrev pub IsWithin : ℕ → List ℕ → Type 0
IsWithin max text = length text ≤ max

within-behind : (max : ℕ) (begun : List ℕ) (texts : List (List ℕ)) → length begun ≤ max → All (IsWithin max) texts → All (IsWithin max) (packed_behind max begun texts)
within-behind max begun [] this others = rw (pack_end max begun) (All-cons (IsWithin max) begun [] this (All-nil (IsWithin max)))
within-behind max begun (text ∷ texts) this others =
    let rest = All-tail (IsWithin max) text texts others in
    ⊎_elim
    (λ (room : has_room max begun text ≡ true). rw (pack_room max begun text texts room) (within-behind max (with_text begun text) texts (leb-true _ _ room) rest))
    (λ (full : has_room max begun text ≡ false). rw (pack_next max begun text texts full) (All-cons (IsWithin max) begun _ this (within-behind max text texts (All-head (IsWithin max) text texts others) rest)))
    (cases_Bool (has_room max begun text))

pub within-packed : (max : ℕ) (texts : List (List ℕ)) → All (IsWithin max) texts → All (IsWithin max) (packed max texts)
within-packed max [] each = All-nil (IsWithin max)
within-packed max (text ∷ texts) each = within-behind max text texts (All-head (IsWithin max) text texts each) (All-tail (IsWithin max) text texts each)

pub within-joinable : (max : ℕ) (texts : List (List ℕ)) → list_all (is_joinable max) texts ≡ true → All (IsWithin max) texts
within-joinable max [] can = All-nil (IsWithin max)
within-joinable max (text ∷ texts) can =
    let each = and_parts (is_joinable max text) _ can in
    All-cons (IsWithin max) text texts (joins-from max text each.0).short (within-joinable max texts each.1)

-- The bytes

-- the texts, each behind a dot line
abbrev pub behind_dots : List (List ℕ) → List ℕ
behind_dots texts = flat_map (λ next. dot_line ++ next) texts

pub behind_more : (begun text : List ℕ) (rest : List ℕ) → with_text begun text ++ rest ≡ begun ++ ((dot_line ++ text) ++ rest)
behind_more begun text rest = append_assoc begun (dot_line ++ text) rest

behind-packed : (max : ℕ) (begun : List ℕ) (texts : List (List ℕ)) → behind_dots (packed_behind max begun texts) ≡ (dot_line ++ begun) ++ behind_dots texts
behind-packed max begun [] = ap behind_dots (pack_end max begun)
behind-packed max begun (text ∷ texts) =
    ⊎_elim
    (λ (room : has_room max begun text ≡ true).
    ap behind_dots (pack_room max begun text texts room) ∙ behind-packed max (with_text begun text) texts
    ∙ ap (λ (bytes : List ℕ). dot_line ++ bytes) (behind_more begun text (behind_dots texts)))
    (λ (full : has_room max begun text ≡ false).
    ap behind_dots (pack_next max begun text texts full) ∙ ap (λ (bytes : List ℕ). (dot_line ++ begun) ++ bytes) (behind-packed max text texts))
    (cases_Bool (has_room max begun text))

dots-joined : (texts : List (List ℕ)) → 0 < length texts → dot_line ++ joined texts ≡ behind_dots texts
dots-joined [] some = absurd (omega arith)
dots-joined (text ∷ texts) some = refl

pub some-behind : (max : ℕ) (begun : List ℕ) (texts : List (List ℕ)) → 0 < length (packed_behind max begun texts)
some-behind max begun [] = rw (pack_end max begun) (omega arith)
some-behind max begun (text ∷ texts) =
    ⊎_elim
    (λ (room : has_room max begun text ≡ true). rw (pack_room max begun text texts room) (some-behind max (with_text begun text) texts))
    (λ (full : has_room max begun text ≡ false). rw (pack_next max begun text texts full) (omega arith))
    (cases_Bool (has_room max begun text))

-- the datagrams, joined by dot lines, are the texts, joined by dot lines
pub joined-packed : (max : ℕ) (texts : List (List ℕ)) → joined (packed max texts) ≡ joined texts
joined-packed max [] = refl
joined-packed max (text ∷ texts) =
    append_cancel_left dot_line _ _ (dots-joined (packed_behind max text texts) (some-behind max text texts) ∙ behind-packed max text texts)

-- One text more

next_behind : (max : ℕ) (begun : List ℕ) (datagrams : List (List ℕ)) (text : List ℕ) → 0 < length datagrams → with_next max (begun ∷ datagrams) text ≡ begun ∷ with_next max datagrams text
next_behind max begun [] text some = absurd (omega arith)
next_behind max begun (datagram ∷ datagrams) text some = refl

one_more : (max : ℕ) (begun text : List ℕ) → packed_behind max begun (text ∷ []) ≡ with_next max (begun ∷ []) text
unfolding packed_behind
one_more max begun text = refl

behind-push : (max : ℕ) (begun : List ℕ) (texts : List (List ℕ)) (text : List ℕ) → packed_behind max begun (texts ++ text ∷ []) ≡ with_next max (packed_behind max begun texts) text
behind-push max begun [] text =
    one_more max begun text ∙ sym (ap (λ (datagrams : List (List ℕ)). with_next max datagrams text) (pack_end max begun))
behind-push max begun (first ∷ texts) text =
    ⊎_elim
    (λ (room : has_room max begun first ≡ true).
    pack_room max begun first (texts ++ text ∷ []) room ∙ behind-push max (with_text begun first) texts text
    ∙ sym (ap (λ (datagrams : List (List ℕ)). with_next max datagrams text) (pack_room max begun first texts room)))
    (λ (full : has_room max begun first ≡ false).
    pack_next max begun first (texts ++ text ∷ []) full ∙ ap (λ (datagrams : List (List ℕ)). begun ∷ datagrams) (behind-push max first texts text)
    ∙ sym (ap (λ (datagrams : List (List ℕ)). with_next max datagrams text) (pack_next max begun first texts full) ∙ next_behind max begun (packed_behind max first texts) text (some-behind max first texts)))
    (cases_Bool (has_room max begun first))

pub packed-push : (max : ℕ) (texts : List (List ℕ)) (text : List ℕ) → packed max (texts ++ text ∷ []) ≡ with_next max (packed max texts) text
packed-push max [] text = pack_end max text
packed-push max (first ∷ texts) text = behind-push max first texts text
