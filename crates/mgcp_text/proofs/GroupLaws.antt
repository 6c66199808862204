-- Texts are packed in one way.
use Rattle.std.proofs.Common.{◌≡◌, ℕ, ◌+◌, ◌<◌, ◌≤◌, true, false, List, [], ◌∷◌, ◌++◌, length, take, map, All, refl, sym, ap, ◌∙◌, arith, ⊎_elim, append_assoc, if◌then◌else◌}
use Rattle.std.specs.List.{flat_map}
use Rattle.std.proofs.lemmas.Bool.{cases_Bool, le-leb, lt-leb, leb-false}
use Rattle.std.proofs.lemmas.List.{append-nil, length-append}
use Rattle.std.proofs.lemmas.List.Concat.{flat_map-append}
use Rattle.std.proofs.lemmas.List.Elements.{All-nil, All-cons, All-head, All-tail}
use Rattle.mgcp_text.specs.Packing.{dot_line, with_text, has_room, packed_behind, packed, joined, EachIsFull, IsPackedInto}
use Rattle.mgcp_text.proofs.PackingLaws.{pack_room, pack_next, pack_end, IsWithin, within-packed, behind_dots, behind_more}

-- the groups, where one is begun
abbrev groups_behind : ℕ → List (List ℕ) → List (List ℕ) → List (List (List ℕ))
groups_behind max group [] = group ∷ []
groups_behind max group (text ∷ texts) =
    if has_room max (joined group) text then groups_behind max (group ++ text ∷ []) texts
    else group ∷ groups_behind max (text ∷ []) texts

abbrev groups_of : ℕ → List (List ℕ) → List (List (List ℕ))
groups_of max [] = []
groups_of max (text ∷ texts) = groups_behind max (text ∷ []) texts

abbrev all_of : List (List (List ℕ)) → List (List ℕ)
all_of groups = flat_map (λ group. group) groups

abbrev IsSome : List (List ℕ) → Type 0
IsSome group = 0 < length group

-- a group with one more text
joined-push : (group : List (List ℕ)) (text : List ℕ) → IsSome group → joined (group ++ text ∷ []) ≡ with_text (joined group) text
joined-push [] text some = absurd (omega arith)
joined-push (first ∷ texts) text some =
    let more : behind_dots (texts ++ text ∷ []) ≡ behind_dots texts ++ ((dot_line ++ text) ++ []) = flat_map-append (λ next. dot_line ++ next) texts (text ∷ []) in
    rw (more, append-nil) (sym (append_assoc first (behind_dots texts) (dot_line ++ text)))

joined-one : (text : List ℕ) → joined (text ∷ []) ≡ text
joined-one text = append-nil text

-- The groups that are made

all-behind : (max : ℕ) (group texts : List (List ℕ)) → all_of (groups_behind max group texts) ≡ group ++ texts
all-behind max group [] = refl
all-behind max group (text ∷ texts) =
    ⊎_elim
    (λ (room : has_room max (joined group) text ≡ true). rw room (all-behind max (group ++ text ∷ []) texts ∙ append_assoc group (text ∷ []) texts))
    (λ (full : has_room max (joined group) text ≡ false). rw full (ap (λ (more : List (List ℕ)). group ++ more) (all-behind max (text ∷ []) texts)))
    (cases_Bool (has_room max (joined group) text))

push_some : (group : List (List ℕ)) (text : List ℕ) → IsSome (group ++ text ∷ [])
push_some group text = omega (arith, length-append group (text ∷ []))

some-behind : (max : ℕ) (group texts : List (List ℕ)) → IsSome group → All IsSome (groups_behind max group texts)
some-behind max group [] some = All-cons IsSome group [] some (All-nil IsSome)
some-behind max group (text ∷ texts) some =
    ⊎_elim
    (λ (room : has_room max (joined group) text ≡ true). rw room (some-behind max (group ++ text ∷ []) texts (push_some group text)))
    (λ (full : has_room max (joined group) text ≡ false). rw full (All-cons IsSome group _ some (some-behind max (text ∷ []) texts (omega arith))))
    (cases_Bool (has_room max (joined group) text))

joined-behind : (max : ℕ) (group texts : List (List ℕ)) → IsSome group → packed_behind max (joined group) texts ≡ map joined (groups_behind max group texts)
joined-behind max group [] some = pack_end max (joined group)
joined-behind max group (text ∷ texts) some =
    ⊎_elim
    (λ (room : has_room max (joined group) text ≡ true).
    pack_room max (joined group) text texts room
    ∙ ap (λ (begun : List ℕ). packed_behind max begun texts) (sym (joined-push group text some))
    ∙ rw room (joined-behind max (group ++ text ∷ []) texts (push_some group text)))
    (λ (full : has_room max (joined group) text ≡ false).
    pack_next max (joined group) text texts full
    ∙ ap (λ (begun : List ℕ). joined group ∷ packed_behind max begun texts) (sym (joined-one text))
    ∙ rw full (ap (λ (datagrams : List (List ℕ)). joined group ∷ datagrams) (joined-behind max (text ∷ []) texts (omega arith))))
    (cases_Bool (has_room max (joined group) text))

-- the first group begins with this text
abbrev Begins : List ℕ → List (List (List ℕ)) → Type 0
Begins text groups = (more : List (List ℕ)) × (others : List (List (List ℕ))) × (groups ≡ (text ∷ more) ∷ others)

begins-behind : (max : ℕ) (text : List ℕ) (more texts : List (List ℕ)) → Begins text (groups_behind max (text ∷ more) texts)
begins-behind max text more [] = (more, [], refl)
begins-behind max text more (next ∷ texts) =
    ⊎_elim
    (λ (room : has_room max (joined (text ∷ more)) next ≡ true). rw room (begins-behind max text (more ++ next ∷ []) texts))
    (λ (full : has_room max (joined (text ∷ more)) next ≡ false). rw full (more, groups_behind max (next ∷ []) texts, refl))
    (cases_Bool (has_room max (joined (text ∷ more)) next))

full_more : (max : ℕ) (group : List (List ℕ)) (text : List ℕ) (groups : List (List (List ℕ))) → Begins text groups → max < length (joined (group ++ text ∷ [])) → EachIsFull max groups → EachIsFull max (group ∷ groups)
full_more max group text groups begins long full =
    rw begins.2 (long, rw begins.2 at full)

full-behind : (max : ℕ) (group texts : List (List ℕ)) → IsSome group → EachIsFull max (groups_behind max group texts)
full-behind max group [] some = tt
full-behind max group (text ∷ texts) some =
    ⊎_elim
    (λ (room : has_room max (joined group) text ≡ true). rw room (full-behind max (group ++ text ∷ []) texts (push_some group text)))
    (λ (full : has_room max (joined group) text ≡ false).
    rw full (full_more max group text _ (begins-behind max text [] texts) (rw (joined-push group text some) (leb-false _ _ full)) (full-behind max (text ∷ []) texts (omega arith))))
    (cases_Bool (has_room max (joined group) text))

pub packing_some : (max : ℕ) (texts : List (List ℕ)) → All (IsWithin max) texts → IsPackedInto max texts (packed max texts)
packing_some max [] each = record { groups = []; in_order = refl; none_empty = All-nil IsSome; each_joined = refl; within = All-nil (IsWithin max); full = tt }
packing_some max (text ∷ texts) each = record {
  groups = groups_behind max (text ∷ []) texts;
  in_order = all-behind max (text ∷ []) texts;
  none_empty = some-behind max (text ∷ []) texts (omega arith);
  each_joined = ap (λ (begun : List ℕ). packed_behind max begun texts) (sym (joined-one text)) ∙ joined-behind max (text ∷ []) texts (omega arith);
  within = within-packed max (text ∷ texts) each;
  full = full-behind max (text ∷ []) texts (omega arith);
}

-- No others can be made

-- texts that have room all together go into the datagram
walk : (max : ℕ) (begun : List ℕ) (texts rest : List (List ℕ)) → length (begun ++ behind_dots texts) ≤ max → packed_behind max begun (texts ++ rest) ≡ packed_behind max (begun ++ behind_dots texts) rest
walk max begun [] rest short = ap (λ (bytes : List ℕ). packed_behind max bytes rest) (sym (append-nil begun))
walk max begun (text ∷ texts) rest short =
    let same : with_text begun text ++ behind_dots texts ≡ begun ++ behind_dots (text ∷ texts) = behind_more begun text (behind_dots texts) in
    let sizes : length (with_text begun text ++ behind_dots texts) ≡ length (with_text begun text) + length (behind_dots texts) = length-append (with_text begun text) (behind_dots texts) in
    let all : length (with_text begun text ++ behind_dots texts) ≤ max = rw same short in
    let room : has_room max begun text ≡ true = le-leb (length (with_text begun text)) max (omega arith) in
    pack_room max begun text (texts ++ rest) room ∙ walk max (with_text begun text) texts rest all
    ∙ ap (λ (bytes : List ℕ). packed_behind max bytes rest) same

last_group : (max : ℕ) (group : List (List ℕ)) → IsSome group → length (joined group) ≤ max → packed max (group ++ []) ≡ joined group ∷ []
last_group max [] some short = absurd (omega arith)
last_group max (text ∷ texts) some short = walk max text texts [] short ∙ pack_end max (joined (text ∷ texts))

group_then : (max : ℕ) (group : List (List ℕ)) (text : List ℕ) (texts : List (List ℕ)) → IsSome group → length (joined group) ≤ max → max < length (joined (group ++ text ∷ []))
    → packed max (group ++ text ∷ texts) ≡ joined group ∷ packed max (text ∷ texts)
group_then max [] text texts some short long = absurd (omega arith)
group_then max (first ∷ others) text texts some short long =
    let full : has_room max (joined (first ∷ others)) text ≡ false =
    lt-leb (length (with_text (joined (first ∷ others)) text)) max (rw (← joined-push (first ∷ others) text some) long) in
    walk max first others (text ∷ texts) short ∙ pack_next max (joined (first ∷ others)) text texts full

group_next : (max : ℕ) (group next rest : List (List ℕ)) → IsSome group → IsSome next → length (joined group) ≤ max → max < length (joined (group ++ take 1 next))
    → packed max (group ++ (next ++ rest)) ≡ joined group ∷ packed max (next ++ rest)
group_next max group [] rest some other short long = absurd (omega arith)
group_next max group (text ∷ texts) rest some other short long = group_then max group text (texts ++ rest) some short long

groups_only : (max : ℕ) (groups : List (List (List ℕ))) → All IsSome groups → All (IsWithin max) (map joined groups) → EachIsFull max groups → map joined groups ≡ packed max (all_of groups)
groups_only max [] some short full = refl
groups_only max (group ∷ []) some short full =
    sym (last_group max group (All-head IsSome group [] some) (All-head (IsWithin max) (joined group) [] short))
groups_only max (group ∷ next ∷ groups) some short full =
    let others = groups_only max (next ∷ groups) (All-tail IsSome group (next ∷ groups) some) (All-tail (IsWithin max) (joined group) (map joined (next ∷ groups)) short) full.1 in
    ap (λ (datagrams : List (List ℕ)). joined group ∷ datagrams) others
    ∙ sym (group_next max group next (all_of groups) (All-head IsSome group (next ∷ groups) some) (All-head IsSome next groups (All-tail IsSome group (next ∷ groups) some)) (All-head (IsWithin max) (joined group) (map joined (next ∷ groups)) short) full.0)

pub packing_only : (max : ℕ) (texts datagrams : List (List ℕ)) → IsPackedInto max texts datagrams → datagrams ≡ packed max texts
packing_only max texts datagrams is =
    is.each_joined ∙ groups_only max is.groups is.none_empty (rw (← is.each_joined) is.within) is.full ∙ ap (packed max) is.in_order

-- texts that have room together share a datagram
pub packed-together : (max : ℕ) (text : List ℕ) (texts : List (List ℕ)) → length (joined (text ∷ texts)) ≤ max → packed max (text ∷ texts) ≡ joined (text ∷ texts) ∷ []
packed-together max text texts short =
    ap (packed_behind max text) (sym (append-nil texts)) ∙ walk max text texts [] short ∙ pack_end max (joined (text ∷ texts))
