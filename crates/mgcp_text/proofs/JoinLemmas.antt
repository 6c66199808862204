-- The steps of joining: what is packed already, and what the rest is packed into, are what all is packed into.
use Rattle.std.proofs.Common.{◌≡◌, ℕ, ◌+◌, ◌<◌, ◌≤◌, Bool, true, false, List, [], ◌∷◌, ◌++◌, length, get_or, drop, sym, ap, ◌∙◌, append_assoc}
use Rattle.std.proofs.lemmas.List.{drop_more, at_drop_all}
use Rattle.mgcp_text.specs.Packing.{with_text, has_room, packed_behind}
use Rattle.mgcp_text.proofs.PackingLaws.{pack_room, pack_next, pack_end}

-- the next text stands in front of what is left
next_text : (max place : ℕ) (rest datagrams whole : List (List ℕ)) (text begun : List ℕ) → place < length rest
    → text ≡ get_or rest place text → datagrams ++ packed_behind max begun (drop place rest) ≡ whole
    → datagrams ++ packed_behind max begun (text ∷ drop (place + 1) rest) ≡ whole
next_text max place rest datagrams whole text begun within is so_far =
    ap (λ (one : List ℕ). datagrams ++ packed_behind max begun (one ∷ drop (place + 1) rest)) is
    ∙ ap (λ (left : List (List ℕ)). datagrams ++ packed_behind max begun left) (sym (drop_more rest place text within))
    ∙ so_far

-- the next text has room
pub join_room : (max place : ℕ) (rest datagrams behind whole : List (List ℕ)) (text bytes begun next : List ℕ) (room : Bool)
    → place < length rest → text ≡ get_or rest place text → bytes ≡ text → room ≡ has_room max begun bytes → room ≡ true
    → behind ≡ datagrams → next ≡ with_text begun bytes → datagrams ++ packed_behind max begun (drop place rest) ≡ whole
    → behind ++ packed_behind max next (drop (place + 1) rest) ≡ whole
join_room max place rest datagrams behind whole text bytes begun next room within is same tested has stay put so_far =
    let left : List (List ℕ) = drop (place + 1) rest in
    ap (λ (front : List (List ℕ)). front ++ packed_behind max next left) stay
    ∙ ap (λ (one : List ℕ). datagrams ++ packed_behind max one left) (put ∙ ap (with_text begun) same)
    ∙ ap (λ (all : List (List ℕ)). datagrams ++ all) (sym (pack_room max begun text left (sym (ap (has_room max begun) same) ∙ sym tested ∙ has)))
    ∙ next_text max place rest datagrams whole text begun within is so_far

-- the next text has no room
pub join_next : (max place : ℕ) (rest datagrams behind whole : List (List ℕ)) (text bytes begun next : List ℕ) (room : Bool)
    → place < length rest → text ≡ get_or rest place text → bytes ≡ text → room ≡ has_room max begun bytes → room ≡ false
    → behind ≡ datagrams ++ begun ∷ [] → next ≡ bytes → datagrams ++ packed_behind max begun (drop place rest) ≡ whole
    → behind ++ packed_behind max next (drop (place + 1) rest) ≡ whole
join_next max place rest datagrams behind whole text bytes begun next room within is same tested full put anew so_far =
    let left : List (List ℕ) = drop (place + 1) rest in
    ap (λ (front : List (List ℕ)). front ++ packed_behind max next left) put
    ∙ append_assoc datagrams (begun ∷ []) (packed_behind max next left)
    ∙ ap (λ (one : List ℕ). datagrams ++ (begun ∷ packed_behind max one left)) (anew ∙ same)
    ∙ ap (λ (all : List (List ℕ)). datagrams ++ all) (sym (pack_next max begun text left (sym (ap (has_room max begun) same) ∙ sym tested ∙ full)))
    ∙ next_text max place rest datagrams whole text begun within is so_far

-- no text is left
pub join_last : (max place : ℕ) (rest datagrams all whole : List (List ℕ)) (begun : List ℕ) → length rest ≤ place
    → all ≡ datagrams ++ begun ∷ [] → datagrams ++ packed_behind max begun (drop place rest) ≡ whole → all ≡ whole
join_last max place rest datagrams all whole begun past put so_far =
    put ∙ ap (λ (last : List (List ℕ)). datagrams ++ last) (sym (at_drop_all (packed_behind max begun) rest place past ∙ pack_end max begun))
    ∙ so_far
