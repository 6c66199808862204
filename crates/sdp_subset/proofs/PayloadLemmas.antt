-- Lists of payload types.
use Rattle.std.proofs.Common.{◌≡◌, ℕ, ◌≤◌, ◌<◌, ◌+◌, true, List, [], ◌∷◌, ◌++◌, length, refl, arith, length-append}
use Rattle.std.specs.Prelude.{nat_le}
use Rattle.std.specs.List.{list_all}
use Rattle.std.proofs.lemmas.Bool.{and_parts, leb-true}
use Rattle.std.proofs.lemmas.Bool.Decides.{nat_tests}
use Rattle.std.proofs.lemmas.List.Folds.{list_all-append}
use Rattle.sdp_subset.specs.Payloads.{is_payload, are_payloads}

-- what it is to be 1 to 32 payload types
pub record ArePayloads (list : List ℕ) : Type 0 where
  pub some : 1 ≤ length list
  pub few : length list ≤ 32
  pub each : list_all is_payload list ≡ true

pub payloads_are : (list : List ℕ) → are_payloads list ≡ true → ArePayloads list
unfolding are_payloads
payloads_are list is =
    let both = and_parts _ (list_all is_payload list) is in
    let bounds = and_parts (nat_le 1 (length list)) (nat_le (length list) 32) both.0 in
    record { some = leb-true _ _ bounds.0; few = leb-true _ _ bounds.1; each = both.1 }

pub are_payloads_of : (list : List ℕ) → ArePayloads list → are_payloads list ≡ true
unfolding are_payloads
are_payloads_of list are =
    let some : nat_le 1 (length list) ≡ true = (let h = are.some in grind (arith, nat_tests)) in
    let few : nat_le (length list) 32 ≡ true = (let h = are.few in grind (arith, nat_tests)) in
    rw (some, few, are.each) refl

-- one more payload type
pub payloads_more : (list : List ℕ) (payload : ℕ) → are_payloads list ≡ true → length list < 32 → is_payload payload ≡ true
    → are_payloads (list ++ payload ∷ []) ≡ true
payloads_more list payload are room is =
    let h = payloads_are list are in
    let size : length (list ++ payload ∷ []) ≡ length list + 1 = length-append list (payload ∷ []) in
    let some = h.some in
    are_payloads_of (list ++ payload ∷ []) (record {
      some = omega arith;
      few = omega arith;
      each = rw (list_all-append is_payload list (payload ∷ []), h.each, is) refl;
    })
