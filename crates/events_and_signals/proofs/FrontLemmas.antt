-- So many of the first events are dropped by how many are left.
use Rattle.std.proofs.Common.{◌≡◌, ℕ, ◌-◌, ◌≤◌, nat_le, Bool, true, false, List, length, drop, refl, sym, ap, ◌∙◌, arith}
use Rattle.std.proofs.lemmas.Bool.{leb-true, leb-false}
use Rattle.std.proofs.lemmas.List.{drop_all}
use Rattle.packages.specs.declared.observed.Observed.{Observed}

pub front_dropped : (events : List Observed) (count : ℕ) → drop (length events - (length events - count)) events ≡ drop count events
front_dropped events count = by_test (nat_le count (length events)) refl where
  by_test : (b : Bool) → nat_le count (length events) ≡ b → drop (length events - (length events - count)) events ≡ drop count events
  by_test true e =
      let few : count ≤ length events = leb-true _ _ e in
      let same : length events - (length events - count) ≡ count = omega (arith, few) in
      ap (λ (n : ℕ). drop n events) same
  by_test false e =
      let many = leb-false _ _ e in
      drop_all (length events - (length events - count)) events (omega (arith, many)) ∙ sym (drop_all count events (omega (arith, many)))
