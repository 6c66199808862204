-- What stands before a packet, number by number.
use Rattle.std.proofs.Common.{◌≡◌, ℕ, ◌/◌, ◌%◌, List, ◌++◌, ap, ◌∙◌, append_assoc}
use Rattle.log_format.specs.Octets.{four_octets}
use Rattle.log_format.specs.File.{record_head}

pub head_is : (out : List ℕ) (moment total : ℕ)
    → (((out ++ four_octets (moment / 1000000)) ++ four_octets (moment % 1000000)) ++ four_octets total) ++ four_octets total
    ≡ out ++ record_head moment total
unfolding record_head
head_is out moment total =
    together out (four_octets (moment / 1000000)) (four_octets (moment % 1000000)) (four_octets total) (four_octets total) where
      together : (out a b c d : List ℕ) → (((out ++ a) ++ b) ++ c) ++ d ≡ out ++ (((a ++ b) ++ c) ++ d)
      together out a b c d =
          ap (λ (x : List ℕ). x ++ d) (ap (λ (x : List ℕ). x ++ c) (append_assoc out a b) ∙ append_assoc out (a ++ b) c)
          ∙ append_assoc out ((a ++ b) ++ c) d
