-- A word that is written to the front of a place of zeros, and that a domain is a word.
use Rattle.std.proofs.Common.{◌≡◌, ◌≤◌, ℕ, true, false, ◌-◌, List, [], ◌∷◌, ◌++◌, length, take, drop, ap, refl, ◌∙◌, arith, length-append}
use Rattle.std.specs.List.{list_all, list_any}
use Rattle.std.proofs.Math.ListN.{replicate}
use Rattle.std.proofs.Math.Seq.{drop-append_seam, take-append_seam}
use Rattle.std.proofs.lemmas.Bool.Decides.{nat_tests}
use Rattle.std.proofs.lemmas.List.{drop-replicate, length-drop, length-replicate}
use Rattle.mg_bytes.specs.Blanks.{is_blank}
use Rattle.mg_bytes.specs.Lines.{is_line_feed}
use Rattle.mg_bytes.proofs.DigitLemmas.{both_true}
use Rattle.endpoint_names.specs.Table.{is_domain_byte, is_domain}

pub zeros_after : (N : ℕ) (text : List ℕ) → length text ≤ N → list_any is_blank text ≡ false → list_any is_line_feed text ≡ false
    → let bytes = text ++ drop (length text) (replicate N 0) in
    (length text ≤ N) × (length bytes ≡ N) × (drop (length text) bytes ≡ replicate (N - length text) 0)
    × (list_any is_blank (take (length text) bytes) ≡ false) × (list_any is_line_feed (take (length text) bytes) ≡ false)
zeros_after N text inside blankless in_line =
    let zeros : List ℕ = drop (length text) (replicate N 0) in
    let front : take (length text) (text ++ zeros) ≡ text = take-append_seam text zeros in (
      inside,
      simp (length-append, length-drop, length-replicate) (omega arith),
      drop-append_seam text zeros ∙ drop-replicate (length text) N 0,
      ap (λ bytes. list_any is_blank bytes) front ∙ blankless,
      ap (λ bytes. list_any is_line_feed bytes) front ∙ in_line,
    )

-- a domain is a word

byte_solid : (b : ℕ) → is_domain_byte b ≡ true → (is_blank b ≡ false) × (is_line_feed b ≡ false)
byte_solid b is = (grind (arith, nat_tests), grind (arith, nat_tests))

bytes_solid : (text : List ℕ) → list_all is_domain_byte text ≡ true → (list_any is_blank text ≡ false) × (list_any is_line_feed text ≡ false)
bytes_solid [] are = (refl, refl)
bytes_solid (b ∷ bs) are =
    let parts : (is_domain_byte b ≡ true) × (list_all is_domain_byte bs ≡ true) = both_true _ _ are in
    let first = byte_solid b parts.0 in
    let others = bytes_solid bs parts.1 in
    (rw (first.0, others.0) refl, rw (first.1, others.1) refl)

pub domain_no_blanks : (text : List ℕ) → is_domain text ≡ true → list_any is_blank text ≡ false
domain_no_blanks text is = (bytes_solid text (both_true _ _ is).1).0

pub domain_one_line : (text : List ℕ) → is_domain text ≡ true → list_any is_line_feed text ≡ false
domain_one_line text is = (bytes_solid text (both_true _ _ is).1).1
