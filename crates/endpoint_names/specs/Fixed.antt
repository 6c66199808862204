-- A text in a place of fixed size.
use Rattle.std.specs.Prelude.{◌≡◌, ◌≤◌, ◌-◌, ◌++◌, List, ℕ, length, take, drop, replicate}
use Rattle.std.proofs.Common.{sym, ap, subst, ◌∙◌}
use Rattle.std.proofs.lemmas.List.{length-take-le, take-append-drop}
use Rattle.endpoint_names.specs.declared.fixed.FixedText.TheInside.{Inside}

-- the text, filled up with zeros to N bytes, and its length
abbrev pub fields_of : (N : ℕ) → List ℕ → Inside N
fields_of N text = record { bytes = text ++ replicate (N - length text) 0; len = length text }

-- where zeros stand after the text, the text gives the fields back
pub fields_again : (N : ℕ) (bytes : List ℕ) (len : ℕ) → len ≤ N → length bytes ≡ N → drop len bytes ≡ replicate (N - len) 0
    → fields_of N (take len bytes) ≡ record { bytes = bytes; len = len }
fields_again N bytes len inside size zeros =
    let same_len : length (take len bytes) ≡ len = length-take-le len bytes (subst (λ n. len ≤ n) (sym size) inside) in
    ap (λ n. record { bytes = take len bytes ++ replicate (N - n) 0; len = n }) same_len
    ∙ ap (λ zs. record { bytes = take len bytes ++ zs; len = len }) (sym zeros)
    ∙ ap (λ bs. record { bytes = bs; len = len }) (take-append-drop len bytes)
