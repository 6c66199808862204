-- One more byte of hexadecimal digits.
use Rattle.std.proofs.Common.{◌≡◌, ℕ, List, [], ◌∷◌, ◌++◌, Option, Some, None, refl, sym, ap, ◌∙◌, append_assoc}
use Rattle.std.specs.Prelude.{option_map}
use Rattle.mg_bytes.specs.Option.{◌>>=◌}
use Rattle.rgw_scripts.specs.Script.{hex_byte, hex_bytes}

one_more : (front : List ℕ) (byte : ℕ) (o : Option (List ℕ)) → option_map (λ more. (front ++ byte ∷ []) ++ more) o ≡ option_map (λ more. front ++ more) (o >>= (λ bytes. Some (byte ∷ bytes)))
one_more front byte None = refl
one_more front byte (Some bytes) = ap Some (append_assoc front (byte ∷ []) bytes)

two_digits : (high low byte : ℕ) (after : List ℕ) → hex_byte high low ≡ Some byte → hex_bytes (high ∷ low ∷ after) ≡ hex_bytes after >>= (λ bytes. Some (byte ∷ bytes))
unfolding hex_bytes
two_digits high low byte after is = rw is refl

pub hex_bytes-pair : (front rest after : List ℕ) (high low byte : ℕ) → rest ≡ high ∷ low ∷ after → hex_byte high low ≡ Some byte
    → option_map (λ more. (front ++ byte ∷ []) ++ more) (hex_bytes after) ≡ option_map (λ more. front ++ more) (hex_bytes rest)
hex_bytes-pair front rest after high low byte pair is =
    one_more front byte (hex_bytes after) ∙ sym (ap (option_map (λ more. front ++ more)) (ap hex_bytes pair ∙ two_digits high low byte after is))
