-- What a text writes, as far as it is UTF-8 and TOML.
use Rattle.std.proofs.Common.{◌≡◌, ℕ, true, false, List, Some, None, refl, ⊎_elim, IsUtf8}
use Rattle.std.specs.Str.{is_utf8}
use Rattle.std.proofs.lemmas.Bool.{cases_Bool}
use Rattle.std.proofs.lemmas.Str.{IsUtf8-from_is_utf8, is_utf8-from_IsUtf8}
use Rattle.toml.specs.Data.{Members}
use Rattle.toml.specs.Parse.{parse_document}
use Rattle.rgw_scripts.specs.Configuration.{config_in, config_of}

not_utf8 : (text : List ℕ) → is_utf8 text ≡ false → config_in text ≡ None
unfolding config_in
not_utf8 text not = rw not refl

pub config_in-other : (text : List ℕ) → ¬ IsUtf8 text → config_in text ≡ None
config_in-other text other =
    ⊎_elim (λ (h : is_utf8 text ≡ true). absurd (other (IsUtf8-from_is_utf8 text h))) (λ (h : is_utf8 text ≡ false). not_utf8 text h) (cases_Bool (is_utf8 text))

pub config_in-document : (text : List ℕ) (document : Members) → IsUtf8 text → parse_document text ≡ Some document → config_in text ≡ config_of document
unfolding config_in
config_in-document text document utf8 read = rw (is_utf8-from_IsUtf8 text utf8, read) refl
