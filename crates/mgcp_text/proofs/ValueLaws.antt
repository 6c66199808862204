-- Values that can be written.
use Rattle.std.proofs.Common.{◌≡◌, ◌-◌, ◌<◌, ℕ, true, false, List, [], ◌∷◌, length, get_or, refl, ⊎_elim, arith}
use Rattle.std.specs.List.{list_any}
use Rattle.std.specs.Str.{bytes_eq}
use Rattle.std.proofs.lemmas.Bool.{cases_Bool}
use Rattle.std.proofs.lemmas.List.Folds.{list_any_at}
use Rattle.std.proofs.lemmas.Slice.Eq.{bytes_eq-Decides}
use Rattle.mg_bytes.specs.Blanks.{is_blank, trimmed_start}
use Rattle.mg_bytes.specs.Lines.{is_line_feed}
use Rattle.mg_bytes.proofs.TextLaws.{IsTrim, trimmed_same}
use Rattle.mgcp_text.specs.declared.message.Param.{Param}
use Rattle.mgcp_text.specs.Parameter.{is_code}
use Rattle.mgcp_text.specs.Writing.{is_writable_param}

front_stays : (value : List ℕ) → list_any is_blank value ≡ false → trimmed_start value ≡ value
front_stays [] none = refl
front_stays (b ∷ bs) none =
    ⊎_elim
    (λ (h : is_blank b ≡ true). absurd (let some : list_any is_blank (b ∷ bs) ≡ true = rw h refl in cc))
    (λ (h : is_blank b ≡ false). rw h refl)
    (cases_Bool (is_blank b))

none_at : (value : List ℕ) (i : ℕ) → list_any is_blank value ≡ false → i < length value → is_blank (get_or value i 0) ≡ false
none_at value i none inside =
    ⊎_elim
    (λ (h : is_blank (get_or value i 0) ≡ true). absurd (let some : list_any is_blank value ≡ true = list_any_at is_blank value i 0 inside h in cc))
    (λ (h : is_blank (get_or value i 0) ≡ false). h)
    (cases_Bool (is_blank (get_or value i 0)))

blankless_trim : (value : List ℕ) → list_any is_blank value ≡ false → IsTrim value
blankless_trim value none =
    record { start = front_stays value none; end = λ some. none_at value (length value - 1) none (omega arith) }

-- a word of one line can be written as a value
pub word_writable : (param : Param) → is_code param.code ≡ true → list_any is_blank param.value ≡ false → list_any is_line_feed param.value ≡ false → is_writable_param param ≡ true
word_writable param code blankless one_line =
    let same : bytes_eq param.value param.value ≡ true = (bytes_eq-Decides param.value param.value).1 refl in
    rw (code, one_line, trimmed_same param.value (blankless_trim param.value blankless), same) refl
