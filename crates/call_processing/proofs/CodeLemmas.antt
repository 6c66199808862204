-- Whether a cause may pass, by the table of return codes: as the class of its code has it, but for four codes.
use Rattle.std.proofs.Common.{◌≡◌, ℕ, ◌==◌, Bool, true, false, ◌&&◌, ◌||◌, not, if◌then◌else◌, List, [], ◌∷◌, Option, Some, refl, sym, ap, ◌∙◌}
use Rattle.std.proofs.lemmas.Bool.{and_parts, eqb-true, true≢false}
use Rattle.call_processing.specs.ReturnCodes.{CodeRow, code_rows, is_transient, passes_by, row_in}
use Rattle.call_processing.specs.Fates.{may_pass}

abbrev is_exception : ℕ → Bool
is_exception code = (code == 401 || code == 402) || (code == 501 || code == 520)

-- Each row but those four says what its code's class says

abbrev same : Bool → Bool → Bool
same true b = b
same false b = not b

is_same : (a b : Bool) → same a b ≡ true → a ≡ b
is_same true true e = refl
is_same true false e = absurd (true≢false (sym e))
is_same false true e = absurd (true≢false (sym e))
is_same false false e = refl

abbrev is_regular : CodeRow → Bool
is_regular row = is_exception row.code || same row.may_pass (is_transient row.code)

abbrev are_regular : List CodeRow → Bool
are_regular [] = true
are_regular (row ∷ rows) = is_regular row && are_regular rows

second_of : (a b : Bool) → a ≡ false → (a || b) ≡ true → b ≡ true
second_of true b none either = absurd (true≢false none)
second_of false b none either = either

at_row : (row : CodeRow) (code : ℕ) (others : Option CodeRow) (b : Bool) → (row.code == code) ≡ b → is_regular row ≡ true
    → is_exception code ≡ false → passes_by code others ≡ is_transient code
    → passes_by code (if b then Some row else others) ≡ is_transient code
at_row row code others true here regular plain behind =
    let is : row.code ≡ code = eqb-true row.code code here in
    is_same row.may_pass (is_transient row.code)
    (second_of (is_exception row.code) (same row.may_pass (is_transient row.code)) (ap is_exception is ∙ plain) regular)
    ∙ ap is_transient is
at_row row code others false here regular plain behind = behind

by_rows : (rows : List CodeRow) (code : ℕ) → are_regular rows ≡ true → is_exception code ≡ false
    → passes_by code (row_in rows code) ≡ is_transient code
unfolding row_in
by_rows [] code regular plain = refl
by_rows (row ∷ rows) code regular plain =
    let both = and_parts (is_regular row) (are_regular rows) regular in
    at_row row code (row_in rows code) (row.code == code) refl both.0 plain (by_rows rows code both.1 plain)

passes_plainly : (code : ℕ) → is_exception code ≡ false → may_pass code ≡ is_transient code
unfolding may_pass
passes_plainly code plain = by_rows code_rows code refl plain

-- Each of the four

off_hook : may_pass 401 ≡ false
unfolding may_pass row_in
off_hook = refl

on_hook : may_pass 402 ≡ false
unfolding may_pass row_in
on_hook = refl

not_ready : may_pass 501 ≡ true
unfolding may_pass row_in
not_ready = refl

restarts : may_pass 520 ≡ true
unfolding may_pass row_in
restarts = refl

-- All codes

abbrev pub by_class : ℕ → Bool
by_class code = if code == 401 || code == 402 then false else (if code == 501 || code == 520 then true else is_transient code)

by_tests : (code : ℕ) (one two three four : Bool) → (code == 401) ≡ one → (code == 402) ≡ two → (code == 501) ≡ three → (code == 520) ≡ four
    → may_pass code ≡ (if one || two then false else (if three || four then true else is_transient code))
by_tests code true two three four is second third fourth = ap may_pass (eqb-true code 401 is) ∙ off_hook
by_tests code false true three four first is third fourth = ap may_pass (eqb-true code 402 is) ∙ on_hook
by_tests code false false true four first second is fourth = ap may_pass (eqb-true code 501 is) ∙ not_ready
by_tests code false false false true first second third is = ap may_pass (eqb-true code 520 is) ∙ restarts
by_tests code false false false false first second third fourth =
    passes_plainly code
    (ap (λ (b : Bool). (b || code == 402) || (code == 501 || code == 520)) first
    ∙ ap (λ (b : Bool). b || (code == 501 || code == 520)) second
    ∙ ap (λ (b : Bool). b || code == 520) third
    ∙ fourth)

pub passes_so : (code : ℕ) → may_pass code ≡ by_class code
passes_so code = by_tests code (code == 401) (code == 402) (code == 501) (code == 520) refl refl refl refl
