-- The names of D events are the bytes of letters.
use Rattle.std.proofs.Common.{◌≡◌, ℕ, ◌<◌, ◌≤◌, Bool, true, false, ◌==◌, cond, List, [], ◌∷◌, length, map, refl, ap, arith, Some, None}
use Rattle.std.specs.Prelude.{find, option_map, slice_index, ◌&&◌}
use Rattle.std.specs.Char.{to_ascii_uppercase}
use Rattle.std.proofs.lemmas.Bool.Decides.{nat_tests}
use Rattle.mg_bytes.specs.Case.{same_but_case}
use Rattle.mg_bytes.specs.Letter.{letter_of, byte_of, all_letters}
use Rattle.mg_bytes.specs.declared.letter.Letter.{Letter}
use Rattle.mg_bytes.specs.declared.letter.Letter.TheVariants.{Zero, One, Two, Three, Four, Five, Six, Seven, Eight, Nine, Star, Hash, A, B, C, D, Timer}
use Rattle.packages.specs.declared.event.LineEvent.TheVariants as events
use Rattle.packages.specs.declared.package.Package.TheVariants.{Dtmf}
use Rattle.packages.specs.Tables.{EventRow, event_row}
use Rattle.packages.specs.Looking.{is_same_package, event_named}

abbrev pub matches : List ℕ → EventRow → Bool
matches name row = is_same_package row.within Dtmf && same_but_case name row.name

abbrev pub letter_row : Letter → EventRow
letter_row letter = event_row Dtmf (byte_of letter ∷ []) (events.Letter letter) false

same_byte : (b : ℕ) (letter : Letter) → matches (b ∷ []) (letter_row letter) ≡ (byte_of letter == to_ascii_uppercase b)
same_byte b Zero = grind (arith, nat_tests)
same_byte b One = grind (arith, nat_tests)
same_byte b Two = grind (arith, nat_tests)
same_byte b Three = grind (arith, nat_tests)
same_byte b Four = grind (arith, nat_tests)
same_byte b Five = grind (arith, nat_tests)
same_byte b Six = grind (arith, nat_tests)
same_byte b Seven = grind (arith, nat_tests)
same_byte b Eight = grind (arith, nat_tests)
same_byte b Nine = grind (arith, nat_tests)
same_byte b Star = grind (arith, nat_tests)
same_byte b Hash = grind (arith, nat_tests)
same_byte b A = grind (arith, nat_tests)
same_byte b B = grind (arith, nat_tests)
same_byte b C = grind (arith, nat_tests)
same_byte b D = grind (arith, nat_tests)
same_byte b Timer = grind (arith, nat_tests)

find_row : (b : ℕ) (letters : List Letter)
    → option_map (λ row. row.value) (find (matches (b ∷ [])) (map letter_row letters))
    ≡ option_map events.Letter (find (λ letter. byte_of letter == to_ascii_uppercase b) letters)
find_row b [] = refl
find_row b (letter ∷ letters) =
    rw (same_byte b letter)
    (elim (byte_of letter == to_ascii_uppercase b) as (λ v.
    option_map (λ row. row.value) (cond v (Some (letter_row letter)) (find (matches (b ∷ [])) (map letter_row letters)))
    ≡ option_map events.Letter (cond v (Some letter) (find (λ letter. byte_of letter == to_ascii_uppercase b) letters))) [
      | true ↦ refl
      | false ↦ find_row b letters
    ])

named : (b : ℕ) → event_named Dtmf (b ∷ []) ≡ option_map events.Letter (letter_of b)
unfolding event_named letter_of
named b = find_row b all_letters

-- a name of one byte
pub one_byte : (name : List ℕ) → length name < 2 → 1 ≤ length name → event_named Dtmf name ≡ option_map events.Letter (letter_of (slice_index name 0))
one_byte [] short some = absurd (omega arith)
one_byte (b ∷ []) short some = named b
one_byte (b ∷ c ∷ bs) short some = absurd (omega arith)

-- other names
and_false : (t : Bool) → (t && false) ≡ false
and_false true = refl
and_false false = refl

none_long : (b c : ℕ) (bs : List ℕ) (letters : List Letter) → find (matches (b ∷ c ∷ bs)) (map letter_row letters) ≡ None
none_long b c bs [] = refl
none_long b c bs (letter ∷ letters) =
    let apart : matches (b ∷ c ∷ bs) (letter_row letter) ≡ false = and_false _ in rw apart (none_long b c bs letters)

pub no_name : (name : List ℕ) → length name < 1 → event_named Dtmf name ≡ None
unfolding event_named
no_name [] short = refl
no_name (b ∷ bs) short = absurd (omega arith)

pub long_name : (name : List ℕ) → 2 ≤ length name → event_named Dtmf name ≡ None
unfolding event_named
long_name [] long = absurd (omega arith)
long_name (b ∷ []) long = absurd (omega arith)
long_name (b ∷ c ∷ bs) long = ap (option_map (λ row. row.value)) (none_long b c bs all_letters)
