-- Places that are emptied one after the other.
use Rattle.std.proofs.Common.{◌≡◌, ℕ, zero, suc, ◌+◌, ◌≤◌, Bool, true, false, List, [], ◌∷◌, map, length, get_or, take, Option, None, refl, ap, arith, add-one}
use Rattle.std.specs.Prelude.{set, if◌then◌else◌}
use Rattle.connections.specs.declared.connection.Connection.{Connection}
use Rattle.connections.specs.declared.deletion.Deletion.{Deletion}
use Rattle.connections.specs.Planning.{emptied}
use Rattle.connections.specs.Standing.{is_emptied, without}

abbrev before : Bool → Option Connection → List (Option Connection) → List (Option Connection)
before is held others = (if is then None else held) ∷ others

next_empty : (n : ℕ) (those : List Bool) (places : List (Option Connection)) → get_or those n false ≡ true
    → set (emptied (take n those) places) n None ≡ emptied (take (suc n) those) places
next_empty n [] places is = absurd cc
next_empty zero (b ∷ more) [] is = refl
next_empty zero (b ∷ more) (held ∷ others) is = rw is refl
next_empty (suc n) (b ∷ more) [] is = refl
next_empty (suc n) (b ∷ more) (held ∷ others) is = ap (before b held) (next_empty n more others is)

next_same : (n : ℕ) (those : List Bool) (places : List (Option Connection)) → get_or those n false ≡ false
    → emptied (take n those) places ≡ emptied (take (suc n) those) places
next_same zero [] places isnt = refl
next_same (suc n) [] places isnt = refl
next_same zero (b ∷ more) [] isnt = refl
next_same zero (b ∷ more) (held ∷ others) isnt = rw isnt refl
next_same (suc n) (b ∷ more) [] isnt = refl
next_same (suc n) (b ∷ more) (held ∷ others) isnt = ap (before b held) (next_same n more others isnt)

-- one more place is emptied, or left
pub emptied_next : (n : ℕ) (those : List Bool) (places : List (Option Connection)) → get_or those n false ≡ true
    → set (emptied (take n those) places) n None ≡ emptied (take (n + 1) those) places
emptied_next n those places is = rw add-one (next_empty n those places is)

pub emptied_same : (n : ℕ) (those : List Bool) (places : List (Option Connection)) → get_or those n false ≡ false
    → emptied (take n those) places ≡ emptied (take (n + 1) those) places
emptied_same n those places isnt = rw add-one (next_same n those places isnt)

-- no more than there are
pub emptied_all : (n : ℕ) (those : List Bool) (places : List (Option Connection)) → length places ≤ n
    → emptied (take n those) places ≡ emptied those places
emptied_all zero [] [] all = refl
emptied_all zero (b ∷ more) [] all = refl
emptied_all zero those (held ∷ others) all = absurd (omega arith)
emptied_all (suc n) [] places all = refl
emptied_all (suc n) (b ∷ more) [] all = refl
emptied_all (suc n) (b ∷ more) (held ∷ others) all = ap (before b held) (emptied_all n more others (omega arith))

pub length-emptied : (those : List Bool) (places : List (Option Connection)) → length (emptied those places) ≡ length places
length-emptied [] places = refl
length-emptied (b ∷ more) [] = refl
length-emptied (b ∷ more) (held ∷ others) = ap suc (length-emptied more others)

-- the places whose connections are meant
pub emptied_meant : (deletion : Deletion) (places : List (Option Connection)) → emptied (map (is_emptied deletion) places) places ≡ map (without deletion) places
emptied_meant deletion [] = refl
emptied_meant deletion (held ∷ others) = ap (λ (rest : List (Option Connection)). without deletion held ∷ rest) (emptied_meant deletion others)
