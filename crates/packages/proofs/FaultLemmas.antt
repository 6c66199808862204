-- Values by the first fault of their entries.
use Rattle.std.proofs.Common.{◌≡◌, ℕ, suc, ◌<◌, ◌≤◌, Bool, true, false, if◌then◌else◌, List, [], ◌∷◌, ◌++◌, length, map, refl, ap, ◌∙◌, arith}
use Rattle.std.specs.Prelude.{Result, Ok, Err, is_ok}
use Rattle.std.specs.List.{list_all}
use Rattle.std.proofs.lemmas.Bool.{and_parts, le-leb, lt-leb}
use Rattle.mg_bytes.specs.Steps.{◌>>=◌}
use Rattle.packages.specs.Faults.{each, each_up_to}

-- Entries that are read one after the other

skip_read : {A : Type 0} (first : Result A ℕ) (more : Result (List A) ℕ) (code : ℕ) → is_ok first ≡ true → more ≡ Err code
    → (first >>= λ x. more >>= λ xs. Ok (x ∷ xs)) ≡ Err code
skip_read (Ok x) more code read e = rw e refl
skip_read (Err other) more code read e = absurd cc

each_faults : {A : Type 0} (read : List ℕ → Result A ℕ) (front rest : List (List ℕ)) (text : List ℕ) (code : ℕ)
    → list_all (λ earlier. is_ok (read earlier)) front ≡ true → read text ≡ Err code → each read (front ++ text ∷ rest) ≡ Err code
unfolding each
each_faults read [] rest text code before here = rw here refl
each_faults read (e ∷ front) rest text code before here =
    let parts = and_parts (is_ok (read e)) (list_all (λ earlier. is_ok (read earlier)) front) before in
    skip_read (read e) (each read (front ++ text ∷ rest)) code parts.0 (each_faults read front rest text code parts.1 here)

each_whole : {A : Type 0} (read : List ℕ → Result A ℕ) (texts : List (List ℕ)) (values : List A) → map read texts ≡ map Ok values → each read texts ≡ Ok values
unfolding each
each_whole read [] [] e = refl
each_whole read [] (v ∷ vs) e = absurd cc
each_whole read (text ∷ texts) [] e = absurd cc
each_whole read (text ∷ texts) (v ∷ vs) e =
    let here : read text ≡ Ok v = cc in
    let rest : map read texts ≡ map Ok vs = cc in
    rw (here, each_whole read texts vs rest) refl

length_read : {A : Type 0} (read : List ℕ → Result A ℕ) (texts : List (List ℕ)) (values : List A) → map read texts ≡ map Ok values → length texts ≡ length values
length_read read [] [] e = refl
length_read read [] (v ∷ vs) e = absurd cc
length_read read (text ∷ texts) [] e = absurd cc
length_read read (text ∷ texts) (v ∷ vs) e = let rest : map read texts ≡ map Ok vs = cc in ap suc (length_read read texts vs rest)

-- A value, by whether it is spelled

abbrev pub if_spelled : {A : Type 0} → Bool → Result (List A) ℕ → Result (List A) ℕ
if_spelled spelled value = if spelled then value else Err 510

pub misspelled : {A : Type 0} (spelled : Bool) (value : Result (List A) ℕ) → spelled ≡ false → if_spelled spelled value ≡ Err 510
misspelled spelled value bad = rw bad refl

pub well_spelled : {A : Type 0} (spelled : Bool) (value : Result (List A) ℕ) → spelled ≡ true → if_spelled spelled value ≡ value
well_spelled spelled value good = rw good refl

-- At most so many entries

pub many_up_to : {A : Type 0} (most : ℕ) (read : List ℕ → Result A ℕ) (texts : List (List ℕ)) → most < length texts → each_up_to most read texts ≡ Err 502
many_up_to most read texts many = ap (λ (b : Bool). if b then each read texts else Err 502) (lt-leb (length texts) most many)

few_up_to : {A : Type 0} (most : ℕ) (read : List ℕ → Result A ℕ) (texts : List (List ℕ)) → length texts ≤ most → each_up_to most read texts ≡ each read texts
few_up_to most read texts few = ap (λ (b : Bool). if b then each read texts else Err 502) (le-leb (length texts) most few)

pub fault_up_to : {A : Type 0} (most : ℕ) (read : List ℕ → Result A ℕ) (texts front rest : List (List ℕ)) (text : List ℕ) (code : ℕ) → length texts ≤ most
    → texts ≡ front ++ text ∷ rest → list_all (λ earlier. is_ok (read earlier)) front ≡ true → read text ≡ Err code → each_up_to most read texts ≡ Err code
fault_up_to most read texts front rest text code few is before here =
    few_up_to most read texts few ∙ ap (each read) is ∙ each_faults read front rest text code before here

pub whole_up_to : {A : Type 0} (most : ℕ) (read : List ℕ → Result A ℕ) (texts : List (List ℕ)) (values : List A) → length values ≤ most → map read texts ≡ map Ok values
    → each_up_to most read texts ≡ Ok values
whole_up_to most read texts values few is =
    let same : length texts ≡ length values = length_read read texts values is in
    few_up_to most read texts (omega (arith, same, few)) ∙ each_whole read texts values is
