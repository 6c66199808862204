-- Entries that are read one after the other.
use Rattle.std.proofs.Common.{◌≡◌, ℕ, ◌+◌, List, [], ◌∷◌, ◌++◌, refl, sym, ap, ◌∙◌, append_assoc, append-nil, length, length-append, ◌≤◌, suc, arith}
use Rattle.std.specs.Prelude.{Result, Ok, Err}
use Rattle.mg_bytes.specs.Steps.{◌>>=◌}
use Rattle.packages.specs.Faults.{each}

-- values that were read before
abbrev pub put_before : {A : Type 0} → List A → Result (List A) ℕ → Result (List A) ℕ
put_before front read = read >>= λ rest. Ok (front ++ rest)

put_before-more : {A : Type 0} (front : List A) (x : A) (read : Result (List A) ℕ)
    → put_before (front ++ x ∷ []) read ≡ put_before front (read >>= λ xs. Ok (x ∷ xs))
put_before-more front x (Ok xs) = ap Ok (append_assoc front (x ∷ []) xs)
put_before-more front x (Err code) = refl

each_more : {A : Type 0} (read : List ℕ → Result A ℕ) (front : List A) (text : List ℕ) (texts : List (List ℕ)) (x : A)
    → Ok x ≡ read text → put_before (front ++ x ∷ []) (each read texts) ≡ put_before front (each read (text ∷ texts))
unfolding each
each_more read front text texts x e = rw (sym e) (put_before-more front x (each read texts))

each_fault : {A : Type 0} (read : List ℕ → Result A ℕ) (front : List A) (text : List ℕ) (texts : List (List ℕ)) (code : ℕ)
    → Err code ≡ read text → put_before front (each read (text ∷ texts)) ≡ Err code
unfolding each
each_fault read front text texts code e = rw (sym e) refl

each_end : {A : Type 0} (read : List ℕ → Result A ℕ) (front : List A) → put_before front (each read []) ≡ Ok front
unfolding each
each_end read front = ap Ok (append-nil front)

pub each_begin : {A : Type 0} (read : Result (List A) ℕ) → put_before [] read ≡ read
each_begin (Ok xs) = refl
each_begin (Err code) = refl

-- one step of a loop over what is left
pub each_on : {A : Type 0} (read : List ℕ → Result A ℕ) (front next : List A) (left texts : List (List ℕ)) (text : List ℕ)
    (x : A) (all : Result (List A) ℕ)
    → left ≡ text ∷ texts → Ok x ≡ read text → next ≡ front ++ x ∷ [] → put_before front (each read left) ≡ all
    → put_before next (each read texts) ≡ all
each_on read front next left texts text x all steps e pushed whole =
    rw pushed (each_more read front text texts x e ∙ sym (ap (λ ts. put_before front (each read ts)) steps) ∙ whole)

pub each_stops : {A : Type 0} (read : List ℕ → Result A ℕ) (front : List A) (left texts : List (List ℕ)) (text : List ℕ)
    (code : ℕ) (all : Result (List A) ℕ)
    → left ≡ text ∷ texts → Err code ≡ read text → put_before front (each read left) ≡ all → Err code ≡ all
each_stops read front left texts text code all steps e whole =
    sym (each_fault read front text texts code e) ∙ sym (ap (λ ts. put_before front (each read ts)) steps) ∙ whole

pub each_done : {A : Type 0} (read : List ℕ → Result A ℕ) (front : List A) (left : List (List ℕ)) (all : Result (List A) ℕ)
    → left ≡ [] → put_before front (each read left) ≡ all → Ok front ≡ all
each_done read front left all none whole =
    sym (each_end read front) ∙ sym (ap (λ ts. put_before front (each read ts)) none) ∙ whole

-- what is left has room
pub room_on : {A : Type 0} (front next : List A) (left texts : List (List ℕ)) (text : List ℕ) (x : A) (n : ℕ)
    → left ≡ text ∷ texts → next ≡ front ++ x ∷ [] → length front + length left ≤ n → length next + length texts ≤ n
room_on front next left texts text x n steps pushed room =
    rw (pushed, length-append) (let e : length left ≡ suc (length texts) = ap length steps in omega arith)
