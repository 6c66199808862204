-- What is read passes a test, or is a return code.
use Rattle.std.proofs.Common.{◌≡◌, ℕ, ◌≤◌, Bool, true, false, cond, ◌&&◌, leb, List, [], ◌∷◌, length, refl, ap, lit≤, ⊎_elim, subst, suc}
use Rattle.std.specs.Prelude.{Result, Ok, Err}
use Rattle.std.specs.List.{list_all}
use Rattle.std.proofs.lemmas.Bool.{cases_Bool}
use Rattle.mg_bytes.proofs.DigitLemmas.{both_true}
use Rattle.mg_bytes.specs.Steps.{◌>>=◌}
use Rattle.packages.specs.Faults.{each, each_up_to}

-- a value that passes, or a return code
abbrev pub Passes : {A : Type 0} → (A → Type 0) → Result A ℕ → Type 0
Passes P (Ok x) = P x
Passes P (Err code) = code ≤ 999

pub passes_on : {A B : Type 0} (P : A → Type 0) (Q : B → Type 0) (read : Result A ℕ) (next : A → Result B ℕ)
    → Passes P read → ((x : A) → P x → Passes Q (next x)) → Passes Q (read >>= next)
passes_on P Q (Ok x) next here on = on x here
passes_on P Q (Err code) next here on = here

pub passes_more : {A : Type 0} (P Q : A → Type 0) (read : Result A ℕ) → Passes P read → ((x : A) → P x → Q x) → Passes Q read
passes_more P Q (Ok x) here more = more x here
passes_more P Q (Err code) here more = here

-- entries that are spelled
pub passes_each_spelled : {A : Type 0} (test : A → Bool) (spelled : List ℕ → Bool) (read : List ℕ → Result A ℕ) (texts : List (List ℕ))
    → ((text : List ℕ) → spelled text ≡ true → Passes (λ x. test x ≡ true) (read text)) → list_all spelled texts ≡ true
    → Passes (λ xs. (list_all test xs ≡ true) × (length xs ≡ length texts)) (each read texts)
unfolding each
passes_each_spelled test spelled read [] one all = (refl, refl)
passes_each_spelled test spelled read (text ∷ texts) one all =
    let parts : (spelled text ≡ true) × (list_all spelled texts ≡ true) = both_true _ _ all in
    passes_on (λ x. test x ≡ true) _ (read text) _ (one text parts.0)
    (λ x here. passes_on (λ xs. (list_all test xs ≡ true) × (length xs ≡ length texts)) _ (each read texts) _ (passes_each_spelled test spelled read texts one parts.1)
    (λ xs rest. (rw here (rest.0), ap suc (rest.1))))

all_texts : (texts : List (List ℕ)) → list_all (λ text. true) texts ≡ true
all_texts [] = refl
all_texts (text ∷ texts) = all_texts texts

pub passes_each : {A : Type 0} (test : A → Bool) (read : List ℕ → Result A ℕ) (texts : List (List ℕ))
    → ((text : List ℕ) → Passes (λ x. test x ≡ true) (read text))
    → Passes (λ xs. (list_all test xs ≡ true) × (length xs ≡ length texts)) (each read texts)
passes_each test read texts one = passes_each_spelled test (λ text. true) read texts (λ text so. one text) (all_texts texts)

-- at most so many of them, in a value that is spelled
pub passes_up_to : {A : Type 0} (test : A → Bool) (most : ℕ) (spelled : List ℕ → Bool) (read : List ℕ → Result A ℕ) (texts : List (List ℕ))
    → ((text : List ℕ) → spelled text ≡ true → Passes (λ x. test x ≡ true) (read text)) → list_all spelled texts ≡ true
    → Passes (λ xs. (leb (length xs) most && list_all test xs) ≡ true) (each_up_to most read texts)
passes_up_to test most spelled read texts one all =
    ⊎_elim
    (λ (few : leb (length texts) most ≡ true). rw few (passes_more _ _ (each read texts) (passes_each_spelled test spelled read texts one all)
    (λ xs passed. rw (passed.1, few) (passed.0))))
    (λ (many : leb (length texts) most ≡ false). rw many (lit≤ tt))
    (cases_Bool (leb (length texts) most))

pub passes_if : {A : Type 0} (P : A → Type 0) (spelled : Bool) (read : Result A ℕ) → (spelled ≡ true → Passes P read)
    → Passes P (cond spelled read (Err 510))
passes_if P true read so = so refl
passes_if P false read so = lit≤ tt

pub along : {A : Type 0} (P : A → Type 0) (read said : Result A ℕ) → read ≡ said → Passes P read → Passes P said
along {A = A} P read said e = let Q : Result A ℕ → Type 0 = Passes P in subst Q e
