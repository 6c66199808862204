-- What is read up to a limit, and what it says of the whole input.
use Rattle.std.proofs.Common.{◌≡◌, ℕ, ◌≤◌, List, [], ◌++◌, length, take, Option, Some, None, IfSome, sym, ◌∙◌, ap, subst, append_assoc, append-nil, take_all}
use Rattle.std.proofs.Math.Seq.{take-append_seam}
use Rattle.std.proofs.lemmas.List.{take-append-le}
use Rattle.std.specs.Io.KnownBytes.{Consumes, Keeps, IsAtEnd}

pub consumes_then : (a b c : Option (List ℕ)) (xs ys : List ℕ) → Consumes a b xs → Consumes b c ys → Consumes a c (xs ++ ys)
consumes_then None b c xs ys h k = tt
consumes_then (Some x) None c xs ys h k = absurd h
consumes_then (Some x) (Some y) None xs ys h k = absurd k
consumes_then (Some x) (Some y) (Some z) xs ys h k = h ∙ ap (λ l. xs ++ l) k ∙ sym (append_assoc xs ys z)

pub full : (a b : Option (List ℕ)) (text : List ℕ) (n : ℕ) → Consumes a b text → length text ≡ n → IfSome a (λ input. text ≡ take n input)
full None b text n h e = tt
full (Some x) None text n h e = absurd h
full (Some x) (Some y) text n h e = rw (h, ← e) (sym (take-append_seam text y))

pub at_end : (a b : Option (List ℕ)) (text : List ℕ) (n : ℕ) → Consumes a b text → IsAtEnd b → length text ≤ n → IfSome a (λ input. text ≡ take n input)
at_end None b text n h e l = tt
at_end (Some x) None text n h e l = absurd h
at_end (Some x) (Some y) text n h e l =
    let same : x ≡ text = h ∙ ap (λ r. text ++ r) e ∙ append-nil text in
    rw same (sym (take_all n text l))

-- after a round that gave no bytes
pub ended : (a b c : Option (List ℕ)) (text buf : List ℕ) (n : ℕ) → Consumes a b text → Consumes b c (take 0 buf) → IsAtEnd c → length text ≤ n → IfSome a (λ input. text ≡ take n input)
ended a b c text buf n h k e l =
    let all : Consumes a c text = subst (Consumes a c) (append-nil text) (consumes_then a b c text [] h k) in
    at_end a c text n all e l

-- a round that gave n bytes
pub more : (a b c : Option (List ℕ)) (text new buf rest : List ℕ) (n : ℕ) → Consumes a b text → Consumes b c (take n buf) → n ≤ length buf → new ≡ text ++ take n (buf ++ rest) → Consumes a c new
more a b c text new buf rest n h k l e =
    let same : new ≡ text ++ take n buf = e ∙ ap (λ x. text ++ x) (take-append-le n buf rest l) in
    subst (Consumes a c) (sym same) (consumes_then a b c text (take n buf) h k)

-- a round that was interrupted
pub kept : (a b c : Option (List ℕ)) (text : List ℕ) → Consumes a b text → Keeps b c → Consumes a c text
kept None b c text h k = tt
kept (Some x) None c text h k = absurd h
kept (Some x) (Some y) None text h k = absurd k
kept (Some x) (Some y) (Some z) text h k = h ∙ ap (λ l. text ++ l) (sym k)
