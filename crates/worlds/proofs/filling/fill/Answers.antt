use Rattle.std.proofs.Common.{◌≡◌, ◌≤◌, ◌++◌, ℕ, List, length, take, min, ◌∙◌, ap, subst, arith}
use Rattle.std.proofs.Math.Seq.{take-append_seam}
use Rattle.std.proofs.lemmas.List.{length-take-le, take_min}
use Rattle.worlds.proofs.filling.fill.Goals as goal

filled : (n m : ℕ) (bytes rest : List ℕ) → n ≡ min m (length bytes) → take n (take n bytes ++ rest) ≡ take m bytes
filled n m bytes rest is =
    let long : length (take n bytes) ≡ n = length-take-le n bytes (omega (arith, is)) in
    let seam : take n (take n bytes ++ rest) ≡ take n bytes = subst (λ k. take k (take n bytes ++ rest) ≡ take n bytes) long (take-append_seam (take n bytes) rest) in
    seam ∙ ap (λ k. take k bytes) is ∙ take_min m bytes

pub returns-clause-bytes : goal.returns-clause-bytes
returns-clause-bytes c =
    let is : c.min-len.result ≡ min 4001 (length c.args.bytes.now) = omega (arith, c.min-len.ensures, c.requires) in
    rw c.copy_from_slice.ensures.after (filled c.min-len.result 4001 c.args.bytes.now _ is)
