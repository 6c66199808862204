-- The words of a header, with their checksum in its place, add up to all bits set.
use Rattle.std.proofs.Common.{◌≡◌, ℕ, ◌+◌, ◌-◌, ◌≤◌, List, [], ◌∷◌, ◌++◌, refl, ap, ◌∙◌, arith}
use Rattle.std.specs.Prelude.{All, fold}
use Rattle.std.specs.List.{AllByRecursion}
use Rattle.std.specs.Net.Addr.{segments_of}
use Rattle.std.proofs.lemmas.Bool.Decides.{nat_tests}
use Rattle.std.proofs.lemmas.List.Elements.{recursion_from_All}
use Rattle.log_format.specs.Checksum.{ones_plus, ones_sum, checksum_of}
use Rattle.log_format.specs.Packet.{header_words}

abbrev IsWord : ℕ → Type 0
IsWord word = word ≤ 65535

-- a sum of words is a word
small : (a b : ℕ) → a ≤ 65535 → b ≤ 65535 → ones_plus a b ≤ 65535
small a b h k = grind (arith, nat_tests)

-- words may be added in either order
turned : (s a b : ℕ) → s ≤ 65535 → a ≤ 65535 → b ≤ 65535 → ones_plus (ones_plus s a) b ≡ ones_plus (ones_plus s b) a
turned s a b h k l = grind (arith, nat_tests)

-- 0 adds nothing
kept : (s : ℕ) → s ≤ 65535 → ones_plus s 0 ≡ s
kept s h = grind (arith, nat_tests)

-- a word and its complement are all bits set
full : (s : ℕ) → s ≤ 65535 → ones_plus s (65535 - s) ≡ 65535
full s h = grind (arith, nat_tests)

sum_small : (s : ℕ) (words : List ℕ) → s ≤ 65535 → AllByRecursion IsWord words → fold ones_plus s words ≤ 65535
sum_small s [] h each = h
sum_small s (word ∷ words) h each = sum_small (ones_plus s word) words (small s word h each.0) each.1

-- a word that is added before others may be added behind them
moved : (s c : ℕ) (words : List ℕ) → s ≤ 65535 → c ≤ 65535 → AllByRecursion IsWord words
    → fold ones_plus (ones_plus s c) words ≡ ones_plus (fold ones_plus s words) c
moved s c [] h k each = refl
moved s c (word ∷ words) h k each =
    ap (λ (t : ℕ). fold ones_plus t words) (turned s c word h k each.0)
    ∙ moved (ones_plus s word) c words (small s word h each.0) k each.1

-- words before a checksum that add up to s, and words behind it
checked : (s : ℕ) (words : List ℕ) → s ≤ 65535 → AllByRecursion IsWord words
    → fold ones_plus (ones_plus s (65535 - fold ones_plus (ones_plus s 0) words)) words ≡ 65535
checked s words h each =
    let sum : ℕ = fold ones_plus s words in
    let within : sum ≤ 65535 = sum_small s words h each in
    let same : 65535 - fold ones_plus (ones_plus s 0) words ≡ 65535 - sum = ap (λ (t : ℕ). 65535 - fold ones_plus t words) (kept s h) in
    ap (λ (c : ℕ). fold ones_plus (ones_plus s c) words) same ∙ moved s (65535 - sum) words h (omega arith) each ∙ full sum within

pub receiver : (total : ℕ) (source destination : List ℕ) → total ≤ 65535 → All (λ word. word ≤ 65535) (segments_of source ++ segments_of destination)
    → ones_sum (header_words total source destination (checksum_of (header_words total source destination 0))) ≡ 65535
unfolding checksum_of
receiver total source destination h each =
    let front : List ℕ = 0x4500 ∷ total ∷ 0 ∷ 0x4000 ∷ 0x4011 ∷ [] in
    let words : List ℕ = segments_of source ++ segments_of destination in
    let small_front : fold ones_plus 0 front ≤ 65535 = sum_small 0 front (omega arith) (omega arith, (h, (omega arith, (omega arith, (omega arith, tt))))) in
    checked (fold ones_plus 0 front) words small_front (recursion_from_All IsWord words each)
