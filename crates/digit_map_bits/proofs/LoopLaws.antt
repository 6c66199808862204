-- Blocks and words, one after the other.
use Rattle.std.proofs.Common.{◌≡◌, ℕ, ◌+◌, ◌<◌, ◌≤◌, Bool, true, false, ◌||◌, List, [], ◌∷◌, ◌++◌, length, take, drop, set, get_or, zero, suc, refl, sym, ap, ◌∙◌, arith, add-one}
use Rattle.std.specs.Prelude.{bit_and}
use Rattle.mg_bytes.specs.declared.letter.Letter.{Letter}
use Rattle.digit_map.specs.declared.block.Block.{Block}
use Rattle.digit_map_bits.specs.Blocks.{taken_bits, led_word, leads_on, led_words, some_bit, ends_some}

-- a block and its word
pub ends_next : (blocks : List Block) (words : List ℕ) (place : ℕ) (block : Block) → place < length words → length words ≡ length blocks
    → ends_some (drop place blocks) (drop place words)
    ≡ (some_bit (bit_and (get_or words place 0) (get_or blocks place block).ends) || ends_some (drop (suc place) blocks) (drop (suc place) words))
unfolding ends_some
ends_next [] [] place block within len = absurd (omega arith)
ends_next [] (w ∷ words) place block within len = absurd (omega arith)
ends_next (b ∷ blocks) [] place block within len = absurd (omega arith)
ends_next (b ∷ blocks) (w ∷ words) zero block within len = refl
ends_next (b ∷ blocks) (w ∷ words) (suc place) block within len = ends_next blocks words place block (omega arith) (omega arith)

pub ends_none : (blocks : List Block) (words : List ℕ) (place : ℕ) → length blocks ≤ place → ends_some (drop place blocks) words ≡ false
unfolding ends_some
ends_none [] words zero past = refl
ends_none [] words (suc place) past = refl
ends_none (b ∷ blocks) words zero past = absurd (omega arith)
ends_none (b ∷ blocks) words (suc place) past = ends_none blocks words place (omega arith)

pub led_next : (letter : Letter) (blocks : List Block) (words : List ℕ) (place : ℕ) (carried : Bool) (block : Block) → place < length words → length words ≡ length blocks
    → take (suc place) (set words place (led_word (taken_bits (get_or blocks place block) letter (get_or words place 0)) (get_or blocks place block).dots carried))
    ++ led_words letter (leads_on (taken_bits (get_or blocks place block) letter (get_or words place 0)) (get_or blocks place block).dots carried) (drop (suc place) blocks)
    (drop (suc place) (set words place (led_word (taken_bits (get_or blocks place block) letter (get_or words place 0)) (get_or blocks place block).dots carried)))
    ≡ take place words ++ led_words letter carried (drop place blocks) (drop place words)
unfolding led_words
led_next letter [] [] place carried block within len = absurd (omega arith)
led_next letter [] (w ∷ words) place carried block within len = absurd (omega arith)
led_next letter (b ∷ blocks) [] place carried block within len = absurd (omega arith)
led_next letter (b ∷ blocks) (w ∷ words) zero carried block within len = refl
led_next letter (b ∷ blocks) (w ∷ words) (suc place) carried block within len =
    ap (λ (x : List ℕ). w ∷ x) (led_next letter blocks words place carried block (omega arith) (omega arith))

pub led_none : (letter : Letter) (blocks : List Block) (words : List ℕ) (place : ℕ) (carried : Bool) → length blocks ≤ place → length words ≡ length blocks
    → take place words ++ led_words letter carried (drop place blocks) (drop place words) ≡ words
unfolding led_words
led_none letter [] [] zero carried past len = refl
led_none letter [] [] (suc place) carried past len = refl
led_none letter [] (w ∷ words) place carried past len = absurd (omega arith)
led_none letter (b ∷ blocks) [] place carried past len = absurd (omega arith)
led_none letter (b ∷ blocks) (w ∷ words) zero carried past len = absurd (omega arith)
led_none letter (b ∷ blocks) (w ∷ words) (suc place) carried past len =
    ap (λ (x : List ℕ). w ∷ x) (led_none letter blocks words place carried (omega arith) (omega arith))

pub ends_by_next : (letter : Letter) (blocks : List Block) (words : List ℕ) (place : ℕ) (carried : Bool) (block : Block) → place < length words → length words ≡ length blocks
    → ends_some (drop place blocks) (led_words letter carried (drop place blocks) (drop place words))
    ≡ (some_bit (bit_and (led_word (taken_bits (get_or blocks place block) letter (get_or words place 0)) (get_or blocks place block).dots carried) (get_or blocks place block).ends)
    || ends_some (drop (suc place) blocks)
    (led_words letter (leads_on (taken_bits (get_or blocks place block) letter (get_or words place 0)) (get_or blocks place block).dots carried) (drop (suc place) blocks) (drop (suc place) words)))
unfolding ends_some led_words
ends_by_next letter [] [] place carried block within len = absurd (omega arith)
ends_by_next letter [] (w ∷ words) place carried block within len = absurd (omega arith)
ends_by_next letter (b ∷ blocks) [] place carried block within len = absurd (omega arith)
ends_by_next letter (b ∷ blocks) (w ∷ words) zero carried block within len = refl
ends_by_next letter (b ∷ blocks) (w ∷ words) (suc place) carried block within len =
    ends_by_next letter blocks words place carried block (omega arith) (omega arith)

-- Loops over blocks: `whole` is what is said of all of them

pub ends_found : (blocks : List Block) (words : List ℕ) (place : ℕ) (block : Block) → place < length blocks → length words ≡ length blocks
    → true ≡ some_bit (bit_and (get_or words place 0) (get_or blocks place block).ends) → ends_some (drop place blocks) (drop place words) ≡ ends_some blocks words
    → true ≡ ends_some blocks words
ends_found blocks words place block within len found so =
    sym (sym so ∙ ends_next blocks words place block (omega arith) len ∙ ap (λ x. x || ends_some (drop (suc place) blocks) (drop (suc place) words)) (sym found))

pub ends_passed : (blocks : List Block) (words : List ℕ) (place : ℕ) (block : Block) → place < length blocks → length words ≡ length blocks
    → false ≡ some_bit (bit_and (get_or words place 0) (get_or blocks place block).ends) → ends_some (drop place blocks) (drop place words) ≡ ends_some blocks words
    → ends_some (drop (place + 1) blocks) (drop (place + 1) words) ≡ ends_some blocks words
ends_passed blocks words place block within len passed so =
    rw add-one
    (ap (λ x. x || ends_some (drop (suc place) blocks) (drop (suc place) words)) passed ∙ sym (ends_next blocks words place block (omega arith) len) ∙ so)

pub ends_over : (blocks : List Block) (words left : List ℕ) (place : ℕ) (whole : Bool) → length blocks ≤ place → ends_some (drop place blocks) left ≡ whole → false ≡ whole
ends_over blocks words left place whole past so = sym (ends_none blocks left place past) ∙ so

pub led_moved : (letter : Letter) (blocks : List Block) (words whole : List ℕ) (place : ℕ) (carried next : Bool) (block : Block) (some word : ℕ)
    → place < length blocks → length words ≡ length blocks → some ≡ taken_bits (get_or blocks place block) letter (get_or words place 0)
    → word ≡ led_word some (get_or blocks place block).dots carried → next ≡ leads_on some (get_or blocks place block).dots carried
    → take place words ++ led_words letter carried (drop place blocks) (drop place words) ≡ whole
    → take (place + 1) (set words place word) ++ led_words letter next (drop (place + 1) blocks) (drop (place + 1) (set words place word)) ≡ whole
led_moved letter blocks words whole place carried next block some word within len s w n so =
    rw (add-one, n, w, s) (led_next letter blocks words place carried block (omega arith) len ∙ so)

pub by_found : (letter : Letter) (blocks : List Block) (words : List ℕ) (place : ℕ) (carried : Bool) (block : Block) (some word : ℕ) (whole : Bool)
    → place < length blocks → length words ≡ length blocks → some ≡ taken_bits (get_or blocks place block) letter (get_or words place 0)
    → word ≡ led_word some (get_or blocks place block).dots carried → true ≡ some_bit (bit_and word (get_or blocks place block).ends)
    → ends_some (drop place blocks) (led_words letter carried (drop place blocks) (drop place words)) ≡ whole → true ≡ whole
by_found letter blocks words place carried block some word whole within len s w found so =
    let e : true ≡ some_bit (bit_and (led_word (taken_bits (get_or blocks place block) letter (get_or words place 0)) (get_or blocks place block).dots carried) (get_or blocks place block).ends) =
    (rw (w, s) at found) in
    sym (sym so ∙ ends_by_next letter blocks words place carried block (omega arith) len
    ∙ ap (λ x. x || ends_some (drop (suc place) blocks)
    (led_words letter (leads_on (taken_bits (get_or blocks place block) letter (get_or words place 0)) (get_or blocks place block).dots carried) (drop (suc place) blocks) (drop (suc place) words))) (sym e))

pub by_passed : (letter : Letter) (blocks : List Block) (words : List ℕ) (place : ℕ) (carried next : Bool) (block : Block) (some word : ℕ) (whole : Bool)
    → place < length blocks → length words ≡ length blocks → some ≡ taken_bits (get_or blocks place block) letter (get_or words place 0)
    → word ≡ led_word some (get_or blocks place block).dots carried → next ≡ leads_on some (get_or blocks place block).dots carried
    → false ≡ some_bit (bit_and word (get_or blocks place block).ends)
    → ends_some (drop place blocks) (led_words letter carried (drop place blocks) (drop place words)) ≡ whole
    → ends_some (drop (place + 1) blocks) (led_words letter next (drop (place + 1) blocks) (drop (place + 1) words)) ≡ whole
by_passed letter blocks words place carried next block some word whole within len s w n passed so =
    let e : false ≡ some_bit (bit_and (led_word (taken_bits (get_or blocks place block) letter (get_or words place 0)) (get_or blocks place block).dots carried) (get_or blocks place block).ends) =
    (rw (w, s) at passed) in
    rw (add-one, n, s)
    (ap (λ x. x || ends_some (drop (suc place) blocks)
    (led_words letter (leads_on (taken_bits (get_or blocks place block) letter (get_or words place 0)) (get_or blocks place block).dots carried) (drop (suc place) blocks) (drop (suc place) words))) e
    ∙ sym (ends_by_next letter blocks words place carried block (omega arith) len) ∙ so)
