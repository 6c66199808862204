-- Drafts of places, one after the other.
use Rattle.std.proofs.Common.{◌≡◌, ℕ, ◌+◌, ◌-◌, ◌*◌, ◌<◌, ◌≤◌, Bool, false, ◌&&◌, List, [], ◌∷◌, ◌++◌, length, take, drop, map, get_or, replicate, Some, None, zero, suc, refl, sym, ap, ◌∙◌, arith, append_assoc, append-nil, add-one, length-drop, lt_of_lt_of_le, pow_mono, true}
use Rattle.std.specs.Prelude.{◌%◌, slice_index_or}
use Rattle.digit_map.specs.Cuts.{positions_of, strings_of}
use Rattle.digit_map.specs.Words.{is_repeated}
use Rattle.digit_map.specs.declared.block.Block.{Block}
use Rattle.digit_map.specs.declared.draft.Draft.{Draft}
use Rattle.digit_map.specs.Places.{Place, places_from, places_in, places_of, blank}
use Rattle.digit_map.specs.Drafts.{bit, bits_by, draft_of, row_of, block_from, blocks_from, words_from}
use Rattle.digit_map.proofs.BitLaws.{bits_small}

-- a chunk of drafts
pub blocks_next : (blocks : List Block) (count done : ℕ) (rest : List Draft) → done < count
    → (blocks ++ block_from (take 32 rest) ∷ []) ++ blocks_from (count - suc done) (drop 32 rest) ≡ blocks ++ blocks_from (count - done) rest
unfolding blocks_from
blocks_next blocks count done rest within =
    let more : count - done ≡ suc (count - suc done) = omega arith in
    rw (more, append_assoc blocks (block_from (take 32 rest) ∷ []) (blocks_from (count - suc done) (drop 32 rest))) refl

pub blocks_none : (count done : ℕ) (rest : List Draft) (blocks : List Block) → count ≤ done → blocks ++ blocks_from (count - done) rest ≡ blocks
unfolding blocks_from
blocks_none count done rest blocks past =
    let none : count - done ≡ zero = omega arith in rw none (append-nil blocks)

pub words_next : (words : List ℕ) (count done : ℕ) (rest : List Draft) → done < count
    → (words ++ row_of 19 (take 32 rest) ∷ []) ++ words_from (count - suc done) (drop 32 rest) ≡ words ++ words_from (count - done) rest
unfolding words_from
words_next words count done rest within =
    let more : count - done ≡ suc (count - suc done) = omega arith in
    rw (more, append_assoc words (row_of 19 (take 32 rest) ∷ []) (words_from (count - suc done) (drop 32 rest))) refl

pub words_none : (count done : ℕ) (rest : List Draft) (words : List ℕ) → count ≤ done → words ++ words_from (count - done) rest ≡ words
unfolding words_from
words_none count done rest words past =
    let none : count - done ≡ zero = omega arith in rw none (append-nil words)

-- Loops over drafts

row_few : (test : ℕ) (drafts : List Draft) (place : ℕ) → 0 < place → length drafts ≤ 32 → row_of test (drop place drafts) < 2147483648
row_few test drafts place some few =
    let short : length (drop place drafts) ≤ 31 = omega (arith, length-drop place drafts) in
    lt_of_lt_of_le (bits_small (λ draft. slice_index_or draft.tests test false) (drop place drafts)) (pow_mono {i = length (drop place drafts)} short)

pub row_doubled : (test : ℕ) (drafts : List Draft) (place row : ℕ) → row ≡ row_of test (drop place drafts) → 0 < place → length drafts ≤ 32 → row < 2147483648
row_doubled test drafts place row e some few = rw e (row_few test drafts place some few)

bits_drop : (test : Draft → Bool) (drafts : List Draft) (place : ℕ) (draft : Draft) → place < length drafts
    → bits_by test (drop (suc place) drafts) * 2 + bit (test (get_or drafts place draft)) ≡ bits_by test (drop place drafts)
unfolding bits_by
bits_drop test [] place draft within = absurd (omega arith)
bits_drop test (d ∷ drafts) zero draft within = refl
bits_drop test (d ∷ drafts) (suc place) draft within = bits_drop test drafts place draft (omega arith)

pub row_more : (test : ℕ) (drafts : List Draft) (place row b : ℕ) (draft : Draft) → 0 < place → place ≤ length drafts → row ≡ row_of test (drop place drafts)
    → b ≡ bit (get_or (get_or drafts (place - 1) draft).tests test false) → row * 2 + b ≡ row_of test (drop (place - 1) drafts)
row_more test drafts zero row b draft some within r e = absurd (omega arith)
row_more test drafts (suc place) row b draft some within r e =
    let before : suc place - 1 ≡ place = omega arith in
    rw (e, r, before) (bits_drop (λ d. slice_index_or d.tests test false) drafts place draft (omega arith))

map_both : (xs ys : List Place) → map draft_of (xs ++ ys) ≡ map draft_of xs ++ map draft_of ys
map_both [] ys = refl
map_both (x ∷ xs) ys = ap (λ (ds : List Draft). draft_of x ∷ ds) (map_both xs ys)

pub position_added : (drafts added : List Draft) (whole : List Draft) (draft : Draft) (position : List ℕ) (rest : List (List ℕ)) (live next : Bool)
    → added ≡ drafts ++ draft ∷ [] → draft ≡ draft_of (record { ahead = Some position; live = live }) → next ≡ (live && is_repeated position)
    → drafts ++ map draft_of (places_from live (position ∷ rest)) ≡ whole → added ++ map draft_of (places_from next rest) ≡ whole
unfolding places_from
position_added drafts added whole draft position rest live next a d n so =
    rw (a, n, d) (append_assoc drafts (draft_of (record { ahead = Some position; live = live }) ∷ []) (map draft_of (places_from (live && is_repeated position) rest)) ∙ so)

pub end_added : (drafts added whole : List Draft) (draft : Draft) (live : Bool)
    → added ≡ drafts ++ draft ∷ [] → draft ≡ draft_of (record { ahead = None; live = live }) → drafts ++ map draft_of (places_from live []) ≡ whole → added ≡ whole
unfolding places_from
end_added drafts added whole draft live a d so = rw (a, d) so

pub string_added : (drafts added whole : List Draft) (string : List ℕ) (rest : List (List ℕ))
    → added ≡ drafts ++ map draft_of (places_from true (positions_of string)) → drafts ++ map draft_of (places_in (string ∷ rest)) ≡ whole
    → added ++ map draft_of (places_in rest) ≡ whole
unfolding places_in
string_added drafts added whole string rest a so =
    rw (a, append_assoc drafts (map draft_of (places_from true (positions_of string))) (map draft_of (places_in rest)), ← map_both (places_from true (positions_of string)) (places_in rest)) so

pub strings_added : (drafts whole : List Draft) → drafts ++ map draft_of (places_in []) ≡ whole → drafts ≡ whole
unfolding places_in
strings_added drafts whole so = sym (append-nil drafts) ∙ so

blank_drafts : (count : ℕ) → map draft_of (replicate count blank) ≡ replicate count (draft_of blank)
blank_drafts zero = refl
blank_drafts (suc count) = ap (λ (x : List Draft). draft_of blank ∷ x) (blank_drafts count)

length_drafts : (places : List Place) → length (map draft_of places) ≡ length places
length_drafts [] = refl
length_drafts (place ∷ places) = ap suc (length_drafts places)

pub all_added : (text : List ℕ) (count : ℕ) (drafts : List Draft) → count ≡ 32 - length (map draft_of (places_in (strings_of text))) % 32
    → drafts ≡ map draft_of (places_in (strings_of text)) ++ replicate count (draft_of blank) → drafts ≡ map draft_of (places_of text)
unfolding places_of
all_added text count drafts n so =
    so ∙ ap (λ (m : ℕ). map draft_of (places_in (strings_of text)) ++ replicate m (draft_of blank)) (n ∙ ap (λ (m : ℕ). 32 - m % 32) (length_drafts (places_in (strings_of text))))
    ∙ ap (λ (x : List Draft). map draft_of (places_in (strings_of text)) ++ x) (sym (blank_drafts (32 - length (places_in (strings_of text)) % 32)))
    ∙ sym (map_both (places_in (strings_of text)) (replicate (32 - length (places_in (strings_of text)) % 32) blank))

pub block_pushed : (blocks added whole : List Block) (block : Block) (count done : ℕ) (rest front behind : List Draft) → done < count
    → added ≡ blocks ++ block ∷ [] → block ≡ block_from front → front ≡ take 32 rest → behind ≡ drop 32 rest → blocks ++ blocks_from (count - done) rest ≡ whole
    → added ++ blocks_from (count - (done + 1)) behind ≡ whole
block_pushed blocks added whole block count done rest front behind within a b f e so =
    rw (add-one, a, b, f, e) (blocks_next blocks count done rest within ∙ so)

pub word_pushed : (words added whole : List ℕ) (word : ℕ) (count done : ℕ) (rest front behind : List Draft) → done < count
    → added ≡ words ++ word ∷ [] → word ≡ row_of 19 front → front ≡ take 32 rest → behind ≡ drop 32 rest → words ++ words_from (count - done) rest ≡ whole
    → added ++ words_from (count - (done + 1)) behind ≡ whole
word_pushed words added whole word count done rest front behind within a b f e so =
    rw (add-one, a, b, f, e) (words_next words count done rest within ∙ so)
