-- The places of a map, 32 in a block: a word of bits for each letter, one for dots and one for ends.
--
-- Nobody has to believe what stands here either (`Places`). Contracts name it to say what is kept from call to call, and
-- what a matcher says is said without it.
use Rattle.std.specs.Prelude.{◌≡◌, ℕ, ◌+◌, ◌%◌, ◌/◌, nat_le, nat_eq, not, if◌then◌else◌, Bool, true, false, ◌||◌}
use Rattle.std.specs.Prelude.{List, [], ◌∷◌, map, length, take, drop, slice_index}
use Rattle.std.specs.Prelude.{bit_and, bit_or, bit_xor, suc, zero}
use Rattle.std.specs.List.{list_any}
use Rattle.digit_map.specs.Spelling.{is_map}
use Rattle.mg_bytes.specs.declared.letter.Letter.{Letter}
use Rattle.mg_bytes.specs.declared.letter.Letter.TheVariants.{Zero, One, Two, Three, Four, Five, Six, Seven, Eight}
use Rattle.mg_bytes.specs.declared.letter.Letter.TheVariants.{Nine, Star, Hash, A, B, C, D, Timer}
use Rattle.mg_bytes.specs.Letter.{all_letters}
use Rattle.digit_map.specs.declared.block.Block.{Block}
pub use Rattle.digit_map.specs.Drafts.{bit, draft_of, row_of, block_from}
unfoldable pub use Rattle.digit_map.specs.Drafts.{bits_by, blocks_from, words_from}
use Rattle.digit_map.specs.declared.verdict.Verdict.{Verdict}
use Rattle.digit_map.specs.declared.verdict.Verdict.TheVariants.{Perfect, Partial, Impossible}
use Rattle.digit_map_bits.specs.Places.{Place, takes, repeats, is_end, places_of, places_after}

-- where a letter stands among all letters
abbrev pub index_of : Letter → ℕ
index_of Zero = 0
index_of One = 1
index_of Two = 2
index_of Three = 3
index_of Four = 4
index_of Five = 5
index_of Six = 6
index_of Seven = 7
index_of Eight = 8
index_of Nine = 9
index_of Star = 10
index_of Hash = 11
index_of A = 12
index_of B = 13
index_of C = 14
index_of D = 15
index_of Timer = 16

-- the words of a block: for each letter the places that take it, those before a position with a dot, those at an end
abbrev pub block_of : List Place → Block
block_of places = record {
  letters = map (λ letter. bits_by (λ place. takes place.ahead letter) places) all_letters;
  dots = bits_by (λ place. repeats place.ahead) places;
  ends = bits_by (λ place. is_end place.ahead) places;
}

-- the live places of a block
abbrev pub word_of : List Place → ℕ
word_of places = bits_by (λ place. place.live) places

-- so many blocks of places
unfoldable pub blocks_of : ℕ → List Place → List Block
blocks_of zero places = []
blocks_of (suc count) places = block_of (take 32 places) ∷ blocks_of count (drop 32 places)

unfoldable pub words_of : ℕ → List Place → List ℕ
words_of zero places = []
words_of (suc count) places = word_of (take 32 places) ∷ words_of count (drop 32 places)

-- how many blocks places have
abbrev pub count_of : List Place → ℕ
count_of places = length places / 32

-- A letter moves bits

-- those of a word's bits at which the block takes a letter
abbrev pub taken_bits : Block → Letter → ℕ → ℕ
taken_bits block letter word = bit_and word (slice_index block.letters (index_of letter))

-- the carries of an addition: a carry goes on from a place that takes the letter, and through a dot
abbrev pub carries : ℕ → ℕ → Bool → ℕ
carries taken dots carried = bit_xor (bit_xor (bit_or taken dots + taken + bit carried) (bit_or taken dots)) taken

-- the places that are led to: by a carry, or back by a dot
abbrev pub led_word : ℕ → ℕ → Bool → ℕ
led_word taken dots carried = bit_or (carries taken dots carried % 4294967296) (bit_and taken dots)

-- whether the next block's first place is led to
abbrev pub leads_on : ℕ → ℕ → Bool → Bool
leads_on taken dots carried = nat_le 4294967296 (carries taken dots carried)

unfoldable pub led_words : Letter → Bool → List Block → List ℕ → List ℕ
led_words letter carried [] words = []
led_words letter carried (block ∷ blocks) [] = []
led_words letter carried (block ∷ blocks) (word ∷ words) =
    led_word (taken_bits block letter word) block.dots carried
    ∷ led_words letter (leads_on (taken_bits block letter word) block.dots carried) blocks words

-- some bit is set
abbrev pub some_bit : ℕ → Bool
some_bit word = not (nat_eq word 0)

-- a live place is one at an end
unfoldable pub ends_some : List Block → List ℕ → Bool
ends_some [] words = false
ends_some (block ∷ blocks) [] = false
ends_some (block ∷ blocks) (word ∷ words) = some_bit (bit_and word block.ends) || ends_some blocks words

-- the words of the places behind letters
unfoldable pub words_after : List ℕ → List Letter → List ℕ
words_after text letters = words_of (count_of (places_of text)) (places_after text letters)

-- how far letters have come, by the words of the places that they lead to
unfoldable pub verdict_at : List Block → List ℕ → Verdict
verdict_at blocks words =
    if ends_some blocks words then Perfect else (if list_any some_bit words then Partial else Impossible)

-- what a matcher keeps of its map: its blocks, the words before any letter, and as many words
pub record IsCompiled (text : List ℕ) (blocks : List Block) (begun words : List ℕ) : Type 0 where
  pub spelled : is_map text ≡ true
  pub blocks_are : blocks ≡ blocks_of (count_of (places_of text)) (places_of text)
  pub begun_are : begun ≡ words_after text []
  pub begun_len : length begun ≡ length blocks
  pub words_len : length words ≡ length blocks
