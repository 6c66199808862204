-- What the code holds of the places of a map while it makes bits of them, 32 places in a block: a word of bits for each letter,
-- one for dots and one for ends.
--
-- Nobody has to believe what stands here either (`Places`).
use Rattle.std.specs.Prelude.{ℕ, ◌+◌, ◌*◌, Bool, true, false, List, [], ◌∷◌, ◌++◌, map, take, drop, slice_index_or, suc, zero}
use Rattle.mg_bytes.specs.Letter.{all_letters}
use Rattle.digit_map.specs.declared.block.Block.{Block}
use Rattle.digit_map.specs.declared.draft.Draft.{Draft}
use Rattle.digit_map.specs.Places.{Place, takes, repeats, is_end}

-- Bits

abbrev pub bit : Bool → ℕ
bit true = 1
bit false = 0

-- the number that has a bit for each value, the first the lowest
unfoldable pub bits_by : {X : Type 0} → (X → Bool) → List X → ℕ
bits_by test [] = 0
bits_by test (x ∷ xs) = bits_by test xs * 2 + bit (test x)

-- a place by itself: its test for each letter, for a dot, for an end, and whether it is live
abbrev pub draft_of : Place → Draft
draft_of place = record {
  tests = map (takes place.ahead) all_letters ++ repeats place.ahead ∷ is_end place.ahead ∷ place.live ∷ [];
}

-- the bits of one test
abbrev pub row_of : ℕ → List Draft → ℕ
row_of test drafts = bits_by (λ draft. slice_index_or draft.tests test false) drafts

abbrev pub block_from : List Draft → Block
block_from drafts = record {
  letters =
      row_of 0 drafts ∷ row_of 1 drafts ∷ row_of 2 drafts ∷ row_of 3 drafts ∷ row_of 4 drafts ∷ row_of 5 drafts
      ∷ row_of 6 drafts ∷ row_of 7 drafts ∷ row_of 8 drafts ∷ row_of 9 drafts ∷ row_of 10 drafts ∷ row_of 11 drafts
      ∷ row_of 12 drafts ∷ row_of 13 drafts ∷ row_of 14 drafts ∷ row_of 15 drafts ∷ row_of 16 drafts ∷ [];
  dots = row_of 17 drafts;
  ends = row_of 18 drafts;
}

-- so many blocks of drafts, and the words of those that are live
unfoldable pub blocks_from : ℕ → List Draft → List Block
blocks_from zero drafts = []
blocks_from (suc count) drafts = block_from (take 32 drafts) ∷ blocks_from count (drop 32 drafts)

unfoldable pub words_from : ℕ → List Draft → List ℕ
words_from zero drafts = []
words_from (suc count) drafts = row_of 19 (take 32 drafts) ∷ words_from count (drop 32 drafts)
