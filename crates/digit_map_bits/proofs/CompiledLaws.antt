-- What a matcher of bits says is what the map says.
use Rattle.std.proofs.Common.{◌≡◌, ◌↔◌, ℕ, ◌*◌, ◌/◌, Bool, true, false, ◌&&◌, List, [], ◌∷◌, ◌++◌, length, map, zero, suc, refl, sym, ap, ◌∙◌}
use Rattle.std.specs.List.{list_any}
use Rattle.mg_bytes.specs.declared.letter.Letter.{Letter}
use Rattle.mg_bytes.specs.declared.letter.Letter.TheVariants.{Timer}
use Rattle.digit_map.specs.declared.block.Block.{Block}
use Rattle.digit_map.specs.declared.draft.Draft.{Draft}
use Rattle.digit_map.specs.declared.verdict.Verdict.{Verdict}
use Rattle.digit_map.specs.Spelling.{is_map}
use Rattle.digit_map.specs.Words.{IsWord}
use Rattle.digit_map.specs.Verdict.{VerdictIs, IsCritical, verdict_of, is_critical}
use Rattle.digit_map_bits.specs.Places.{Place, is_end, led_by, places_of, places_after}
use Rattle.digit_map_bits.specs.Blocks.{blocks_of, words_of, count_of, led_words, some_bit, ends_some, verdict_at, words_after, draft_of, blocks_from, words_from}
use Rattle.digit_map.proofs.VerdictLaws.{verdict_is, critical_computed}
use Rattle.digit_map_bits.proofs.MarkLaws.{word_after, begun_after, after_more, critical_after}
use Rattle.digit_map_bits.proofs.BlockLaws.{length_after, whole_blocks, blocks_after, led_blocks, ends_blocks, live_blocks, blocks_drafts, words_drafts}

-- the places behind letters fill their blocks
after_whole : (text : List ℕ) (letters : List Letter) → length (places_after text letters) ≡ 32 * count_of (places_of text)
after_whole text letters = length_after text letters ∙ whole_blocks text

-- a letter moves the words
pub words_more : (text : List ℕ) (letters : List Letter) (letter : Letter)
    → led_words letter false (blocks_of (count_of (places_of text)) (places_of text)) (words_after text letters) ≡ words_after text (letters ++ letter ∷ [])
unfolding words_after
words_more text letters letter =
    let count : ℕ = count_of (places_of text) in
    ap (λ (x : List Block). led_words letter false x (words_of count (places_after text letters))) (sym (blocks_after count text letters))
    ∙ led_blocks letter false count (places_after text letters) (after_whole text letters)
    ∙ ap (words_of count) (sym (after_more text letters letter))

-- the words say how far the letters have come
ends_after : (text : List ℕ) (letters : List Letter)
    → ends_some (blocks_of (count_of (places_of text)) (places_of text)) (words_after text letters) ≡ list_any (λ place. place.live && is_end place.ahead) (places_after text letters)
unfolding words_after
ends_after text letters =
    let count : ℕ = count_of (places_of text) in
    ap (λ (x : List Block). ends_some x (words_of count (places_after text letters))) (sym (blocks_after count text letters))
    ∙ ends_blocks count (places_after text letters) (after_whole text letters)

live_after : (text : List ℕ) (letters : List Letter) → list_any some_bit (words_after text letters) ≡ list_any (λ place. place.live) (places_after text letters)
unfolding words_after
live_after text letters = live_blocks (count_of (places_of text)) (places_after text letters) (after_whole text letters)

pub verdict_after : (text : List ℕ) (letters : List Letter)
    → verdict_at (blocks_of (count_of (places_of text)) (places_of text)) (words_after text letters) ≡ verdict_of text letters
unfolding verdict_at verdict_of
verdict_after text letters =
    rw (ends_after text letters, word_after text letters, live_after text letters, begun_after text letters) refl

pub timer_after : (text : List ℕ) (letters : List Letter)
    → ends_some (blocks_of (count_of (places_of text)) (places_of text))
    (led_words Timer false (blocks_of (count_of (places_of text)) (places_of text)) (words_after text letters)) ≡ is_critical text letters
timer_after text letters =
    ap (ends_some (blocks_of (count_of (places_of text)) (places_of text))) (words_more text letters Timer)
    ∙ ends_after text (letters ++ Timer ∷ [])
    ∙ ap (list_any (λ place. place.live && is_end place.ahead)) (after_more text letters Timer) ∙ critical_after text letters

-- the same of what a matcher keeps

pub told_value : (held text : List ℕ) (blocks : List Block) (words : List ℕ) (letters : List Letter) (letter : Letter) (told : Verdict)
    → blocks ≡ blocks_of (count_of (places_of held)) (places_of held) → held ≡ text → words ≡ words_after text letters
    → told ≡ verdict_at blocks (led_words letter false blocks words) → told ≡ verdict_of text (letters ++ letter ∷ [])
told_value held text blocks words letters letter told are is w t =
    let here : blocks ≡ blocks_of (count_of (places_of text)) (places_of text) = rw is at are in
    rw (t, w, here, words_more text letters letter) (verdict_after text (letters ++ letter ∷ []))

pub told_verdict : (held text : List ℕ) (blocks : List Block) (words : List ℕ) (letters : List Letter) (letter : Letter) (told : Verdict) → is_map held ≡ true
    → blocks ≡ blocks_of (count_of (places_of held)) (places_of held) → held ≡ text → words ≡ words_after text letters
    → told ≡ verdict_at blocks (led_words letter false blocks words) → VerdictIs (IsWord text) (letters ++ letter ∷ []) told
told_verdict held text blocks words letters letter told spelled are is w t =
    let here : is_map text ≡ true = rw is at spelled in
    rw (told_value held text blocks words letters letter told are is w t) (verdict_is text (letters ++ letter ∷ []) here)

pub told_words : (held text : List ℕ) (blocks : List Block) (words new : List ℕ) (letters : List Letter) (letter : Letter)
    → blocks ≡ blocks_of (count_of (places_of held)) (places_of held) → held ≡ text → words ≡ words_after text letters
    → new ≡ led_words letter false blocks words → new ≡ words_after text (letters ++ letter ∷ [])
told_words held text blocks words new letters letter are is w n =
    let here : blocks ≡ blocks_of (count_of (places_of text)) (places_of text) = rw is at are in
    rw (n, w, here) (words_more text letters letter)

pub told_critical : (held text : List ℕ) (blocks : List Block) (words : List ℕ) (letters : List Letter) (told : Bool)
    → blocks ≡ blocks_of (count_of (places_of held)) (places_of held) → held ≡ text → words ≡ words_after text letters
    → told ≡ ends_some blocks (led_words Timer false blocks words) → told ≡ is_critical text letters
told_critical held text blocks words letters told are is w t =
    let here : blocks ≡ blocks_of (count_of (places_of text)) (places_of text) = rw is at are in
    rw (t, w, here) (timer_after text letters)

pub told_is_critical : (held text : List ℕ) (blocks : List Block) (words : List ℕ) (letters : List Letter) (told : Bool)
    → blocks ≡ blocks_of (count_of (places_of held)) (places_of held) → held ≡ text → words ≡ words_after text letters
    → told ≡ ends_some blocks (led_words Timer false blocks words) → (told ≡ true) ↔ IsCritical (IsWord text) letters
told_is_critical held text blocks words letters told are is w t =
    rw (told_critical held text blocks words letters told are is w t) ((critical_computed text letters).1, (critical_computed text letters).0)

-- as many words as blocks

count_blocks : (count : ℕ) (places : List Place) → length (blocks_of count places) ≡ count
unfolding blocks_of
count_blocks zero places = refl
count_blocks (suc count) places = ap suc (count_blocks count _)

count_words : (count : ℕ) (places : List Place) → length (words_of count places) ≡ count
unfolding words_of
count_words zero places = refl
count_words (suc count) places = ap suc (count_words count _)

pub length_words : (text : List ℕ) (letters : List Letter) → length (words_after text letters) ≡ length (blocks_of (count_of (places_of text)) (places_of text))
unfolding words_after
length_words text letters =
    count_words (count_of (places_of text)) (places_after text letters) ∙ sym (count_blocks (count_of (places_of text)) (places_of text))

-- at the start

length_drafts : (places : List Place) → length (map draft_of places) ≡ length places
length_drafts [] = refl
length_drafts (place ∷ places) = ap suc (length_drafts places)

pub started_blocks : (held text : List ℕ) (slice drafts : List Draft) (blocks : List Block) → slice ≡ drafts → drafts ≡ map draft_of (places_of text) → text ≡ held
    → blocks ≡ blocks_from (length slice / 32) slice → blocks ≡ blocks_of (count_of (places_of held)) (places_of held)
started_blocks held text slice drafts blocks s d t b =
    rw (b, s, d, t, length_drafts (places_of held)) (blocks_drafts (count_of (places_of held)) (places_of held))

pub started_words : (held text : List ℕ) (slice drafts : List Draft) (words : List ℕ) → slice ≡ drafts → drafts ≡ map draft_of (places_of text) → text ≡ held
    → words ≡ words_from (length slice / 32) slice → words ≡ words_after held []
unfolding words_after places_after led_by
started_words held text slice drafts words s d t w =
    rw (w, s, d, t, length_drafts (places_of held)) (words_drafts (count_of (places_of held)) (places_of held))

pub started_len : (held : List ℕ) (words : List ℕ) (blocks : List Block) → words ≡ words_after held [] → blocks ≡ blocks_of (count_of (places_of held)) (places_of held)
    → length words ≡ length blocks
started_len held words blocks w b = rw (w, b) (length_words held [])
