-- Descriptions can be written: one by itself, and two with an empty line between them.
use Rattle.std.proofs.Common.{◌≡◌, ℕ, ◌-◌, true, false, List, [], ◌∷◌, ◌++◌, length, get_or, map, codes, Some, refl, ap, ◌∙◌, append-nil, inl, inr}
use Rattle.std.proofs.lemmas.Grind.{flat_map-append}
use Rattle.std.proofs.lemmas.List.{map-append}
use Rattle.std.specs.Prelude.{slice_get}
use Rattle.std.specs.List.{flat_map, list_all, list_any}
use Rattle.std.specs.Str.{bytes_eq}
use Rattle.std.proofs.lemmas.List.Folds.{list_any-append}
use Rattle.std.proofs.lemmas.Slice.Eq.{bytes_eq-Decides}
use Rattle.mg_bytes.specs.Blanks.{trimmed, trimmed_end}
use Rattle.mg_bytes.specs.Lines.{cut, line_of, lines_of, is_line_feed, is_dot_line, crlf, ended}
use Rattle.mg_bytes.proofs.CutLemmas.{cut_append, cut_ended, ends_append}
use Rattle.mgcp_text.specs.Reading.{is_empty_line}
use Rattle.mgcp_text.specs.Writing.{is_writable_body}
use Rattle.audits.specs.Writing.{IsDescription}

pub body_writable : (text : List ℕ) → IsDescription text → is_writable_body text ≡ true
unfolding is_writable_body
body_writable [] is = refl
body_writable (b ∷ bs) is =
    let same : bytes_eq (flat_map ended (lines_of (b ∷ bs))) (b ∷ bs) ≡ true = (bytes_eq-Decides (flat_map ended (lines_of (b ∷ bs))) (b ∷ bs)).1 is.whole in
    rw (same, some_line (cut (b ∷ bs)) is.first, is.dotless) refl where
      some_line : (pieces : List (List ℕ)) → slice_get (map line_of pieces) 0 ≡ Some (codes "v=0") → list_all is_empty_line pieces ≡ false
      some_line [] e = absurd cc
      some_line (piece ∷ pieces) e = let line : line_of piece ≡ codes "v=0" = cc in rw line refl

-- lines with their ends, of which there are some, end in a line feed
lines_end : (line : List ℕ) (lines : List (List ℕ))
    → is_line_feed (get_or (flat_map ended (line ∷ lines)) (length (flat_map ended (line ∷ lines)) - 1) 0) ≡ true
lines_end line [] = rw append-nil (ends_append line crlf refl)
lines_end line (next ∷ lines) = ends_append (ended line) (flat_map ended (next ∷ lines)) (lines_end next lines)

whole_end : (text : List ℕ) (lines : List (List ℕ)) → flat_map ended lines ≡ text → slice_get lines 0 ≡ Some (codes "v=0")
    → is_line_feed (get_or text (length text - 1) 0) ≡ true
whole_end text [] whole first = absurd cc
whole_end text (line ∷ lines) whole first = rw (← whole) (lines_end line lines)

-- what both are cut into
crlf_line : line_of crlf ≡ []
unfolding trimmed trimmed_end
crlf_line = refl

cut_both : (text more : List ℕ) → IsDescription text → cut (text ++ (crlf ++ more)) ≡ cut text ++ (crlf ∷ cut more)
cut_both text more is =
    cut_append text (crlf ++ more) (whole_end text (lines_of text) is.whole is.first)
    ∙ ap (λ pieces. cut text ++ pieces) (cut_ended crlf more (inr (refl, inl (refl, refl))))

lines_both : (text more : List ℕ) → IsDescription text → lines_of (text ++ (crlf ++ more)) ≡ lines_of text ++ ([] ∷ lines_of more)
lines_both text more is =
    ap (map line_of) (cut_both text more is) ∙ map-append line_of (cut text) (crlf ∷ cut more)
    ∙ ap (λ line. lines_of text ++ (line ∷ lines_of more)) crlf_line

first_stays : (lines more : List (List ℕ)) → slice_get lines 0 ≡ Some (codes "v=0") → slice_get (lines ++ more) 0 ≡ Some (codes "v=0")
first_stays [] more first = absurd cc
first_stays (line ∷ lines) more first = first

both_whole : (text more : List ℕ) → IsDescription text → IsDescription more
    → flat_map ended (lines_of (text ++ (crlf ++ more))) ≡ text ++ (crlf ++ more)
both_whole text more is are =
    ap (flat_map ended) (lines_both text more is)
    ∙ flat_map-append ended (lines_of text) ([] ∷ lines_of more)
    ∙ ap (λ front. front ++ flat_map ended ([] ∷ lines_of more)) is.whole
    ∙ ap (λ back. text ++ (crlf ++ back)) are.whole

both_dotless : (text more : List ℕ) → IsDescription text → IsDescription more → list_any is_dot_line (cut (text ++ (crlf ++ more))) ≡ false
both_dotless text more is are =
    let empty : is_dot_line crlf ≡ false = rw crlf_line refl in
    ap (list_any is_dot_line) (cut_both text more is) ∙ list_any-append is_dot_line (cut text) (crlf ∷ cut more)
    ∙ rw (is.dotless, empty, are.dotless) refl

pub both_writable : (text more : List ℕ) → IsDescription text → IsDescription more → is_writable_body (text ++ (crlf ++ more)) ≡ true
both_writable text more is are = body_writable (text ++ (crlf ++ more)) (record {
  whole = both_whole text more is are;
  first = ap (λ (lines : List (List ℕ)). slice_get lines 0) (lines_both text more is) ∙ first_stays (lines_of text) ([] ∷ lines_of more) is.first;
  dotless = both_dotless text more is are;
})
