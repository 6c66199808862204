-- Lines that say nothing.
use Rattle.std.proofs.Common.{◌≡◌, ℕ, ◌&&◌, Bool, true, false, eqb, List, [], ◌∷◌, ◌++◌, codes, take, Option, Some, None, refl, sym, ap, ◌∙◌, ⊎_elim, if◌then◌else◌}
use Rattle.std.specs.List.{AllByRecursion}
use Rattle.std.specs.Cmp.Lexicographic.{pointwise}
use Rattle.std.proofs.lemmas.Bool.{and_parts, cases_Bool}
use Rattle.mg_bytes.specs.Lines.{lines_of}
use Rattle.sdp_subset.specs.Fields.{is_field, are_fields, is_media, is_audio, is_connection, from_audio, first_connection, connection_of}
use Rattle.sdp_subset.specs.declared.session.Session.{Session}
use Rattle.sdp_subset.specs.Reading.{session_with, session_at, session_in, session_of}
use Rattle.sdp_subset.specs.Spelling.{IsField, IsAside}
use Rattle.sdp_subset.proofs.SpellingLaws.{Lines, field_full}

-- an audio line is a media line
audio_media : (line : List ℕ) → is_audio line ≡ true → is_media line ≡ true
audio_media [] is = absurd cc
audio_media (b ∷ []) is = let none : false ≡ true = (and_parts (eqb 109 b) false is).1 in absurd cc
audio_media (b ∷ c ∷ bs) is =
    let more : Bool = pointwise eqb (codes "audio") (take 5 bs) in
    let both = and_parts (eqb 109 b) (eqb 61 c && more) is in
    let second = and_parts (eqb 61 c) more both.1 in
    rw (both.0, second.0) refl

no_audio : (line : List ℕ) → is_media line ≡ false → is_audio line ≡ false
no_audio line other =
    ⊎_elim
    (λ (h : is_audio line ≡ true). let both : true ≡ false = sym (audio_media line h) ∙ other in absurd cc)
    (λ (h : is_audio line ≡ false). h)
    (cases_Bool (is_audio line))

module _ (line : List ℕ) (back : Lines) (aside : IsAside line) where
  fields_same : (front : Lines) → AllByRecursion IsField front → is_field line ≡ true → are_fields (front ++ (line ∷ back)) ≡ are_fields (front ++ back)
  unfolding are_fields
  fields_same [] each is = rw (field_full line is, is) refl
  fields_same (l ∷ ls) each is = rw (field_full l each.0, each.0) (fields_same ls each.1 is)

  connection_same : (front : Lines) → first_connection (front ++ (line ∷ back)) ≡ first_connection (front ++ back)
  unfolding first_connection
  connection_same [] = rw (aside.0, aside.1) refl
  connection_same (l ∷ ls) = ap (λ (rest : Option (List ℕ)). if is_media l then None else (if is_connection l then Some l else rest)) (connection_same ls)

  rest_same : (lines others rest : Lines) → first_connection lines ≡ first_connection others → session_at lines rest ≡ session_at others rest
  unfolding session_with connection_of
  rest_same lines others [] same = refl
  rest_same lines others (l ∷ ls) same = rw same refl

  audio_same : (lines others front : Lines) (l : List ℕ) → first_connection lines ≡ first_connection others
      → session_with lines l (front ++ (line ∷ back)) ≡ session_with others l (front ++ back)
  unfolding session_with connection_of
  audio_same lines others front l same = rw (same, connection_same front) refl

  at_same : (lines others front : Lines) → first_connection lines ≡ first_connection others
      → session_at lines (from_audio (front ++ (line ∷ back))) ≡ session_at others (from_audio (front ++ back))
  unfolding from_audio
  at_same lines others [] same = rw (no_audio line aside.0) (rest_same lines others (from_audio back) same)
  at_same lines others (l ∷ ls) same =
      ⊎_elim
      (λ (h : is_audio l ≡ true). rw h (audio_same lines others ls l same))
      (λ (h : is_audio l ≡ false). rw h (at_same lines others ls same))
      (cases_Bool (is_audio l))

  lines_same : (front : Lines) → AllByRecursion IsField front → is_field line ≡ true → session_in (codes "v=0" ∷ (front ++ (line ∷ back))) ≡ session_in (codes "v=0" ∷ (front ++ back))
  unfolding are_fields
  lines_same front each is =
      let with : Lines = codes "v=0" ∷ (front ++ (line ∷ back)) in
      let without : Lines = codes "v=0" ∷ (front ++ back) in
      let sessions : session_at with (from_audio with) ≡ session_at without (from_audio without) =
      at_same with without (codes "v=0" ∷ front) (connection_same (codes "v=0" ∷ front))
      in
      rw (fields_same front each is) (ap (λ (read : Option Session). if are_fields (front ++ back) then read else None) sessions)

-- a field that is neither a media line nor a connection line changes nothing
pub aside_same : (text other : List ℕ) (front back : Lines) (line : List ℕ) → lines_of text ≡ codes "v=0" ∷ (front ++ (line ∷ back)) → lines_of other ≡ codes "v=0" ∷ (front ++ back)
    → AllByRecursion IsField front → IsField line → IsAside line → session_of text ≡ session_of other
unfolding session_of
aside_same text other front back line these those each is aside =
    ap session_in these ∙ lines_same line back aside front each is ∙ sym (ap session_in those)
