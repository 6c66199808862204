-- What is written ends in a line end, and none of its lines is a single dot.
use Rattle.std.proofs.Common.{◌≡◌, ◌≢◌, ℕ, zero, suc, ◌+◌, ◌-◌, ◌/◌, ◌%◌, ◌^◌, ◌<◌, ◌≤◌, Bool, true, false, ◌&&◌, ◌||◌, ◌==◌, if◌then◌else◌, List, [], ◌∷◌, ◌++◌, length, take, get_or, codes, refl, sym, ap, ◌∙◌, arith, append-nil}
use Rattle.std.specs.Prelude.{not}
use Rattle.std.specs.Fmt.{decimal}
use Rattle.std.specs.List.{list_all, list_any, flat_map, suffix_len}
use Rattle.std.specs.Str.{bytes_eq}
use Rattle.std.proofs.lemmas.Bool.{and_parts, not-true, leb-true}
use Rattle.std.proofs.lemmas.Bool.Decides.{nat_tests}
use Rattle.std.proofs.lemmas.Fmt.{decimal_is_IsNumeral}
use Rattle.std.proofs.lemmas.List.Folds.{list_any-append}
use Rattle.std.proofs.lemmas.Slice.Eq.{bytes_eq-Decides}
use Rattle.mg_bytes.specs.Bytes.{full_stop, space, colon, digit_zero}
use Rattle.mg_bytes.specs.Blanks.{is_blank, trimmed, trimmed_end}
use Rattle.mg_bytes.specs.Lines.{cut, lines_of, is_line_feed, is_dot_line, crlf, ended}
use Rattle.mg_bytes.proofs.CutLemmas.{cut_append, ends_append}
use Rattle.mg_bytes.proofs.PieceLemmas.{cut-nil}
use Rattle.mg_bytes.proofs.TextLaws.{HasNoFeed, cut_crlf, without_end_crlf, plain_digits}
use Rattle.mgcp_text.specs.declared.message.Verb.{Verb}
use Rattle.mgcp_text.specs.declared.message.Verb.TheVariants.{Epcf, Rqnt, Ntfy, Crcx, Mdcx, Dlcx, Auep, Aucx, Rsip, Other}
use Rattle.mgcp_text.specs.declared.message.Param.{Param}
use Rattle.mgcp_text.specs.declared.message.Message.{Message}
use Rattle.mgcp_text.specs.declared.message.Message.TheVariants.{Command, Response}
use Rattle.mgcp_text.specs.Parameter.{is_code_byte, is_code}
use Rattle.mg_bytes.specs.Lists.{is_empty}
use Rattle.mgcp_text.specs.Reading.{is_empty_line}
use Rattle.mgcp_text.specs.Writing.{verb_text, command_line, comment, response_line, value_text, param_line, body_text, written, is_known, is_writable_name, is_writable_param, is_writable_body, is_id, is_writable}

-- the last byte is a line feed, and no line is a single dot
pub record IsWhole (text : List ℕ) : Type 0 where
  pub ends : is_line_feed (get_or text (length text - 1) 0) ≡ true
  pub apart : list_any is_dot_line (cut text) ≡ false

whole_append : (front text : List ℕ) → IsWhole front → IsWhole text → IsWhole (front ++ text)
whole_append front text f t = record {
  ends = ends_append front text t.ends;
  apart = ap (list_any is_dot_line) (cut_append front text f.ends) ∙ list_any-append is_dot_line (cut front) (cut text) ∙ rw (f.apart, t.apart) refl;
}

-- a line that doesn't begin with a blank or a dot
starts_other : (b : ℕ) (bs : List ℕ) → is_blank b ≡ false → (b == full_stop) ≡ false → bytes_eq (trimmed (b ∷ bs)) (codes ".") ≡ false
unfolding trimmed trimmed_end
starts_other b bs solid other = rw solid (by_count (length (b ∷ bs) - suffix_len is_blank (b ∷ bs))) where
  by_count : (n : ℕ) → bytes_eq (take n (b ∷ bs)) (codes ".") ≡ false
  by_count zero = refl
  by_count (suc n) = rw other refl

whole_line : (b : ℕ) (bs : List ℕ) → is_blank b ≡ false → (b == full_stop) ≡ false → HasNoFeed (b ∷ bs) → IsWhole (ended (b ∷ bs))
whole_line b bs solid other feedless = record {
  ends = ends_append (b ∷ bs) crlf refl;
  apart =
      ap (list_any is_dot_line) (cut_crlf (b ∷ bs) [] feedless ∙ ap (λ (rest : List (List ℕ)). ended (b ∷ bs) ∷ rest) cut-nil)
      ∙ rw (without_end_crlf (b ∷ bs), starts_other b bs solid other) refl;
}

pub feedless_append : (front text : List ℕ) → HasNoFeed front → HasNoFeed text → HasNoFeed (front ++ text)
feedless_append [] text f t = t
feedless_append (b ∷ bs) text f t = (f.0, feedless_append bs text f.1 t)

-- The line of a response

pub digit_starts : (n : ℕ) → (is_blank (digit_zero + n) ≡ false) × ((digit_zero + n == full_stop) ≡ false) × (is_line_feed (digit_zero + n) ≡ false)
digit_starts n = (grind (arith, nat_tests), grind (arith, nat_tests), grind (arith, nat_tests))

pub comment_feedless : (b : Bool) → HasNoFeed (if b then codes " OK" else [])
comment_feedless true = (refl, (refl, (refl, tt)))
comment_feedless false = tt

whole_header : (code id : ℕ) → id < 2 ^ 64 → IsWhole (ended (response_line code id))
unfolding response_line
whole_header code id small =
    let digits = plain_digits (decimal id) (decimal_is_IsNumeral id small).0.1 in
    let tail = feedless_append (space ∷ decimal id) (comment code) (refl, digits.1) (comment_feedless (code == 200 || code == 250)) in
    let first = digit_starts (code / 100) in
    whole_line (digit_zero + code / 100) ((digit_zero + code / 10 % 10) ∷ (digit_zero + code % 10) ∷ ((space ∷ decimal id) ++ comment code)) first.0 first.1
    (first.2, ((digit_starts (code / 10 % 10)).2, ((digit_starts (code % 10)).2, tail)))

-- The line of a command

pub verb_feedless : (verb : Verb) → HasNoFeed (verb_text verb)
verb_feedless Epcf = (refl, (refl, (refl, (refl, tt))))
verb_feedless Rqnt = (refl, (refl, (refl, (refl, tt))))
verb_feedless Ntfy = (refl, (refl, (refl, (refl, tt))))
verb_feedless Crcx = (refl, (refl, (refl, (refl, tt))))
verb_feedless Mdcx = (refl, (refl, (refl, (refl, tt))))
verb_feedless Dlcx = (refl, (refl, (refl, (refl, tt))))
verb_feedless Auep = (refl, (refl, (refl, (refl, tt))))
verb_feedless Aucx = (refl, (refl, (refl, (refl, tt))))
verb_feedless Rsip = (refl, (refl, (refl, (refl, tt))))
verb_feedless Other = tt

pub feedless_text : (text : List ℕ) → list_any is_line_feed text ≡ false → HasNoFeed text
feedless_text [] none = tt
feedless_text (b ∷ bs) none = by_first (is_line_feed b) refl none (feedless_text bs) where
  by_first : (x : Bool) → is_line_feed b ≡ x → (x || list_any is_line_feed bs) ≡ false → (list_any is_line_feed bs ≡ false → HasNoFeed bs) → HasNoFeed (b ∷ bs)
  by_first true feed left more = absurd cc
  by_first false other left more = (other, more left)

-- what comes after the verb
abbrev pub after_verb : ℕ → List ℕ → List ℕ
after_verb id name = (space ∷ decimal id) ++ ((space ∷ name) ++ codes " MGCP 1.0")

pub after_feedless : (id : ℕ) (name : List ℕ) → id < 2 ^ 64 → HasNoFeed name → HasNoFeed (after_verb id name)
after_feedless id name small feedless =
    let digits = plain_digits (decimal id) (decimal_is_IsNumeral id small).0.1 in
    feedless_append (space ∷ decimal id) ((space ∷ name) ++ codes " MGCP 1.0") (refl, digits.1)
    (feedless_append (space ∷ name) (codes " MGCP 1.0") (refl, feedless) (refl, (refl, (refl, (refl, (refl, (refl, (refl, (refl, (refl, tt))))))))))

-- the first byte is no blank and no dot
abbrev StartsLine : List ℕ → Type 0
StartsLine [] = ⊥
StartsLine (b ∷ bs) = (is_blank b ≡ false) × ((b == full_stop) ≡ false)

verb_starts : (verb : Verb) → is_known verb ≡ true → StartsLine (verb_text verb)
verb_starts Epcf known = (refl, refl)
verb_starts Rqnt known = (refl, refl)
verb_starts Ntfy known = (refl, refl)
verb_starts Crcx known = (refl, refl)
verb_starts Mdcx known = (refl, refl)
verb_starts Dlcx known = (refl, refl)
verb_starts Auep known = (refl, refl)
verb_starts Aucx known = (refl, refl)
verb_starts Rsip known = (refl, refl)
verb_starts Other known = absurd cc

whole_start : (word tail : List ℕ) → StartsLine word → HasNoFeed word → HasNoFeed tail → IsWhole (ended (word ++ tail))
whole_start [] tail starts w t = absurd starts
whole_start (b ∷ bs) tail starts w t = whole_line b (bs ++ tail) starts.0 starts.1 (feedless_append (b ∷ bs) tail w t)

whole_command : (verb : Verb) (id : ℕ) (name : List ℕ) → is_known verb ≡ true → id < 2 ^ 64 → HasNoFeed name → IsWhole (ended (command_line verb id name))
unfolding command_line
whole_command verb id name known small feedless =
    whole_start (verb_text verb) (after_verb id name) (verb_starts verb known) (verb_feedless verb) (after_feedless id name small feedless)

-- The lines of parameters

pub code_starts : (b : ℕ) → is_code_byte b ≡ true → (is_blank b ≡ false) × ((b == full_stop) ≡ false) × (is_line_feed b ≡ false)
code_starts b is = (grind (arith, nat_tests), grind (arith, nat_tests), grind (arith, nat_tests))

pub code_feedless : (code : List ℕ) → list_all is_code_byte code ≡ true → HasNoFeed code
code_feedless [] all = tt
code_feedless (b ∷ bs) all =
    let both = and_parts (is_code_byte b) (list_all is_code_byte bs) all in
    ((code_starts b both.0).2, code_feedless bs both.1)

pub value_feedless : (value : List ℕ) → HasNoFeed value → HasNoFeed (value_text value)
value_feedless [] feedless = tt
value_feedless (b ∷ bs) feedless = (refl, feedless)

whole_param : (param : Param) → is_writable_param param ≡ true → IsWhole (ended (param_line param))
unfolding param_line
whole_param param can = by_code param.code both.0 where
  sides : (is_code param.code && not (list_any is_line_feed param.value) ≡ true) × (bytes_eq (trimmed param.value) param.value ≡ true)
  sides = and_parts _ _ can

  both : (is_code param.code ≡ true) × (not (list_any is_line_feed param.value) ≡ true)
  both = and_parts _ _ sides.0

  behind : HasNoFeed (colon ∷ value_text param.value)
  behind = (refl, value_feedless param.value (feedless_text param.value (not-true _ both.1)))

  by_code : (code : List ℕ) → is_code code ≡ true → IsWhole (ended (code ++ (colon ∷ value_text param.value)))
  by_code [] is = absurd cc
  by_code (b ∷ bs) is =
      let all = (and_parts _ (list_all is_code_byte (b ∷ bs)) is).1 in
      let first = code_starts b (and_parts (is_code_byte b) _ all).0 in
      whole_line b _ first.0 first.1 (feedless_append (b ∷ bs) (colon ∷ value_text param.value) (code_feedless (b ∷ bs) all) behind)

-- What comes behind a line, if anything does

abbrev Ends : List ℕ → Type 0
Ends text = is_line_feed (get_or text (length text - 1) 0) ≡ true

ends_more : (front text : List ℕ) → Ends front → (text ≢ [] → Ends text) → Ends (front ++ text)
ends_more front [] ends more = rw (append-nil front) ends
ends_more front (b ∷ bs) ends more = ends_append front (b ∷ bs) (more (λ e. absurd cc))

whole_more : (front text : List ℕ) → IsWhole front → (text ≢ [] → IsWhole text) → IsWhole (front ++ text)
whole_more front [] f more = rw (append-nil front) f
whole_more front (b ∷ bs) f more = whole_append front (b ∷ bs) f (more (λ e. absurd cc))

whole_params : (params : List Param) → list_all is_writable_param params ≡ true
    → flat_map (λ param. ended (param_line param)) params ≢ [] → IsWhole (flat_map (λ param. ended (param_line param)) params)
whole_params [] all some = absurd (some refl)
whole_params (param ∷ params) all some =
    let both = and_parts (is_writable_param param) _ all in
    whole_more (ended (param_line param)) _ (whole_param param both.0) (whole_params params both.1)

lines_end : (lines : List (List ℕ)) → flat_map ended lines ≢ [] → Ends (flat_map ended lines)
lines_end [] some = absurd (some refl)
lines_end (line ∷ lines) some = ends_more (ended line) (flat_map ended lines) (ends_append line crlf refl) (lines_end lines)

empty_line : IsWhole crlf
unfolding cut trimmed trimmed_end
empty_line = record { ends = refl; apart = refl }

ended_as : (text same : List ℕ) → same ≡ text → Ends same → Ends text
ended_as text same e ends = rw (← e) ends

whole_body : (body : List ℕ) → is_writable_body body ≡ true → body_text body ≢ [] → IsWhole (body_text body)
unfolding is_writable_body
whole_body [] can some = absurd (some refl)
whole_body (b ∷ bs) can some =
    let sides = and_parts (bytes_eq (flat_map ended (lines_of (b ∷ bs))) (b ∷ bs) && not (list_all is_empty_line (cut (b ∷ bs)))) _ can in
    let same : flat_map ended (lines_of (b ∷ bs)) ≡ b ∷ bs = (bytes_eq-Decides _ (b ∷ bs)).0 (and_parts _ _ sides.0).0 in
    let ends : Ends (b ∷ bs) = ended_as (b ∷ bs) (flat_map ended (lines_of (b ∷ bs))) same (lines_end (lines_of (b ∷ bs)) (λ none. absurd (let e : b ∷ bs ≡ [] = sym same ∙ none in cc))) in
    whole_append crlf (b ∷ bs) empty_line (record { ends = ends; apart = not-true _ sides.1 })

-- What is asked of the parts of a message

pub record IsWritableCommand (verb : Verb) (id : ℕ) (name : List ℕ) (params : List Param) (body : List ℕ) : Type 0 where
  pub known : is_known verb ≡ true
  pub has_id : is_id id ≡ true
  pub named : is_writable_name name ≡ true
  pub each : list_all is_writable_param params ≡ true
  pub whole : is_writable_body body ≡ true

pub command_parts : (verb : Verb) (id : ℕ) (name : List ℕ) (params : List Param) (body : List ℕ) → is_writable (Command verb id name params body) ≡ true
    → IsWritableCommand verb id name params body
unfolding is_writable
command_parts verb id name params body can =
    let parts = and_parts _ (is_writable_body body) can in
    let more = and_parts _ (list_all is_writable_param params) parts.0 in
    let front = and_parts _ (is_writable_name name) more.0 in
    let start = and_parts (is_known verb) (is_id id) front.0 in
    record { known = start.0; has_id = start.1; named = front.1; each = more.1; whole = parts.1 }

pub record IsWritableResponse (code id : ℕ) (params : List Param) (body : List ℕ) : Type 0 where
  pub has_id : is_id id ≡ true
  pub digits : code ≤ 999
  pub each : list_all is_writable_param params ≡ true
  pub whole : is_writable_body body ≡ true

pub response_parts : (code id : ℕ) (params : List Param) (body : List ℕ) → is_writable (Response code id params body) ≡ true → IsWritableResponse code id params body
unfolding is_writable
response_parts code id params body can =
    let parts = and_parts _ (is_writable_body body) can in
    let more = and_parts _ (list_all is_writable_param params) parts.0 in
    let start = and_parts (is_id id) _ more.0 in
    record { has_id = start.0; digits = leb-true code 999 start.1; each = more.1; whole = parts.1 }

pub id_bounds : (id : ℕ) → is_id id ≡ true → (1 ≤ id) × (id ≤ 999999999)
unfolding is_id
id_bounds id is = let both = and_parts _ _ is in (leb-true 1 id both.0, leb-true id 999999999 both.1)

pub record IsWord (name : List ℕ) : Type 0 where
  pub some : is_empty name ≡ false
  pub blankless : list_any is_blank name ≡ false
  pub feedless : list_any is_line_feed name ≡ false

pub name_parts : (name : List ℕ) → is_writable_name name ≡ true → IsWord name
name_parts name is =
    let parts = and_parts _ (not (list_any is_line_feed name)) is in
    let front = and_parts (not (is_empty name)) (not (list_any is_blank name)) parts.0 in
    record { some = not-true _ front.0; blankless = not-true _ front.1; feedless = not-true _ parts.1 }

whole_text : (line : List ℕ) (params : List Param) (body : List ℕ) → IsWhole (ended line) → list_all is_writable_param params ≡ true → is_writable_body body ≡ true
    → IsWhole (ended line ++ flat_map (λ param. ended (param_line param)) params ++ body_text body)
whole_text line params body first each can =
    whole_more (ended line ++ flat_map (λ param. ended (param_line param)) params) (body_text body)
    (whole_more (ended line) _ first (whole_params params each)) (whole_body body can)

-- what is written of a message that can be written
pub whole_written : (message : Message) → is_writable message ≡ true → IsWhole (written message)
unfolding written
whole_written (Command verb id name params body) can =
    let parts = command_parts verb id name params body can in
    let short : id ≤ 999999999 = (id_bounds id parts.has_id).1 in
    let word = name_parts name parts.named in
    whole_text (command_line verb id name) params body (whole_command verb id name parts.known (omega arith) (feedless_text name word.feedless)) parts.each parts.whole
whole_written (Response code id params body) can =
    let parts = response_parts code id params body can in
    let short : id ≤ 999999999 = (id_bounds id parts.has_id).1 in
    whole_text (response_line code id) params body (whole_header code id (omega arith)) parts.each parts.whole
