-- What is written is read as the same message.
use Rattle.std.proofs.Common.{zero, ◌≡◌, ◌≢◌, ◌≤◌, ◌<◌, ◌-◌, ◌^◌, ◌+◌, ◌/◌, ◌%◌, ◌==◌, ℕ, suc, Bool, true, false, eqb, leb, List, [], ◌∷◌, ◌++◌, length, take, get_or, refl, sym, ap, ◌∙◌, arith, Some, lit<, codes, append_assoc, append-nil, ◌||◌, ⊎_elim, take_all, subst}
use Rattle.std.specs.Prelude.{not, if◌then◌else◌, Result, Ok, Err, IfOk}
use Rattle.std.specs.Fmt.{decimal}
use Rattle.std.specs.List.{list_all, list_any, flat_map, suffix_len}
use Rattle.std.specs.Str.{bytes_eq}
use Rattle.std.specs.Str.Parse.{AllDigits, digits_value}
use Rattle.std.specs.Char.{is_ascii_digit, digit_value}
use Rattle.std.proofs.lemmas.Str.{digit_value_digit}
use Rattle.std.proofs.lemmas.Str.Parse.{digit_from_value}
use Rattle.std.proofs.lemmas.Fmt.{decimal_is_IsNumeral, length-decimal-le}
use Rattle.std.proofs.lemmas.Bool.Decides.{nat_tests}
use Rattle.std.proofs.lemmas.Bool.{leb-true, and_parts, not-true, cases_Bool}
use Rattle.std.proofs.lemmas.List.{length-append, get_or-append_right, length-take}
use Rattle.std.proofs.lemmas.List.Sums.{suffix_len-take_yes}
use Rattle.std.proofs.lemmas.Slice.Eq.{bytes_eq-Decides}
use Rattle.mg_bytes.specs.Bytes.{space, colon, digit_zero}
use Rattle.mg_bytes.specs.Blanks.{is_blank, trimmed, trimmed_start, trimmed_end}
use Rattle.mg_bytes.specs.Lines.{cut, line_of, is_line_feed, crlf, ended}
use Rattle.mg_bytes.specs.Words.{words, split_once}
use Rattle.mg_bytes.specs.Numbers.{decimal_of}
use Rattle.mg_bytes.proofs.PieceLemmas.{cut-nil, concat-cut}
use Rattle.mg_bytes.proofs.TextLaws.{IsPlain, HasNoFeed, IsTrim, cut_crlf, line_of_written, trimmed_same, words_more, words_last, plain_digits}
use Rattle.mgcp_text.specs.declared.message.Verb.{Verb}
use Rattle.mgcp_text.specs.declared.message.Verb.TheVariants.{Epcf, Rqnt, Ntfy, Crcx, Mdcx, Dlcx, Auep, Aucx, Rsip, Other}
use Rattle.mgcp_text.specs.declared.message.Param.{Param}
use Rattle.mgcp_text.specs.declared.message.Message.{Message}
use Rattle.mgcp_text.specs.declared.message.Message.TheVariants.{Command, Response}
use Rattle.mgcp_text.specs.declared.header.Start.TheVariants as starts
use Rattle.mgcp_text.specs.declared.header.Header.{Header}
use Rattle.mgcp_text.specs.Header.{verb_of, id_of, start_of, header_of}
use Rattle.mgcp_text.specs.Parameter.{is_code_byte, is_code, param_of}
use Rattle.mg_bytes.specs.Lists.{is_empty}
use Rattle.mgcp_text.specs.Reading.{Outcome, is_empty_line, skip_empty, params_of, some_params_of, description_of, command_from, response_from, message_from, message, read_text}
use Rattle.mgcp_text.specs.Writing.{verb_text, command_line, code_text, comment, response_line, value_text, param_line, body_text, written, is_known, is_writable_param, is_writable_body, is_writable}
use Rattle.mgcp_text.specs.Spelling.{Reads}
use Rattle.mgcp_text.proofs.SpellingLaws.{reads_some}
use Rattle.mgcp_text.proofs.WholeLemmas.{feedless_append, code_feedless, code_starts, feedless_text, value_feedless, comment_feedless, digit_starts, verb_feedless, after_verb, after_feedless, command_parts, response_parts, id_bounds, name_parts}

-- ---- blanks

-- the last byte is no blank
record EndsPlain (xs : List ℕ) : Type 0 where
  some : 0 < length xs
  last : is_blank (get_or xs (length xs - 1) 0) ≡ false

ends_append : (xs ys : List ℕ) → EndsPlain ys → EndsPlain (xs ++ ys)
ends_append xs ys h =
    let n = h.some in
    let len = length-append xs ys in
    let place : length (xs ++ ys) - 1 - length xs ≡ length ys - 1 = omega arith in
    let at : get_or (xs ++ ys) (length (xs ++ ys) - 1) 0 ≡ get_or ys (length (xs ++ ys) - 1 - length xs) 0 = get_or-append_right xs ys (length xs) (length (xs ++ ys) - 1) 0 refl (omega arith) in
    record { some = omega arith; last = rw (at, place) h.last }

ends_cons : (x : ℕ) (ys : List ℕ) → EndsPlain ys → EndsPlain (x ∷ ys)
ends_cons x ys h = ends_append (x ∷ []) ys h

plain_at : (xs : List ℕ) (k : ℕ) → IsPlain xs → k < length xs → is_blank (get_or xs k 0) ≡ false
plain_at [] k h lt = absurd (omega arith)
plain_at (b ∷ bs) zero h lt = h.0
plain_at (b ∷ bs) (suc k) h lt = plain_at bs k h.1 (omega arith)

plain_start : (xs : List ℕ) → IsPlain xs → trimmed_start xs ≡ xs
plain_start [] h = refl
plain_start (b ∷ bs) h = rw h.0 refl

trim_plain : (xs : List ℕ) → IsPlain xs → IsTrim xs
trim_plain xs h = record { start = plain_start xs h; end = λ lt. plain_at xs (length xs - 1) h (omega arith) }

starts_append : (xs ys : List ℕ) → IsPlain xs → 0 < length xs → trimmed_start (xs ++ ys) ≡ xs ++ ys
starts_append [] ys h lt = absurd (omega arith)
starts_append (b ∷ bs) ys h lt = rw h.0 refl

blankless_plain : (text : List ℕ) → list_any is_blank text ≡ false → IsPlain text
blankless_plain [] none = tt
blankless_plain (b ∷ bs) none = by_first (is_blank b) refl none (blankless_plain bs) where
  by_first : (x : Bool) → is_blank b ≡ x → (x || list_any is_blank bs) ≡ false → (list_any is_blank bs ≡ false → IsPlain bs) → IsPlain (b ∷ bs)
  by_first true blank left more = absurd cc
  by_first false other left more = (other, more left)

-- what is its own trimmed text has no blanks at its ends
start_shorter : (xs : List ℕ) → length (trimmed_start xs) ≤ length xs
start_shorter [] = omega arith
start_shorter (b ∷ bs) =
    ⊎_elim
    (λ (h : is_blank b ≡ true). let rest = start_shorter bs in rw h (omega arith))
    (λ (h : is_blank b ≡ false). rw h (omega arith))
    (cases_Bool (is_blank b))

end_shorter : (xs : List ℕ) → length (trimmed_end xs) ≤ length xs
unfolding trimmed_end
end_shorter xs = let len = length-take (length xs - suffix_len is_blank xs) xs in omega arith

start_same : (xs : List ℕ) → trimmed xs ≡ xs → trimmed_start xs ≡ xs
unfolding trimmed
start_same [] same = refl
start_same (b ∷ bs) same =
    ⊎_elim
    (λ (h : is_blank b ≡ true).
    let cut_short : trimmed_end (trimmed_start bs) ≡ b ∷ bs = (rw h at same) in
    let n : length (trimmed_end (trimmed_start bs)) ≡ length (b ∷ bs) = ap length cut_short in
    let a = end_shorter (trimmed_start bs) in
    let c = start_shorter bs in
    absurd (omega arith))
    (λ (h : is_blank b ≡ false). rw h refl)
    (cases_Bool (is_blank b))

end_same : (xs : List ℕ) → trimmed_end xs ≡ xs → 0 < length xs → is_blank (get_or xs (length xs - 1) 0) ≡ false
unfolding trimmed_end
end_same xs same some =
    ⊎_elim
    (λ (h : is_blank (get_or xs (length xs - 1) 0) ≡ true).
    let whole : take (length xs) xs ≡ xs = take_all (length xs) xs (omega arith) in
    let more : suffix_len is_blank (take (length xs) xs) ≡ 1 + suffix_len is_blank (take (length xs - 1) xs) = suffix_len-take_yes is_blank xs (length xs) 0 some (omega arith) h in
    let counted : suffix_len is_blank xs ≡ 1 + suffix_len is_blank (take (length xs - 1) xs) = ap (suffix_len is_blank) (sym whole) ∙ more in
    let n : length (take (length xs - suffix_len is_blank xs) xs) ≡ length xs = ap length same in
    let len = length-take (length xs - suffix_len is_blank xs) xs in
    absurd (omega arith))
    (λ (h : is_blank (get_or xs (length xs - 1) 0) ≡ false). h)
    (cases_Bool (is_blank (get_or xs (length xs - 1) 0)))

trim_same : (xs : List ℕ) → trimmed xs ≡ xs → IsTrim xs
unfolding trimmed
trim_same xs same =
    let start = start_same xs same in
    let end : trimmed_end xs ≡ xs = ap trimmed_end (sym start) ∙ same in
    record { start = start; end = end_same xs end }

-- ---- ids and codes

digits_all : (ds : List ℕ) → AllDigits 10 ds → list_all is_ascii_digit ds ≡ true
digits_all [] h = refl
digits_all (d ∷ ds) h =
    let range = digit_from_value d h.0 in
    let here : is_ascii_digit d ≡ true = grind (arith, nat_tests) in
    rw (here, digits_all ds h.1) refl

id_again : (id : ℕ) → 1 ≤ id → id ≤ 999999999 → id_of (decimal id) ≡ Some id
unfolding id_of decimal_of
id_again id some short =
    let numeral = decimal_is_IsNumeral id (omega arith) in
    let len : length (decimal id) ≤ 9 = length-decimal-le 9 id (lit< tt) (omega arith) (omega arith) in
    let a : leb (length (decimal id)) 9 ≡ true = grind (arith, nat_tests) in
    let b : leb 1 (length (decimal id)) ≡ true = grind (arith, nat_tests) in
    let c : leb (length (decimal id)) 18 ≡ true = grind (arith, nat_tests) in
    let d : eqb id 0 ≡ false = grind (arith, nat_tests) in
    rw (a, b, c, digits_all (decimal id) numeral.0.1, numeral.1, d) refl

digit_is : (n : ℕ) → n ≤ 9 → is_ascii_digit (digit_zero + n) ≡ true
digit_is n small = grind (arith, nat_tests)

digit_number : (n : ℕ) → n ≤ 9 → digit_value (digit_zero + n) ≡ n
digit_number n small = let same : digit_value (digit_zero + n) + 48 ≡ digit_zero + n = digit_value_digit (digit_zero + n) (omega arith, omega arith) in omega arith

start_of_verb : (verb : Verb) → is_known verb ≡ true → start_of (verb_text verb) ≡ Some (starts.Command verb)
unfolding start_of verb_of decimal_of
start_of_verb Epcf h = refl
start_of_verb Rqnt h = refl
start_of_verb Ntfy h = refl
start_of_verb Crcx h = refl
start_of_verb Mdcx h = refl
start_of_verb Dlcx h = refl
start_of_verb Auep h = refl
start_of_verb Aucx h = refl
start_of_verb Rsip h = refl
start_of_verb Other h = absurd cc

start_of_code : (code : ℕ) → code ≤ 999 → start_of (code_text code) ≡ Some (starts.Response code)
unfolding start_of decimal_of
start_of_code code short =
    let a = digit_is (code / 100) (omega arith) in
    let b = digit_is (code / 10 % 10) (omega arith) in
    let c = digit_is (code % 10) (omega arith) in
    let x : digit_value (digit_zero + code / 100) ≡ code / 100 = digit_number (code / 100) (omega arith) in
    let y : digit_value (digit_zero + code / 10 % 10) ≡ code / 10 % 10 = digit_number (code / 10 % 10) (omega arith) in
    let z : digit_value (digit_zero + code % 10) ≡ code % 10 = digit_number (code % 10) (omega arith) in
    let value : digits_value 10 (code_text code) ≡ code = omega arith in
    rw (a, b, c, value) refl

-- ---- parameters

record IsCodeText (code : List ℕ) : Type 0 where
  plain : IsPlain code
  split : (rest : List ℕ) → split_once colon (code ++ (colon ∷ rest)) ≡ Some (code, rest)

not_colon : (b : ℕ) → is_code_byte b ≡ true → (b == colon) ≡ false
not_colon b is = grind (arith, nat_tests)

code_is : (code : List ℕ) → list_all is_code_byte code ≡ true → IsCodeText code
unfolding split_once
code_is [] h = record { plain = tt; split = λ rest. refl }
code_is (b ∷ bs) h =
    let both = and_parts (is_code_byte b) (list_all is_code_byte bs) h in
    let others = code_is bs both.1 in
    let other = not_colon b both.0 in
    record { plain = ((code_starts b both.0).0, others.plain); split = λ rest. rw (other, others.split rest) refl }

record IsWritableParam (param : Param) : Type 0 where
  is : is_code param.code ≡ true
  all : list_all is_code_byte param.code ≡ true
  some : 1 ≤ length param.code
  value : trimmed param.value ≡ param.value
  one_line : HasNoFeed param.value

param_parts : (param : Param) → is_writable_param param ≡ true → IsWritableParam param
param_parts param can =
    let sides = and_parts _ (bytes_eq (trimmed param.value) param.value) can in
    let both = and_parts (is_code param.code) (not (list_any is_line_feed param.value)) sides.0 in
    let code = and_parts _ (list_all is_code_byte param.code) both.0 in
    record {
      is = both.0;
      all = code.1;
      some = leb-true 1 (length param.code) code.0;
      value = (bytes_eq-Decides (trimmed param.value) param.value).0 sides.1;
      one_line = feedless_text param.value (not-true _ both.1);
    }

ends_colon : (value : List ℕ) → IsTrim value → EndsPlain (colon ∷ value_text value)
ends_colon [] h = record { some = lit< tt; last = refl }
ends_colon (b ∷ bs) h = ends_cons colon (space ∷ b ∷ bs) (ends_cons space (b ∷ bs) (record { some = omega arith; last = h.end (omega arith) }))

trim_line : (param : Param) → IsWritableParam param → IsTrim (param_line param)
unfolding param_line
trim_line param h =
    let code = code_is param.code h.all in
    let some = h.some in
    let ends = ends_append param.code (colon ∷ value_text param.value) (ends_colon param.value (trim_same param.value h.value)) in
    record { start = starts_append param.code (colon ∷ value_text param.value) code.plain (omega arith); end = λ lt. ends.last }

line_feedless : (param : Param) → IsWritableParam param → HasNoFeed (param_line param)
unfolding param_line
line_feedless param h =
    feedless_append param.code (colon ∷ value_text param.value) (code_feedless param.code h.all) (refl, value_feedless param.value h.one_line)

value_again : (value : List ℕ) → trimmed value ≡ value → trimmed (value_text value) ≡ value
unfolding trimmed
value_again [] same = same
value_again (b ∷ bs) same = same

param_again : (param : Param) → IsWritableParam param → param_of (param_line param) ≡ Some param
unfolding param_of param_line
param_again param h =
    let code = code_is param.code h.all in
    let same : trimmed param.code ≡ param.code = trimmed_same param.code (trim_plain param.code code.plain) in
    rw (code.split (value_text param.value), same, h.is, value_again param.value h.value) refl

full_append : (xs : List ℕ) (y : ℕ) (ys : List ℕ) → is_empty (xs ++ (y ∷ ys)) ≡ false
full_append [] y ys = refl
full_append (x ∷ xs) y ys = refl

line_full : (param : Param) → is_empty (param_line param) ≡ false
unfolding param_line
line_full param = full_append param.code colon (value_text param.value)

-- ---- lines

cut_ended : (line rest : List ℕ) → HasNoFeed line → cut (ended line ++ rest) ≡ ended line ∷ cut rest
cut_ended line rest feedless = ap cut (append_assoc line crlf rest) ∙ cut_crlf line rest feedless

abbrev lines_text : List Param → List ℕ
lines_text params = flat_map (λ param. ended (param_line param)) params

abbrev rest_text : List Param → List ℕ → List ℕ
rest_text params body = lines_text params ++ body_text body

cut_param : (param : Param) (params : List Param) (body : List ℕ) → IsWritableParam param
    → cut (rest_text (param ∷ params) body) ≡ ended (param_line param) ∷ cut (rest_text params body)
cut_param param params body h =
    ap cut (append_assoc (ended (param_line param)) (lines_text params) (body_text body))
    ∙ cut_ended (param_line param) (rest_text params body) (line_feedless param h)

read_line : (param : Param) → IsWritableParam param → line_of (ended (param_line param)) ≡ param_line param
read_line param h = line_of_written (param_line param) (trim_line param h)

cut_body : (b : ℕ) (bs : List ℕ) → cut (body_text (b ∷ bs)) ≡ crlf ∷ cut (b ∷ bs)
cut_body b bs = cut_ended [] (b ∷ bs) tt

empty_again : line_of crlf ≡ []
empty_again = line_of_written [] (trim_plain [] tt)

params_again : (params : List Param) (body : List ℕ) → list_all is_writable_param params ≡ true → params_of (cut (rest_text params body)) ≡ Some (params, cut body)
unfolding params_of
params_again [] [] each = rw cut-nil refl
params_again [] (b ∷ bs) each = rw (cut_body b bs, empty_again) refl
params_again (param ∷ params) body each =
    let both = and_parts (is_writable_param param) (list_all is_writable_param params) each in
    let h = param_parts param both.0 in
    rw (cut_param param params body h, read_line param h, line_full param, param_again param h, params_again params body both.1) refl

some_again : (params : List Param) (body : List ℕ) → list_all is_writable_param params ≡ true → some_params_of (cut (rest_text params body)) ≡ (params, cut body)
unfolding some_params_of
some_again [] [] each = rw cut-nil refl
some_again [] (b ∷ bs) each = rw (cut_body b bs, empty_again) refl
some_again (param ∷ params) body each =
    let both = and_parts (is_writable_param param) (list_all is_writable_param params) each in
    let h = param_parts param both.0 in
    rw (cut_param param params body h, read_line param h, line_full param, param_again param h, some_again params body both.1) refl

body_again : (body : List ℕ) → is_writable_body body ≡ true → description_of (cut body) ≡ body
unfolding description_of is_writable_body
body_again [] can = rw cut-nil refl
body_again (b ∷ bs) can =
    let sides = and_parts _ _ can in
    let some : list_all is_empty_line (cut (b ∷ bs)) ≡ false = not-true _ (and_parts _ _ sides.0).1 in
    rw some (concat-cut (b ∷ bs))

-- ---- the header of a command

plain_verb : (verb : Verb) → IsPlain (verb_text verb)
plain_verb Epcf = (refl, (refl, (refl, (refl, tt))))
plain_verb Rqnt = (refl, (refl, (refl, (refl, tt))))
plain_verb Ntfy = (refl, (refl, (refl, (refl, tt))))
plain_verb Crcx = (refl, (refl, (refl, (refl, tt))))
plain_verb Mdcx = (refl, (refl, (refl, (refl, tt))))
plain_verb Dlcx = (refl, (refl, (refl, (refl, tt))))
plain_verb Auep = (refl, (refl, (refl, (refl, tt))))
plain_verb Aucx = (refl, (refl, (refl, (refl, tt))))
plain_verb Rsip = (refl, (refl, (refl, (refl, tt))))
plain_verb Other = tt

some_word : (text : List ℕ) → is_empty text ≡ false → (text ≢ []) × (0 < length text)
some_word [] some = absurd cc
some_word (b ∷ bs) some = ((λ e. absurd cc), omega arith)

abbrev version_words : List (List ℕ)
version_words = codes "MGCP" ∷ codes "1.0" ∷ []

some_digits : (id : ℕ) → id < 2 ^ 64 → decimal id ≢ []
some_digits id small = λ e. let numeral = decimal_is_IsNumeral id small in let none : length (decimal id) ≡ 0 = ap length e in absurd (omega (arith, numeral.0.0))

words_of_command : (verb : Verb) (id : ℕ) (name : List ℕ) → is_known verb ≡ true → id < 2 ^ 64 → is_empty name ≡ false → IsPlain name
    → words (command_line verb id name) ≡ verb_text verb ∷ decimal id ∷ name ∷ version_words
unfolding command_line
words_of_command verb id name known small some plain =
    let numeral = decimal_is_IsNumeral id small in
    let behind_name : List ℕ = name ++ codes " MGCP 1.0" in
    let behind_id : List ℕ = decimal id ++ (32 ∷ behind_name) in
    words_more (verb_text verb) behind_id (some_word (verb_text verb) (not-true _ known)).0 (plain_verb verb)
    ∙ ap (λ (x : List (List ℕ)). verb_text verb ∷ x) (words_more (decimal id) behind_name (some_digits id small) (plain_digits (decimal id) numeral.0.1).0)
    ∙ ap (λ (x : List (List ℕ)). verb_text verb ∷ decimal id ∷ x) (words_more name (codes "MGCP 1.0") (some_word name some).0 plain)
    ∙ ap (λ (x : List (List ℕ)). verb_text verb ∷ decimal id ∷ name ∷ x)
    (words_more (codes "MGCP") (codes "1.0") (λ e. absurd cc) (refl, (refl, (refl, (refl, tt))))
    ∙ ap (λ (x : List (List ℕ)). codes "MGCP" ∷ x) (words_last (codes "1.0") (λ e. absurd cc) (refl, (refl, (refl, tt)))))

trim_command : (verb : Verb) (id : ℕ) (name : List ℕ) → is_known verb ≡ true → IsTrim (command_line verb id name)
unfolding command_line
trim_command verb id name known =
    let version : EndsPlain (codes " MGCP 1.0") = record { some = lit< tt; last = refl } in
    let ends = ends_append (verb_text verb) _ (ends_append (space ∷ decimal id) _ (ends_append (space ∷ name) _ version)) in
    record { start = starts_append (verb_text verb) _ (plain_verb verb) (some_word (verb_text verb) (not-true _ known)).1; end = λ lt. ends.last }

command_feedless : (verb : Verb) (id : ℕ) (name : List ℕ) → id < 2 ^ 64 → HasNoFeed name → HasNoFeed (command_line verb id name)
unfolding command_line
command_feedless verb id name small feedless = feedless_append (verb_text verb) (after_verb id name) (verb_feedless verb) (after_feedless id name small feedless)

command_full : (verb : Verb) (id : ℕ) (name : List ℕ) → is_empty (command_line verb id name) ≡ false
unfolding command_line
command_full verb id name = full_append (verb_text verb) space _

-- ---- the header of a response

abbrev ok_comment : Bool → List ℕ
ok_comment b = if b then codes " OK" else []

abbrev ok_words : Bool → List (List ℕ)
ok_words b = if b then codes "OK" ∷ [] else []

plain_code : (code : ℕ) → IsPlain (code_text code)
plain_code code = ((digit_starts (code / 100)).0, ((digit_starts (code / 10 % 10)).0, ((digit_starts (code % 10)).0, tt)))

words_behind : (id : ℕ) (b : Bool) → id < 2 ^ 64 → words (decimal id ++ ok_comment b) ≡ decimal id ∷ ok_words b
words_behind id true small =
    let numeral = decimal_is_IsNumeral id small in
    words_more (decimal id) (codes "OK") (some_digits id small) (plain_digits (decimal id) numeral.0.1).0
    ∙ ap (λ (x : List (List ℕ)). decimal id ∷ x) (words_last (codes "OK") (λ e. absurd cc) (refl, (refl, tt)))
words_behind id false small =
    let numeral = decimal_is_IsNumeral id small in
    ap words (append-nil (decimal id)) ∙ words_last (decimal id) (some_digits id small) (plain_digits (decimal id) numeral.0.1).0

words_of_response : (code id : ℕ) (b : Bool) → id < 2 ^ 64 → words (code_text code ++ (space ∷ decimal id) ++ ok_comment b) ≡ code_text code ∷ decimal id ∷ ok_words b
words_of_response code id b small =
    words_more (code_text code) (decimal id ++ ok_comment b) (λ e. absurd cc) (plain_code code)
    ∙ ap (λ (x : List (List ℕ)). code_text code ∷ x) (words_behind id b small)

ends_digits : (id : ℕ) (b : Bool) → id < 2 ^ 64 → EndsPlain (decimal id ++ ok_comment b)
ends_digits id true small = ends_append (decimal id) (codes " OK") (record { some = lit< tt; last = refl })
ends_digits id false small =
    let numeral = decimal_is_IsNumeral id small in
    let plain = (plain_digits (decimal id) numeral.0.1).0 in
    let some : 0 < length (decimal id) = omega (arith, numeral.0.0) in
    rw (append-nil (decimal id)) (record { some = some; last = plain_at (decimal id) (length (decimal id) - 1) plain (omega arith) })

trim_response : (code id : ℕ) (b : Bool) → id < 2 ^ 64 → IsTrim (code_text code ++ (space ∷ decimal id) ++ ok_comment b)
trim_response code id b small =
    let ends = ends_append (code_text code) (space ∷ (decimal id ++ ok_comment b)) (ends_cons space (decimal id ++ ok_comment b) (ends_digits id b small)) in
    record { start = starts_append (code_text code) (space ∷ (decimal id ++ ok_comment b)) (plain_code code) (omega arith); end = λ lt. ends.last }

response_feedless : (code id : ℕ) → id < 2 ^ 64 → HasNoFeed (response_line code id)
unfolding response_line
response_feedless code id small =
    let digits = plain_digits (decimal id) (decimal_is_IsNumeral id small).0.1 in
    feedless_append (code_text code) ((space ∷ decimal id) ++ comment code)
    ((digit_starts (code / 100)).2, ((digit_starts (code / 10 % 10)).2, ((digit_starts (code % 10)).2, tt)))
    (feedless_append (space ∷ decimal id) (comment code) (refl, digits.1) (comment_feedless (code == 200 || code == 250)))

-- ---- a text from its header on

header_first : (line rest : List ℕ) → HasNoFeed line → IsTrim line → is_empty line ≡ false → skip_empty (cut (ended line ++ rest)) ≡ ended line ∷ cut rest
unfolding skip_empty
header_first line rest feedless trim full = rw (cut_ended line rest feedless, line_of_written line trim, full) refl

headed_text : (line rest : List ℕ) (h : Header) → HasNoFeed line → IsTrim line → is_empty line ≡ false → header_of (words line) ≡ Some h
    → read_text (ended line ++ rest) ≡ message_from h.start h.id h.rest (cut rest)
unfolding read_text
headed_text line rest h feedless trim full header = rw (header_first line rest feedless trim full, line_of_written line trim, header) refl

command_text_again : (verb : Verb) (id : ℕ) (name : List ℕ) (params : List Param) (body : List ℕ) → is_writable (Command verb id name params body) ≡ true
    → read_text (ended (command_line verb id name) ++ rest_text params body) ≡ message (Command verb id name params body)
unfolding command_from header_of
command_text_again verb id name params body can =
    let parts = command_parts verb id name params body can in
    let bounds = id_bounds id parts.has_id in
    let some : 1 ≤ id = bounds.0 in
    let short : id ≤ 999999999 = bounds.1 in
    let small : id < 2 ^ 64 = omega arith in
    let word = name_parts name parts.named in
    let plain = blankless_plain name word.blankless in
    let line = command_line verb id name in
    let header : header_of (words line) ≡ Some (record { start = starts.Command verb; id = id; rest = name ∷ version_words }) =
    ap header_of (words_of_command verb id name parts.known small word.some plain) ∙ rw (start_of_verb verb parts.known, id_again id some short) refl
    in
    headed_text line (rest_text params body) (record { start = starts.Command verb; id = id; rest = name ∷ version_words })
    (command_feedless verb id name small (feedless_text name word.feedless)) (trim_command verb id name parts.known) (command_full verb id name) header
    ∙ rw (params_again params body parts.each, body_again body parts.whole) refl

response_text_again : (code id : ℕ) (params : List Param) (body : List ℕ) → is_writable (Response code id params body) ≡ true
    → read_text (ended (response_line code id) ++ rest_text params body) ≡ message (Response code id params body)
unfolding response_from header_of response_line
response_text_again code id params body can =
    let parts = response_parts code id params body can in
    let bounds = id_bounds id parts.has_id in
    let some : 1 ≤ id = bounds.0 in
    let short : id ≤ 999999999 = bounds.1 in
    let small : id < 2 ^ 64 = omega arith in
    let b : Bool = code == 200 || code == 250 in
    let line = response_line code id in
    let header : header_of (words line) ≡ Some (record { start = starts.Response code; id = id; rest = ok_words b }) =
    ap header_of (words_of_response code id b small) ∙ rw (start_of_code code parts.digits, id_again id some short) refl
    in
    headed_text line (rest_text params body) (record { start = starts.Response code; id = id; rest = ok_words b })
    (response_feedless code id small) (trim_response code id b small) refl header
    ∙ rw (some_again params body parts.each, body_again body parts.whole) refl

-- what is written of a message that can be written is read as it
pub read_again : (said : Message) → is_writable said ≡ true → read_text (written said) ≡ message said
unfolding written
read_again (Command verb id name params body) can =
    ap read_text (append_assoc (ended (command_line verb id name)) (lines_text params) (body_text body)) ∙ command_text_again verb id name params body can
read_again (Response code id params body) can =
    ap read_text (append_assoc (ended (response_line code id)) (lines_text params) (body_text body)) ∙ response_text_again code id params body can

reads_written : (said : Message) → is_writable said ≡ true → Reads (written said) (message said)
reads_written said can = subst (λ (outcome : Outcome). Reads (written said) outcome) (read_again said can) (reads_some (written said))

pub ok_reads : {E : Type 0} (said : Message) (given : Result (List ℕ) E) → is_writable said ≡ true → IfOk given (λ text. text ≡ written said)
    → IfOk given (λ text. Reads text (message said))
ok_reads said (Ok text) can is = rw is (reads_written said can)
ok_reads said (Err fault) can is = tt
