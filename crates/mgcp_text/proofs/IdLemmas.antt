-- Transaction ids and return codes of what is read.
use Rattle.std.proofs.Common.{◌≡◌, ℕ, ◌<◌, ◌≤◌, ◌^◌, ◌==◌, Bool, true, false, if◌then◌else◌, List, [], ◌∷◌, length, Option, Some, None, refl, ap, ◌∙◌, arith, rules}
use Rattle.std.specs.Prelude.{IfSome, nat_le, unwrap_or}
use Rattle.std.specs.List.{list_all}
use Rattle.std.specs.Char.{is_ascii_digit}
use Rattle.std.specs.Str.Parse.{digits_value}
use Rattle.std.proofs.lemmas.Bool.{and_parts, leb-true}
use Rattle.std.proofs.lemmas.Bool.Decides.{nat_tests}
use Rattle.std.proofs.lemmas.Option.{none-some}
use Rattle.std.proofs.lemmas.Str.Parse.{digits_value_short, IsNumeralModel, numerals_by_value}
use Rattle.mg_bytes.specs.Lines.{cut, line_of}
use Rattle.mg_bytes.specs.Numbers.{is_decimal, decimal_of}
use Rattle.mg_bytes.specs.Option.{◌>>=◌}
use Rattle.mg_bytes.specs.Words.{words}
use Rattle.mgcp_text.specs.declared.message.Param.{Param}
use Rattle.mgcp_text.specs.declared.message.Verb.{Verb}
use Rattle.mgcp_text.specs.declared.header.Start.{Start}
use Rattle.mgcp_text.specs.declared.header.Start.TheVariants as starts
use Rattle.mgcp_text.specs.Header.{HeaderTail, id_from, id_of, command_verb, return_code, start_of, header_of, tail_of, is_version}
use Rattle.mgcp_text.specs.Reading.{id_in, code_in, params_of, command_from, response_from, message_from, header_from, outcome_from, skip_empty, read_text}
use Rattle.mgcp_text.specs.Writing.{is_id}

pub is_id_true : (id : ℕ) → 1 ≤ id → id ≤ 999999999 → is_id id ≡ true
unfolding is_id
is_id_true id some short = grind (arith, nat_tests)

-- What is read has an id of 1 to 9 digits

abbrev pub IsId : ℕ → Type 0
IsId id = (1 ≤ id) × (id ≤ 999999999)

own : IsNumeralModel (λ ds. list_all is_ascii_digit ds ≡ true) (digits_value 10)
own = numerals_by_value _ (search rules)

some_is : (x y : ℕ) → Some x ≡ Some y → x ≡ y
some_is x y e = ap (λ (o : Option ℕ). unwrap_or o x) e

short_number : (k : ℕ) (text : List ℕ) (n : ℕ) → decimal_of text ≡ Some n → length text ≤ k → n < 10 ^ k
unfolding decimal_of
short_number k text n read short = by_test (is_decimal text) refl read where
  by_test : (b : Bool) → is_decimal text ≡ b → (if b then Some (digits_value 10 text) else None) ≡ Some n → n < 10 ^ k
  by_test true is e =
      let all = (and_parts _ (list_all is_ascii_digit text) is).1 in
      rw (← some_is (digits_value 10 text) n e) (digits_value_short own text k all short)
  by_test false is e = absurd (none-some n e)

word_id : (word : List ℕ) (id : ℕ) → id_of word ≡ Some id → IsId id
unfolding id_of
word_id word id read = by_length (nat_le (length word) 9) refl read where
  by_zero : (n : ℕ) (b : Bool) → (n == 0) ≡ b → n < 10 ^ 9 → (if b then None else Some n) ≡ Some id → IsId id
  by_zero n true zero small e = absurd (none-some id e)
  by_zero n false other small e =
      let is : n ≡ id = some_is n id e in
      rw (← is) (grind (arith, nat_tests), grind (arith, nat_tests))

  by_number : (number : Option ℕ) → decimal_of word ≡ number → length word ≤ 9 → (number >>= id_from) ≡ Some id → IsId id
  by_number None none short e = absurd (none-some id e)
  by_number (Some n) some short e = by_zero n (n == 0) refl (short_number 9 word n some short) e

  by_length : (b : Bool) → nat_le (length word) 9 ≡ b → (if b then decimal_of word >>= id_from else None) ≡ Some id → IsId id
  by_length true short e = by_number (decimal_of word) refl (leb-true _ _ short) e
  by_length false long e = absurd (none-some id e)

command_id : (verb : Verb) (id : ℕ) (rest pieces : List (List ℕ)) → id_in (command_from verb id rest pieces) ≡ Some id
unfolding command_from
command_id verb id rest pieces = by_tail (tail_of rest) refl where
  by_params : (read : Option (List Param × List (List ℕ))) (tail : HeaderTail) → tail_of rest ≡ Some tail → is_version tail.protocol tail.version ≡ true
      → params_of pieces ≡ read → id_in (command_from verb id rest pieces) ≡ Some id
  by_params None tail is version none = rw (is, version, none) refl
  by_params (Some read) tail is version some = rw (is, version, some) refl

  by_version : (b : Bool) (tail : HeaderTail) → tail_of rest ≡ Some tail → is_version tail.protocol tail.version ≡ b → id_in (command_from verb id rest pieces) ≡ Some id
  by_version true tail is version = by_params (params_of pieces) tail is version refl
  by_version false tail is version = rw (is, version) refl

  by_tail : (tail : Option HeaderTail) → tail_of rest ≡ tail → id_in (command_from verb id rest pieces) ≡ Some id
  by_tail None none = rw none refl
  by_tail (Some tail) some = by_version (is_version tail.protocol tail.version) tail some refl

message_id : (start : Start) (id : ℕ) (rest pieces : List (List ℕ)) → id_in (message_from start id rest pieces) ≡ Some id
unfolding response_from
message_id (starts.Command verb) id rest pieces = command_id verb id rest pieces
message_id (starts.Response code) id rest pieces = refl

headed_id : (line : List (List ℕ)) (pieces : List (List ℕ)) → IfSome (id_in (header_from (header_of line) pieces)) IsId
unfolding header_of
headed_id [] pieces = tt
headed_id (kind ∷ []) pieces = tt
headed_id (kind ∷ number ∷ rest) pieces = by_start (start_of kind) refl where
  by_id : (start : Start) (id : Option ℕ) → start_of kind ≡ Some start → id_of number ≡ id → IfSome (id_in (header_from (header_of (kind ∷ number ∷ rest)) pieces)) IsId
  by_id start None is none = rw (is, none) tt
  by_id start (Some id) is some = rw (is, some, message_id start id rest pieces) (word_id number id some)

  by_start : (start : Option Start) → start_of kind ≡ start → IfSome (id_in (header_from (header_of (kind ∷ number ∷ rest)) pieces)) IsId
  by_start None none = rw none tt
  by_start (Some start) some = by_id start (id_of number) some refl

piece_id : (pieces : List (List ℕ)) → IfSome (id_in (outcome_from pieces)) IsId
piece_id [] = tt
piece_id (piece ∷ pieces) = headed_id (words (line_of piece)) pieces

pub read_id : (text : List ℕ) → IfSome (id_in (read_text text)) IsId
unfolding read_text
read_id text = piece_id (skip_empty (cut text))

-- What is read as a response has a code of three digits

abbrev pub IsReturnCode : ℕ → Type 0
IsReturnCode code = code ≤ 999

word_code : (word : List ℕ) (code : ℕ) → return_code word ≡ Some code → IsReturnCode code
word_code word code read = by_length (length word == 3) refl read where
  by_length : (b : Bool) → (length word == 3) ≡ b → (if b then decimal_of word else None) ≡ Some code → IsReturnCode code
  by_length true three e =
      let short : length word ≤ 3 = grind (arith, nat_tests) in
      let small : code < 10 ^ 3 = short_number 3 word code e short in
      omega arith
  by_length false other e = absurd (none-some code e)

abbrev IsStart : Start → Type 0
IsStart (starts.Command verb) = Unit {0}
IsStart (starts.Response code) = IsReturnCode code

start_is : (x y : Start) → Some x ≡ Some y → x ≡ y
start_is x y e = ap (λ (o : Option Start). unwrap_or o x) e

first_code : (word : List ℕ) (start : Start) → start_of word ≡ Some start → IsStart start
unfolding start_of
first_code word start e = by_code (return_code word) refl where
  by_verb : (verb : Option Verb) → command_verb word ≡ verb → return_code word ≡ None → IsStart start
  by_verb None no_verb none = absurd (let is : None ≡ Some start = (rw (none, no_verb) refl) ∙ e in cc)
  by_verb (Some verb) some none =
      let is : Some (starts.Command verb) ≡ Some start = (rw (none, some) refl) ∙ e in
      rw (← start_is (starts.Command verb) start is) tt

  by_code : (code : Option ℕ) → return_code word ≡ code → IsStart start
  by_code None none = by_verb (command_verb word) refl none
  by_code (Some code) some =
      let is : Some (starts.Response code) ≡ Some start = (rw some refl) ∙ e in
      rw (← start_is (starts.Response code) start is) (word_code word code some)

command_code : (verb : Verb) (id : ℕ) (rest pieces : List (List ℕ)) → code_in (command_from verb id rest pieces) ≡ None
unfolding command_from
command_code verb id rest pieces = by_tail (tail_of rest) refl where
  by_params : (read : Option (List Param × List (List ℕ))) (tail : HeaderTail) → tail_of rest ≡ Some tail → is_version tail.protocol tail.version ≡ true
      → params_of pieces ≡ read → code_in (command_from verb id rest pieces) ≡ None
  by_params None tail is version none = rw (is, version, none) refl
  by_params (Some read) tail is version some = rw (is, version, some) refl

  by_version : (b : Bool) (tail : HeaderTail) → tail_of rest ≡ Some tail → is_version tail.protocol tail.version ≡ b → code_in (command_from verb id rest pieces) ≡ None
  by_version true tail is version = by_params (params_of pieces) tail is version refl
  by_version false tail is version = rw (is, version) refl

  by_tail : (tail : Option HeaderTail) → tail_of rest ≡ tail → code_in (command_from verb id rest pieces) ≡ None
  by_tail None none = rw none refl
  by_tail (Some tail) some = by_version (is_version tail.protocol tail.version) tail some refl

message_code : (start : Start) (id : ℕ) (rest pieces : List (List ℕ)) → IsStart start → IfSome (code_in (message_from start id rest pieces)) IsReturnCode
unfolding response_from
message_code (starts.Command verb) id rest pieces is = rw (command_code verb id rest pieces) tt
message_code (starts.Response code) id rest pieces is = is

headed_code : (line : List (List ℕ)) (pieces : List (List ℕ)) → IfSome (code_in (header_from (header_of line) pieces)) IsReturnCode
unfolding header_of
headed_code [] pieces = tt
headed_code (kind ∷ []) pieces = tt
headed_code (kind ∷ number ∷ rest) pieces = by_start (start_of kind) refl where
  by_id : (start : Start) (id : Option ℕ) → start_of kind ≡ Some start → id_of number ≡ id → IfSome (code_in (header_from (header_of (kind ∷ number ∷ rest)) pieces)) IsReturnCode
  by_id start None is none = rw (is, none) tt
  by_id start (Some id) is some = rw (is, some) (message_code start id rest pieces (first_code kind start is))

  by_start : (start : Option Start) → start_of kind ≡ start → IfSome (code_in (header_from (header_of (kind ∷ number ∷ rest)) pieces)) IsReturnCode
  by_start None none = rw none tt
  by_start (Some start) some = by_id start (id_of number) some refl

piece_code : (pieces : List (List ℕ)) → IfSome (code_in (outcome_from pieces)) IsReturnCode
piece_code [] = tt
piece_code (piece ∷ pieces) = headed_code (words (line_of piece)) pieces

pub read_code : (text : List ℕ) → IfSome (code_in (read_text text)) IsReturnCode
unfolding read_text
read_code text = piece_code (skip_empty (cut text))
