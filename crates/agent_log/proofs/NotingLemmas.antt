-- What is noted of a text is what is noted of its header.
use Rattle.std.proofs.Common.{◌≡◌, ℕ, ◌+◌, ◌-◌, ◌==◌, Bool, true, false, List, [], ◌∷◌, ◌++◌, length, take, refl, sym, ap, ◌∙◌, arith, append-nil, Option, Some, None, ⊎_elim}
use Rattle.std.specs.Prelude.{IfOk, IfSome, Result, Ok, Err, option_map, unwrap_or}
use Rattle.std.specs.List.{concat}
use Rattle.std.proofs.lemmas.Bool.{cases_Bool}
use Rattle.std.proofs.lemmas.List.{length-append, take_at}
use Rattle.std.proofs.lemmas.Option.{none-some}
use Rattle.mg_bytes.specs.Lists.{is_empty}
use Rattle.mg_bytes.specs.Lines.{cut, line_of}
use Rattle.mg_bytes.specs.Words.{words}
use Rattle.mg_bytes.proofs.CutLemmas.{AreLines, lines-cut, cut_ended}
use Rattle.mg_bytes.proofs.PieceLemmas.{concat-cut, cut-nil}
use Rattle.mgcp_text.specs.declared.message.Verb.{Verb}
use Rattle.mgcp_text.specs.declared.message.Param.{Param}
use Rattle.mgcp_text.specs.declared.header.Start.{Start}
use Rattle.mgcp_text.specs.declared.header.Start.TheVariants as starts
use Rattle.mgcp_text.specs.declared.header.Header.{Header}
use Rattle.mgcp_text.specs.Header.{HeaderTail, tail_of, header_of, is_version}
use Rattle.log_format.specs.declared.note.Note.{Note}
use Rattle.mgcp_text.specs.Reading.{Outcome, no_header, is_empty_line, skip_empty, params_of, command_from, response_from, message_from, header_from, outcome_from, read_text}
use Rattle.agent_log.specs.Noting.{first_piece, header_in, command_note, note_as, text_note}

-- The pieces from the header on

skip_blank : (piece : List ℕ) (pieces : List (List ℕ)) → is_empty_line piece ≡ true → skip_empty (piece ∷ pieces) ≡ skip_empty pieces
unfolding skip_empty
skip_blank piece pieces blank = rw blank refl

skip_full : (piece : List ℕ) (pieces : List (List ℕ)) → is_empty_line piece ≡ false → skip_empty (piece ∷ pieces) ≡ piece ∷ pieces
unfolding skip_empty
skip_full piece pieces full = rw full refl

skip_none : skip_empty [] ≡ []
unfolding skip_empty
skip_none = refl

later_lines : (piece : List ℕ) (pieces : List (List ℕ)) → AreLines (piece ∷ pieces) → AreLines pieces
later_lines piece [] are = tt
later_lines piece (next ∷ pieces) are = are.1

skipped_lines : (pieces : List (List ℕ)) → AreLines pieces → AreLines (skip_empty pieces)
skipped_lines [] are = rw skip_none tt
skipped_lines (piece ∷ pieces) are =
    ⊎_elim
    (λ (blank : is_empty_line piece ≡ true). rw (skip_blank piece pieces blank) (skipped_lines pieces (later_lines piece pieces are)))
    (λ (full : is_empty_line piece ≡ false). rw (skip_full piece pieces full) are)
    (cases_Bool (is_empty_line piece))

-- the first of them is a line of its own, and not empty
skipped_full : (pieces : List (List ℕ)) (piece : List ℕ) (more : List (List ℕ)) → skip_empty pieces ≡ piece ∷ more → is_empty_line piece ≡ false
skipped_full [] piece more e = let none : [] ≡ piece ∷ more = sym skip_none ∙ e in absurd cc
skipped_full (first ∷ pieces) piece more e =
    ⊎_elim
    (λ (blank : is_empty_line first ≡ true). skipped_full pieces piece more (sym (skip_blank first pieces blank) ∙ e))
    (λ (full : is_empty_line first ≡ false). let same : first ∷ pieces ≡ piece ∷ more = sym (skip_full first pieces full) ∙ e in let heads : first ≡ piece = cc in rw (← heads) full)
    (cases_Bool (is_empty_line first))

cut_alone : (piece : List ℕ) (more : List (List ℕ)) → AreLines (piece ∷ more) → cut piece ≡ piece ∷ []
cut_alone piece [] are = are
cut_alone piece (next ∷ more) are =
    ap cut (sym (append-nil piece)) ∙ cut_ended piece [] are.0 ∙ ap (λ (pieces : List (List ℕ)). piece ∷ pieces) cut-nil

-- What is read of a header says

command_notes : (again : Bool) (verb : Verb) (id : ℕ) (rest pieces : List (List ℕ)) → note_as again (command_from verb id rest pieces) ≡ command_note again id
unfolding command_from
command_notes again verb id rest pieces = by_tail (tail_of rest) refl where
  by_params : (read : Option (List Param × List (List ℕ))) (tail : HeaderTail) → tail_of rest ≡ Some tail → is_version tail.protocol tail.version ≡ true
      → params_of pieces ≡ read → note_as again (command_from verb id rest pieces) ≡ command_note again id
  by_params None tail is version none = rw (is, version, none) refl
  by_params (Some read) tail is version some = rw (is, version, some) refl

  by_version : (b : Bool) (tail : HeaderTail) → tail_of rest ≡ Some tail → is_version tail.protocol tail.version ≡ b → note_as again (command_from verb id rest pieces) ≡ command_note again id
  by_version true tail is version = by_params (params_of pieces) tail is version refl
  by_version false tail is version = rw (is, version) refl

  by_tail : (tail : Option HeaderTail) → tail_of rest ≡ tail → note_as again (command_from verb id rest pieces) ≡ command_note again id
  by_tail None none = rw none refl
  by_tail (Some tail) some = by_version (is_version tail.protocol tail.version) tail some refl

message_notes : (again : Bool) (start : Start) (id : ℕ) (rest some more : List (List ℕ)) → note_as again (message_from start id rest some) ≡ note_as again (message_from start id rest more)
unfolding response_from
message_notes again (starts.Command verb) id rest some more = command_notes again verb id rest some ∙ sym (command_notes again verb id rest more)
message_notes again (starts.Response code) id rest some more = refl

header_notes : (again : Bool) (header : Option Header) (some more : List (List ℕ)) → note_as again (header_from header some) ≡ note_as again (header_from header more)
header_notes again None some more = refl
header_notes again (Some h) some more = message_notes again h.start h.id h.rest some more

read_alone : (piece : List ℕ) → is_empty_line piece ≡ false → cut piece ≡ piece ∷ [] → read_text piece ≡ header_from (header_of (words (line_of piece))) []
unfolding read_text
read_alone piece full alone = ap (λ (pieces : List (List ℕ)). outcome_from (skip_empty pieces)) alone ∙ ap outcome_from (skip_full piece [] full)

read_nothing : read_text [] ≡ no_header
unfolding read_text
read_nothing = ap (λ (pieces : List (List ℕ)). outcome_from (skip_empty pieces)) cut-nil ∙ ap outcome_from skip_none

first_notes : (again : Bool) (pieces : List (List ℕ)) → AreLines pieces
    → ((piece : List ℕ) (more : List (List ℕ)) → pieces ≡ piece ∷ more → is_empty_line piece ≡ false)
    → note_as again (read_text (first_piece pieces)) ≡ note_as again (outcome_from pieces)
first_notes again [] are full = ap (note_as again) read_nothing
first_notes again (piece ∷ more) are full =
    ap (note_as again) (read_alone piece (full piece more refl) (cut_alone piece more are))
    ∙ header_notes again (header_of (words (line_of piece))) [] more

text_notes : (again : Bool) (text : List ℕ) → text_note again (header_in text) ≡ text_note again text
unfolding read_text
text_notes again text =
    first_notes again (skip_empty (cut text)) (skipped_lines (cut text) (lines-cut text)) (λ piece more e. skipped_full (cut text) piece more e)

pub header_noted : {E : Type 0} → (again : Bool) (text : List ℕ) (result : Result (Option Note) E)
    → IfOk result (λ note. note ≡ text_note again (header_in text)) → IfOk result (λ note. note ≡ text_note again text)
header_noted again text (Ok told) is = is ∙ text_notes again text
header_noted again text (Err refused) is = tt

same_note : (again : Bool) (text : List ℕ) (told : Option Note) (read : Option Outcome) → Some told ≡ option_map (note_as again) read
    → IfSome read (λ outcome. outcome ≡ read_text text) → told ≡ text_note again text
same_note again text told None e is = absurd (none-some told (sym e))
same_note again text told (Some outcome) e is = ap (λ (o : Option (Option Note)). unwrap_or o None) e ∙ ap (note_as again) is

-- what was read is noted
pub read_noted : {E : Type 0} → (again : Bool) (text : List ℕ) (read : Option Outcome) (result : Result (Option Note) E)
    → IfOk result (λ note. Some note ≡ option_map (note_as again) read) → IfSome read (λ outcome. outcome ≡ read_text text)
    → IfOk result (λ note. note ≡ text_note again text)
read_noted again text read (Ok told) e is = same_note again text told read e is
read_noted again text read (Err refused) e is = tt

-- A header is found

piece_before : (here piece behind : List ℕ) (more : List (List ℕ)) → cut here ≡ piece ∷ more → behind ≡ concat more
    → take (length here - length behind) here ≡ piece
piece_before here piece behind more pieces rest =
    let whole : here ≡ piece ++ concat more = sym (concat-cut here) ∙ ap concat pieces in
    let sum : length here ≡ length piece + length behind = ap length whole ∙ length-append piece (concat more) ∙ ap (λ (xs : List ℕ). length piece + length xs) (sym rest) in
    let size : length piece ≡ length here - length behind = omega (arith, sum) in
    ap (take (length here - length behind)) whole ∙ take_at piece (concat more) _ size

is_full : (line : List ℕ) → (length line == 0) ≡ false → is_empty line ≡ false
is_full [] some = absurd cc
is_full (b ∷ bs) some = refl

pub header_found : (text here line piece behind : List ℕ) (left more : List (List ℕ)) → skip_empty left ≡ skip_empty (cut text) → cut here ≡ left
    → left ≡ piece ∷ more → line ≡ line_of piece → (length line == 0) ≡ false → behind ≡ concat more
    → take (length here - length behind) here ≡ header_in text
header_found text here line piece behind left more same is steps first some rest =
    let full : is_empty_line piece ≡ false = rw first at (is_full line some) in
    piece_before here piece behind more (is ∙ steps) rest
    ∙ ap first_piece (sym (skip_full piece more full) ∙ ap skip_empty (sym steps) ∙ same)
