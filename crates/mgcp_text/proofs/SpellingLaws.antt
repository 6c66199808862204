-- Each text is read as one outcome: the function and the relation say the same.
use Rattle.std.proofs.Common.{◌≡◌, ℕ, ◌<◌, inl, inr, true, false, List, [], ◌∷◌, ◌++◌, length, Option, Some, None, refl, sym, ap, ◌∙◌, arith, ⊎_elim, ◌⊎◌, append-nil}
use Rattle.std.specs.Prelude.{Ok, IfSome, option_map, filter_map}
use Rattle.std.specs.List.{AllByRecursion}
use Rattle.std.proofs.lemmas.Bool.{cases_Bool}
use Rattle.mg_bytes.specs.Checks.{given}
use Rattle.mg_bytes.specs.Lines.{cut, line_of}
use Rattle.mg_bytes.specs.Words.{words, split_once}
use Rattle.mgcp_text.specs.declared.message.Verb.{Verb}
use Rattle.mgcp_text.specs.declared.message.Param.{Param}
use Rattle.mgcp_text.specs.declared.message.Message.TheVariants.{Command, Response}
use Rattle.mgcp_text.specs.declared.header.Start.{Start}
use Rattle.mgcp_text.specs.declared.header.Start.TheVariants as starts
use Rattle.mgcp_text.specs.declared.header.Header.{Header}
use Rattle.mgcp_text.specs.Header.{header_of, is_version}
use Rattle.mgcp_text.specs.Parameter.{param_of}
use Rattle.mg_bytes.specs.Lists.{is_empty}
use Rattle.mgcp_text.specs.Reading.{Outcome, message, no_header, bad_version, bad_body, is_empty_line, skip_empty, put_front, params_of, some_params_of, description_of, read_as, command_from, response_from, message_from, read_text}
use Rattle.mgcp_text.specs.Spelling.{IsEmptyLine, IsFullLine, BeginsWith, HasHeader, AreParams, EndsParams, HasParams, HasSomeParams, HasStray, HasName, HasOtherVersion, HasCommand, Reads}

-- ---- the first line that isn't empty

skip_front : (front : List (List ℕ)) (piece : List ℕ) (following : List (List ℕ)) → AllByRecursion IsEmptyLine front → IsFullLine piece
    → skip_empty (front ++ (piece ∷ following)) ≡ piece ∷ following
unfolding skip_empty
skip_front [] piece following skipped full = rw full refl
skip_front (p ∷ ps) piece following skipped full = rw (skipped.0) (skip_front ps piece following skipped.1 full)

-- what is left of the pieces is found after empty lines
record Skips (pieces : List (List ℕ)) (piece : List ℕ) (following : List (List ℕ)) : Type 0 where
  front : List (List ℕ)
  parts : pieces ≡ front ++ (piece ∷ following)
  skipped : AllByRecursion IsEmptyLine front
  full : IsFullLine piece

skips : (pieces : List (List ℕ)) (piece : List ℕ) (following : List (List ℕ)) → skip_empty pieces ≡ piece ∷ following → Skips pieces piece following
unfolding skip_empty
skips [] piece following e = absurd cc
skips (p ∷ ps) piece following e =
    ⊎_elim
    (λ (h : is_empty_line p ≡ true).
    let rest = skips ps piece following (rw h at e) in
    record { front = p ∷ rest.front; parts = ap (λ (x : List (List ℕ)). p ∷ x) rest.parts; skipped = (h, rest.skipped); full = rest.full })
    (λ (h : is_empty_line p ≡ false).
    let same : (p ∷ ps) ≡ (piece ∷ following) = (rw h at e) in
    let first : p ≡ piece = cc in
    record { front = []; parts = same; skipped = tt; full = rw (← first) h })
    (cases_Bool (is_empty_line p))

skip_is : (text line : List ℕ) (following : List (List ℕ)) (b : BeginsWith text line following) → skip_empty (cut text) ≡ b.piece ∷ following
skip_is text line following b = ap skip_empty b.pieces ∙ skip_front b.front b.piece following b.skipped b.full

-- what is read of a text with this header
header_is : (text : List ℕ) (h : Header) (following : List (List ℕ)) → HasHeader text h following → read_text text ≡ message_from h.start h.id h.rest following
unfolding read_text
header_is text h following has =
    rw (skip_is text has.line following has.first, ← has.first.is_line, has.header) refl

-- ---- the parameters

full_param : (line : List ℕ) (param : Param) → param_of line ≡ Some param → is_empty line ≡ false
unfolding param_of split_once
full_param [] param e = absurd cc
full_param (b ∷ bs) param e = refl

front_none : (read : Option (List Param × List (List ℕ))) → read ≡ option_map (put_front []) read
front_none None = refl
front_none (Some read) = refl

front_more : (param : Param) (params : List Param) (read : Option (List Param × List (List ℕ)))
    → option_map (put_front (param ∷ [])) (option_map (put_front params) read) ≡ option_map (put_front (param ∷ params)) read
front_more param params None = refl
front_more param params (Some read) = refl

-- parameters in front
params_front : (lines : List (List ℕ)) (params : List Param) (after : List (List ℕ)) → AreParams lines params
    → params_of (lines ++ after) ≡ option_map (put_front params) (params_of after)
unfolding params_of
params_front [] [] after each = front_none (params_of after)
params_front [] (p ∷ ps) after each = absurd cc
params_front (l ∷ ls) [] after each = absurd cc
params_front (l ∷ ls) (p ∷ ps) after each =
    let first : param_of (line_of l) ≡ Some p = cc in
    let others : AreParams ls ps = cc in
    rw (full_param (line_of l) p first, first, params_front ls ps after others) (front_more p ps (params_of after))

params_end : (after rest : List (List ℕ)) → EndsParams after rest → params_of after ≡ Some ([], rest)
unfolding params_of
params_end [] rest ends = rw ends refl
params_end (piece ∷ pieces) rest ends = rw (ends.0, ends.1) refl

params_are : (pieces : List (List ℕ)) (params : List Param) (rest : List (List ℕ)) → HasParams pieces params rest → params_of pieces ≡ Some (params, rest)
params_are pieces params rest has =
    ap params_of has.parts ∙ params_front has.lines params has.after has.each ∙ ap (option_map (put_front params)) (params_end has.after rest has.ends)
    ∙ rw (append-nil params) refl

stray_at : (stray : List ℕ) (after : List (List ℕ)) → IsFullLine stray → param_of (line_of stray) ≡ None → params_of (stray ∷ after) ≡ None
unfolding params_of
stray_at stray after full no_param = rw (full, no_param) refl

stray_is : (pieces : List (List ℕ)) → HasStray pieces → params_of pieces ≡ None
stray_is pieces has =
    ap params_of has.parts ∙ params_front has.lines has.params (has.stray ∷ has.after) has.each
    ∙ ap (option_map (put_front has.params)) (stray_at has.stray has.after has.full has.no_param)

abbrev Found : List (List ℕ) → Type 0
Found pieces = ((params : List Param) × (rest : List (List ℕ)) × HasParams pieces params rest) ⊎ HasStray pieces

each_more : (line : List ℕ) (param : Param) (lines : List (List ℕ)) (params : List Param) → param_of (line_of line) ≡ Some param → AreParams lines params → AreParams (line ∷ lines) (param ∷ params)
each_more line param lines params first others = rw first (ap (λ (x : List (Option Param)). Some param ∷ x) others)

found_more : (piece : List ℕ) (pieces : List (List ℕ)) (param : Param) → param_of (line_of piece) ≡ Some param → Found pieces → Found (piece ∷ pieces)
found_more piece pieces param first (inl (params, rest, has)) =
    inl (
      param ∷ params,
      rest,
      record {
        lines = piece ∷ has.lines;
        after = has.after;
        parts = ap (λ (x : List (List ℕ)). piece ∷ x) has.parts;
        each = each_more piece param has.lines params first has.each;
        ends = has.ends;
      },
    )
found_more piece pieces param first (inr has) =
    inr (record {
      lines = piece ∷ has.lines;
      params = param ∷ has.params;
      stray = has.stray;
      after = has.after;
      parts = ap (λ (x : List (List ℕ)). piece ∷ x) has.parts;
      each = each_more piece param has.lines has.params first has.each;
      full = has.full;
      no_param = has.no_param;
    })

found_at : (piece : List ℕ) (pieces : List (List ℕ)) → IsFullLine piece → (read : Option Param) → param_of (line_of piece) ≡ read → Found pieces → Found (piece ∷ pieces)
found_at piece pieces full None e others =
    inr (record { lines = []; params = []; stray = piece; after = pieces; parts = refl; each = refl; full = full; no_param = e })
found_at piece pieces full (Some param) e others = found_more piece pieces param e others

-- pieces begin with parameters, or with a stray line among them
found : (pieces : List (List ℕ)) → Found pieces
found [] = inl ([], [], record { lines = []; after = []; parts = refl; each = refl; ends = refl })
found (piece ∷ pieces) =
    ⊎_elim
    (λ (h : is_empty_line piece ≡ true). inl ([], pieces, record { lines = []; after = piece ∷ pieces; parts = refl; each = refl; ends = (h, refl) }))
    (λ (h : is_empty_line piece ≡ false). found_at piece pieces h (param_of (line_of piece)) refl (found pieces))
    (cases_Bool (is_empty_line piece))

-- ---- the parameters of a response

abbrev in_lines : List (List ℕ) → List Param
in_lines lines = filter_map (λ piece. param_of (line_of piece)) lines

-- full lines in front
some_front : (lines after : List (List ℕ)) → AllByRecursion IsFullLine lines → some_params_of (lines ++ after) ≡ put_front (in_lines lines) (some_params_of after)
unfolding some_params_of
some_front [] after full = refl
some_front (l ∷ ls) after full = by_read (param_of (line_of l)) refl (some_front ls after full.1) where
  by_read : (found : Option Param) → param_of (line_of l) ≡ found → some_params_of (ls ++ after) ≡ put_front (in_lines ls) (some_params_of after)
      → some_params_of ((l ∷ ls) ++ after) ≡ put_front (in_lines (l ∷ ls)) (some_params_of after)
  by_read None none others = rw (full.0, none, others) refl
  by_read (Some param) some others = rw (full.0, some, others) refl

some_end : (after rest : List (List ℕ)) → EndsParams after rest → some_params_of after ≡ ([], rest)
unfolding some_params_of
some_end [] rest ends = rw ends refl
some_end (piece ∷ pieces) rest ends = rw (ends.0, ends.1) refl

some_are : (pieces : List (List ℕ)) (params : List Param) (rest : List (List ℕ)) → HasSomeParams pieces params rest → some_params_of pieces ≡ (params, rest)
some_are pieces params rest has =
    ap some_params_of has.parts ∙ some_front has.lines has.after has.full ∙ ap (put_front (in_lines has.lines)) (some_end has.after rest has.ends)
    ∙ rw (append-nil (in_lines has.lines), has.each) refl

abbrev SomeFound : List (List ℕ) → Type 0
SomeFound pieces = (params : List Param) × (rest : List (List ℕ)) × HasSomeParams pieces params rest

some_more : (piece : List ℕ) (pieces : List (List ℕ)) → IsFullLine piece → SomeFound pieces → SomeFound (piece ∷ pieces)
some_more piece pieces full (params, rest, has) = (
  in_lines (piece ∷ has.lines),
  rest,
  record {
    lines = piece ∷ has.lines;
    after = has.after;
    parts = ap (λ (x : List (List ℕ)). piece ∷ x) has.parts;
    full = (full, has.full);
    each = refl;
    ends = has.ends;
  },
)

-- pieces begin with the lines of a response
some_found : (pieces : List (List ℕ)) → SomeFound pieces
some_found [] = ([], [], record { lines = []; after = []; parts = refl; full = tt; each = refl; ends = refl })
some_found (piece ∷ pieces) =
    ⊎_elim
    (λ (h : is_empty_line piece ≡ true). ([], pieces, record { lines = []; after = piece ∷ pieces; parts = refl; full = tt; each = refl; ends = (h, refl) }))
    (λ (h : is_empty_line piece ≡ false). some_more piece pieces h (some_found pieces))
    (cases_Bool (is_empty_line piece))

response_is : (code id : ℕ) (pieces : List (List ℕ)) (params : List Param) (rest : List (List ℕ)) → HasSomeParams pieces params rest
    → response_from code id pieces ≡ message (Response code id params (description_of rest))
unfolding response_from
response_is code id pieces params rest has = rw (some_are pieces params rest has) refl

-- ---- the words after the id

-- a command with this name, and what was read of its parameters
abbrev with_params : Verb → ℕ → List ℕ → Option (List Param × List (List ℕ)) → Outcome
with_params verb id name params =
    read_as (given params (bad_body id) (λ read. Ok (Command verb id name read.0 (description_of read.1))))

short_is : (verb : Verb) (id : ℕ) (rest pieces : List (List ℕ)) → length rest < 3 → command_from verb id rest pieces ≡ bad_body id
unfolding command_from
short_is verb id [] pieces short = refl
short_is verb id (a ∷ []) pieces short = refl
short_is verb id (a ∷ b ∷ []) pieces short = refl
short_is verb id (a ∷ b ∷ c ∷ more) pieces short = absurd (omega arith)

named_is : (verb : Verb) (id : ℕ) (rest pieces : List (List ℕ)) (name : List ℕ) → HasName rest name → command_from verb id rest pieces ≡ with_params verb id name (params_of pieces)
unfolding command_from
named_is verb id rest pieces name has = rw (has.parts, has.spoken) refl

other_is : (verb : Verb) (id : ℕ) (rest pieces : List (List ℕ)) → HasOtherVersion rest → command_from verb id rest pieces ≡ bad_version id
unfolding command_from
other_is verb id rest pieces has = rw (has.parts, has.other) refl

-- ---- the text

data Top (text : List ℕ) : Type 0 where
  without : read_text text ≡ no_header → ((h : Header) (following : List (List ℕ)) → HasHeader text h following → ⊥) → Top text
  with : (h : Header) (following : List (List ℕ)) → HasHeader text h following → Top text

module _ (text : List ℕ) where
  top_header : (piece : List ℕ) (following : List (List ℕ)) → skip_empty (cut text) ≡ piece ∷ following → (h : Option Header) → header_of (words (line_of piece)) ≡ h → Top text
  unfolding read_text
  top_header piece following e None none =
      without (rw (e, none) refl) (λ h other has.
      let same : (has.first.piece ∷ other) ≡ (piece ∷ following) = sym (skip_is text has.line other has.first) ∙ e in
      let first : has.first.piece ≡ piece = cc in
      let read : None ≡ Some h = sym none ∙ sym (ap (λ (p : List ℕ). header_of (words (line_of p))) first) ∙ sym (ap (λ (l : List ℕ). header_of (words l)) has.first.is_line) ∙ has.header in
      absurd cc)
  top_header piece following e (Some h) some =
      let s = skips (cut text) piece following e in
      with h following (record {
        line = line_of piece;
        first = record { front = s.front; piece = piece; pieces = s.parts; skipped = s.skipped; full = s.full; is_line = refl };
        header = some;
      })

  top_pieces : (pieces : List (List ℕ)) → skip_empty (cut text) ≡ pieces → Top text
  unfolding read_text
  top_pieces [] e = without (rw e refl) (λ h following has. let none : [] ≡ has.first.piece ∷ following = sym e ∙ skip_is text has.line following has.first in absurd cc)
  top_pieces (piece ∷ following) e = top_header piece following e (header_of (words (line_of piece))) refl

  top : Top text
  top = top_pieces (skip_empty (cut text)) refl

-- three words at least are a name, a protocol and a version
record HasThree (rest : List (List ℕ)) : Type 0 where
  name : List ℕ
  protocol : List ℕ
  version : List ℕ
  more : List (List ℕ)
  words : rest ≡ name ∷ protocol ∷ version ∷ more

three : (rest : List (List ℕ)) → (length rest < 3) ⊎ HasThree rest
three [] = inl (omega arith)
three (a ∷ []) = inl (omega arith)
three (a ∷ b ∷ []) = inl (omega arith)
three (a ∷ b ∷ c ∷ more) = inr (record { name = a; protocol = b; version = c; more = more; words = refl })

module _ (text : List ℕ) (verb : Verb) (id : ℕ) (rest following : List (List ℕ)) (has : HasCommand text verb id rest following) where
  reads_as : (outcome : Outcome) → command_from verb id rest following ≡ outcome → Reads text outcome → Reads text (read_text text)
  reads_as outcome e r = rw (header_is text (record { start = starts.Command verb; id = id; rest = rest }) following has, e) r

  reads_named : (name : List ℕ) → HasName rest name → Found following → Reads text (read_text text)
  reads_named name named (inl (params, after, lines)) =
      reads_as (message (Command verb id name params (description_of after)))
      (named_is verb id rest following name named ∙ ap (with_params verb id name) (params_are following params after lines))
      (record { rest = rest; following = following; after = after; header = has; named = named; lines = lines; description = refl })
  reads_named name named (inr stray) =
      reads_as (bad_body id) (named_is verb id rest following name named ∙ ap (with_params verb id name) (stray_is following stray))
      (verb, rest, following, has, inr (name, named, stray))

  reads_three : HasThree rest → Reads text (read_text text)
  reads_three t =
      ⊎_elim
      (λ (e : is_version t.protocol t.version ≡ true).
      reads_named t.name (record { protocol = t.protocol; version = t.version; more = t.more; parts = t.words; spoken = e }) (found following))
      (λ (e : is_version t.protocol t.version ≡ false).
      let other : HasOtherVersion rest = record { name = t.name; protocol = t.protocol; version = t.version; more = t.more; parts = t.words; other = e } in
      reads_as (bad_version id) (other_is verb id rest following other) (verb, rest, following, has, other))
      (cases_Bool (is_version t.protocol t.version))

  reads_command : (length rest < 3) ⊎ HasThree rest → Reads text (read_text text)
  reads_command (inl short) = reads_as (bad_body id) (short_is verb id rest following short) (verb, rest, following, has, inl short)
  reads_command (inr t) = reads_three t

reads_response : (text : List ℕ) (code id : ℕ) (rest following : List (List ℕ)) → HasHeader text (record { start = starts.Response code; id = id; rest = rest }) following
    → SomeFound following → Reads text (read_text text)
reads_response text code id rest following has (params, after, lines) =
    rw (header_is text (record { start = starts.Response code; id = id; rest = rest }) following has, response_is code id following params after lines)
    (record { rest = rest; following = following; after = after; header = has; lines = lines; description = refl })

reads_start : (text : List ℕ) (start : Start) (id : ℕ) (rest following : List (List ℕ)) → HasHeader text (record { start = start; id = id; rest = rest }) following
    → Reads text (read_text text)
reads_start text (starts.Command verb) id rest following has = reads_command text verb id rest following has (three rest)
reads_start text (starts.Response code) id rest following has = reads_response text code id rest following has (some_found following)

reads_top : (text : List ℕ) → Top text → Reads text (read_text text)
reads_top text (without e none) = rw e none
reads_top text (with h following has) = reads_start text h.start h.id h.rest following has

-- each text is read as this outcome
pub reads_some : (text : List ℕ) → Reads text (read_text text)
reads_some text = reads_top text (top text)

no_header_top : (text : List ℕ) → Top text → ((h : Header) (following : List (List ℕ)) → HasHeader text h following → ⊥) → no_header ≡ read_text text
no_header_top text (without e none) never = sym e
no_header_top text (with h following has) never = absurd (never h following has)

-- and as no other
pub reads_only : (text : List ℕ) (outcome : Outcome) → Reads text outcome → outcome ≡ read_text text
reads_only text (message (Command verb id name params body)) s =
    sym (header_is text (record { start = starts.Command verb; id = id; rest = s.rest }) s.following s.header ∙ named_is verb id s.rest s.following name s.named
    ∙ ap (with_params verb id name) (params_are s.following params s.after s.lines) ∙ rw (← s.description) refl)
reads_only text (message (Response code id params body)) s =
    sym (header_is text (record { start = starts.Response code; id = id; rest = s.rest }) s.following s.header
    ∙ response_is code id s.following params s.after s.lines ∙ rw (← s.description) refl)
reads_only text no_header never = no_header_top text (top text) never
reads_only text (bad_version id) (verb, rest, following, has, other) =
    sym (header_is text (record { start = starts.Command verb; id = id; rest = rest }) following has ∙ other_is verb id rest following other)
reads_only text (bad_body id) (verb, rest, following, has, inl short) =
    sym (header_is text (record { start = starts.Command verb; id = id; rest = rest }) following has ∙ short_is verb id rest following short)
reads_only text (bad_body id) (verb, rest, following, has, inr (name, named, stray)) =
    sym (header_is text (record { start = starts.Command verb; id = id; rest = rest }) following has ∙ named_is verb id rest following name named
    ∙ ap (with_params verb id name) (stray_is following stray))

pub reads_from_value : (text : List ℕ) (read : Option Outcome) → IfSome read (λ outcome. outcome ≡ read_text text) → IfSome read (Reads text)
reads_from_value text None e = tt
reads_from_value text (Some outcome) e = rw e (reads_some text)
