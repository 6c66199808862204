-- A response that is written is read with its code, whatever its parameters and its description are: that stands in the first line.
use Rattle.std.proofs.Common.{◌≡◌, ℕ, ◌≤◌, true, false, List, [], ◌∷◌, ◌++◌, Some, sym, ap, ◌∙◌, subst, append-nil, append_assoc}
use Rattle.std.specs.List.{AllByRecursion, flat_map}
use Rattle.mg_bytes.specs.Lines.{cut, ended, line_of}
use Rattle.mg_bytes.specs.Words.{words}
use Rattle.mg_bytes.proofs.CutLemmas.{cut_append}
use Rattle.mgcp_text.specs.declared.header.Header.{Header}
use Rattle.mgcp_text.specs.declared.header.Start.{Start}
use Rattle.mgcp_text.specs.declared.header.Start.TheVariants as starts
use Rattle.mgcp_text.specs.declared.message.Message.TheVariants as messages
use Rattle.mgcp_text.specs.declared.message.Param.{Param}
use Rattle.mgcp_text.specs.Answer.{AnswerContent, plain_code, response_of}
use Rattle.mgcp_text.specs.Header.{header_of}
use Rattle.mgcp_text.specs.Reading.{Outcome, is_empty_line, message, read_text}
use Rattle.mgcp_text.specs.Spelling.{HasHeader, IsEmptyLine, IsFullLine, Reads, SpellsResponse}
use Rattle.mgcp_text.specs.Writing.{body_text, param_line, response_line, written}
use Rattle.mgcp_text.proofs.AnswerLemmas.{answer_writable}
use Rattle.mgcp_text.proofs.IdLemmas.{IsId}
use Rattle.mgcp_text.proofs.RoundLaws.{read_again}
use Rattle.mgcp_text.proofs.SpellingLaws.{reads_some}
use Rattle.mgcp_text.proofs.WholeLemmas.{whole_written}
use Rattle.machine_laws.proofs.MessageLaws.{code_is}

-- A text has one header

first_same : (x y : List ℕ) (xs ys : List (List ℕ)) → x ∷ xs ≡ y ∷ ys → x ≡ y
first_same x y xs ys same = cc

rest_same : (x y : List ℕ) (xs ys : List (List ℕ)) → x ∷ xs ≡ y ∷ ys → xs ≡ ys
rest_same x y xs ys same = cc

-- an empty line isn't full
full_clash : (piece line : List ℕ) → piece ≡ line → IsEmptyLine piece → IsFullLine line → ⊥
full_clash piece line same none full = let clash : true ≡ false = sym none ∙ ap is_empty_line same ∙ full in cc

-- the first line that isn't empty is one
one_line : (front other : List (List ℕ)) (piece line : List ℕ) (more rest : List (List ℕ)) → front ++ (piece ∷ more) ≡ other ++ (line ∷ rest) → AllByRecursion IsEmptyLine front
    → AllByRecursion IsEmptyLine other → IsFullLine piece → IsFullLine line → piece ≡ line
one_line [] [] piece line more rest same skipped passed full is = first_same piece line more rest same
one_line [] (x ∷ other) piece line more rest same skipped passed full is =
    absurd (full_clash x piece (sym (first_same piece x more (other ++ (line ∷ rest)) same)) passed.0 full)
one_line (x ∷ front) [] piece line more rest same skipped passed full is = absurd (full_clash x line (first_same x line (front ++ (piece ∷ more)) rest same) skipped.0 is)
one_line (x ∷ front) (y ∷ other) piece line more rest same skipped passed full is =
    one_line front other piece line more rest (rest_same x y (front ++ (piece ∷ more)) (other ++ (line ∷ rest)) same) skipped.1 passed.1 full is

some_same : (h other : Header) → Some h ≡ Some other → h ≡ other
some_same h other same = cc

one_header : (text : List ℕ) (h other : Header) (following rest : List (List ℕ)) → HasHeader text h following → HasHeader text other rest → h ≡ other
one_header text h other following rest has found =
    let piece : has.first.piece ≡ found.first.piece =
    one_line has.first.front found.first.front has.first.piece found.first.piece following rest (sym has.first.pieces ∙ found.first.pieces) has.first.skipped found.first.skipped has.first.full
    found.first.full in
    let line : has.line ≡ found.line = has.first.is_line ∙ ap line_of piece ∙ sym found.first.is_line in
    some_same h other (sym has.header ∙ ap (λ (l : List ℕ). header_of (words l)) line ∙ found.header)

-- and has it with more lines behind
header_on : (text more : List ℕ) (h : Header) (following : List (List ℕ)) → cut (text ++ more) ≡ cut text ++ cut more → HasHeader text h following
    → HasHeader (text ++ more) h (following ++ cut more)
header_on text more h following parts has = record {
  line = has.line;
  first = record {
    front = has.first.front;
    piece = has.first.piece;
    pieces = parts ∙ ap (λ (pieces : List (List ℕ)). pieces ++ cut more) has.first.pieces ∙ append_assoc has.first.front (has.first.piece ∷ following) (cut more);
    skipped = has.first.skipped;
    full = has.first.full;
    is_line = has.first.is_line;
  };
  header = has.header;
}

-- That of a response has its code

code_of : Start → ℕ
code_of (starts.Response code) = code
code_of (starts.Command verb) = 0

abbrev lines_behind : AnswerContent → List ℕ
lines_behind given = flat_map (λ (param : Param). ended (param_line param)) given.params ++ body_text given.body

-- behind the line of its code alone the lines of its parameters and its description are written
written_parts : (id : ℕ) (given : AnswerContent) → written (response_of id given) ≡ written (response_of id (plain_code given.code)) ++ lines_behind given
unfolding written
written_parts id given =
    let line : List ℕ = ended (response_line given.code id) in
    let alone : (line ++ []) ++ [] ≡ line = append-nil (line ++ []) ∙ append-nil line in
    append_assoc line (flat_map (λ (param : Param). ended (param_line param)) given.params) (body_text given.body)
    ∙ ap (λ (front : List ℕ). front ++ lines_behind given) (sym alone)

pub written_code : (id : ℕ) (given : AnswerContent) → IsId id → given.code ≤ 999 → (code other : ℕ) (params : List Param) (body : List ℕ)
    → read_text (written (response_of id given)) ≡ message (messages.Response code other params body) → given.code ≡ code
unfolding code_of
written_code id given has small code other params body reads =
    ap (λ (h : Header). code_of h.start)
    (one_header text (record { start = starts.Response given.code; id = id; rest = plain.rest }) (record { start = starts.Response code; id = other; rest = found.rest })
    (plain.following ++ cut (lines_behind given)) found.following headed found.header) where
      text : List ℕ
      text = written (response_of id given)

      alone : List ℕ
      alone = written (response_of id (plain_code given.code))

      plain : SpellsResponse alone given.code id [] []
      plain =
          subst (λ (outcome : Outcome). Reads alone outcome) (read_again (response_of id (plain_code given.code)) (answer_writable id (plain_code given.code) has.0 has.1 (code_is given.code small))) (reads_some alone)

      found : SpellsResponse text code other params body
      found = subst (λ (outcome : Outcome). Reads text outcome) reads (reads_some text)

      headed : HasHeader text (record { start = starts.Response given.code; id = id; rest = plain.rest }) (plain.following ++ cut (lines_behind given))
      headed =
          let whole = whole_written (response_of id (plain_code given.code)) (answer_writable id (plain_code given.code) has.0 has.1 (code_is given.code small)) in
          subst (λ (t : List ℕ). HasHeader t (record { start = starts.Response given.code; id = id; rest = plain.rest }) (plain.following ++ cut (lines_behind given)))
          (sym (written_parts id given)) (header_on alone (lines_behind given) (record { start = starts.Response given.code; id = id; rest = plain.rest }) plain.following
          (cut_append alone (lines_behind given) whole.ends) plain.header)
