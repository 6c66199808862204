-- A command that is typed: its line ends, and what its first line says.
use Rattle.std.specs.Prelude.{ℕ, Bool, false, ◌&&◌, ◌||◌, ◌==◌, nat_eq, if◌then◌else◌, List, [], ◌∷◌, ◌++◌, Option, Some, None}
use Rattle.std.specs.List.{concat, ends_with}
use Rattle.mg_bytes.specs.Bytes.{carriage_return, line_feed}
use Rattle.mg_bytes.specs.Lines.{cut, line_of, crlf}
use Rattle.mg_bytes.specs.Words.{words}

abbrev pub backslash : ℕ
backslash = 92

abbrev pub letter_n : ℕ
letter_n = 110

-- a backslash that was typed stands for itself, wherever no n is behind it
abbrev pub held : Bool → List ℕ
held is_escaped = if is_escaped then backslash ∷ [] else []

-- a line feed ends a line, with a carriage return before it or without; a backslash waits for what is behind it
abbrev pub plain_byte : ℕ → List ℕ
plain_byte byte =
    if byte == line_feed then crlf
    else if byte == carriage_return || byte == backslash then []
    else byte ∷ []

-- an n behind a backslash ends a line too
abbrev pub typed_byte : Bool → ℕ → List ℕ
typed_byte is_escaped byte =
    if is_escaped && byte == letter_n then crlf else held is_escaped ++ plain_byte byte

-- the bytes of a message that a typed text is, behind a backslash or not
unfoldable pub typed_from : Bool → List ℕ → List ℕ
typed_from is_escaped [] = held is_escaped
typed_from is_escaped (byte ∷ bytes) = typed_byte is_escaped byte ++ typed_from (byte == backslash) bytes

-- the last line has its end
abbrev pub ended : List ℕ → List ℕ
ended text = if ends_with nat_eq text crlf then text else text ++ crlf

-- a line that was typed, and what stands behind it
abbrev pub typed_text : List ℕ → List ℕ → List ℕ
typed_text line rest = ended ((typed_from false line ++ crlf) ++ typed_from false rest)

-- a verb, a name, and what stands behind their line
abbrev pub Command : Type 0
Command = List ℕ × (List ℕ × List ℕ)

-- the first line is a verb and a name, and nothing more
abbrev pub said_in : List (List ℕ) → List ℕ → Option Command
said_in [] rest = None
said_in (verb ∷ []) rest = None
said_in (verb ∷ name ∷ []) rest = Some (verb, (name, rest))
said_in (verb ∷ name ∷ word ∷ more) rest = None

abbrev pub command_in : List (List ℕ) → Option Command
command_in [] = None
command_in (piece ∷ pieces) = said_in (words (line_of piece)) (concat pieces)

-- the command that a text is
abbrev pub typed_in : List ℕ → Option Command
typed_in text = command_in (cut text)
