-- What a line tells of a text.
use Rattle.std.proofs.Common.{◌≡◌, ℕ, List, Option, Some, None, sym, subst, IsUtf8}
use Rattle.toml.specs.Data.{Members}
use Rattle.toml.specs.Parse.{parse_document}
use Rattle.gateway_config.specs.declared.flaw.Flaw.{Flaw}
use Rattle.gateway_config.specs.Wording.{document_told, line_told, TellsRead}

pub tells_document : (text : List ℕ) (document : Members) (flaw : Flaw) (line : List ℕ) → parse_document text ≡ Some document
    → line ≡ document_told document flaw → TellsRead (parse_document text) flaw line
tells_document text document flaw line read told = subst (λ (found : Option Members). TellsRead found flaw line) (sym read) told

pub tells_line : (text : List ℕ) (flaw : Flaw) (line : List ℕ) (number : ℕ) (why : List ℕ) → parse_document text ≡ None
    → line ≡ line_told number why → TellsRead (parse_document text) flaw line
tells_line text flaw line number why none told =
    subst (λ (found : Option Members). TellsRead found flaw line) (sym none) (number, why, told)

pub tells_text : (text words : List ℕ) (flaw : Flaw) (line : List ℕ) → (IsUtf8 text → words ≡ text) → TellsRead (parse_document words) flaw line
    → IsUtf8 text → TellsRead (parse_document text) flaw line
tells_text text words flaw line same told utf8 = subst (λ (t : List ℕ). TellsRead (parse_document t) flaw line) (same utf8) told
