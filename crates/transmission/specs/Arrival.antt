-- What arrives.
use Rattle.std.specs.Prelude.{ℕ, List, []}
use Rattle.transmission.specs.declared.span.IdSpan.{IdSpan}

-- a command that arrived (RFC 3435, 3.2.1.2, 3.2.2.1): its transaction id, when it came, the ids that its readable K
-- names, and what it is answered where it is executed
pub record Arrival : Type 0 where
  pub id : ℕ
  pub moment : ℕ
  pub confirms : List IdSpan
  pub answer : List ℕ

-- the same without its answer
abbrev pub unanswered : Arrival → Arrival
unanswered a = record a { answer = [] }
