-- Whether an answer fits into a datagram (RFC 3435, 2.4 and 3.5.4).
use Rattle.std.specs.Prelude.{ℕ, nat_le, length, Result, Ok}
use Rattle.mg_bytes.specs.Checks.{unless, checked}
use Rattle.mgcp_text.specs.Answer.{AnswerContent, response_of}
use Rattle.mgcp_text.specs.Writing.{written}
use Rattle.transmission.specs.Texts.{largest_datagram}

-- the answer under this id; where its text is larger than a datagram may be, 533 (response too large)
unfoldable pub fitting : ℕ → AnswerContent → Result AnswerContent ℕ
fitting id wanted = checked (unless (nat_le (length (written (response_of id wanted))) largest_datagram) 533) (Ok wanted)
