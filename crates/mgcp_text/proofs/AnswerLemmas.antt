-- Answers can be written.
use Rattle.std.proofs.Common.{◌≡◌, ℕ, ◌≤◌, true, IsTrue, leb, arith, rules}
use Rattle.std.proofs.lemmas.Bool.Decides.{nat_tests}
use Rattle.mgcp_text.specs.Writing.{is_id, is_writable}
use Rattle.mgcp_text.specs.Answer.{AnswerContent, IsAnswer, response_of}
use Rattle.mgcp_text.proofs.IdLemmas.{is_id_true}

pub answer_writable : (id : ℕ) (answer : AnswerContent) → 1 ≤ id → id ≤ 999999999 → IsAnswer answer → IsTrue (is_writable (response_of id answer))
unfolding is_writable
answer_writable id answer some short is =
    let has_id : is_id id ≡ true = is_id_true id some short in
    let three_digits : leb answer.code 999 ≡ true = grind (arith, nat_tests, is.three_digits) in
    rw (has_id, three_digits, is.each, is.whole) (search rules)
