-- What the table of return codes says of each code of this gateway's profile.
use Rattle.std.proofs.Common.{◌≡◌, true, Some, refl, sym}
use Rattle.std.specs.Prelude.{nat_le, option_map}
use Rattle.std.proofs.lemmas.Bool.{true≢false}
use Rattle.mg_bytes.specs.declared.return_code.ReturnCode.{ReturnCode}
use Rattle.mg_bytes.specs.declared.return_code.ReturnCode.TheVariants.{ConnectionDeleted, Executed, ResponseAcknowledgement}
use Rattle.mg_bytes.specs.ReturnCode.{number_of, words_of}
use Rattle.call_processing.specs.ReturnCodes.{CodeRow, code_rows, row_in}

pub same_words : (code : ReturnCode) → nat_le 400 (number_of code) ≡ true
    → option_map (λ (row : CodeRow). row.words) (row_in code_rows (number_of code)) ≡ Some (words_of code)
unfolding words_of row_in
same_words ResponseAcknowledgement above = absurd (true≢false (sym above))
same_words Executed above = absurd (true≢false (sym above))
same_words ConnectionDeleted above = absurd (true≢false (sym above))
same_words _ above = refl
