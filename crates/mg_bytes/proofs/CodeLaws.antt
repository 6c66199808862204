-- The return codes by their numbers.
use Rattle.std.proofs.Common.{◌≡◌, refl, sym, ◌∙◌, ap}
use Rattle.std.specs.Prelude.{Some}
use Rattle.mg_bytes.specs.declared.return_code.ReturnCode.{ReturnCode}
use Rattle.mg_bytes.specs.declared.return_code.ReturnCode.TheVariants.{Executed}
use Rattle.mg_bytes.specs.ReturnCode.{number_of, code_with}

pub found_again : (code : ReturnCode) → code_with (number_of code) ≡ Some code
unfolding code_with
found_again Executed = refl
found_again _ = refl

pub numbers_differ : (code other : ReturnCode) → number_of code ≡ number_of other → code ≡ other
numbers_differ code other same =
    let found : Some code ≡ Some other = sym (found_again code) ∙ ap code_with same ∙ found_again other in cc
