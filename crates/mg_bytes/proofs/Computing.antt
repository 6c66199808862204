-- The definitions opened, so that worked examples compute.
use Rattle.std.specs.Prelude.{⊤}
use Rattle.std.specs.Fmt.{digits}
use Rattle.mg_bytes.specs.Blanks.{trimmed_end, trimmed}
use Rattle.mg_bytes.specs.Lines.{cut}
use Rattle.mg_bytes.specs.Words.{words, split_once}
use Rattle.mg_bytes.specs.Items.{items_of}
use Rattle.mg_bytes.specs.Numbers.{decimal_of}
use Rattle.mg_bytes.specs.Address.{ipv4_of}
use Rattle.mg_bytes.specs.Letter.{letter_of}
use Rattle.mg_bytes.specs.ReturnCode.{words_of, code_with}

unfoldable pub on_examples : ⊤
unfolding digits trimmed_end trimmed cut words split_once items_of decimal_of ipv4_of letter_of words_of code_with
on_examples = tt
