use Rattle.digit_map.proofs.CutLemmas.{strings_more, strings_last}
use Rattle.digit_map.proofs.cut.split_string.Goals as goal

pub returns-in-Some : goal.returns-in-Some
returns-in-Some c = rw c.if-not-parted.false (strings_more c.args.text.now c.in-Some.string.now c.in-Some.rest.now c.in-Some.ensures)

pub returns-in-None : goal.returns-in-None
returns-in-None c = rw c.if-not-parted.false (strings_last c.args.text.now c.in-None.ensures)
