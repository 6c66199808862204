use Rattle.audits.proofs.PickLaws.{descriptions_behind}
use Rattle.audits.proofs.laws.each_description_stands_behind_an_empty_line.Goals as goal

pub returns : goal.returns
returns c = descriptions_behind
