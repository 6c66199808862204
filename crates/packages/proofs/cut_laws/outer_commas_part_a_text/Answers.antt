use Rattle.packages.proofs.PartLemmas.{parted}
use Rattle.packages.proofs.cut_laws.outer_commas_part_a_text.Goals as goal

pub returns : goal.returns
returns c = parted
