use Rattle.std.proofs.Common.{◌≡◌}
use Rattle.std.specs.List.{list_all}
use Rattle.packages.specs.Cuts.{items}
use Rattle.packages.specs.Spelling.{is_parameter}
use Rattle.packages.proofs.spelling.are_parameters.Given as goal

abbrev pub invariant-loop-item : goal.invariant-loop-item
invariant-loop-item l = list_all is_parameter l.item-iterator ≡ list_all is_parameter (items l.text)
