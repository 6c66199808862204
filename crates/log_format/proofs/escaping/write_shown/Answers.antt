use Rattle.std.proofs.Common.{sym, arith}
use Rattle.std.proofs.lemmas.List.{length-take-le}
use Rattle.log_format.proofs.escaping.write_shown.Goals as goal

pub slice_bounds-front-end : goal.slice_bounds-front-end
slice_bounds-front-end c = sym (length-take-le 64 c.args.value.now (omega arith))
