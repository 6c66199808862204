use Rattle.std.proofs.Common.{◌≡◌, length, take, sym, arith}
use Rattle.std.proofs.lemmas.List.{length-take-le, take_all}
use Rattle.log_format.proofs.file.carried.Goals as goal

pub slice_bounds-result-end : goal.slice_bounds-result-end
slice_bounds-result-end c = sym (length-take-le 65507 c.args.bytes.now (omega arith))

pub returns-then-bytes-le-MOST_BYTES-clause-value : goal.returns-then-bytes-le-MOST_BYTES-clause-value
returns-then-bytes-le-MOST_BYTES-clause-value c = sym (take_all 65507 c.args.bytes.now c.if-bytes-le-MOST_BYTES.true)

pub returns-else-bytes-le-MOST_BYTES-clause-few : goal.returns-else-bytes-le-MOST_BYTES-clause-few
returns-else-bytes-le-MOST_BYTES-clause-few c =
    let cut : length (take 65507 c.args.bytes.now) ≡ 65507 = length-take-le 65507 c.args.bytes.now (omega arith) in
    omega (arith, cut)
