use Rattle.std.proofs.Common.{◌≡◌}
use Rattle.std.specs.List.{concat}
use Rattle.mg_bytes.specs.Lines.{cut}
use Rattle.live_io.specs.Requests.{requests_from}
use Rattle.live_io.specs.Typing.{EndsWith}
use Rattle.live_io.proofs.requests.from_request.Given as goal

abbrev pub invariant-loop-line : goal.invariant-loop-line
invariant-loop-line l =
    (cut l.rest ≡ l.left) × (concat l.left ≡ l.rest) × (requests_from l.left ≡ requests_from (cut l.text)) × EndsWith l.text l.rest
