use Rattle.std.proofs.Common.{◌≡◌}
use Rattle.std.specs.Prelude.{bytes_eq}
use Rattle.std.specs.List.{list_any}
use Rattle.mg_bytes.specs.Words.{words}
use Rattle.live_io.proofs.requests.is_among.Given as goal

abbrev pub invariant-loop-one : goal.invariant-loop-one
invariant-loop-one l = list_any (bytes_eq l.word) l.one-iterator ≡ list_any (bytes_eq l.word) (words l.known)
