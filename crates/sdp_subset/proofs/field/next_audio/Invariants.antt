use Rattle.std.proofs.Common.{◌≡◌}
use Rattle.std.specs.Prelude.{map}
use Rattle.mg_bytes.specs.Lines.{line_of}
use Rattle.sdp_subset.specs.Fields.{from_audio}
use Rattle.sdp_subset.proofs.field.next_audio.Given as goal

abbrev pub invariant-loop-line : goal.invariant-loop-line
invariant-loop-line l = from_audio (map line_of l.rest) ≡ from_audio (map line_of l.initial.rest)
