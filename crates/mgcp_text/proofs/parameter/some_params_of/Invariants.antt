use Rattle.std.proofs.Common.{◌≡◌}
use Rattle.mgcp_text.specs.Reading.{put_front, some_params_of}
use Rattle.mgcp_text.proofs.parameter.some_params_of.Given as goal

abbrev pub invariant-loop-line : goal.invariant-loop-line
invariant-loop-line l = put_front l.params (some_params_of l.lines) ≡ some_params_of l.initial.lines
