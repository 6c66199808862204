use Rattle.std.proofs.Common.{◌≡◌, true}
use Rattle.std.specs.Prelude.{option_map}
use Rattle.mgcp_text.specs.Reading.{put_front, params_of, has_params}
use Rattle.mgcp_text.proofs.parameter.params_of.Given as goal

abbrev pub invariant-loop-line : goal.invariant-loop-line
invariant-loop-line l = record {
  whole : option_map (put_front l.params) (params_of l.lines) ≡ params_of l.initial.lines;
  taken : has_params l.lines ≡ true → has_params l.initial.lines ≡ true;
}
