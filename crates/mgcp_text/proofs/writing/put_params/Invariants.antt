use Rattle.std.proofs.Common.{◌≡◌, ◌++◌, drop}
use Rattle.std.specs.List.{flat_map}
use Rattle.mg_bytes.specs.Lines.{ended}
use Rattle.mgcp_text.specs.Writing.{param_line}
use Rattle.mgcp_text.proofs.writing.put_params.Given as goal

abbrev pub invariant-loop-param : goal.invariant-loop-param
invariant-loop-param l =
    l.out ++ flat_map (λ param. ended (param_line param)) (drop l.param-index l.params)
    ≡ l.fn.out ++ flat_map (λ param. ended (param_line param)) l.params
