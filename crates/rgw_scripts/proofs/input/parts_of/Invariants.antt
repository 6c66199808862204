use Rattle.std.proofs.Common.{◌≡◌, ◌≤◌, ◌++◌, length, take, drop}
use Rattle.std.specs.List.{concat}
use Rattle.mg_bytes.specs.Lines.{cut}
use Rattle.rgw_scripts.specs.Input.{config_text, config_pieces, script_pieces}
use Rattle.rgw_scripts.proofs.input.parts_of.Given as goal

abbrev pub invariant-loop-line : goal.invariant-loop-line
invariant-loop-line l = record {
  within : l.end ≤ length l.input;
  left : drop l.end l.input ≡ concat l.rest;
  config : take l.end l.input ++ concat (config_pieces l.rest) ≡ config_text l.input;
  script : script_pieces l.rest ≡ script_pieces (cut l.input);
}
