use Rattle.std.proofs.Common.{◌≡◌, drop}
use Rattle.telephone_control.specs.Viewing.{call_of}
use Rattle.telephone_control.proofs.picture.call_of.Given as goal

abbrev pub invariant-loop-held : goal.invariant-loop-held
invariant-loop-held l = call_of l.number (drop l.held-index l.places) ≡ call_of l.number l.places
