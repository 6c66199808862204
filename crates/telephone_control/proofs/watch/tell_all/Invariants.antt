use Rattle.std.proofs.Common.{◌≡◌, take}
use Rattle.telephone_control.specs.Watching.{TellsEach}
use Rattle.telephone_control.proofs.watch.tell_all.Given as goal

abbrev pub invariant-loop-held : goal.invariant-loop-held
invariant-loop-held g l = record {
  told : TellsEach g.S.Surroundings.around.answers l.now (take l.held-index l.places) l.fn.around l.text l.around;
  traffic : g.S.Surroundings.around.traffic l.around ≡ g.S.Surroundings.around.traffic l.fn.around;
}
