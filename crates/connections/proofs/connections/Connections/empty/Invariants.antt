use Rattle.std.proofs.Common.{◌≡◌, take}
use Rattle.connections.specs.Planning.{emptied}
use Rattle.connections.proofs.connections.Connections.empty.Given as goal

abbrev pub invariant-loop-place : goal.invariant-loop-place
invariant-loop-place l = record {
  made : l.self-inside.places ≡ emptied (take l.place l.those) l.initial.self-inside.places;
  address : l.self-inside.address ≡ l.initial.self-inside.address;
  port : l.self-inside.port ≡ l.initial.self-inside.port;
  last : l.self-inside.last ≡ l.initial.self-inside.last;
}
