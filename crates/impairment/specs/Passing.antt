-- All that goes over a network.
use Rattle.std.specs.Prelude.{ℕ, List, [], ◌∷◌, ◌++◌, option_to_list}
use Rattle.std.specs.declared.net.socket_addr.SocketAddrV4.{SocketAddrV4}
use Rattle.impairment.specs.declared.fate.Fate.{Fate}
use Rattle.impairment.specs.declared.packet.Packet.{Packet}
use Rattle.impairment.specs.declared.packet.Way.{Way}
use Rattle.impairment.specs.Waiting.{copies_of, put_all, taken}

-- a packet is offered, and has this fate; or one that is due now is asked for
pub data NetworkStep : Type 0 where
  offers : (fate : Fate) (way : Way) (peer : SocketAddrV4) (bytes : List ℕ) (now : ℕ) → NetworkStep
  takes : (now : ℕ) → NetworkStep

-- all copies that were made of what was offered, those that wait, and those that were handed out, in their order
pub record Passed : Type 0 where
  pub made : List Packet
  pub waiting : List Packet
  pub handed : List Packet

abbrev pub opening : Passed
opening = record { made = []; waiting = []; handed = [] }

abbrev pub stepped : Passed → NetworkStep → Passed
stepped p (offers fate way peer bytes now) = record p {
  made = p.made ++ copies_of fate way peer bytes now;
  waiting = put_all (copies_of fate way peer bytes now) p.waiting;
}
stepped p (takes now) = record p {
  waiting = (taken now p.waiting).1;
  handed = p.handed ++ option_to_list (taken now p.waiting).0;
}

unfoldable pub passed : Passed → List NetworkStep → Passed
passed p [] = p
passed p (step ∷ steps) = passed (stepped p step) steps
