use Rattle.std.proofs.Common.{ℕ, [], ◌∷◌, refl, ap}
use Rattle.impairment.specs.declared.fate.Fate.{Fate}
use Rattle.impairment.specs.declared.packet.Way.TheVariants.{In}
use Rattle.impairment.specs.Waiting.{copies_of}
use Rattle.live_gateway.specs.declared.desk.Desk.{Desk}
use Rattle.live_gateway.specs.declared.exchange.Exchange.{Exchange}
use Rattle.live_laws.specs.Example.{at_port}
use Rattle.live_play.specs.declared.play.LivePlay.{LivePlay}
use Rattle.live_laws.proofs.way_examples.what_a_turn_leaves_has_examples.Goals as goal

pub returns-clause-refused : goal.returns-clause-refused
returns-clause-refused c = λ standing. refl

pub returns-clause-taken : goal.returns-clause-taken
returns-clause-taken c = λ standing. refl

pub returns-clause-input : goal.returns-clause-input
returns-clause-input c = λ standing. (refl, refl)

pub returns-clause-served : goal.returns-clause-served
returns-clause-served c = λ one two board shown turn. turn

pub returns-clause-gone : goal.returns-clause-gone
returns-clause-gone c = λ one board shown turn. turn

pub returns-clause-boardless : goal.returns-clause-boardless
returns-clause-boardless c = λ one two board turn. turn

pub returns-clause-copied : goal.returns-clause-copied
returns-clause-copied c = λ network draws. ap (λ (fate : Fate). copies_of fate In (at_port 9 2727) (1 ∷ []) 5) draws

pub returns-clause-uncopied : goal.returns-clause-uncopied
returns-clause-uncopied c = λ network draws. ap (λ (fate : Fate). copies_of fate In (at_port 9 2727) (1 ∷ []) 5) draws

pub returns-clause-unturned : goal.returns-clause-unturned
returns-clause-unturned c = λ was is turns. turns.turn

pub returns-clause-unwritten : goal.returns-clause-unwritten
returns-clause-unwritten c = λ was is turns. turns.wrote

pub returns-clause-dated : goal.returns-clause-dated
returns-clause-dated c = λ was is turns. turns.wrote

pub returns-clause-offers : goal.returns-clause-offers
returns-clause-offers c = λ was is turns. turns.offering

pub returns-clause-gateway : goal.returns-clause-gateway
returns-clause-gateway c = λ was is turns. ap (λ (play : LivePlay ℕ). play.gateway) turns.teller

pub returns-clause-around : goal.returns-clause-around
returns-clause-around c = λ was is turns. ap (λ (exchange : Exchange ℕ). exchange.around) turns.exchange.rest

pub returns-clause-lines : goal.returns-clause-lines
returns-clause-lines c = λ was is turns. ap (λ (desk : Desk ℕ ℕ). desk.lines) turns.rest
