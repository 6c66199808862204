use Rattle.transmission.specs.Texts.{texts_of}
use Rattle.agent_gateways.specs.declared.switchboard.Switchboard.{Switchboard}
use Rattle.live_agent.specs.declared.wire.Wire.{Wire}
use Rattle.live_agent.specs.Datagrams.{HearsTexts}
use Rattle.live_agent.proofs.session.deal_with.Given as goal

-- what hears those that are left hears all
abbrev pub invariant-loop-text : goal.invariant-loop-text
invariant-loop-text g l =
    (now : Switchboard) (is : Wire g.row.S.Denot) → HearsTexts g.S.Surroundings.around l.place l.rest l.board l.wire now is
    → HearsTexts g.S.Surroundings.around l.place (texts_of l.bytes) l.fn.board l.fn.wire now is
