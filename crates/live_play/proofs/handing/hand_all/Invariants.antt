use Rattle.std.proofs.Common.{◌≡◌, take}
use Rattle.gateway_core.specs.GatewayState.{GatewayState}
use Rattle.traces.specs.declared.script.Script.{Script}
use Rattle.live_play.specs.Running.{live, messages_behind, HandsBy}
use Rattle.live_play.proofs.handing.hand_all.Given as goal

abbrev pub invariant-loop-datagram : goal.invariant-loop-datagram
invariant-loop-datagram g l = record {
  place : l.place ≡ l.datagram-index;
  left : l.left ≡ messages_behind (take l.datagram-index l.datagrams) l.messages;
  handed : (gateway : GatewayState) (script : Script) → HandsBy g.O.Outlet.hands
      (live gateway script (g.T.Teller.told l.fn.teller) (g.O.Outlet.handed l.fn.out)) l.fn.out 0 (take l.datagram-index l.datagrams) l.messages
      (live gateway script (g.T.Teller.told l.teller) (g.O.Outlet.handed l.out)) l.out;
  came : g.O.Outlet.came l.out ≡ g.O.Outlet.came l.fn.out;
}
