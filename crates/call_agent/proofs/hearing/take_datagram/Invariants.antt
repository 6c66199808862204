use Rattle.std.proofs.Common.{◌≡◌, List, []}
use Rattle.transmission.specs.declared.output.OutDatagram.{OutDatagram}
use Rattle.transmission.specs.Texts.{texts_of}
use Rattle.call_agent.specs.declared.state.State.{State}
use Rattle.call_agent.specs.Hearing.{took_all}
use Rattle.call_agent.specs.State.{kept_in, found_in, Went}
use Rattle.call_agent.proofs.hearing.take_datagram.Given as goal

-- what completes the rest completes the whole
abbrev pub invariant-loop-text : goal.invariant-loop-text
invariant-loop-text l = record {
  completes : (is : State) (are : List OutDatagram) → Went (took_all l.context.setup.now (kept_in l.state) l.source l.rest) l.state is l.out.items are
      → Went (took_all l.context.setup.now (kept_in l.fn.state) l.source (texts_of l.bytes)) l.fn.state is [] are;
  found : found_in l.state ≡ found_in l.fn.state;
  clock : l.state.clock ≡ l.fn.state.clock;
}
