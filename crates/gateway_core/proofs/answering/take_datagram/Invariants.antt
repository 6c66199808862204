use Rattle.std.proofs.Common.{◌≡◌, ◌≤◌, ◌+◌, ◌++◌, List, [], length}
use Rattle.plain_machine.specs.declared.label.OutMessage.{OutMessage}
use Rattle.transmission.specs.Texts.{most_texts, texts_of}
use Rattle.plain_machine.specs.Answering.{took_all}
use Rattle.gateway_core.specs.declared.state.State.{State}
use Rattle.gateway_core.specs.State.{machine_in, found_in, Went}
use Rattle.gateway_core.specs.Outcomes.{text_outcomes}
use Rattle.gateway_core.proofs.answering.take_datagram.Given as goal

-- what completes the rest completes the whole
abbrev pub invariant-loop-text : goal.invariant-loop-text
invariant-loop-text l = record {
  completes : (is : State) (are : List OutMessage) → Went (took_all l.context.setup.now (machine_in l.state) l.source l.rest) l.state is l.out.items are
      → Went (took_all l.context.setup.now (machine_in l.fn.state) l.source (texts_of l.bytes)) l.fn.state is [] are;
  told : l.told ++ text_outcomes l.context.setup.now (machine_in l.state) l.source l.rest
      ≡ text_outcomes l.context.setup.now (machine_in l.fn.state) l.source (texts_of l.bytes);
  room : length l.told + length l.rest ≤ most_texts;
  found : found_in l.state ≡ found_in l.fn.state;
  clock : l.state.clock ≡ l.fn.state.clock;
}
