-- What is told of the messages that are sent: where each goes and when, its label, and how many bytes its text has.
use Rattle.std.specs.Prelude.{List, length, map}
use Rattle.plain_machine.specs.declared.label.OutMessage.{OutMessage}
use Rattle.plain_machine.specs.Labelling.{label_of}
use Rattle.plain_machine.specs.Message.{Sent, text_of}
use Rattle.gateway_core.specs.declared.sent.SentMessage.{SentMessage}

abbrev pub told_of : OutMessage → SentMessage
told_of message = record {
  to = message.datagram.to;
  moment = message.datagram.moment;
  label = message.label;
  size = length message.datagram.bytes;
}

abbrev pub sent_message : Sent → SentMessage
sent_message sent = record { to = sent.to; moment = sent.moment; label = label_of sent; size = length (text_of sent.said) }

abbrev pub labels_of : List Sent → List SentMessage
labels_of sent = map sent_message sent
