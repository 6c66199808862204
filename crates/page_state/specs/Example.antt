-- What the worked examples speak of: acts, what happened, and what messages are.
use Rattle.std.specs.Prelude.{ℕ, codes, List, [], ◌∷◌, Some, None}
use Rattle.std.specs.declared.net.socket_addr.SocketAddrV4.{SocketAddrV4}
use Rattle.page_state.specs.declared.act.PhoneAct.{PhoneAct}
use Rattle.page_state.specs.declared.act.QueuedAct.{QueuedAct}
use Rattle.page_state.specs.declared.label.MessageKind.TheVariants as kinds
use Rattle.page_state.specs.declared.label.MessageLabel.{MessageLabel}
use Rattle.page_state.specs.declared.ring.Kind.TheVariants.{Act, Told}
use Rattle.page_state.specs.Keeping.{Event, RingState, event_at}

abbrev pub queued : ℕ → PhoneAct → QueuedAct
queued line act = record { line = line; act = act }

-- 192.168.1.5:2727
abbrev pub agent : SocketAddrV4
agent = record { ip = record { octets = 192 ∷ 168 ∷ 1 ∷ 5 ∷ [] }; port = 2727 }

abbrev pub ring_at : ℕ → List Event → RingState
ring_at last events = record { last = last; events = events }

abbrev pub lifted : Event
lifted = event_at 7 5000 Act agent (codes "phone 1 off")

abbrev pub answered : Event
answered = event_at 8 5020 Told agent (codes "ok")

-- the answer 200 to the command 1207 of line 1
abbrev pub sent_answer : MessageLabel
sent_answer = record { kind = kinds.Answer; line = Some 1; id = Some 1207; code = Some 200; send = Some 1 }

-- a text that is no message
abbrev pub noise : MessageLabel
noise = record { kind = kinds.Unreadable; line = None; id = None; code = None; send = None }
