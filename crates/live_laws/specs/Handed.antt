-- The messages of an event, in the datagrams that it goes out in, and what is told of them.
use Rattle.std.specs.Prelude.{◌≡◌, ℕ, List, [], ◌∷◌, map, flat_map}
use Rattle.gateway_core.specs.declared.sent.SentMessage.{SentMessage}
use Rattle.gateway_core.specs.Labelling.{labels_of}
use Rattle.plain_machine.specs.Message.{Sent, text_of, datagrams_of}
use Rattle.transmission.specs.Packing.{messages_in}
use Rattle.transmission.specs.declared.output.OutDatagram.{OutDatagram}
use Rattle.gateway_core.specs.Outgoing.{own_messages, other_messages, texts_within}

abbrev pub texts : List Sent → List (List ℕ)
texts sent = map (λ one. text_of one.said) sent

-- Each datagram holds the texts of one group of messages, and what it is handed over with is told of these, which says where each text
-- stands there; nothing is left to be told.
abbrev pub HoldEach : List OutDatagram → List (List Sent) → List SentMessage → Type 0
HoldEach [] [] told = told ≡ []
HoldEach [] (group ∷ groups) told = ⊥
HoldEach (datagram ∷ more) [] told = ⊥
HoldEach (datagram ∷ more) (group ∷ groups) told =
    (messages_in datagram ≡ datagrams_of group) × (own_messages datagram told ≡ labels_of group)
    × (texts_within datagram.bytes (own_messages datagram told) ≡ texts group)
    × HoldEach more groups (other_messages datagram told)

-- so it is of all messages of an event: each is in one of the groups, in their order
pub record GoesOutIn (sent : List Sent) (datagrams : List OutDatagram) (told : List SentMessage) : Type 0 where
  pub groups : List (List Sent)
  pub all : flat_map (λ group. group) groups ≡ sent
  pub each : HoldEach datagrams groups told
