-- All that happens to a message in flight, up to its answer or to where it is given up.
use Rattle.std.specs.Prelude.{ℕ, ◌<◌, Bool, true, false, List, [], ◌∷◌}
use Rattle.std.specs.declared.net.socket_addr.SocketAddrV4.{SocketAddrV4}
use Rattle.retransmission.specs.declared.repeat.Repeat.{Repeat}
use Rattle.retransmission.specs.declared.repeat.Repeat.TheVariants.{Sent, GivenUp}
use Rattle.retransmission.specs.declared.reply.Reply.{Reply}
use Rattle.retransmission.specs.declared.reply.Reply.TheVariants.{Answered, Provisional, Stranger}
use Rattle.retransmission.specs.Flight.{InFlight, sent_to, repeat_of, repeated, reply_of, heard}

-- something falls due, or a response comes
pub data Happening : Type 0 where
  falls_due : (moment : ℕ) → Happening
  responds : (id code moment : ℕ) → Happening

abbrev pub resent_as : {A : Type 0} → Repeat → A → List A → List A
resent_as Sent send later = send ∷ later
resent_as GivenUp send later = []

abbrev pub resent_with : {A : Type 0} → Reply → List A → List A
resent_with Answered later = []
resent_with Provisional later = later
resent_with Stranger later = later

-- the moments at which a message is sent again, while these things happen
unfoldable pub resent : InFlight → List Happening → List ℕ
resent message [] = []
resent message (falls_due moment ∷ more) =
    resent_as (repeat_of message moment) moment (resent (repeated message moment) more)
resent message (responds id code moment ∷ more) =
    resent_with (reply_of message id code) (resent (heard message id code moment) more)

-- the addresses that it is sent again to, while these things happen
unfoldable pub resent_to : InFlight → List Happening → List SocketAddrV4
resent_to message [] = []
resent_to message (falls_due moment ∷ more) =
    resent_as (repeat_of message moment) (sent_to (repeated message moment)) (resent_to (repeated message moment) more)
resent_to message (responds id code moment ∷ more) =
    resent_with (reply_of message id code) (resent_to (heard message id code moment) more)

abbrev pub ends_as : Repeat → Bool → Bool
ends_as Sent later = later
ends_as GivenUp later = false

abbrev pub ends_with : Reply → Bool → Bool
ends_with Answered later = true
ends_with Provisional later = later
ends_with Stranger later = later

-- whether these things end with its answer
unfoldable pub is_answered : InFlight → List Happening → Bool
is_answered message [] = false
is_answered message (falls_due moment ∷ more) =
    ends_as (repeat_of message moment) (is_answered (repeated message moment) more)
is_answered message (responds id code moment ∷ more) =
    ends_with (reply_of message id code) (is_answered (heard message id code moment) more)

-- no final response comes: something falls due, or the return code is below 200
abbrev pub IsNoAnswer : Happening → Type 0
IsNoAnswer (falls_due moment) = Unit {0}
IsNoAnswer (responds id code moment) = code < 200
