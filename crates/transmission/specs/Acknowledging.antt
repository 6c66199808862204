-- The acknowledgement of a response (RFC 3435, 3.2.2.1 and 3.5.6).
use Rattle.std.specs.Prelude.{ℕ, ◌&&◌, nat_le, if◌then◌else◌, Bool, true, false, List, [], ◌∷◌}
use Rattle.std.specs.declared.net.socket_addr.SocketAddrV4.{SocketAddrV4}
use Rattle.mgcp_text.specs.declared.confirmation.KValue.{KValue}
use Rattle.mgcp_text.specs.declared.confirmation.KValue.TheVariants.{Absent, Unreadable, Items}
use Rattle.mgcp_text.specs.declared.message.Message.TheVariants as messages
use Rattle.mgcp_text.specs.declared.message.Param.{Param}
use Rattle.mgcp_text.specs.Confirmation.{k_of}
use Rattle.mgcp_text.specs.Writing.{written}
use Rattle.transmission.specs.declared.output.OutDatagram.{OutDatagram}
use Rattle.transmission.specs.Transacting.{message_to}

abbrev pub is_empty_k : KValue → Bool
is_empty_k Absent = false
is_empty_k Unreadable = false
is_empty_k (Items []) = true
is_empty_k (Items (range ∷ ranges)) = false

-- a final response whose first K is empty asks for an acknowledgement (RFC 3435, 3.2.2.1 and 3.5.6)
abbrev pub asks_for_acknowledgement : ℕ → List Param → Bool
asks_for_acknowledgement code params = nat_le 200 code && nat_le code 999 && is_empty_k (k_of params)

-- the acknowledgement of a response with this id: `000`, and the id
abbrev pub acknowledgement_text : ℕ → List ℕ
acknowledgement_text id = written (messages.Response 0 id [] [])

-- it goes to where the response came from
abbrev pub acknowledgements : ℕ → SocketAddrV4 → ℕ → ℕ → List Param → List OutDatagram
acknowledgements moment source code id params =
    if asks_for_acknowledgement code params then message_to source moment (acknowledgement_text id) ∷ [] else []
