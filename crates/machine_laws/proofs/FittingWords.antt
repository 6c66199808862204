-- What is asked of each text, for a line to be isolated: by the ids that are kept, which are those of the commands that read as
-- this line or as none.
use Rattle.std.specs.Prelude.{◌≡◌, ◌≢◌, ℕ, Bool, true, false, List, [], ◌∷◌, IfSome}
use Rattle.std.specs.declared.net.socket_addr.SocketAddrV4.{SocketAddrV4}
use Rattle.mgcp_text.specs.Confirmation.{k_of}
use Rattle.mgcp_text.specs.declared.message.Message.TheVariants as messages
use Rattle.mgcp_text.specs.Reading.{Outcome, message, no_header, bad_version, bad_body, read_text}
use Rattle.endpoint_names.specs.Name.{name_of}
use Rattle.transmission.specs.declared.span.IdSpan.{IdSpan}
use Rattle.transmission.specs.Span.{is_named}
use Rattle.transmission.specs.Memory.{most_firsts}
use Rattle.transmission.specs.Looking.{full, look_of}
use Rattle.transmission.specs.Confirming.{spans_of}
use Rattle.transmission.specs.Texts.{texts_of}
use Rattle.plain_machine.specs.declared.setup.Setup.{Setup}
use Rattle.plain_machine.specs.Effect.{Effect}
use Rattle.plain_machine.specs.Event.{GatewayEvent, datagram, phone, tick}
use Rattle.plain_machine.specs.Answering.{line_of_name, transaction_of, handled}
use Rattle.plain_machine.specs.Machine.{Machine}
use Rattle.plain_machine.specs.Happening.{effect}
use Rattle.machine_laws.specs.Apart.{is_single}
use Rattle.machine_laws.specs.Belonging.{of_line}
use Rattle.machine_laws.specs.OwnEvents.{is_another}
use Rattle.machine_laws.proofs.AnnouncementLaws.{AreAlike}
use Rattle.machine_laws.proofs.ThinningLemmas.{Thins}

-- two machines agree on a line, on what they keep for themselves, and on the transactions that are kept
pub record Agree (keep : ℕ → Bool) (line : ℕ) (m alone : Machine) : Type 0 where
  pub now : alone.now ≡ m.now
  pub endpoints : AreAlike line m.endpoints alone.endpoints
  pub history : Thins keep m.history alone.history

pub record Matches (keep : ℕ → Bool) (line : ℕ) (one alone : Effect Machine) : Type 0 where
  pub machines : Agree keep line one.value alone.value
  pub sent : of_line line one.sent ≡ of_line line alone.sent

-- the id of a command of another line isn't kept, and it confirms none that is; those of others are
pub record IsApart (keep : ℕ → Bool) (other : Bool) (id : ℕ) (spans : List IdSpan) : Type 0 where
  pub kept : other ≡ false → keep id ≡ true
  pub foreign : other ≡ true → keep id ≡ false
  pub unnamed : other ≡ true → (i : ℕ) → keep i ≡ true → is_named i spans ≡ false

abbrev pub Fits : Setup → (ℕ → Bool) → ℕ → Outcome → Type 0
Fits setup keep line no_header = Unit {0}
Fits setup keep line (bad_version id) = keep id ≡ true
Fits setup keep line (bad_body id) = keep id ≡ true
Fits setup keep line (message (messages.Command verb id name params body)) =
    (is_single (name_of name setup.names.domain setup.names.lines) ≡ true)
    × IsApart keep (is_another line (line_of_name setup name)) id (spans_of (k_of params))
Fits setup keep line (message (messages.Response code id params body)) = Unit {0}

-- a command isn't lost to a full history
abbrev pub FindsRoom : Setup → Machine → Outcome → Type 0
FindsRoom setup m outcome = IfSome (transaction_of setup m outcome) (λ t. look_of most_firsts m.history t.id m.now ≢ full)

abbrev pub TextsFit : Setup → (ℕ → Bool) → ℕ → Machine → SocketAddrV4 → List (List ℕ) → Type 0
TextsFit setup keep line m source [] = Unit {0}
TextsFit setup keep line m source (text ∷ texts) =
    Fits setup keep line (read_text text) × FindsRoom setup m (read_text text)
    × TextsFit setup keep line (handled setup m source (read_text text)).value source texts

abbrev pub EventFits : Setup → (ℕ → Bool) → ℕ → Machine → GatewayEvent → Type 0
EventFits setup keep line m (datagram source bytes) = TextsFit setup keep line m source (texts_of bytes)
EventFits setup keep line m (phone other act) = Unit {0}
EventFits setup keep line m (tick moment) = Unit {0}

abbrev pub EventsFit : Setup → (ℕ → Bool) → ℕ → Machine → List GatewayEvent → Type 0
EventsFit setup keep line m [] = Unit {0}
EventsFit setup keep line m (event ∷ events) =
    EventFits setup keep line m event × EventsFit setup keep line (effect setup m event).value events
