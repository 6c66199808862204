-- What a datagram does, text by text and line by line.
use Rattle.std.proofs.Common.{◌≡◌, ℕ, ◌+◌, ◌<◌, ◌≤◌, suc, Bool, true, false, List, [], ◌∷◌, length, get_or, drop, Option, Some, None, refl, sym, subst, ◌∙◌, arith, true≢false}
use Rattle.std.proofs.lemmas.List.{drop_more, at_drop_all}
use Rattle.std.specs.Prelude.{is_some}
use Rattle.std.specs.declared.net.socket_addr.SocketAddrV4.{SocketAddrV4}
use Rattle.transmission.specs.declared.output.OutDatagram.{OutDatagram}
use Rattle.transmission.specs.Texts.{texts_of}
use Rattle.agent_gateways.specs.declared.switchboard.Switchboard.{Switchboard}
use Rattle.live_agent.specs.declared.wire.Wire.{Wire}
use Rattle.impairment.specs.declared.network.BadNetwork.{BadNetwork}
use Rattle.impairment.specs.declared.packet.Way.TheVariants.{In}
use Rattle.live_io.specs.Around.{Around}
use Rattle.live_agent.specs.Datagrams.{DealsIf, HearsBy, HearsDatagram, HearsOne, HearsTexts, SettlesIf, TakesAll, TakesEach, TakesElse, TakesFound, TakesLooked, TakesNext, TakesOver, TakesReceived}
use Rattle.live_agent.specs.Handing.{OffersTo}
use Rattle.live_agent.specs.Sending.{SendsAll, SendsOne}
use Rattle.live_agent.specs.Settling.{SettlesAll}
use Rattle.live_agent.specs.Tallying.{OnlyNotes}

module _ {S : Type 0} (around : Around S) where
  -- one more text was heard
  pub heard_next : (place : ℕ) (all more : List (List ℕ)) (text : List ℕ) (board heard now : Switchboard) (was sent is : Wire S) → all ≡ text ∷ more
      → HearsOne around place text board was heard sent → HearsTexts around place more heard sent now is → HearsTexts around place all board was now is
  heard_next place all more text board heard now was sent is steps first rest =
      subst (λ (texts : List (List ℕ)). HearsTexts around place texts board was now is) (sym steps) (heard, sent, first, rest)

  -- none is left
  pub heard_all : (place : ℕ) (all : List (List ℕ)) (board : Switchboard) (was : Wire S) → all ≡ [] → HearsTexts around place all board was board was
  heard_all place all board was none =
      subst (λ (texts : List (List ℕ)). HearsTexts around place texts board was board was) (sym none) (refl, refl)

  -- whether there was anything
  pub settled_none : (found : Bool) (board : Switchboard) (was : Wire S) → found ≡ false → SettlesIf around found board was board was
  settled_none found board was none = subst (λ (is_any : Bool). SettlesIf around is_any board was board was) (sym none) (refl, refl)

  pub settled_some : (found : Bool) (board now : Switchboard) (was is : Wire S) → found ≡ true → SettlesAll around board was now is
      → SettlesIf around found board was now is
  settled_some found board now was is some settles = subst (λ (is_any : Bool). SettlesIf around is_any board was now is) (sym some) settles

  -- whether its agent went on
  pub dealt_none : (went_on : Bool) (place : ℕ) (bytes : List ℕ) (board : Switchboard) (was : Wire S) → went_on ≡ false
      → DealsIf around went_on place bytes board was board was
  dealt_none went_on place bytes board was refused = subst (λ (is_on : Bool). DealsIf around is_on place bytes board was board was) (sym refused) (refl, refl)

  pub dealt_with : (went_on : Bool) (place : ℕ) (bytes : List ℕ) (board dealt now : Switchboard) (was told is : Wire S) → went_on ≡ true
      → HearsTexts around place (texts_of bytes) board was dealt told → TakesAll around place dealt told now is → DealsIf around went_on place bytes board was now is
  dealt_with went_on place bytes board dealt now was told is went hears takes =
      subst (λ (is_on : Bool). DealsIf around is_on place bytes board was now is) (sym went) (dealt, told, hears, takes)

  -- whose it is
  pub heard_by : (place : Option ℕ) (found : Option ℕ) (source : SocketAddrV4) (bytes : List ℕ) (board now : Switchboard) (was is : Wire S) → place ≡ found
      → HearsBy around place source bytes board was now is → HearsBy around found source bytes board was now is
  heard_by place found source bytes board now was is same hears =
      subst (λ (one : Option ℕ). HearsBy around one source bytes board was now is) same hears

  -- one more datagram of these is sent
  pub sends_next : (is_repeat : Bool) (datagrams : List OutDatagram) (place : ℕ) (datagram : OutDatagram) (was sent is : Wire S) → place < length datagrams
      → datagram ≡ get_or datagrams place datagram → SendsOne around is_repeat datagram.to datagram.bytes was sent
      → SendsAll around is_repeat (drop (place + 1) datagrams) sent is → SendsAll around is_repeat (drop place datagrams) was is
  sends_next is_repeat datagrams place datagram was sent is within item first rest =
      subst (λ (left : List OutDatagram). SendsAll around is_repeat left was is) (sym (drop_more datagrams place datagram within))
      (sent, subst (λ (one : OutDatagram). SendsOne around is_repeat one.to one.bytes was sent) item first, rest)

  pub sends_none : (is_repeat : Bool) (datagrams : List OutDatagram) (place : ℕ) (was : Wire S) → length datagrams ≤ place
      → SendsAll around is_repeat (drop place datagrams) was was
  sends_none is_repeat datagrams place was past =
      subst (λ (left : List OutDatagram). SendsAll around is_repeat left was was)
      (sym (at_drop_all (λ (left : List OutDatagram). left) datagrams place past)) refl

  -- what one line more told is taken
  takes_by : (place index next : ℕ) (board taken now : Switchboard) (was sent is : Wire S) → next ≡ suc index
      → TakesEach around place index board was taken sent → TakesNext around place index taken sent now is → TakesEach around place next board was now is
  takes_by place index next board taken now was sent is one_more before line =
      subst (λ (count : ℕ). TakesEach around place count board was now is) (sym one_more) (taken, sent, before, line)

  pub takes_more : (place index : ℕ) (board taken now : Switchboard) (was sent is : Wire S)
      → TakesEach around place index board was taken sent → TakesNext around place index taken sent now is → TakesEach around place (index + 1) board was now is
  takes_more place index board taken now was sent is before line =
      takes_by place index (index + 1) board taken now was sent is (omega arith) before line

  -- the network that spoils it is offered it
  pub offered_to : (network : Option BadNetwork) (found : Bool) (source : SocketAddrV4) (bytes : List ℕ) (board now : Switchboard) (was offered is : Wire S)
      → is_some network ≡ true
      → OffersTo In source bytes was.now.clock network offered.network was.journal.value.tally offered.journal.value.tally
      → OnlyNotes was.journal.value offered.journal.value
      → offered ≡ record was { network = offered.network; journal = offered.journal } → TakesOver around found board offered now is
      → TakesReceived around network source bytes board was now is
  offered_to None found source bytes board now was offered is some counts notes rest takes = absurd cc
  offered_to (Some network) found source bytes board now was offered is some counts notes rest takes = (found, offered, counts, notes, rest, takes)

  -- where none spoils it, it is heard
  pub heard_plain : (network : Option BadNetwork) (spoilt : Bool) (source : SocketAddrV4) (bytes : List ℕ) (board now : Switchboard) (was offered is : Wire S)
      → spoilt ≡ is_some network → spoilt ≡ false → offered ≡ was → HearsDatagram around source bytes board offered now is
      → TakesReceived around network source bytes board was now is
  heard_plain None spoilt source bytes board now was offered is spoilt_is none same hears =
      subst (λ (one : Wire S). HearsDatagram around source bytes board one now is) same hears
  heard_plain (Some network) spoilt source bytes board now was offered is spoilt_is none same hears = absurd (true≢false (sym spoilt_is ∙ none))

  -- what was looked for
  pub found_so : (found heard : Option (SocketAddrV4 × ℕ)) (room : List ℕ) (board now : Switchboard) (was is : Wire S) → found ≡ heard
      → TakesFound around found room board was now is → TakesFound around heard room board was now is
  found_so found heard room board now was is same takes =
      subst (λ (one : Option (SocketAddrV4 × ℕ)). TakesFound around one room board was now is) same takes

module _ {S : Type 0} (around : Around S) where
  -- the network handed one over, or none
  pub handed_so : (found : Bool) (board : Switchboard) (was : Wire S) → found ≡ true → TakesElse around found board was board was
  handed_so found board was so = subst (λ (is_any : Bool). TakesElse around is_any board was board was) (sym so) (refl, refl)

  pub looked_so : (found : Bool) (board now : Switchboard) (was is : Wire S) → found ≡ false → TakesLooked around board was now is
      → TakesElse around found board was now is
  looked_so found board now was is none looked =
      subst (λ (is_any : Bool). TakesElse around is_any board was now is) (sym none) looked
