-- What becomes of datagrams that go over a network, or aren't to, from what its calls say.
use Rattle.std.proofs.Common.{◌≡◌, ◌⊎◌, inl, inr, ℕ, Bool, false, List, Option, None, Some, refl, sym, ap, subst}
use Rattle.std.specs.Prelude.{⊤, Result, Ok, Err}
use Rattle.std.specs.Global.{Box}
use Rattle.std.specs.declared.net.socket_addr.SocketAddrV4.{SocketAddrV4}
use Rattle.impairment.specs.declared.fate.Fate.{Fate}
use Rattle.impairment.specs.declared.fate.Fate.TheVariants.{Lost, Once, Twice}
use Rattle.impairment.specs.declared.network.BadNetwork.{BadNetwork}
use Rattle.impairment.specs.declared.packet.Packet.{Packet}
use Rattle.impairment.specs.declared.packet.Way.{Way}
use Rattle.impairment.specs.declared.packet.Way.TheVariants.{In, Out}
use Rattle.live_io.specs.declared.surroundings.Fault.{Fault}
use Rattle.live_gateway.specs.declared.exchange.Exchange.{Exchange}
use Rattle.live_gateway.specs.declared.spoilt_way.SpoiltWay.{SpoiltWay}
use Rattle.live_gateway.specs.Exchanging.{is_lost, mark_of, IsSentSo, SendsOver, Becomes, LosesOver}
use Rattle.live_gateway.specs.Offering.{Offers, TakesFirst, TakesDue}

-- ---- offers, whatever their error

pub offers_so : {E F : Type 0} (way : Way) (was : BadNetwork) (peer : SocketAddrV4) (bytes : List ℕ) (now : ℕ) (fate : Fate) (is : BadNetwork)
    → Offers {E = E} way was peer bytes now (Ok fate) is → Offers {E = F} way was peer bytes now (Ok fate) is
offers_so way was peer bytes now fate is o =
    record { fate = o.fate; wait = o.wait; in_part = o.in_part; spoiling = o.spoiling; draws = o.draws }

pub lacks_so : {E F : Type 0} (way : Way) (was : BadNetwork) (peer : SocketAddrV4) (bytes : List ℕ) (now : ℕ) (why : E) (other : F) (is : BadNetwork)
    → Offers way was peer bytes now (Err why) is → Offers way was peer bytes now (Err other) is
lacks_so way was peer bytes now why other is o =
    record { fate = o.fate; wait = o.wait; in_part = o.in_part; spoiling = o.spoiling; draws = o.draws }

-- ---- what is sent

pub sent_over : {S : Type 0} (sends : S → SocketAddrV4 → List ℕ → Result ⊤ Fault → S → Type 0) (was is : Exchange S) (to : SocketAddrV4) (bytes : List ℕ)
    (became : Result Fate Fault) (way next : Box SpoiltWay) → was.network ≡ Some way → is.network ≡ Some next → is.around ≡ was.around
    → Offers Out way.value.network to bytes was.now.clock became next.value.network → Becomes sends was to bytes became is
sent_over sends was is to bytes became way next some still around offers =
    subst (λ (o : Option (Box SpoiltWay)). SendsOver sends to bytes was.now.clock became o was.around is.network is.around) (sym some)
    (subst (λ (o : Option (Box SpoiltWay)). SendsOver sends to bytes was.now.clock became (Some way) was.around o is.around) (sym still) (around, offers))

pub sent_directly : {S : Type 0} (sends : S → SocketAddrV4 → List ℕ → Result ⊤ Fault → S → Type 0) (was is : Exchange S) (to : SocketAddrV4)
    (bytes : List ℕ) (became : Result Fate Fault) (sent : Result ⊤ Fault) → was.network ≡ None → is.network ≡ None
    → sends was.around to bytes sent is.around → IsSentSo sent became → Becomes sends was to bytes became is
sent_directly sends was is to bytes became sent none still sends' so =
    subst (λ (o : Option (Box SpoiltWay)). SendsOver sends to bytes was.now.clock became o was.around is.network is.around) (sym none)
    (subst (λ (o : Option (Box SpoiltWay)). SendsOver sends to bytes was.now.clock became None was.around o is.around) (sym still) (sent, sends', so))

-- ---- what comes

pub lost_over : (source : SocketAddrV4) (bytes : List ℕ) (now : ℕ) (lost : Bool) (old new : Option (Box SpoiltWay)) (way next : Box SpoiltWay)
    (became : Result Fate ⊤) → old ≡ Some way → new ≡ Some next → Offers In way.value.network source bytes now became next.value.network
    → lost ≡ is_lost became → LosesOver source bytes now lost old new
lost_over source bytes now lost old new way next became some still offers so =
    subst (λ (o : Option (Box SpoiltWay)). LosesOver source bytes now lost o new) (sym some)
    (subst (λ (o : Option (Box SpoiltWay)). LosesOver source bytes now lost (Some way) o) (sym still) (became, offers, so))

pub lost_nowhere : (source : SocketAddrV4) (bytes : List ℕ) (now : ℕ) (lost : Bool) (old new : Option (Box SpoiltWay)) → old ≡ None → new ≡ None
    → lost ≡ false → LosesOver source bytes now lost old new
lost_nowhere source bytes now lost old new none still so =
    subst (λ (o : Option (Box SpoiltWay)). LosesOver source bytes now lost o new) (sym none)
    (subst (λ (o : Option (Box SpoiltWay)). LosesOver source bytes now lost None o) (sym still) so)

-- what a network draws but that it is lost
pub not_lost : (E : Type 0) (fate : Fate) → (fate ≡ Lost → ⊥) → false ≡ is_lost {E = E} (Ok fate)
not_lost E Lost other = absurd (other refl)
not_lost E (Once late) other = refl
not_lost E (Twice first second) other = refl

pub unmarked : (E : Type 0) (fate : Fate) → ((late : ℕ) × (fate ≡ Once late)) ⊎ ((first second : ℕ) × (fate ≡ Twice first second))
    → None ≡ mark_of {E = E} (Ok fate)
unmarked E fate (inl once) = sym (ap (λ (f : Fate). mark_of {E = E} (Ok f)) once.1)
unmarked E fate (inr twice) = sym (ap (λ (f : Fate). mark_of {E = E} (Ok f)) twice.2)

-- ---- what is due

pub due_over : (now : ℕ) (old new : Option (Box SpoiltWay)) (packet : Option Packet) (way next : Box SpoiltWay) → old ≡ Some way → new ≡ Some next
    → TakesFirst now way.value.network packet next.value.network → TakesDue now old packet new
due_over now old new packet way next some still takes =
    subst (λ (o : Option (Box SpoiltWay)). TakesDue now o packet new) (sym some)
    (subst (λ (o : Option (Box SpoiltWay)). TakesDue now (Some way) packet o) (sym still) takes)

pub due_nowhere : (now : ℕ) (old new : Option (Box SpoiltWay)) (packet : Option Packet) → old ≡ None → new ≡ None → packet ≡ None
    → TakesDue now old packet new
due_nowhere now old new packet none still lacks =
    subst (λ (o : Option (Box SpoiltWay)). TakesDue now o packet new) (sym none) (lacks, still)
