-- What is heard of what comes.
use Rattle.std.proofs.Common.{◌≡◌, ℕ, Bool, true, false, cond, List, [], ◌∷◌, ◌++◌, map, take, Option, None, Some, refl, sym, ◌∙◌, ap, subst}
use Rattle.std.specs.Prelude.{is_some, option_map}
use Rattle.std.specs.Global.{Box}
use Rattle.std.specs.declared.net.socket_addr.SocketAddrV4.{SocketAddrV4}
use Rattle.std.proofs.lemmas.List.{map-append}
use Rattle.std.proofs.lemmas.List.Elements.{filter-append}
use Rattle.impairment.specs.declared.packet.Way.{Way}
use Rattle.impairment.specs.declared.packet.Way.TheVariants.{In, Out}
use Rattle.live_io.specs.Sending.{Sent, Received, Grows, found_by}
use Rattle.live_io.proofs.TrafficLemmas.{nothing_more, grows_on}
use Rattle.live_gateway.specs.declared.admission.Admission.{Admission}
use Rattle.live_gateway.specs.declared.spoilt_way.SpoiltWay.{SpoiltWay}
use Rattle.live_gateway.specs.Admitting.{is_heard, heard_of, HeardSince}
use Rattle.live_gateway.specs.Exchanging.{received_by}
use Rattle.live_gateway.specs.Offering.{came_from, brings}

pub heard_both : (admission : Admission) (some more : List Received) → heard_of admission (some ++ more) ≡ heard_of admission some ++ heard_of admission more
heard_both admission some more = filter-append (λ (one : Received). is_heard admission one.source) some more

-- nothing came since
pub heard_still : (admission : Admission) (was mid is : Option (List Received)) (heard : List Received) → HeardSince admission was heard mid → is ≡ mid
    → HeardSince admission was heard is
heard_still admission was mid is heard h same = subst (λ (o : Option (List Received)). HeardSince admission was heard o) (sym same) h

-- ---- with no network before the socket

through : (old new : Option (Box SpoiltWay)) (was is : Option (List Received)) (came : List Received) → is_some old ≡ false → new ≡ old → Grows was came is
    → Grows (received_by old was) came (received_by new is)
through None new was is came none same grows = subst (λ (o : Option (Box SpoiltWay)). Grows was came (received_by o is)) (sym same) grows
through (Some way) new was is came none same grows = absurd cc

-- nothing came
pub hears_nothing : (admission : Admission) (old new : Option (Box SpoiltWay)) (was is : Option (List Received)) → is_some old ≡ false → new ≡ old
    → Grows was [] is → HeardSince admission (received_by old was) [] (received_by new is)
hears_nothing admission old new was is none same grows = ([], through old new was is [] none same grows, refl)

-- one came that is heard
pub hears_one : (admission : Admission) (old new : Option (Box SpoiltWay)) (was is : Option (List Received)) (source : SocketAddrV4) (len : ℕ) (room : List ℕ)
    → is_some old ≡ false → new ≡ old → Grows was (found_by (Some (source, len)) room) is → is_heard admission source ≡ true
    → HeardSince admission (received_by old was) (found_by (Some (source, len)) room) (received_by new is)
hears_one admission old new was is source len room none same grows may = (
  found_by (Some (source, len)) room,
  through old new was is (found_by (Some (source, len)) room) none same grows,
  ap (λ (b : Bool). cond b (found_by (Some (source, len)) room) []) may,
)

-- one came that isn't
pub passes_over : (admission : Admission) (old new : Option (Box SpoiltWay)) (was is : Option (List Received)) (source : SocketAddrV4) (len : ℕ) (room : List ℕ)
    → is_some old ≡ false → new ≡ old → Grows was (found_by (Some (source, len)) room) is → is_heard admission source ≡ false
    → HeardSince admission (received_by old was) [] (received_by new is)
passes_over admission old new was is source len room none same grows other = (
  found_by (Some (source, len)) room,
  through old new was is (found_by (Some (source, len)) room) none same grows,
  ap (λ (b : Bool). cond b (found_by (Some (source, len)) room) []) other,
)

-- ---- with one

-- what is received still is that, whatever comes to the socket
pub still_over : (old new : Option (Box SpoiltWay)) (was is : Option (List Received)) → is_some old ≡ true → new ≡ old → received_by new is ≡ received_by old was
still_over None new was is some same = absurd cc
still_over (Some way) new was is some same = ap (λ (o : Option (Box SpoiltWay)). received_by o is) same

-- nothing is handed over
pub nothing_kept : (was is : Option (List Received)) → is ≡ was → Grows was [] is
nothing_kept was is same = nothing_more was is same

-- a copy more is kept
kept_one : (old new : List Sent) (source : SocketAddrV4) (bytes : List ℕ) → new ≡ old ++ record { to = source; bytes = bytes } ∷ []
    → map came_from new ≡ map came_from old ++ record { source = source; bytes = bytes } ∷ []
kept_one old new source bytes more = ap (λ (copies : List Sent). map came_from copies) more ∙ map-append came_from old (record { to = source; bytes = bytes } ∷ [])

pub came_copies : {V : Type 0} (copies : V → List Sent) (was is : Option V) (source : SocketAddrV4) (bytes : List ℕ)
    → Grows (option_map copies was) (record { to = source; bytes = bytes } ∷ []) (option_map copies is)
    → Grows (option_map (λ kept. map came_from (copies kept)) was) (record { source = source; bytes = bytes } ∷ [])
    (option_map (λ kept. map came_from (copies kept)) is)
came_copies copies None None source bytes grows = refl
came_copies copies None (Some are) source bytes grows = absurd cc
came_copies copies (Some were) None source bytes grows = tt
came_copies copies (Some were) (Some are) source bytes grows = kept_one (copies were) (copies are) source bytes grows

-- none is heard where none came
pub hears_none : (admission : Admission) (was is : Option (List Received)) → is ≡ was → HeardSince admission was [] is
hears_none admission was is same = ([], nothing_more was is same, refl)

-- what is heard after something by which nothing came
pub hears_after : (admission : Admission) (was mid is : Option (List Received)) (heard : List Received) → mid ≡ was → HeardSince admission mid heard is
    → HeardSince admission was heard is
hears_after admission was mid is heard same h = subst (λ (o : Option (List Received)). HeardSince admission o heard is) same h

-- what is heard behind others, of which none was heard
pub hears_further : (admission : Admission) (was mid is : Option (List Received)) (more heard : List Received) → HeardSince admission was [] mid
    → Grows mid more is → heard_of admission more ≡ heard → HeardSince admission was heard is
hears_further admission was mid is more heard h grows heard_more = (
  h.0 ++ more,
  grows_on was mid is h.0 more h.1 grows,
  heard_both admission h.0 more ∙ ap (λ (l : List Received). l ++ heard_of admission more) h.2 ∙ heard_more,
)

pub hears_behind : (admission : Admission) (was mid is : Option (List Received)) (heard : List Received) → HeardSince admission was [] mid
    → HeardSince admission mid heard is → HeardSince admission was heard is
hears_behind admission was mid is heard none h = hears_further admission was mid is h.0 heard none h.1 h.2

-- and behind a look at the socket too: what that gives goes over the network first
pub hears_past_a_look : (admission : Admission) (over next : Option (Box SpoiltWay)) (was socket socket_then is : Option (List Received)) (heard : List Received)
    → is_some over ≡ true → next ≡ over → HeardSince admission was [] (received_by over socket)
    → HeardSince admission (received_by next socket_then) heard is → HeardSince admission was heard is
hears_past_a_look admission over next was socket socket_then is heard some same none h =
    hears_behind admission was (received_by over socket) is heard none
    (hears_after admission (received_by over socket) (received_by next socket_then) is heard (still_over over next socket socket_then some same) h)

-- what a packet brings
brought_in : (admission : Admission) (way : Way) (peer : SocketAddrV4) (bytes : List ℕ) (heard : Bool) → way ≡ In → is_heard admission peer ≡ heard
    → heard_of admission (brings way peer bytes) ≡ cond heard (record { source = peer; bytes = bytes } ∷ []) []
brought_in admission way peer bytes heard comes is =
    ap (λ (w : Way). heard_of admission (brings w peer bytes)) comes ∙ ap (λ (b : Bool). cond b (record { source = peer; bytes = bytes } ∷ []) []) is

-- a packet that goes out is none that is heard
pub outgoing : (admission : Admission) (was mid is : Option (List Received)) (way : Way) (peer : SocketAddrV4) (bytes : List ℕ)
    → HeardSince admission was [] mid → Grows mid (brings way peer bytes) is → way ≡ Out → HeardSince admission was [] is
outgoing admission was mid is way peer bytes none grows out =
    hears_further admission was mid is (brings way peer bytes) [] none grows (ap (λ (w : Way). heard_of admission (brings w peer bytes)) out)

-- nor is a stranger's
pub strange : (admission : Admission) (was mid is : Option (List Received)) (way : Way) (peer : SocketAddrV4) (bytes : List ℕ)
    → HeardSince admission was [] mid → Grows mid (brings way peer bytes) is → way ≡ In → is_heard admission peer ≡ false → HeardSince admission was [] is
strange admission was mid is way peer bytes none grows comes other =
    hears_further admission was mid is (brings way peer bytes) [] none grows (brought_in admission way peer bytes false comes other)

-- one of who is heard is
pub incoming : (admission : Admission) (was mid is : Option (List Received)) (way : Way) (peer : SocketAddrV4) (len : ℕ) (room : List ℕ)
    → HeardSince admission was [] mid → Grows mid (brings way peer (take len room)) is → way ≡ In → is_heard admission peer ≡ true
    → HeardSince admission was (found_by (Some (peer, len)) room) is
incoming admission was mid is way peer len room none grows comes may =
    hears_further admission was mid is (brings way peer (take len room)) (found_by (Some (peer, len)) room) none grows
    (brought_in admission way peer (take len room) true comes may)
