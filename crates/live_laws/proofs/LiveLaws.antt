-- What the trace of a live run was told.
use Rattle.std.proofs.Common.{◌≡◌, inl, inr, ℕ, ◌+◌, ◌-◌, ◌<◌, ◌^◌, Bool, true, false, cond, List, [], ◌∷◌, refl, sym, ◌∙◌, ap, subst, arith, ◌≤◌, ◌++◌, length, Some, append_assoc}
use Rattle.std.specs.Prelude.{⊤, ◌&&◌, not, nat_lt}
use Rattle.live_io.specs.Sending.{Received}
use Rattle.gateway_core.specs.Wire.{counted}
use Rattle.traces.specs.Writing.{Entry, arrived, typed, passed, showed, became, datagrams_in, clock_text, opening_script, written, script_after, whole_text}
use Rattle.live_play.specs.Coming.{arrived_in, AreAllBut}
use Rattle.live_play.specs.Running.{AreFrom, Live, Ran, AreOf, AreInPlace}
use Rattle.live_gateway.proofs.CameLemmas.{none_missing}
use Rattle.live_gateway.specs.declared.admission.Admission.{Admission}
use Rattle.live_gateway.specs.Admitting.{is_heard, heard_of, is_its_own}
use Rattle.live_gateway.specs.Desk.{IsHeard, Standing, refusals_in, GoesOnBy}
use Rattle.std.specs.List.{AllByRecursion}
use Rattle.std.specs.declared.net.socket_addr.SocketAddrV4.{SocketAddrV4}
use Rattle.std.proofs.lemmas.Bool.{ltb-true}
use Rattle.live_io.specs.Speaking.{admitted_by, may_speak}
use Rattle.gateway_core.specs.Stands.{Stands}
use Rattle.traces.specs.declared.script.Script.{Script}
use Rattle.live_play.proofs.RunLemmas.{told_known, script_known}
use Rattle.live_play.specs.Readable.{IsAddress, CanAnswer, IsReadable, AreLater}
use Rattle.live_laws.specs.Replay.{AreWritable, ReadsBack}
use Rattle.live_laws.proofs.ReplayLaws.{reads_back}

-- Which datagrams are events.

-- each of these is heard
abbrev pub are_heard : Admission → List Received → Type 0
are_heard admission [] = ⊤
are_heard admission (one ∷ more) = IsHeard admission one.source × are_heard admission more

heard_more : (admission : Admission) (one : Received) (more : List Received) (heard : Bool) → is_heard admission one.source ≡ heard
    → are_heard admission (heard_of admission more) → are_heard admission (heard_of admission (one ∷ more))
heard_more admission one more true is rest =
    subst (are_heard admission) (sym (ap (λ (b : Bool). cond b (one ∷ heard_of admission more) (heard_of admission more)) is)) (is, rest)
heard_more admission one more false is rest =
    subst (are_heard admission) (sym (ap (λ (b : Bool). cond b (one ∷ heard_of admission more) (heard_of admission more)) is)) rest

heard_are_heard : (admission : Admission) (came : List Received) → are_heard admission (heard_of admission came)
heard_are_heard admission [] = tt
heard_are_heard admission (one ∷ more) = heard_more admission one more (is_heard admission one.source) refl (heard_are_heard admission more)

some_are_heard : (admission : Admission) (most : ℕ) (all taken : List Received) → AreAllBut most all taken → are_heard admission all → are_heard admission taken
some_are_heard admission most [] taken are heard = subst (are_heard admission) (sym are) tt
some_are_heard admission most (one ∷ more) taken (inl a) heard =
    subst (are_heard admission) (sym a.1) (heard.0, some_are_heard admission most more a.0 a.2 heard.1)
some_are_heard admission most (one ∷ more) taken (inr a) heard = some_are_heard admission a.0 more taken a.2 heard.1

entries_are_heard : (admission : Admission) (entries : List Entry) → are_heard admission (arrived_in entries) → AreFrom (IsHeard admission) entries
entries_are_heard admission [] heard = tt
entries_are_heard admission (showed (arrived source bytes) move shown ∷ entries) heard = (heard.0, entries_are_heard admission entries heard.1)
entries_are_heard admission (showed (typed line) move shown ∷ entries) heard = (tt, entries_are_heard admission entries heard)
entries_are_heard admission (showed (passed moment) move shown ∷ entries) heard = (tt, entries_are_heard admission entries heard)
entries_are_heard admission (became mark place ∷ entries) heard = entries_are_heard admission entries heard

pub are_from : (admission : Admission) (missing : ℕ) (came : List Received) (entries : List Entry) → AreAllBut missing (heard_of admission came) (arrived_in entries)
    → AreFrom (IsHeard admission) entries
are_from admission missing came entries all =
    entries_are_heard admission entries (some_are_heard admission missing (heard_of admission came) (arrived_in entries) all (heard_are_heard admission came))

none_of_all : (were are missing told others : ℕ) → are ≡ counted were (missing + (told + others)) → are ≡ were + told → are < 2 ^ 64 - 1 → missing ≡ 0
none_of_all were are missing told others counts same few = omega (arith, counts, same, few)

-- where entries say of all inputs that were refused why, no datagram was
pub none_refused : (admission : Admission) (was is : Standing) (entries : List Entry) (came : List Received) (missing : ℕ)
    → GoesOnBy admission was is entries came missing → is.came.refused ≡ was.came.refused + refusals_in entries → is.came.refused < 2 ^ 64 - 1 → missing ≡ 0
none_refused admission was is entries came missing went same few =
    none_of_all was.came.refused is.came.refused missing (refusals_in entries) went.others went.refused same few

pub all_are_taken : (admission : Admission) (was is : Standing) (entries : List Entry) (came : List Received) (missing : ℕ)
    → GoesOnBy admission was is entries came missing → missing ≡ 0 → arrived_in entries ≡ heard_of admission came
all_are_taken admission was is entries came missing went none =
    none_missing (heard_of admission came) (arrived_in entries)
    (subst (λ (n : ℕ). AreAllBut n (heard_of admission came) (arrived_in entries)) none went.events)

pub live_text : (was is : Live) (entries : List Entry) (head text : List ℕ) → Ran was entries is → was.script ≡ opening_script
    → was.told ≡ Some head → is.told ≡ Some text → text ++ clock_text is.script ≡ head ++ whole_text entries
live_text was is entries head text ran begins before told =
    ap (λ (t : List ℕ). t ++ clock_text is.script)
    (told_known was is entries head text ran before told ∙ ap (λ (s : Script). head ++ written s entries) begins)
    ∙ ap (λ (s : Script). (head ++ written opening_script entries) ++ clock_text s)
    (script_known was is entries text ran told ∙ ap (λ (s : Script). script_after s entries) begins)
    ∙ append_assoc head (written opening_script entries) (clock_text (script_after opening_script entries))

pub live_replays : (was is : Live) (entries : List Entry) → Ran was entries is → Stands was.gateway []
    → AreLater was.gateway.setup [] entries → AreWritable entries → ReadsBack was.gateway.setup entries
live_replays was is entries ran stands later can = reads_back was.gateway.setup entries (ran.play [] stands) ran.ticks later can

-- ---- a desk

first_holds : (a b c : Bool) → (a && b && c) ≡ true → a ≡ true
first_holds true b c e = refl
first_holds false b c e = absurd cc

-- who is heard can be answered
has_port : (admission : Admission) (source : SocketAddrV4) → IsHeard admission source → 1 ≤ source.port
has_port admission source heard =
    let some : 0 < source.port = ltb-true 0 source.port
    (first_holds (nat_lt 0 source.port) (not (is_its_own admission.own source)) (may_speak (admitted_by admission.speakers) source.ip) heard) in
    omega (arith, some)

can_answer_at : (source : SocketAddrV4) (octets : List ℕ) → source.ip.octets ≡ octets → length octets ≡ 4
    → AllByRecursion (λ octet. octet ≤ 255) octets → 1 ≤ source.port → source.port ≤ 65535 → CanAnswer source
can_answer_at source [] is four each low high = absurd (omega (arith, four))
can_answer_at source (a ∷ []) is four each low high = absurd (omega (arith, four))
can_answer_at source (a ∷ b ∷ []) is four each low high = absurd (omega (arith, four))
can_answer_at source (a ∷ b ∷ c ∷ []) is four each low high = absurd (omega (arith, four))
can_answer_at source (a ∷ b ∷ c ∷ d ∷ []) is four each low high =
    record { a = a; b = b; c = c; d = d; parts = is; each = each; low = low; high = high }
can_answer_at source (a ∷ b ∷ c ∷ d ∷ e ∷ more) is four each low high = absurd (omega (arith, four))

can_answer : (source : SocketAddrV4) → IsAddress source → 1 ≤ source.port → CanAnswer source
can_answer source is low = can_answer_at source source.ip.octets refl is.four is.each low is.high

writable : (admission : Admission) (after last : ℕ) (entries : List Entry) → AreInPlace after last entries → AreOf IsReadable entries
    → AreFrom (IsHeard admission) entries → AreWritable entries
writable admission after last [] places inputs heard = tt
writable admission after last (showed (arrived source bytes) move shown ∷ entries) places inputs heard = (
  (can_answer source inputs.0.0 (has_port admission source heard.0), inputs.0.1),
  writable admission 0 (length (datagrams_in shown)) entries places inputs.1 heard.1,
)
writable admission after last (showed (typed line) move shown ∷ entries) places inputs heard =
    (inputs.0, writable admission 0 (length (datagrams_in shown)) entries places inputs.1 heard.1)
writable admission after last (showed (passed moment) move shown ∷ entries) places inputs heard =
    (inputs.0, writable admission 0 (length (datagrams_in shown)) entries places inputs.1 heard.1)
writable admission after last (became mark place ∷ entries) places inputs heard =
    (places.1.1, writable admission place last entries places.2 inputs heard)

pub desk_replays : (admission : Admission) (was is : Standing) (entries : List Entry) (came : List Received) (missing : ℕ)
    → GoesOnBy admission was is entries came missing → Stands was.live.gateway [] → ReadsBack was.live.gateway.setup entries
desk_replays admission was is entries came missing went stands =
    live_replays was.live is.live entries went.ran stands (went.later [] stands)
    (writable admission 0 0 entries went.ran.marks went.inputs (are_from admission missing came entries went.events))
