-- How a desk goes on.
use Rattle.std.proofs.Common.{◌≡◌, ℕ, ◌+◌, ◌<◌, inl, inr, Bool, true, false, List, [], ◌∷◌, ◌++◌, length, Option, refl, sym, ◌∙◌, ap, subst, arith}
use Rattle.std.specs.List.{AllByRecursion}
use Rattle.std.specs.Prelude.{not, is_ok, Result, Ok, Err, OnOk, OnErr, IfErr}
use Rattle.std.specs.Global.{Box}
use Rattle.std.specs.declared.net.socket_addr.SocketAddrV4.{SocketAddrV4}
use Rattle.message_counts.specs.declared.reporting.Faults.{Faults}
use Rattle.live_io.specs.Sending.{Received, Sent, Traffic, Grows}
use Rattle.live_io.specs.Speaking.{Admitted}
use Rattle.live_io.proofs.TrafficLemmas.{grows_nothing, nothing_more, grows_on}
use Rattle.gateway_core.specs.Wire.{counted}
use Rattle.gateway_core.specs.declared.outcome.TextOutcome.{TextOutcome}
use Rattle.gateway_core.specs.Changing.{Changes}
use Rattle.gateway_core.specs.GatewayState.{GatewayState}
use Rattle.gateway_core.specs.Stands.{Stands}
use Rattle.plain_machine.specs.declared.setup.Setup.{Setup}
use Rattle.plain_machine.specs.Event.{GatewayEvent, datagram, tick}
use Rattle.gateway_core.specs.declared.sent.SentMessage.{SentMessage}
use Rattle.plain_machine.specs.Lists.{plain}
use Rattle.plain_machine.specs.Machine.{Endpoints, endpoint_at}
use Rattle.machine_rules.specs.declared.refusal.Refusal.{Refusal}
use Rattle.rgw_scripts.specs.Moves.{give, ask, sends, refuses, told as answer_of}
use Rattle.mg_bytes.specs.Lines.{is_line_feed}
use Rattle.traces.specs.Writing.{Entry, arrived, typed, passed, showed, taken_after}
use Rattle.live_play.specs.Coming.{Came, arrived_in, AreAllBut}
use Rattle.live_play.specs.Readable.{first_unread, Never, IsAddress, IsReadable, AreLater}
use Rattle.live_play.specs.Running.{Live, live, Ran, Takes, Refuses, Asked}
use Rattle.live_gateway.proofs.CameLemmas.{arrived_both, marks_bring_nothing, refusals_both, marks_refuse_nothing, all_of, all_but_both}
use Rattle.live_play.proofs.RunLemmas.{ran_on, ran_stays, ran_written_off, marks_are_of, are_of_more, marks_are_later, later_more}
use Rattle.live_gateway.specs.declared.admission.Admission.{Admission}
use Rattle.live_gateway.specs.declared.desk.Desk.{Desk}
use Rattle.live_gateway.specs.declared.exchange.Exchange.{Exchange}
use Rattle.live_gateway.specs.declared.spoilt_way.SpoiltWay.{SpoiltWay}
use Rattle.live_play.specs.declared.play.LivePlay.{LivePlay}
use Rattle.live_gateway.specs.Admitting.{heard_of, HeardSince}
use Rattle.live_gateway.specs.Desk.{Standing, at_desk, with_input, refusals_in, GoesOnBy, GoesOn}
use Rattle.live_gateway.specs.Exchanging.{handed_by, received_by, came_by, Explains, Notes}
use Rattle.live_gateway.specs.Leaving.{OnlyTells}
use Rattle.live_gateway.proofs.HearingLemmas.{heard_both}

-- ---- what is counted

none_more : (n : ℕ) → n ≡ counted n 0
none_more n = omega arith

-- so many datagrams are missing, and so many other inputs were refused: those of two stretches together
both_counted : (n m r a k s b : ℕ) → counted (counted n (m + (r + a))) (k + (s + b)) ≡ counted n ((m + k) + ((r + s) + (a + b)))
both_counted n m r a k s b = omega arith

-- behind an entry at which nothing was refused stands what became of its datagrams
none_with : (n marked : ℕ) → marked ≡ 0 → n ≡ counted n (0 + ((0 + marked) + 0))
none_with n marked none = omega (arith, none)

-- how a desk stands, by its play and its exchange
abbrev pub standing_of : {S T : Type 0} → (T → Option (List ℕ)) → (S → Traffic) → LivePlay T → Exchange S → Standing
standing_of told traffic play exchange = record {
  live = live play.gateway.value play.script (told play.teller) (handed_by exchange.network (traffic exchange.around).sent);
  came = came_by traffic exchange;
}

-- a turn that begins changes nothing of that
pub begun_live : {S T : Type 0} (told : T → Option (List ℕ)) (traffic : S → Traffic) (play : LivePlay T) (was is : Exchange S)
    → is.network ≡ was.network → is.around ≡ was.around → (standing_of told traffic play is).live ≡ (standing_of told traffic play was).live
begun_live {S} told traffic play was is network around =
    ap (λ (n : Option (Box SpoiltWay)). (standing_of told traffic play (record is { network = n })).live) network
    ∙ ap (λ (a : S). (standing_of told traffic play (record is { network = was.network; around = a })).live) around

pub begun_came : {S : Type 0} (traffic : S → Traffic) (was is : Exchange S) → is.network ≡ was.network → is.around ≡ was.around
    → is.faults ≡ was.faults → came_by traffic is ≡ came_by traffic was
begun_came {S} traffic was is network around faults =
    ap (λ (n : Option (Box SpoiltWay)). came_by traffic (record is { network = n })) network
    ∙ ap (λ (a : S). came_by traffic (record is { network = was.network; around = a })) around
    ∙ ap (λ (f : Faults). came_by traffic (record is { network = was.network; around = was.around; faults = f })) faults

-- that an input was taken or refused is noted
pub counted_by : {S T : Type 0} (told : T → Option (List ℕ)) (traffic : S → Traffic) (play : LivePlay T) (mid new : Exchange S) (is_taken : Bool)
    (admitted : Admitted) (sent : List SentMessage) → Notes is_taken admitted sent mid new
    → standing_of told traffic play new ≡ with_input (not is_taken) (standing_of told traffic play mid)
counted_by {S} told traffic play mid new true admitted sent notes = ap (λ (x : Exchange S). standing_of told traffic play x) notes.1
counted_by {S} told traffic play mid new false admitted sent notes = ap (λ (x : Exchange S). standing_of told traffic play x) notes

-- so it is where something was said of a datagram before that
explained_still : {S T : Type 0} (told : T → Option (List ℕ)) (traffic : S → Traffic) (play : LivePlay T) (was is : Exchange S) (is_taken : Bool)
    (outcomes : List TextOutcome) (source : SocketAddrV4) (bytes : List ℕ) → Explains is_taken outcomes source bytes was is
    → standing_of told traffic play is ≡ standing_of told traffic play was
explained_still {S} told traffic play was is true outcomes source bytes says = ap (λ (x : Exchange S). standing_of told traffic play x) says.1
explained_still {S} told traffic play was is false outcomes source bytes says = ap (λ (x : Exchange S). standing_of told traffic play x) says.1

pub counted_in : {S T : Type 0} (told : T → Option (List ℕ)) (traffic : S → Traffic) (play : LivePlay T) (was mid new : Exchange S) (is_taken : Bool)
    (outcomes : List TextOutcome) (source : SocketAddrV4) (bytes : List ℕ) (admitted : Admitted) (sent : List SentMessage)
    → Explains is_taken outcomes source bytes was mid → Notes is_taken admitted sent mid new
    → standing_of told traffic play new ≡ with_input (not is_taken) (standing_of told traffic play was)
counted_in told traffic play was mid new is_taken outcomes source bytes admitted sent says notes =
    counted_by told traffic play mid new is_taken admitted sent notes
    ∙ ap (λ (s : Standing). with_input (not is_taken) s) (explained_still told traffic play was mid is_taken outcomes source bytes says)

-- and where somebody was answered behind it
told_still : {S T : Type 0} (told : T → Option (List ℕ)) (traffic : S → Traffic) (play : LivePlay T) (was is : Exchange S) → OnlyTells was is
    → traffic is.around ≡ traffic was.around → standing_of told traffic play is ≡ standing_of told traffic play was
told_still {S} told traffic play was is tells kept =
    ap (λ (x : Exchange S). standing_of told traffic play x) tells
    ∙ ap (λ (t : Traffic).
    let s : Standing = record {
      live = live play.gateway.value play.script (told play.teller) (handed_by was.network t.sent);
      came = record { received = received_by was.network t.received; refused = was.faults.refused };
    } in s) kept

pub counted_behind : {S T : Type 0} (told : T → Option (List ℕ)) (traffic : S → Traffic) (play : LivePlay T) (was mid new : Exchange S) (is_taken : Bool)
    (admitted : Admitted) (sent : List SentMessage) → Notes is_taken admitted sent was mid → OnlyTells mid new
    → traffic new.around ≡ traffic mid.around
    → standing_of told traffic play new ≡ with_input (not is_taken) (standing_of told traffic play was)
counted_behind told traffic play was mid new is_taken admitted sent notes tells kept =
    told_still told traffic play mid new tells kept ∙ counted_by told traffic play was mid is_taken admitted sent notes

-- ---- one after the other

stays_by : (admission : Admission) (was is : Standing) → is ≡ was → GoesOnBy admission was is [] [] 0
stays_by admission was is same = subst (λ (x : Standing). GoesOnBy admission was x [] [] 0) (sym same) (record {
  ran = ran_stays was.live;
  received = grows_nothing was.came.received;
  others = 0;
  refused = none_more was.came.refused;
  events = refl;
  inputs = tt;
  later = λ before s. tt;
})

then_by : (admission : Admission) (was mid is : Standing) (a b : List Entry) (some more : List Received) (m n : ℕ) → GoesOnBy admission was mid a some m
    → GoesOnBy admission mid is b more n → GoesOnBy admission was is (a ++ b) (some ++ more) (m + n)
then_by admission was mid is a b some more m n g h = record {
  ran = ran_on was.live mid.live is.live a b g.ran h.ran;
  received = grows_on was.came.received mid.came.received is.came.received some more g.received h.received;
  others = g.others + h.others;
  refused = h.refused ∙ ap (λ (k : ℕ). counted k (n + (refusals_in b + h.others))) g.refused
      ∙ both_counted was.came.refused m (refusals_in a) g.others n (refusals_in b) h.others
      ∙ ap (λ (r : ℕ). counted was.came.refused ((m + n) + (r + (g.others + h.others)))) (sym (refusals_both a b));
  events = subst (λ (l : List Received). AreAllBut (m + n) l (arrived_in (a ++ b))) (sym (heard_both admission some more))
      (subst (λ (l : List Received). AreAllBut (m + n) (heard_of admission some ++ heard_of admission more) l) (sym (arrived_both a b))
      (all_but_both m n (heard_of admission some) (arrived_in a) (heard_of admission more) (arrived_in b) g.events h.events));
  inputs = are_of_more IsReadable a b g.inputs h.inputs;
  later = λ before s. later_more was.live.gateway.setup before a b (g.later before s)
      (subst (λ (x : Setup). AreLater x (taken_after was.live.gateway.setup before a) b) g.ran.setup
      (h.later (taken_after was.live.gateway.setup before a) (g.ran.stands before s)));
}

pub stays_so : {S T : Type 0} (told : T → Option (List ℕ)) (traffic : S → Traffic) (old new : Desk S T)
    → at_desk told traffic new ≡ at_desk told traffic old → new.admission ≡ old.admission → GoesOn told traffic old new
stays_so told traffic old new same kept = record {
  entries = [];
  came = [];
  missing = 0;
  went = stays_by old.admission (at_desk told traffic old) (at_desk told traffic new) same;
  admission = kept;
}

-- so it does where its exchange waited
pub waited_same : {S T : Type 0} (told : T → Option (List ℕ)) (traffic : S → Traffic) (was : Desk S T) (is : Exchange S)
    → handed_by is.network (traffic is.around).sent ≡ handed_by was.exchange.network (traffic was.exchange.around).sent
    → received_by is.network (traffic is.around).received ≡ received_by was.exchange.network (traffic was.exchange.around).received
    → is.faults.refused ≡ was.exchange.faults.refused
    → at_desk told traffic (record was { exchange = is }) ≡ at_desk told traffic was
waited_same told traffic was is handed received refused = rw (handed, received, refused) refl

pub stays : {S T : Type 0} (told : T → Option (List ℕ)) (traffic : S → Traffic) (old : Desk S T) → GoesOn told traffic old old
stays told traffic old = stays_so told traffic old old refl refl

pub goes_on_then : {S T : Type 0} (told : T → Option (List ℕ)) (traffic : S → Traffic) (old mid new : Desk S T)
    → GoesOn told traffic old mid → GoesOn told traffic mid new → GoesOn told traffic old new
goes_on_then told traffic old mid new a b = record {
  entries = a.entries ++ b.entries;
  came = a.came ++ b.came;
  missing = a.missing + b.missing;
  went = then_by old.admission (at_desk told traffic old) (at_desk told traffic mid) (at_desk told traffic new) a.entries b.entries a.came b.came a.missing b.missing
      a.went (subst (λ (x : Admission). GoesOnBy x (at_desk told traffic mid) (at_desk told traffic new) b.entries b.came b.missing) a.admission b.went);
  admission = b.admission ∙ a.admission;
}

-- nothing changes before it, nor behind it
pub between : {S T : Type 0} (told : T → Option (List ℕ)) (traffic : S → Traffic) (old mid after new : Desk S T)
    → GoesOn told traffic mid after → at_desk told traffic mid ≡ at_desk told traffic old → mid.admission ≡ old.admission
    → at_desk told traffic new ≡ at_desk told traffic after → new.admission ≡ after.admission → GoesOn told traffic old new
between told traffic old mid after new goes before same behind kept =
    goes_on_then told traffic old mid new (stays_so told traffic old mid before same)
    (goes_on_then told traffic mid after new goes (stays_so told traffic after new behind kept))

-- ---- a tick, which goes on

ticked_by : (admission : Admission) (was mid : Standing) (moment : ℕ) → moment < first_unread
    → Takes was.live (passed moment) (tick moment) mid.live → ((before : List GatewayEvent) → Stands was.live.gateway before → (plain was.live.gateway.setup before).now < moment)
    → mid.came ≡ was.came → (entries : List Entry) × GoesOnBy admission was (with_input false mid) entries [] 0
ticked_by admission was mid moment short t later same = (
  showed (passed moment) (give (tick moment)) (sends t.outputs) ∷ t.marks,
  record {
    ran = t.ran;
    received = nothing_more was.came.received mid.came.received (ap (λ (x : Came). x.received) same);
    others = 0;
    refused = ap (λ (x : Came). x.refused) same ∙ none_with was.came.refused (refusals_in t.marks) (marks_refuse_nothing 0 (length t.outputs) t.marks t.are);
    events = marks_bring_nothing 0 (length t.outputs) t.marks t.are;
    inputs = (short, marks_are_of IsReadable 0 (length t.outputs) t.marks t.are);
    later = λ before s. (later before s, marks_are_later was.live.gateway.setup _ 0 (length t.outputs) t.marks t.are);
  },
)

-- no datagram is missing where another input is refused
pub refused_by : (admission : Admission) (was mid : Standing) → Ran was.live [] mid.live → mid.came ≡ was.came
    → GoesOnBy admission was (with_input true mid) [] [] 0
refused_by admission was mid ran same = record {
  ran = ran;
  received = nothing_more was.came.received mid.came.received (ap (λ (x : Came). x.received) same);
  others = 1;
  refused = ap (λ (x : Came). counted x.refused 1) same;
  events = refl;
  inputs = tt;
  later = λ before s. tt;
}

-- it was taken, or refused
pub ticks : {S T A B : Type 0} (told : T → Option (List ℕ)) (traffic : S → Traffic) (old new : Desk S T) (mid : Standing) (done : Result A B) (moment : ℕ)
    → moment < first_unread → OnOk done (Takes (at_desk told traffic old).live (passed moment) (tick moment) mid.live)
    → OnErr done (Ran (at_desk told traffic old).live [] mid.live)
    → ((before : List GatewayEvent) → Stands (at_desk told traffic old).live.gateway before
    → (plain (at_desk told traffic old).live.gateway.setup before).now < moment)
    → mid.came ≡ (at_desk told traffic old).came → at_desk told traffic new ≡ with_input (not (is_ok done)) mid → new.admission ≡ old.admission
    → GoesOn told traffic old new
ticks told traffic old new mid (Ok done) moment short takes misses later same input kept =
    let found = ticked_by old.admission (at_desk told traffic old) mid moment short takes later same in
    record {
      entries = found.0;
      came = [];
      missing = 0;
      went = subst (λ (x : Standing). GoesOnBy old.admission (at_desk told traffic old) x found.0 [] 0) (sym input) found.1;
      admission = kept;
    }
ticks told traffic old new mid (Err why) moment short takes misses later same input kept = record {
  entries = [];
  came = [];
  missing = 0;
  went = subst (λ (x : Standing). GoesOnBy old.admission (at_desk told traffic old) x [] [] 0) (sym input)
      (refused_by old.admission (at_desk told traffic old) mid misses same);
  admission = kept;
}

-- ---- acts and questions: nobody is heard, and no time passes

-- an act that was taken
done_by : (admission : Admission) (was mid : Standing) (text : List ℕ) (event : GatewayEvent) → Never is_line_feed text
    → Takes was.live (typed text) event mid.live → mid.came ≡ was.came → (entries : List Entry) × GoesOnBy admission was (with_input false mid) entries [] 0
done_by admission was mid text event free t same = (
  showed (typed text) (give event) (sends t.outputs) ∷ t.marks,
  record {
    ran = t.ran;
    received = nothing_more was.came.received mid.came.received (ap (λ (x : Came). x.received) same);
    others = 0;
    refused = ap (λ (x : Came). x.refused) same ∙ none_with was.came.refused (refusals_in t.marks) (marks_refuse_nothing 0 (length t.outputs) t.marks t.are);
    events = marks_bring_nothing 0 (length t.outputs) t.marks t.are;
    inputs = (free, marks_are_of IsReadable 0 (length t.outputs) t.marks t.are);
    later = λ before s. (tt, marks_are_later was.live.gateway.setup _ 0 (length t.outputs) t.marks t.are);
  },
)

-- one that was refused, as its entry says, or for want of memory
undone_by : (admission : Admission) (was mid : Standing) (text : List ℕ) (event : GatewayEvent) (refusal : Refusal) (printed : List ℕ) → Never is_line_feed text
    → Refuses was.live text event refusal printed mid.live → mid.came ≡ was.came → (entries : List Entry) × GoesOnBy admission was (with_input true mid) entries [] 0
undone_by admission was mid text event refusal printed free (inl untold) same = ([], refused_by admission was mid untold.1 same)
undone_by admission was mid text event refusal printed free (inr told) same = (
  showed (typed text) (give event) (refuses refusal) ∷ [],
  record {
    ran = told.1;
    received = nothing_more was.came.received mid.came.received (ap (λ (x : Came). x.received) same);
    others = 0;
    refused = ap (λ (x : Came). counted x.refused 1) same;
    events = refl;
    inputs = (free, tt);
    later = λ before s. (tt, tt);
  },
)

pub acts : {S T A : Type 0} (told : T → Option (List ℕ)) (traffic : S → Traffic) (old new : Desk S T) (mid : Standing) (done : Result A Refusal) (text : List ℕ)
    (event : GatewayEvent) (printed : List ℕ) → Never is_line_feed text → OnOk done (Takes (at_desk told traffic old).live (typed text) event mid.live)
    → IfErr done (λ refusal. Refuses (at_desk told traffic old).live text event refusal printed mid.live) → mid.came ≡ (at_desk told traffic old).came
    → at_desk told traffic new ≡ with_input (not (is_ok done)) mid → new.admission ≡ old.admission → GoesOn told traffic old new
acts told traffic old new mid (Ok done) text event printed free takes misses same input kept =
    let found = done_by old.admission (at_desk told traffic old) mid text event free takes same in
    record {
      entries = found.0;
      came = [];
      missing = 0;
      went = subst (λ (x : Standing). GoesOnBy old.admission (at_desk told traffic old) x found.0 [] 0) (sym input) found.1;
      admission = kept;
    }
acts told traffic old new mid (Err refusal) text event printed free takes misses same input kept =
    let found = undone_by old.admission (at_desk told traffic old) mid text event refusal printed free misses same in
    record {
      entries = found.0;
      came = [];
      missing = 0;
      went = subst (λ (x : Standing). GoesOnBy old.admission (at_desk told traffic old) x found.0 [] 0) (sym input) found.1;
      admission = kept;
    }

-- a question is no input: it is an entry, or memory was refused, and nothing was told
pub asks : {S T A B : Type 0} (told : T → Option (List ℕ)) (traffic : S → Traffic) (old new : Desk S T) (done : Result A B) (text : List ℕ) (number : ℕ)
    (printed : List ℕ) → Never is_line_feed text → OnOk done (Asked (at_desk told traffic old).live text number printed (at_desk told traffic new).live)
    → OnErr done ((at_desk told traffic new).live ≡ (at_desk told traffic old).live)
    → (at_desk told traffic new).came ≡ (at_desk told traffic old).came → new.admission ≡ old.admission → GoesOn told traffic old new
asks told traffic old new (Ok done) text number printed free asked still same kept = record {
  entries = showed (typed text) (ask number) (answer_of asked.answer.status) ∷ [];
  came = [];
  missing = 0;
  went = record {
    ran = asked.ran;
    received = nothing_more (at_desk told traffic old).came.received (at_desk told traffic new).came.received (ap (λ (x : Came). x.received) same);
    others = 0;
    refused = ap (λ (x : Came). x.refused) same ∙ none_more (at_desk told traffic old).came.refused;
    events = refl;
    inputs = (free, tt);
    later = λ before s. (tt, tt);
  };
  admission = kept;
}
asks told traffic old new (Err why) text number printed free asked still same kept = record {
  entries = [];
  came = [];
  missing = 0;
  went = record {
    ran = subst (λ (x : Live). Ran (at_desk told traffic old).live [] x) (sym still) (ran_stays (at_desk told traffic old).live);
    received = nothing_more (at_desk told traffic old).came.received (at_desk told traffic new).came.received (ap (λ (x : Came). x.received) same);
    others = 0;
    refused = ap (λ (x : Came). x.refused) same ∙ none_more (at_desk told traffic old).came.refused;
    events = refl;
    inputs = tt;
    later = λ before s. tt;
  };
  admission = kept;
}

-- a play that wasn't told of a question stands as it did
pub untold_still : {A B T : Type 0} (done : Result A B) (told : T → Option (List ℕ)) (was is : LivePlay T) (handed : Option (List Sent)) → OnErr done (is ≡ record was { printed = is.printed })
    → OnErr done (live is.gateway.value is.script (told is.teller) handed ≡ live was.gateway.value was.script (told was.teller) handed)
untold_still (Ok a) told was is handed same = tt
untold_still {A} {B} {T} (Err b) told was is handed same =
    ap (λ (p : LivePlay T). live p.gateway.value p.script (told p.teller) handed) same

-- ---- a datagram

-- none is heard
pub hears_nobody : {S T : Type 0} (told : T → Option (List ℕ)) (traffic : S → Traffic) (old new : Desk S T)
    → HeardSince old.admission (at_desk told traffic old).came.received [] (at_desk told traffic new).came.received
    → (at_desk told traffic new).live ≡ (at_desk told traffic old).live
    → (at_desk told traffic new).came.refused ≡ (at_desk told traffic old).came.refused → new.admission ≡ old.admission → GoesOn told traffic old new
hears_nobody told traffic old new heard live counts kept = record {
  entries = [];
  came = heard.0;
  missing = 0;
  went = record {
    ran = subst (λ (x : Live). Ran (at_desk told traffic old).live [] x) (sym live) (ran_stays (at_desk told traffic old).live);
    received = heard.1;
    others = 0;
    refused = counts ∙ none_more (at_desk told traffic old).came.refused;
    events = subst (λ (l : List Received). AreAllBut 0 l []) (sym heard.2) refl;
    inputs = tt;
    later = λ before s. tt;
  };
  admission = kept;
}

taken_by : (admission : Admission) (was mid : Standing) (source : SocketAddrV4) (bytes : List ℕ) → IsAddress source
    → AllByRecursion (λ byte. byte < 256) bytes → HeardSince admission was.came.received (record { source = source; bytes = bytes } ∷ []) mid.came.received
    → Takes was.live (arrived source bytes) (datagram source bytes) mid.live → mid.came.refused ≡ was.came.refused
    → (entries : List Entry) × (came : List Received) × GoesOnBy admission was (with_input false mid) entries came 0
taken_by admission was mid source bytes is are heard t counts = (
  showed (arrived source bytes) (give (datagram source bytes)) (sends t.outputs) ∷ t.marks,
  heard.0,
  record {
    ran = t.ran;
    received = heard.1;
    others = 0;
    refused = counts ∙ none_with was.came.refused (refusals_in t.marks) (marks_refuse_nothing 0 (length t.outputs) t.marks t.are);
    events = subst (λ (l : List Received). AreAllBut 0 l (one ∷ arrived_in t.marks)) (sym heard.2)
        (subst (λ (l : List Received). AreAllBut 0 (one ∷ []) (one ∷ l)) (sym (marks_bring_nothing 0 (length t.outputs) t.marks t.are)) (all_of (one ∷ [])));
    inputs = ((is, are), marks_are_of IsReadable 0 (length t.outputs) t.marks t.are);
    later = λ before s. (tt, marks_are_later was.live.gateway.setup _ 0 (length t.outputs) t.marks t.are);
  },
) where
  one : Received
  one = record { source = source; bytes = bytes }

missed_by : (admission : Admission) (was mid : Standing) (one : Received) → HeardSince admission was.came.received (one ∷ []) mid.came.received
    → Ran was.live [] mid.live → mid.came.refused ≡ was.came.refused
    → (entries : List Entry) × (came : List Received) × GoesOnBy admission was (with_input true mid) entries came 1
missed_by admission was mid one heard ran counts = (
  [],
  heard.0,
  record {
    ran = ran;
    received = heard.1;
    others = 0;
    refused = ap (λ (n : ℕ). counted n 1) counts;
    events = subst (λ (l : List Received). AreAllBut 1 l []) (sym heard.2) (inr (0, refl, refl));
    inputs = tt;
    later = λ before s. tt;
  },
)

-- one is: the gateway took it, or was refused memory for it
pub hears : {S T A B : Type 0} (told : T → Option (List ℕ)) (traffic : S → Traffic) (old new : Desk S T) (mid : Standing) (done : Result A B) (source : SocketAddrV4)
    (bytes : List ℕ) → IsAddress source → AllByRecursion (λ byte. byte < 256) bytes → HeardSince old.admission (at_desk told traffic old).came.received (record { source = source; bytes = bytes } ∷ []) mid.came.received
    → OnOk done (Takes (at_desk told traffic old).live (arrived source bytes) (datagram source bytes) mid.live)
    → OnErr done (Ran (at_desk told traffic old).live [] mid.live)
    → mid.came.refused ≡ (at_desk told traffic old).came.refused
    → at_desk told traffic new ≡ with_input (not (is_ok done)) mid → new.admission ≡ old.admission → GoesOn told traffic old new
hears told traffic old new mid (Ok done) source bytes is are heard takes misses counts input kept =
    let found = taken_by old.admission (at_desk told traffic old) mid source bytes is are heard takes counts in
    record {
      entries = found.0;
      came = found.1;
      missing = 0;
      went = subst (λ (x : Standing). GoesOnBy old.admission (at_desk told traffic old) x found.0 found.1 0) (sym input) found.2;
      admission = kept;
    }
hears told traffic old new mid (Err why) source bytes is are heard takes misses counts input kept =
    let found = missed_by old.admission (at_desk told traffic old) mid (record { source = source; bytes = bytes }) heard misses counts in
    record {
      entries = found.0;
      came = found.1;
      missing = 1;
      went = subst (λ (x : Standing). GoesOnBy old.admission (at_desk told traffic old) x found.0 found.1 1) (sym input) found.2;
      admission = kept;
    }

-- ---- what a trace is told may be broken off where it is written

pub written_off : {S T : Type 0} (told : T → Option (List ℕ)) (traffic : S → Traffic) (old new : Desk S T)
    → (at_desk told traffic new).live.gateway ≡ (at_desk told traffic old).live.gateway → (at_desk told traffic new).live.script ≡ (at_desk told traffic old).live.script
    → (at_desk told traffic new).live.handed ≡ (at_desk told traffic old).live.handed
    → Grows (at_desk told traffic old).live.told [] (at_desk told traffic new).live.told
    → (at_desk told traffic new).came ≡ (at_desk told traffic old).came → new.admission ≡ old.admission → GoesOn told traffic old new
written_off told traffic old new gateway script handed grows same kept = record {
  entries = [];
  came = [];
  missing = 0;
  went = record {
    ran = ran_written_off (at_desk told traffic old).live (at_desk told traffic new).live gateway script handed grows;
    received = nothing_more (at_desk told traffic old).came.received (at_desk told traffic new).came.received (ap (λ (x : Came). x.received) same);
    others = 0;
    refused = ap (λ (x : Came). x.refused) same ∙ none_more (at_desk told traffic old).came.refused;
    events = refl;
    inputs = tt;
    later = λ before s. tt;
  };
  admission = kept;
}

-- ---- at which lines something may have changed

-- where a desk stands as it stood none changed
pub changes_still : {S T : Type 0} (told : T → Option (List ℕ)) (traffic : S → Traffic) (was is : Desk S T) (marks : List Bool)
    → at_desk told traffic is ≡ at_desk told traffic was
    → Changes false marks was.play.gateway.value.machine.endpoints is.play.gateway.value.machine.endpoints
changes_still told traffic was is marks same line off = ap (λ (s : Standing). endpoint_at s.live.gateway.machine.endpoints line) same

-- a question leaves the gateway, whether or not it is answered
asked_still : {A B T : Type 0} (done : Result A B) (was is : LivePlay T) (before after : Live) (line : List ℕ) (number : ℕ) (text : List ℕ)
    → before.gateway ≡ was.gateway.value → after.gateway ≡ is.gateway.value → OnOk done (Asked before line number text after)
    → OnErr done (is ≡ record was { printed = is.printed }) → is.gateway.value ≡ was.gateway.value
asked_still (Ok a) was is before after line number text from to asked unasked = sym to ∙ asked.gateway ∙ from
asked_still {A} {B} {T} (Err b) was is before after line number text from to asked unasked = ap (λ (p : LivePlay T). p.gateway.value) unasked

pub changes_asked : {A B T : Type 0} (done : Result A B) (was is : LivePlay T) (before after : Live) (line : List ℕ) (number : ℕ) (text : List ℕ)
    (marks : List Bool) → before.gateway ≡ was.gateway.value → after.gateway ≡ is.gateway.value → OnOk done (Asked before line number text after)
    → OnErr done (is ≡ record was { printed = is.printed })
    → Changes false marks was.gateway.value.machine.endpoints is.gateway.value.machine.endpoints
changes_asked done was is before after line number text marks from to asked unasked number_of off =
    ap (λ (g : GatewayState). endpoint_at g.machine.endpoints number_of) (asked_still done was is before after line number text from to asked unasked)
