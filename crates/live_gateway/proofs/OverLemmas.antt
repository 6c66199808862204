-- What a gateway's sending leaves of an exchange.
use Rattle.std.proofs.Common.{◌≡◌, ℕ, ◌+◌, Bool, true, false, List, [], ◌∷◌, Option, None, Some, refl, sym, ◌∙◌, ap, subst, arith}
use Rattle.std.specs.Prelude.{⊤, is_ok, Result, Ok, Err, OnOk, OnErr}
use Rattle.std.specs.declared.net.socket_addr.SocketAddrV4.{SocketAddrV4}
use Rattle.gateway_core.specs.GatewayState.{GatewayState}
use Rattle.gateway_core.specs.Wire.{counted}
use Rattle.gateway_core.proofs.ServeLemmas.{counted_on}
use Rattle.gateway_core.specs.declared.outcome.TextOutcome.{TextOutcome}
use Rattle.output_queues.specs.declared.now.Now.{Now}
use Rattle.live_journal.specs.declared.journal.Journal.{Journal}
use Rattle.message_counts.specs.declared.reporting.Faults.{Faults}
use Rattle.plain_machine.specs.Event.{GatewayEvent, datagram}
use Rattle.gateway_core.specs.declared.sent.SentMessage.{SentMessage}
use Rattle.live_io.specs.Speaking.{Admitted}
use Rattle.live_io.specs.declared.surroundings.Fault.{Fault}
use Rattle.told_messages.specs.declared.log.Log.{Log}
use Rattle.traces.specs.Writing.{Input}
use Rattle.traces.specs.declared.telling.Mark.{Mark}
use Rattle.traces.specs.declared.telling.Mark.TheVariants.{Unsent, Lost}
use Rattle.transmission.specs.declared.output.OutDatagram.{OutDatagram}
use Rattle.gateway_core.specs.Outgoing.{own_messages, other_messages}
use Rattle.live_play.specs.Running.{Live, HandsEach, TakesBy}
use Rattle.live_gateway.specs.declared.exchange.Exchange.{Exchange}
use Rattle.live_gateway.specs.Exchanging.{with_mark, with_refused, unsent_in, IsTold, HandsOver, OnlySends, OnlyNotes, Explains, Notes}
use Rattle.live_gateway.specs.Exchanging.{NotesTaken, NotesRefused, TakesOver}
use Rattle.live_gateway.specs.Noting.{SaysWhy, SaysUntaken, SaysUnheard}
use Rattle.live_gateway.specs.Leaving.{OnlyShows, OnlyTells}

-- ---- datagrams, one after the other

none_unsent : (n : ℕ) → n ≡ counted n 0
none_unsent n = omega arith

sends_nothing : {S : Type 0} (was : Exchange S) → OnlySends [] was was
sends_nothing was = record { read = refl; turn = (refl, refl); written = refl; receive = refl; refused = refl; send = none_unsent was.faults.send }

marked_receive : (mark : Option Mark) (faults : Faults) → (with_mark mark faults).receive ≡ faults.receive
marked_receive None faults = refl
marked_receive (Some Lost) faults = refl
marked_receive (Some Unsent) faults = refl

marked_refused : (mark : Option Mark) (faults : Faults) → (with_mark mark faults).refused ≡ faults.refused
marked_refused None faults = refl
marked_refused (Some Lost) faults = refl
marked_refused (Some Unsent) faults = refl

one_before : (n m : ℕ) → counted n (1 + m) ≡ counted n (m + 1)
one_before n m = omega arith

marked_send : (mark : Option Mark) (said : List (Option Mark)) (faults : Faults)
    → counted (with_mark mark faults).send (unsent_in said) ≡ counted faults.send (unsent_in (mark ∷ said))
marked_send None said faults = refl
marked_send (Some Lost) said faults = refl
marked_send (Some Unsent) said faults = counted_on faults.send 1 (unsent_in said) ∙ one_before faults.send (unsent_in said)

-- one is handed over, and then others are
sends_more : {S : Type 0} (sends : S → SocketAddrV4 → List ℕ → Result ⊤ Fault → S → Type 0) (was : Exchange S) (to : SocketAddrV4) (bytes : List ℕ)
    (messages : List SentMessage) (mark : Option Mark) (mid : Exchange S) (said : List (Option Mark)) (is : Exchange S)
    → HandsOver sends was to bytes messages mark mid → OnlySends said mid is → OnlySends (mark ∷ said) was is
sends_more sends was to bytes messages mark mid said is h rest = record {
  read = rest.read ∙ h.rest.0;
  turn = (rest.turn.0 ∙ h.rest.1.0, rest.turn.1 ∙ h.rest.1.1);
  written = rest.written ∙ h.written;
  receive = rest.receive ∙ ap (λ (x : Faults). x.receive) h.faults ∙ marked_receive mark was.faults;
  refused = rest.refused ∙ ap (λ (x : Faults). x.refused) h.faults ∙ marked_refused mark was.faults;
  send = rest.send ∙ ap (λ (x : Faults). counted x.send (unsent_in said)) h.faults ∙ marked_send mark said was.faults;
}

sends_each : {S : Type 0} (sends : S → SocketAddrV4 → List ℕ → Result ⊤ Fault → S → Type 0) (datagrams : List OutDatagram) (messages : List SentMessage)
    (was : Exchange S) (said : List (Option Mark)) (is : Exchange S)
    → HandsEach (λ a at bytes own mark b. HandsOver sends a at bytes own mark b) datagrams messages was said is → OnlySends said was is
sends_each {S} sends [] messages was [] is h = subst (λ (x : Exchange S). OnlySends [] was x) (sym h) (sends_nothing was)
sends_each sends [] messages was (mark ∷ said) is h = absurd h
sends_each sends (d ∷ more) messages was [] is h = absurd h
sends_each sends (d ∷ more) messages was (mark ∷ said) is h =
    sends_more sends was d.to d.bytes (own_messages d messages) mark h.0 said is h.1
    (sends_each sends more (other_messages d messages) h.0 said is h.2)

-- behind what an exchange was told of the event
sends_after : {S : Type 0} (said : List (Option Mark)) (was told is : Exchange S) → told ≡ record was { journal = told.journal }
    → told.journal.written ≡ was.journal.written → OnlySends said told is → OnlySends said was is
sends_after {S} said was told is rest written s = record {
  read = s.read ∙ ap (λ (x : Exchange S). x.read) rest;
  turn = (s.turn.0 ∙ ap (λ (x : Exchange S). x.now) rest, s.turn.1 ∙ ap (λ (x : Exchange S). x.is_offering) rest);
  written = s.written ∙ written;
  receive = s.receive ∙ ap (λ (x : Exchange S). x.faults.receive) rest;
  refused = s.refused ∙ ap (λ (x : Exchange S). x.faults.refused) rest;
  send = s.send ∙ ap (λ (x : Exchange S). counted x.faults.send (unsent_in said)) rest;
}

-- ---- an event

only_sends : {S : Type 0} (sends : S → SocketAddrV4 → List ℕ → Result ⊤ Fault → S → Type 0) (was : Live) (from : Exchange S) (input : Input)
    (event : GatewayEvent) (is : Live) (sent : Exchange S)
    → (t : TakesBy (λ a gateway b. IsTold a gateway b) (λ a at bytes own mark b. HandsOver sends a at bytes own mark b) was from input event is sent)
    → OnlySends t.said from sent
only_sends sends was from input event is sent t =
    sends_after t.said from t.turned sent t.told.rest t.told.records.1 (sends_each sends t.takes.outputs is.gateway.account.sent t.turned t.said sent t.each)

-- it is taken over an exchange
pub takes_over : {S : Type 0} (sends : S → SocketAddrV4 → List ℕ → Result ⊤ Fault → S → Type 0) (admitted : Admitted) (was : Live)
    (from sent to : Exchange S) (input : Input) (event : GatewayEvent) (is : Live)
    → TakesBy (λ a gateway b. IsTold a gateway b) (λ a at bytes own mark b. HandsOver sends a at bytes own mark b) was from input event is sent
    → NotesTaken admitted event is.gateway sent to → TakesOver sends admitted was from input event is to
takes_over sends admitted was from sent to input event is t noted =
    record { sent = sent; by = t; only = only_sends sends was from input event is sent t; noted = noted }

-- or refused: in its turn in any case
pub same_now : {S A B : Type 0} (sends : S → SocketAddrV4 → List ℕ → Result ⊤ Fault → S → Type 0) (done : Result A B) (was : Live)
    (from sent : Exchange S) (input : Input) (event : GatewayEvent) (is : Live)
    → OnOk done (TakesBy (λ a gateway b. IsTold a gateway b) (λ a at bytes own mark b. HandsOver sends a at bytes own mark b) was from input event is sent)
    → OnErr done (sent ≡ from) → sent.now ≡ from.now
same_now sends (Ok done) was from sent input event is t same = (only_sends sends was from input event is sent t).turn.0
same_now {S} sends (Err why) was from sent input event is t same = ap (λ (x : Exchange S). x.now) same

-- ---- what is noted

-- an input was taken: the log was told
pub notes_taken : {S : Type 0} (is_taken : Bool) (admitted : Admitted) (sent : List SentMessage) (was is : Exchange S) → is_taken ≡ true
    → SaysUnheard admitted was.now.time sent was.journal.log.value is.journal.log.value → OnlyNotes was is → Notes is_taken admitted sent was is
notes_taken true admitted sent was is so says rest = (says, rest)
notes_taken false admitted sent was is so says rest = absurd cc

-- or refused: that was counted
pub notes_refused : {S : Type 0} (is_taken : Bool) (admitted : Admitted) (sent : List SentMessage) (was : Exchange S) (refused : ℕ) → is_taken ≡ false
    → refused ≡ counted was.faults.refused 1
    → Notes is_taken admitted sent was (record was { faults = record was.faults { refused = refused } })
notes_refused true admitted sent was refused so one = absurd cc
notes_refused false admitted sent was refused so one = ap (λ (n : ℕ). record was { faults = record was.faults { refused = n } }) one

-- so it was with a datagram before that
pub explains_taken : {S : Type 0} (is_taken : Bool) (outcomes : List TextOutcome) (source : SocketAddrV4) (bytes : List ℕ) (was is : Exchange S)
    → is_taken ≡ true → SaysWhy (datagram source bytes) outcomes was.journal.log.value is.journal.log.value → OnlyNotes was is
    → Explains is_taken outcomes source bytes was is
explains_taken true outcomes source bytes was is so says rest = (says, rest)
explains_taken false outcomes source bytes was is so says rest = absurd cc

pub explains_refused : {S : Type 0} (is_taken : Bool) (outcomes : List TextOutcome) (source : SocketAddrV4) (bytes : List ℕ) (was is : Exchange S)
    → is_taken ≡ false → SaysUntaken (datagram source bytes) was.now.time was.journal.log.value is.journal.log.value → OnlyNotes was is
    → Explains is_taken outcomes source bytes was is
explains_refused true outcomes source bytes was is so says rest = absurd cc
explains_refused false outcomes source bytes was is so says rest = (says, rest)

-- where only the log changes of a journal, only that changes of its exchange
pub noted_alone : {S : Type 0} (was : Exchange S) (journal : Journal) → journal ≡ record was.journal { log = journal.log }
    → OnlyNotes was (record was { journal = journal })
noted_alone {S} was journal same = ap (λ (x : Journal). record was { journal = x }) same

-- what is noted of a tick or an act, of which nothing more is said
pub taken_quietly : {S A B : Type 0} (done : Result A B) (admitted : Admitted) (event : GatewayEvent) (gateway : GatewayState) (was is : Exchange S)
    → ((log : Log) → SaysWhy event gateway.outcomes log log) → Notes (is_ok done) admitted gateway.account.sent was is
    → OnOk done (NotesTaken admitted event gateway was is)
taken_quietly (Ok done) admitted event gateway was is quiet notes = record {
  explained = was.journal.log.value;
  why = quiet was.journal.log.value;
  unheard = notes.0;
  rest = notes.1;
}
taken_quietly (Err why) admitted event gateway was is quiet notes = tt

pub refused_quietly : {S A B : Type 0} (done : Result A B) (admitted : Admitted) (event : GatewayEvent) (sent : List SentMessage) (was is : Exchange S)
    → ((log : Log) → SaysUntaken event was.now.time log log) → Notes (is_ok done) admitted sent was is
    → OnErr done (NotesRefused event was is)
refused_quietly (Ok done) admitted event sent was is quiet notes = tt
refused_quietly {S} (Err why) admitted event sent was is quiet notes =
    subst (λ (x : Exchange S). NotesRefused event was x) (sym notes) (record { untaken = quiet was.journal.log.value; rest = refl })

-- and of a datagram
pub taken_in : {S A B : Type 0} (done : Result A B) (admitted : Admitted) (source : SocketAddrV4) (bytes : List ℕ) (gateway : GatewayState)
    (was mid is : Exchange S) → Explains (is_ok done) gateway.outcomes source bytes was mid → Notes (is_ok done) admitted gateway.account.sent mid is
    → OnOk done (NotesTaken admitted (datagram source bytes) gateway was is)
taken_in {S} (Ok done) admitted source bytes gateway was mid is explains notes = record {
  explained = mid.journal.log.value;
  why = explains.0;
  unheard = subst (λ (now : Now). SaysUnheard admitted now.time gateway.account.sent mid.journal.log.value is.journal.log.value)
      (ap (λ (x : Exchange S). x.now) explains.1) notes.0;
  rest = notes.1 ∙ ap (λ (x : Exchange S). record x { journal = record x.journal { log = is.journal.log } }) explains.1;
}
taken_in (Err why) admitted source bytes gateway was mid is explains notes = tt

pub refused_in : {S A B : Type 0} (done : Result A B) (admitted : Admitted) (source : SocketAddrV4) (bytes : List ℕ) (outcomes : List TextOutcome)
    (sent : List SentMessage) (was mid is : Exchange S) → Explains (is_ok done) outcomes source bytes was mid → Notes (is_ok done) admitted sent mid is
    → OnErr done (NotesRefused (datagram source bytes) was is)
refused_in (Ok done) admitted source bytes outcomes sent was mid is explains notes = tt
refused_in {S} (Err why) admitted source bytes outcomes sent was mid is explains notes =
    subst (λ (x : Exchange S). NotesRefused (datagram source bytes) was x) (sym notes) (record {
      untaken = explains.0;
      rest = ap (λ (x : Exchange S). record x { faults = with_refused true x.faults }) explains.1;
    })

-- what was noted was of an input that was taken, or wasn't, and of what was sent at it
pub noted_of : {S : Type 0} (is_taken taken : Bool) (admitted : Admitted) (sent all : List SentMessage) (was is : Exchange S)
    → is_taken ≡ taken → sent ≡ all → Notes is_taken admitted sent was is → Notes taken admitted all was is
noted_of is_taken taken admitted sent all was is so_taken so_sent notes =
    subst (λ (b : Bool). Notes b admitted all was is) so_taken
    (subst (λ (list : List SentMessage). Notes is_taken admitted list was is) so_sent notes)

-- neither changes the turn
pub noted_now : {S : Type 0} (is_taken : Bool) (admitted : Admitted) (sent : List SentMessage) (was is : Exchange S)
    → Notes is_taken admitted sent was is → is.now ≡ was.now
noted_now {S} true admitted sent was is notes = ap (λ (x : Exchange S). x.now) notes.1
noted_now {S} false admitted sent was is notes = ap (λ (x : Exchange S). x.now) notes

-- one of which only what the page is shown does, beside an answer or not
pub shown_so : {S : Type 0} (was : Exchange S) (journal : Journal) → journal ≡ record was.journal { board = journal.board }
    → OnlyShows was (record was { journal = journal })
shown_so {S} was journal same = ap (λ (x : Journal). record was { journal = x }) same

pub told_so : {S : Type 0} (was : Exchange S) (journal : Journal) (around : S) → journal ≡ record was.journal { board = journal.board }
    → OnlyTells was (record was { around = around; journal = journal })
told_so {S} was journal around same = ap (λ (x : Journal). record was { around = around; journal = x }) same
