-- What is done of a line that is left, and what who typed it is answered.
use Rattle.std.specs.Prelude.{◌≡◌, ◌≢◌, ◌↔◌, ◌⊎◌, ⊤, ℕ, Bool, codes, List, [], ◌∷◌, Option, None, Some, Result, Err, IfOk, IfErr, IsTrue, IsSomeAnd, true}
use Rattle.std.specs.Net.Addr.{IsLoopbackV4, IsLoopbackV6, MatchIp}
use Rattle.std.specs.Net.Socket.{socket_ip}
use Rattle.std.specs.declared.net.socket_addr.SocketAddr.{SocketAddr}
use Rattle.std.specs.declared.net.socket_addr.SocketAddrV4.{SocketAddrV4}
use Rattle.mg_bytes.specs.Lines.{line_of}
use Rattle.mg_bytes.specs.Words.{words}
use Rattle.mg_line.specs.declared.phone.Act.{Act}
use Rattle.live_io.specs.Around.{Around}
use Rattle.live_io.specs.Hearing.{AnswersTo}
use Rattle.live_io.specs.Requests.{requests_from}
use Rattle.live_io.specs.Speaking.{Admitted, admitted_by}
use Rattle.live_io.specs.Typing.{left_of, behind, v4_of}
use Rattle.live_io.specs.declared.lines.Lines.{Lines}
use Rattle.live_io.specs.declared.surroundings.Fault.{Fault}
use Rattle.page_state.specs.declared.ring.Kind.TheVariants.{Act as OfAct, Told as OfTold}
use Rattle.told_messages.specs.Showing.{nobody, GoesOn, Happened}
use Rattle.plain_machine.specs.Event.{GatewayEvent, phone}
use Rattle.plain_machine.specs.Lists.{plain}
use Rattle.gateway_core.specs.GatewayState.{GatewayState}
use Rattle.gateway_core.specs.Stands.{Stands}
use Rattle.gateway_core.specs.Wire.{counted}
use Rattle.machine_rules.specs.declared.refusal.Refusal.{Refusal}
use Rattle.machine_rules.specs.declared.refusal.Refusal.TheVariants as refusals
use Rattle.rgw_scripts.specs.Script.{line_in}
use Rattle.traces.specs.Writing.{Input, typed}
use Rattle.live_play.specs.Running.{Live, RanOf, Refuses, Asked, lines_shown}
use Rattle.telephone_control.specs.Admitting.{typist_of}
use Rattle.telephone_control.specs.Asking.{AsksFor, request_in, short_text, usage, wants_memory}
use Rattle.telephone_control.specs.Losses.{counts_text}
use Rattle.telephone_control.specs.Watching.{AnswersWatch, BeginsToSee, IsUnasked}
use Rattle.telephone_control.specs.declared.telephones.Typist.{Typist}
use Rattle.telephone_control.specs.declared.telephones.TelephoneRequest.{TelephoneRequest}
use Rattle.telephone_control.specs.declared.telephones.TelephoneRequest.TheVariants.{Act as AsksAct, Show, ShowAll, Watch as AsksWatch, Counts, Stop, StopFromAfar, Refused, Unknown, OutOfMemory}
use Rattle.telephone_control.specs.declared.watch.Watch.{Watch}
use Rattle.live_gateway.specs.declared.desk.Desk.{Desk}
use Rattle.live_gateway.specs.declared.exchange.Exchange.{Exchange}
use Rattle.live_gateway.specs.Exchanging.{TakesOver, NotesRefused}
use Rattle.live_gateway.specs.Desk.{Standing, at_desk, MayRefuseIfDone}
use Rattle.live_gateway.specs.Leaving.{OnlyShows, OnlyTells, OnlyReplies}

-- The line, and what it asks for

-- the line that is answered next is this one: the first of those that are left
abbrev pub IsFirst : Lines → List ℕ → Type 0
IsFirst lines text = (piece : List ℕ) × (left_of lines ≡ piece ∷ behind (left_of lines)) × (text ≡ line_of piece)

-- who typed the lines: whoever sends from the loopback is at this machine, whoever has another address may be at another one
pub record IsTypist (lines : Lines) (are_open : Bool) (who : Typist) : Type 0 where
  pub is_here : Bool
  pub is_afar : Bool
  pub here : IsTrue is_here ↔ IsSomeAnd lines.sender (λ s. MatchIp (socket_ip s) IsLoopbackV4 IsLoopbackV6)
  pub afar : IsTrue is_afar ↔ IsSomeAnd lines.sender (λ s. MatchIp (socket_ip s) IsLoopbackV4 IsLoopbackV6 → ⊥)
  pub by : who ≡ typist_of is_here is_afar are_open

-- this is what a line asks for of who typed it, unless memory is refused to read it
pub record IsRequest (lines : Lines) (are_open : Bool) (text : List ℕ) (request : TelephoneRequest) : Type 0 where
  pub who : Typist
  pub typist : IsTypist lines are_open who
  pub said : AsksFor request (line_in (words text))
  pub asked : (request ≡ request_in who text) ⊎ (request ≡ OutOfMemory)
  pub memory : request ≡ OutOfMemory → wants_memory (request_in who text) ≡ true

-- The answer

-- what is answered where memory is refused
abbrev pub no_memory : List ℕ
no_memory = codes "! 1 OutOfMemory\n"

-- what is answered from afar, where the telephones aren't open to that
abbrev pub not_from_afar : List ℕ
not_from_afar = codes "! the telephones are for a loopback address alone, 127.0.0.0/8, but with --phones-open\n"

-- who typed the line is answered this, by surroundings as they were so far, and its line is left no more
pub record AnswersLine {S T : Type 0} (answers : S → SocketAddr → List ℕ → S → Type 0) (before : S) (answer : List ℕ) (was is : Desk S T)
    : Type 0 where
  pub answered : AnswersTo answers was.lines.sender before answer is.exchange.around
  pub left : left_of is.lines ≡ requests_from (behind (left_of was.lines))
  pub sender : is.lines.sender ≡ was.lines.sender

-- the line is answered, and nothing else is done
pub record Answers {S T : Type 0} (answers : S → SocketAddr → List ℕ → S → Type 0) (answer : List ℕ) (was is : Desk S T) : Type 0 where
  pub line : AnswersLine answers was.exchange.around answer was is
  pub rest : OnlyReplies was is

-- What is done

-- what is answered to an act: that it was done; why it was refused, as that is printed; or want of memory
pub record IsActAnswer {A : Type 0} (done : Result A Refusal) (printed answer : List ℕ) : Type 0 where
  pub done_so : IfOk done (λ a. answer ≡ codes "done\n")
  pub memory : done ≡ Err refusals.OutOfMemory → answer ≡ no_memory
  pub refused : IfErr done (λ refusal. refusal ≢ refusals.OutOfMemory → answer ≡ printed)

-- an act that a line says was done, over an exchange, and that is answered; or it was refused, as it may, and as is told, answered and
-- counted
abbrev pub TriesAct :
    {S : Type 0} → (S → SocketAddrV4 → List ℕ → Result ⊤ Fault → S → Type 0) → Admitted → List ℕ → ℕ → Act → List ℕ
    → Standing → Exchange S → Standing → Exchange S → Type 0
TriesAct sends admitted text line act answer was from is to =
    (TakesOver sends admitted was.live from (typed text) (phone line act) is.live to × (is.came.refused ≡ was.came.refused)
    × (answer ≡ codes "done\n"))
    ⊎ ((refusal : Refusal) × (printed : List ℕ) × Refuses was.live text (phone line act) refusal printed is.live
    × NotesRefused (phone line act) from to × (is.came.refused ≡ counted was.came.refused 1)
    × (refusal ≡ refusals.OutOfMemory → answer ≡ no_memory) × (refusal ≢ refusals.OutOfMemory → answer ≡ printed)
    × MayRefuseIfDone was.live.gateway (phone line act) refusal)

-- what a line is was asked, as a line says, and is told and answered; or memory was refused for that, and it is answered
abbrev pub Asks : List ℕ → ℕ → List ℕ → Live → Live → Type 0
Asks text line answer was is =
    Asked was text line answer is
    ⊎ (RanOf (λ (input : Input). input ≡ typed text) was is × (answer ≡ no_memory))

-- it is a text by all events that the gateway stands for, or memory was refused for it
abbrev pub IsPut : GatewayState → (List GatewayEvent → List ℕ) → List ℕ → Type 0
IsPut gateway text answer = (answer ≡ no_memory) ⊎ ((events : List GatewayEvent) → Stands gateway events → answer ≡ text events)

-- who asks to watch does, or is told why not; nobody, as the page, can't be told what changes
abbrev pub WatchesFor : Option SocketAddrV4 → GatewayState → ℕ → List ℕ → Watch → Watch → Type 0
WatchesFor None gateway seconds answer was is = (is ≡ was) × (answer ≡ usage)
WatchesFor (Some address) gateway seconds answer was is = (events : List GatewayEvent) → Stands gateway events →
    AnswersWatch was.watchers.places address (plain gateway.setup events).now seconds was.told.number answer is.watchers.places
    × BeginsToSee gateway.setup (plain gateway.setup events) was is

-- so it is, or memory is refused, and nobody's watch changes, nor what they have seen
abbrev pub AsksToWatch : Option SocketAddrV4 → GatewayState → ℕ → List ℕ → Watch → Watch → Type 0
AsksToWatch sender gateway seconds answer was is =
    ((answer ≡ no_memory) × IsUnasked gateway was is) ⊎ WatchesFor sender gateway seconds answer was is

-- what is answered to what asks neither for an act nor for what a line is; who asks for the end is answered when that has come
abbrev pub AnswersRequest : {S T : Type 0} → (S → SocketAddr → List ℕ → S → Type 0) → TelephoneRequest → Desk S T → Desk S T → Type 0
AnswersRequest answers ShowAll was is = (answer : List ℕ) × Answers answers answer was is × IsPut was.play.gateway.value
    (λ events. lines_shown was.play.gateway.value.setup events was.play.gateway.value.setup.names.lines) answer
AnswersRequest answers (AsksWatch seconds) was is = (answer : List ℕ) × AnswersLine answers was.exchange.around answer was is
    × AsksToWatch (v4_of was.lines.sender) was.play.gateway.value seconds answer was.watch is.watch
    × OnlyReplies (record was { watch = is.watch }) is
AnswersRequest answers Counts was is = (answer : List ℕ) × Answers answers answer was is × IsPut was.play.gateway.value
    (λ events. counts_text was.exchange.journal was.exchange.faults was.play.gateway.value.setup
    (plain was.play.gateway.value.setup events)) answer
AnswersRequest answers Stop was is = is ≡ record was { end = Some 0 }
AnswersRequest answers Refused was is = AnswersTo answers was.lines.sender was.exchange.around not_from_afar is.exchange.around
    × (left_of is.lines ≡ []) × OnlyReplies was is
AnswersRequest answers (AsksAct line act) was is = Answers answers (short_text (AsksAct line act)) was is
AnswersRequest answers (Show line) was is = Answers answers (short_text (Show line)) was is
AnswersRequest answers StopFromAfar was is = Answers answers (short_text StopFromAfar) was is
AnswersRequest answers Unknown was is = Answers answers (short_text Unknown) was is
AnswersRequest answers OutOfMemory was is = Answers answers (short_text OutOfMemory) was is

-- the gateway does nothing, and what the line asks for is answered
abbrev pub OnlyAnswers : {S T : Type 0} → (T → Option (List ℕ)) → Around S → TelephoneRequest → Desk S T → Desk S T → Type 0
OnlyAnswers told around request was is =
    (at_desk told around.traffic is ≡ at_desk told around.traffic was) × AnswersRequest around.answers request was is

-- An act that a line asks for: the page is shown that, then it is done, or refused, and who typed it is answered behind what goes out at
-- it, which the page is shown too. Nothing else is done.
pub record DoesAct {S T : Type 0} (told : T → Option (List ℕ)) (around : Around S) (text : List ℕ) (line : ℕ) (act : Act)
    (was is : Desk S T) : Type 0 where
  pub asked : Exchange S
  pub done : Exchange S
  pub answer : List ℕ
  pub before : OnlyShows was.exchange asked
  pub shown : GoesOn (Happened was.exchange.now.clock OfAct nobody text) was.exchange.journal.board asked.journal.board
  pub tries : TriesAct around.sends (admitted_by was.admission.speakers) text line act answer
      (at_desk told around.traffic was) asked (at_desk told around.traffic is) done
  pub says : AnswersLine around.answers done.around answer was is
  pub kept : around.traffic is.exchange.around ≡ around.traffic done.around
  pub told_so : GoesOn (Happened done.now.clock OfTold nobody answer) done.journal.board is.exchange.journal.board
  pub behind : OnlyTells done is.exchange
  pub rest : is ≡ record was { play = is.play; exchange = is.exchange; lines = is.lines }

-- What a line asks for is done, and answered to who typed it.
abbrev pub DoesRequest : {S T : Type 0} → (T → Option (List ℕ)) → Around S → List ℕ → TelephoneRequest → Desk S T → Desk S T → Type 0
DoesRequest told around text (AsksAct line act) was is = DoesAct told around text line act was is
DoesRequest told around text (Show line) was is = (answer : List ℕ) × AnswersLine around.answers was.exchange.around answer was is
    × Asks text line answer (at_desk told around.traffic was).live (at_desk told around.traffic is).live
    × OnlyReplies (record was { play = is.play }) is
DoesRequest told around text ShowAll was is = OnlyAnswers told around ShowAll was is
DoesRequest told around text (AsksWatch seconds) was is = OnlyAnswers told around (AsksWatch seconds) was is
DoesRequest told around text Counts was is = OnlyAnswers told around Counts was is
DoesRequest told around text Stop was is = OnlyAnswers told around Stop was is
DoesRequest told around text StopFromAfar was is = OnlyAnswers told around StopFromAfar was is
DoesRequest told around text Refused was is = OnlyAnswers told around Refused was is
DoesRequest told around text Unknown was is = OnlyAnswers told around Unknown was is
DoesRequest told around text OutOfMemory was is = OnlyAnswers told around OutOfMemory was is

-- No line is left, and nothing is done. Or what the first one asks for is, and nothing else: no act is done that nobody typed, and nobody
-- is answered another text than that line's.
abbrev pub DoesLine : {S T : Type 0} → (T → Option (List ℕ)) → Around S → Desk S T → Desk S T → Type 0
DoesLine told around was is =
    ((left_of was.lines ≡ []) × (is ≡ was))
    ⊎ ((text : List ℕ) × (request : TelephoneRequest) × IsFirst was.lines text
    × IsRequest was.lines was.admission.are_phones_open text request × DoesRequest told around text request was is)
