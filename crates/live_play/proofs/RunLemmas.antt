-- How entries follow one another.
use Rattle.std.proofs.Common.{◌≡◌, inl, inr, ℕ, ◌+◌, ◌<◌, ◌≤◌, length, take, get_or, Bool, true, false, List, [], ◌∷◌, ◌++◌, map, Option, Some, None, refl, sym, ◌∙◌, ap, subst, append_assoc, append-nil, arith}
use Rattle.std.specs.Prelude.{IfSome, OnOk, Result, Ok, Err}
use Rattle.std.proofs.lemmas.List.{map-append, take_more, length-append, length-take-le}
use Rattle.std.proofs.lemmas.Bool.{le-leb}
use Rattle.std.proofs.lemmas.Grind.{flat_map-append}
use Rattle.std.specs.declared.net.socket_addr.SocketAddrV4.{SocketAddrV4}
use Rattle.mg_bytes.specs.Words.{words}
use Rattle.mg_line.specs.declared.phone.Act.{Act}
use Rattle.live_io.specs.Sending.{Sent, Grows}
use Rattle.live_io.proofs.TrafficLemmas.{grows_nothing, grows_on, known}
use Rattle.transmission.specs.declared.output.OutDatagram.{OutDatagram}
use Rattle.plain_machine.specs.declared.setup.Setup.{Setup}
use Rattle.gateway_core.specs.declared.sent.SentMessage.{SentMessage}
use Rattle.machine_rules.specs.declared.refusal.Refusal.{Refusal}
use Rattle.machine_rules.specs.declared.refusal.Refusal.TheVariants.{OutOfMemory, NoSuchLine}
use Rattle.plain_machine.specs.Event.{GatewayEvent, phone}
use Rattle.plain_machine.specs.Lists.{plain, outputs_from}
use Rattle.plain_machine.specs.Machine.{Machine}
use Rattle.plain_machine.specs.Refusing.{Ends, ends, refusal_of, takes_none}
use Rattle.plain_machine.proofs.EndLaws.{ends_fine, ends_cause}
use Rattle.gateway_core.specs.GatewayState.{GatewayState}
use Rattle.gateway_core.specs.Outgoing.{own_messages, other_messages}
use Rattle.gateway_core.specs.Stands.{Stands, Took}
use Rattle.gateway_core.proofs.StandLemmas.{took_none}
use Rattle.rgw_scripts.specs.declared.step.ScriptLine.TheVariants.{Whole}
use Rattle.rgw_scripts.specs.declared.step.ScriptStep.TheVariants.{Phone, Show}
use Rattle.rgw_scripts.specs.Moves.{Move, Shown, Went, give, ask, sends, refuses, event_went, move_went, line_shown, printed, told as answer_of}
use Rattle.rgw_scripts.specs.Script.{line_in}
use Rattle.rgw_scripts.specs.Status.{LineStatus, status_of}
use Rattle.traces.specs.declared.script.Script.{Script}
use Rattle.traces.specs.declared.telling.Mark.{Mark}
use Rattle.rgw_scripts.specs.Printing.{printed_line, refusal_line, shown_line}
use Rattle.traces.specs.Replaying.{move_in}
use Rattle.traces.specs.Telling.{told, told_mark, told_text}
use Rattle.traces.specs.Writing.{Entry, Input, arrived, typed, passed, clock_text, at_clock, showed, became, Says, IsPlay, taken_after, sent_at, sent_in, input_text, after_input, datagrams_in, entry_text, after_entry, written, script_after}
use Rattle.live_play.specs.Running.{Live, sent_of, Ran, AreOf, RanOf, AreInPlace, AreMarks, HandsOut, IsNoted, AreNoted, messages_behind, HandsEach, HandsBy, HandsFrom, Takes, TakesBy, Refuses, Asked, IsAnswer, TellsRefusal}
use Rattle.live_play.specs.Readable.{first_unread, KeepsClock, IsByTick, AreByTicks, IsLater, AreLater}
use Rattle.traces.proofs.ShowLemmas.{both_not}

-- ---- what is told

pub ends_all : {A : Type 0} (a b : Option (List A)) (xs : List A) → b ≡ None → Grows a xs b
ends_all None b xs none = none
ends_all (Some x) b xs none = subst (λ o. Grows (Some x) xs o) (sym none) tt

pub if_none : {A : Type 0} (o : Option A) (P : A → Type 0) → o ≡ None → IfSome o P
if_none None P none = tt
if_none (Some x) P none = absurd cc

pub if_so : {A : Type 0} (o : Option A) (P : Type 0) → P → IfSome o (λ x. P)
if_so None P so = tt
if_so (Some x) P so = so

-- what was told, as it is said
pub told_so : (a b : Option (List ℕ)) (xs ys : List ℕ) → xs ≡ ys → Grows a xs b → Grows a ys b
told_so a b xs ys same grows = subst (λ (l : List ℕ). Grows a l b) same grows

-- what follows what was told, by a script that is known where there is a trace
then_told : (a b c : Option (List ℕ)) (xs : List ℕ) (s t : Script) (entries : List Entry) → Grows a xs b → IfSome b (λ text. t ≡ s) → Grows b (written t entries) c
    → Grows a (xs ++ written s entries) c
then_told a None c xs s t entries g is h = ends_all a c (xs ++ written s entries) h
then_told a (Some y) c xs s t entries g is h = grows_on a (Some y) c xs (written s entries) g (subst (λ (u : Script). Grows (Some y) (written u entries) c) is h)

if_told : (b c : Option (List ℕ)) (xs : List ℕ) (s t u : Script) → Grows b xs c → IfSome b (λ text. t ≡ s) → u ≡ t → IfSome c (λ text. u ≡ s)
if_told None c xs s t u g is same = subst (λ (o : Option (List ℕ)). IfSome o (λ text. u ≡ s)) (sym g) tt
if_told (Some y) None xs s t u g is same = tt
if_told (Some y) (Some z) xs s t u g is same = same ∙ is

-- ---- marks

marks_send_nothing : (after last : ℕ) (marks : List Entry) → AreMarks after last marks → sent_in marks ≡ []
marks_send_nothing after last [] are = refl
marks_send_nothing after last (showed input move shown ∷ marks) are = absurd are
marks_send_nothing after last (became mark place ∷ marks) are = marks_send_nothing place last marks are.2

marks_take_nothing : (setup : Setup) (before : List GatewayEvent) (after last : ℕ) (marks : List Entry) → AreMarks after last marks
    → taken_after setup before marks ≡ before
marks_take_nothing setup before after last [] are = refl
marks_take_nothing setup before after last (showed input move shown ∷ marks) are = absurd are
marks_take_nothing setup before after last (became mark place ∷ marks) are = marks_take_nothing setup before place last marks are.2

marks_are_play : (setup : Setup) (before : List GatewayEvent) (after last : ℕ) (marks : List Entry) → AreMarks after last marks → IsPlay setup before marks
marks_are_play setup before after last [] are = tt
marks_are_play setup before after last (showed input move shown ∷ marks) are = absurd are
marks_are_play setup before after last (became mark place ∷ marks) are = marks_are_play setup before place last marks are.2

marks_in_place : (after last : ℕ) (marks : List Entry) → AreMarks after last marks → AreInPlace after last marks
marks_in_place after last [] are = tt
marks_in_place after last (showed input move shown ∷ marks) are = absurd are
marks_in_place after last (became mark place ∷ marks) are = (are.0, are.1, marks_in_place place last marks are.2)

marks_by_ticks : (after last : ℕ) (marks : List Entry) → AreMarks after last marks → AreByTicks marks
marks_by_ticks after last [] are = tt
marks_by_ticks after last (showed input move shown ∷ marks) are = absurd are
marks_by_ticks after last (became mark place ∷ marks) are = marks_by_ticks place last marks are.2

marks_pass_no_time : (script : Script) (after last : ℕ) (marks : List Entry) → AreMarks after last marks → script_after script marks ≡ script
unfolding script_after
marks_pass_no_time script after last [] are = refl
marks_pass_no_time script after last (showed input move shown ∷ marks) are = absurd are
marks_pass_no_time script after last (became mark place ∷ marks) are = marks_pass_no_time script place last marks are.2

written_marks : (script : Script) (after last : ℕ) (marks more : List Entry) → AreMarks after last marks
    → written script (marks ++ more) ≡ written script marks ++ written script more
unfolding written
written_marks script after last [] more are = refl
written_marks script after last (showed input move shown ∷ marks) more are = absurd are
written_marks script after last (became mark place ∷ marks) more are =
    ap (λ (l : List ℕ). told_mark mark place ++ l) (written_marks script place last marks more are.2)
    ∙ sym (append_assoc (told_mark mark place) (written script marks) (written script more))

marks_behind : (after before last : ℕ) (marks : List Entry) → after ≤ before → AreMarks before last marks → AreMarks after last marks
marks_behind after before last [] low are = tt
marks_behind after before last (showed input move shown ∷ marks) low are = absurd are
marks_behind after before last (became mark place ∷ marks) low are =
    let behind : before < place = are.0 in
    (omega (arith, low, behind), are.1, are.2)

more_marks : (after mid last : ℕ) (marks more : List Entry) → after ≤ mid → mid ≤ last → AreMarks after mid marks → AreMarks mid last more
    → AreMarks after last (marks ++ more)
more_marks after mid last [] more low high are they = marks_behind after mid last more low they
more_marks after mid last (showed input move shown ∷ marks) more low high are they = absurd are
more_marks after mid last (became mark place ∷ marks) more low high are they =
    let within : place ≤ mid = are.1.0 in
    (are.0, (omega (arith, within, high), are.1.1), more_marks place mid last marks more within high are.2 they)

-- ---- datagrams that are handed out

pub hands_nothing : (was : Live) (before : ℕ) → HandsOut was before [] [] was
unfolding written
hands_nothing was before = record {
  are = tt;
  gateway = refl;
  handed = grows_nothing was.handed;
  told = grows_nothing was.told;
  script = refl;
}

pub hands_on : (was mid is : Live) (before : ℕ) (some more : List OutDatagram) (marks others : List Entry) → HandsOut was before some marks mid
    → HandsOut mid (before + length some) more others is → HandsOut was before (some ++ more) (marks ++ others) is
hands_on was mid is before some more marks others a b = record {
  are = subst (λ (n : ℕ). AreMarks before n (marks ++ others)) all
      (more_marks before (before + length some) (before + length some + length more) marks others (omega arith) (omega arith) a.are b.are);
  gateway = b.gateway ∙ a.gateway;
  handed = rw (map-append sent_of some more) (grows_on was.handed mid.handed is.handed (map sent_of some) (map sent_of more) a.handed b.handed);
  told = rw (written_marks was.script before (before + length some) marks others a.are)
      (grows_on was.told mid.told is.told (written was.script marks) (written was.script others) a.told
      (subst (λ (s : Script). Grows mid.told (written s others) is.told) a.script b.told));
  script = b.script ∙ a.script;
} where
  all : before + length some + length more ≡ before + length (some ++ more)
  all = rw (length-append some more) (omega arith)

-- ---- what an outlet is handed, and says

behind_one_more : (some : List OutDatagram) (d : OutDatagram) (messages : List SentMessage)
    → messages_behind (some ++ d ∷ []) messages ≡ other_messages d (messages_behind some messages)
behind_one_more [] d messages = refl
behind_one_more (first ∷ some) d messages = behind_one_more some d (other_messages first messages)

-- those that are left in a loop over datagrams
pub left_behind : (datagrams : List OutDatagram) (messages left others : List SentMessage) (place : ℕ) (d : OutDatagram) → place < length datagrams
    → left ≡ messages_behind (take place datagrams) messages → others ≡ other_messages (get_or datagrams place d) left
    → others ≡ messages_behind (take (place + 1) datagrams) messages
left_behind datagrams messages left others place d inside rest cut =
    cut ∙ ap (λ (l : List SentMessage). other_messages (get_or datagrams place d) l) rest
    ∙ sym (behind_one_more (take place datagrams) (get_or datagrams place d) messages)
    ∙ sym (ap (λ (l : List OutDatagram). messages_behind l messages) (take_more datagrams place d inside))

-- it says something of each
said_of_each : {O : Type 0} (hands : O → SocketAddrV4 → List ℕ → List SentMessage → Option Mark → O → Type 0) (from to : O) (datagrams : List OutDatagram)
    (messages : List SentMessage) (said : List (Option Mark)) → HandsEach hands datagrams messages from said to → length said ≡ length datagrams
said_of_each hands from to [] messages [] each = refl
said_of_each hands from to [] messages (mark ∷ said) each = absurd each
said_of_each hands from to (d ∷ more) messages [] each = absurd each
said_of_each hands from to (d ∷ more) messages (mark ∷ said) each =
    let rest : length said ≡ length more = said_of_each hands each.0 to more (other_messages d messages) said each.2 in
    omega (arith, rest)

each_more : {O : Type 0} (hands : O → SocketAddrV4 → List ℕ → List SentMessage → Option Mark → O → Type 0) (from via to : O) (some more : List OutDatagram)
    (messages : List SentMessage) (said others : List (Option Mark)) → HandsEach hands some messages from said via
    → HandsEach hands more (messages_behind some messages) via others to → HandsEach hands (some ++ more) messages from (said ++ others) to
each_more {O} hands from via to [] more messages [] others a b = subst (λ (o : O). HandsEach hands more messages o others to) a b
each_more hands from via to [] more messages (mark ∷ said) others a b = absurd a
each_more hands from via to (d ∷ some) more messages [] others a b = absurd a
each_more hands from via to (d ∷ some) more messages (mark ∷ said) others a b =
    (a.0, a.1, each_more hands a.0 via to some more (other_messages d messages) said others a.2 b)

noted_more : (before after : ℕ) (said others : List (Option Mark)) (marks more : List Entry) → after ≡ before + length said
    → AreNoted before said marks → AreNoted after others more → AreNoted before (said ++ others) (marks ++ more)
noted_more before after [] others marks more same a b =
    let here : after ≡ before = omega (arith, same) in
    subst (λ (n : ℕ). AreNoted n others (marks ++ more)) here
    (subst (λ (l : List Entry). AreNoted after others l) (sym (ap (λ (l : List Entry). l ++ more) a)) b)
noted_more before after (mark ∷ said) others marks more same a b =
    let next : after ≡ before + 1 + length said = omega (arith, same) in (
      a.0,
      a.1 ++ more,
      a.2,
      ap (λ (l : List Entry). l ++ more) a.3 ∙ append_assoc a.0 a.1 more,
      noted_more (before + 1) after said others a.1 more next a.4 b,
    )

each_one : {O : Type 0} (hands : O → SocketAddrV4 → List ℕ → List SentMessage → Option Mark → O → Type 0) (from to : O) (d : OutDatagram)
    (messages own : List SentMessage) (mark : Option Mark) → own ≡ own_messages d messages → hands from d.to d.bytes own mark to
    → HandsEach hands (d ∷ []) messages from (mark ∷ []) to
each_one hands from to d messages own mark same handed = (to, subst (λ (l : List SentMessage). hands from d.to d.bytes l mark to) same handed, refl)

noted_one : (before place : ℕ) (mark : Option Mark) (noted : List Entry) → place ≡ before + 1 → IsNoted mark place noted → AreNoted before (mark ∷ []) noted
noted_one before place mark noted here is = (noted, [], subst (λ (n : ℕ). IsNoted mark n noted) here is, sym (append-nil noted), refl)

pub one_more : {O : Type 0} (hands : O → SocketAddrV4 → List ℕ → List SentMessage → Option Mark → O → Type 0) (was mid is : Live) (from via to : O)
    (datagrams : List OutDatagram) (messages left : List SentMessage) (place : ℕ) (d : OutDatagram) → place < length datagrams
    → left ≡ messages_behind (take place datagrams) messages → HandsBy hands was from 0 (take place datagrams) messages mid via
    → HandsBy hands mid via place (get_or datagrams place d ∷ []) left is to → HandsBy hands was from 0 (take (place + 1) datagrams) messages is to
one_more hands was mid is from via to datagrams messages left place d inside rest a b =
    let so_far : length (take place datagrams) ≡ place = length-take-le place datagrams (omega arith) in
    let here : place ≡ 0 + length (take place datagrams) = rw so_far (omega arith) in
    let behind : HandsOut mid (0 + length (take place datagrams)) (get_or datagrams place d ∷ []) b.marks is =
    subst (λ (n : ℕ). HandsOut mid n (get_or datagrams place d ∷ []) b.marks is) here b.out in
    let all : length a.said ≡ length (take place datagrams) = said_of_each hands from via (take place datagrams) messages a.said a.each in
    let after : place ≡ 0 + length a.said = rw all here in
    subst (λ (l : List OutDatagram). HandsBy hands was from 0 l messages is to) (sym (take_more datagrams place d inside)) (record {
      said = a.said ++ b.said;
      marks = a.marks ++ b.marks;
      noted = noted_more 0 place a.said b.said a.marks b.marks after a.noted b.noted;
      out = hands_on was mid is 0 (take place datagrams) (get_or datagrams place d ∷ []) a.marks b.marks a.out behind;
      each = each_more hands from via to (take place datagrams) (get_or datagrams place d ∷ []) messages a.said b.said a.each
          (subst (λ (l : List SentMessage). HandsEach hands (get_or datagrams place d ∷ []) l via b.said to) rest b.each);
    })

pub hands_one : (was is : Live) (before : ℕ) (datagram : OutDatagram) → is.gateway ≡ was.gateway → Grows was.handed (sent_of datagram ∷ []) is.handed → is.told ≡ was.told
    → is.script ≡ was.script → HandsOut was before (datagram ∷ []) [] is
unfolding written
hands_one was is before datagram gateway handed told script = record {
  are = tt;
  gateway = gateway;
  handed = handed;
  told = subst (λ (o : Option (List ℕ)). Grows was.told [] o) (sym told) (grows_nothing was.told);
  script = script;
}

pub hands_marked : (was is : Live) (before : ℕ) (datagram : OutDatagram) (mark : Mark) (place : ℕ) → place ≡ before + 1
    → place < first_unread → is.gateway ≡ was.gateway → Grows was.handed (sent_of datagram ∷ []) is.handed → Grows was.told (told_mark mark place) is.told → is.script ≡ was.script
    → HandsOut was before (datagram ∷ []) (became mark place ∷ []) is
unfolding written
hands_marked was is before datagram mark place here few gateway handed told script = record {
  are = (below, (within, few), tt);
  gateway = gateway;
  handed = handed;
  told = rw (append-nil (told_mark mark place)) told;
  script = script;
} where
  below : before < place
  below = omega arith

  within : place ≤ before + 1
  within = omega arith

-- so it is in a loop over datagrams
pub none_handed : {O : Type 0} (hands : O → SocketAddrV4 → List ℕ → List SentMessage → Option Mark → O → Type 0) (was : Live) (from : O)
    (messages : List SentMessage) → HandsBy hands was from 0 [] messages was from
none_handed hands was from messages = record { said = []; marks = []; noted = refl; out = hands_nothing was 0; each = refl }

pub one_handed : {O : Type 0} (hands : O → SocketAddrV4 → List ℕ → List SentMessage → Option Mark → O → Type 0) (was is : Live) (from to : O)
    (datagram : OutDatagram) (messages own : List SentMessage) (mark : Option Mark) (before place : ℕ) → place ≡ before + 1
    → own ≡ own_messages datagram messages → hands from datagram.to datagram.bytes own mark to → IsNoted mark place []
    → is.gateway ≡ was.gateway → Grows was.handed (sent_of datagram ∷ []) is.handed → is.told ≡ was.told → is.script ≡ was.script
    → HandsBy hands was from before (datagram ∷ []) messages is to
one_handed hands was is from to datagram messages own mark before place here same given noted gateway handed told script = record {
  said = mark ∷ [];
  marks = [];
  noted = noted_one before place mark [] here noted;
  out = hands_one was is before datagram gateway handed told script;
  each = each_one hands from to datagram messages own mark same given;
}

pub one_marked : {O : Type 0} (hands : O → SocketAddrV4 → List ℕ → List SentMessage → Option Mark → O → Type 0) (was is : Live) (from to : O)
    (datagram : OutDatagram) (messages own : List SentMessage) (mark : Mark) (before place : ℕ) → place ≡ before + 1
    → own ≡ own_messages datagram messages → place < first_unread → hands from datagram.to datagram.bytes own (Some mark) to → is.gateway ≡ was.gateway
    → Grows was.handed (sent_of datagram ∷ []) is.handed → Grows was.told (told_mark mark place) is.told → is.script ≡ was.script
    → HandsBy hands was from before (datagram ∷ []) messages is to
one_marked hands was is from to datagram messages own mark before place here same few given gateway handed told script = record {
  said = Some mark ∷ [];
  marks = became mark place ∷ [];
  noted = noted_one before place (Some mark) (became mark place ∷ []) here (inl (few, refl));
  out = hands_marked was is before datagram mark place here few gateway handed told script;
  each = each_one hands from to datagram messages own (Some mark) same given;
}

all_marked : (was is : Live) (datagrams : List OutDatagram) (marks : List Entry) → HandsOut was 0 datagrams marks is → AreMarks 0 (length datagrams) marks
all_marked was is datagrams marks hands = subst (λ (n : ℕ). AreMarks 0 n marks) all hands.are where
  all : 0 + length datagrams ≡ length datagrams
  all = omega arith

-- ---- entries

pub ran_nothing : (was is : Live) → Took was.gateway [] is.gateway [] [] → is.handed ≡ was.handed → is.told ≡ was.told → is.script ≡ was.script → Ran was [] is
unfolding written script_after
ran_nothing was is took handed told script = record {
  setup = took.setup;
  stands = λ before s. rw (append-nil before) at (took.stands before s);
  play = λ before s. tt;
  handed = subst (λ (o : Option (List Sent)). Grows was.handed [] o) (sym handed) (grows_nothing was.handed);
  told = subst (λ (o : Option (List ℕ)). Grows was.told [] o) (sym told) (grows_nothing was.told);
  script = if_some is.told script;
  marks = tt;
  ticks = tt;
} where
  if_some : (o : Option (List ℕ)) → is.script ≡ was.script → IfSome o (λ text. is.script ≡ was.script)
  if_some None same = tt
  if_some (Some text) same = same

event_taken : (setup : Setup) (before : List GatewayEvent) (event : GatewayEvent) → Ends (plain setup before) event None
    → move_went setup before (give event) ≡ record { shown = sends (outputs_from setup (plain setup before) (event ∷ [])) ∷ []; taken = before ++ event ∷ [] }
unfolding move_went
event_taken setup before event ends = ap (λ (r : Option Refusal). event_went setup before event r) (ends_fine (plain setup before) event ends)

event_refused : (setup : Setup) (before : List GatewayEvent) (event : GatewayEvent) (refusal : Refusal) → (refusal ≡ OutOfMemory → ⊥)
    → Ends (plain setup before) event (Some refusal) → move_went setup before (give event) ≡ record { shown = refuses refusal ∷ []; taken = before }
unfolding move_went
event_refused setup before event refusal other ends = ap (λ (r : Option Refusal). event_went setup before event r) (ends_cause (plain setup before) event refusal other ends)

-- an event was taken, its entry told, and its datagrams handed out
pub ran_sent : (was mid is : Live) (input : Input) (event : GatewayEvent) (outputs : List OutDatagram) (marks : List Entry) → Says input (give event)
    → IsByTick input (give event) (sends outputs) → Took was.gateway (event ∷ []) mid.gateway [] outputs
    → ((before : List GatewayEvent) → Stands was.gateway before → Ends (plain was.gateway.setup before) event None)
    → mid.handed ≡ was.handed → Grows was.told (input_text was.script input (sends outputs)) mid.told
    → IfSome mid.told (λ text. mid.script ≡ after_input was.script input (sends outputs))
    → HandsOut mid 0 outputs marks is → Ran was (showed input (give event) (sends outputs) ∷ marks) is
unfolding written script_after
ran_sent was mid is input event outputs marks says ticks took ends kept told script hands = record {
  setup = ap (λ (g : GatewayState). g.setup) hands.gateway ∙ took.setup;
  stands = λ before s. subst (λ (g : GatewayState). Stands g (taken_after was.gateway.setup before (showed input (give event) (sends outputs) ∷ marks))) (sym hands.gateway)
      (subst (Stands mid.gateway) (sym (taken_here before s)) (took.stands before s));
  play = λ before s. (says, shown_here before s, marks_are_play was.gateway.setup (move_went was.gateway.setup before (give event)).taken 0 (0 + length outputs) marks hands.are);
  handed = rw (all_sent) (subst (λ (o : Option (List Sent)). Grows o (map sent_of outputs) is.handed) kept hands.handed);
  told = then_told was.told mid.told is.told (input_text was.script input (sends outputs)) (after_input was.script input (sends outputs)) mid.script marks told script hands.told;
  script = rw (marks_pass_no_time (after_input was.script input (sends outputs)) 0 (0 + length outputs) marks hands.are)
      (if_told mid.told is.told (written mid.script marks) (after_input was.script input (sends outputs)) mid.script is.script hands.told script hands.script);
  marks = marks_in_place 0 (length outputs) marks (all_marked mid is outputs marks hands);
  ticks = (ticks, marks_by_ticks 0 (length outputs) marks (all_marked mid is outputs marks hands));
} where
  all_sent : sent_in (showed input (give event) (sends outputs) ∷ marks) ≡ outputs
  all_sent = ap (λ (l : List OutDatagram). outputs ++ l) (marks_send_nothing 0 (0 + length outputs) marks hands.are) ∙ append-nil outputs

  taken_here : (before : List GatewayEvent) → Stands was.gateway before
      → taken_after was.gateway.setup before (showed input (give event) (sends outputs) ∷ marks) ≡ before ++ event ∷ []
  taken_here before s = marks_take_nothing was.gateway.setup (move_went was.gateway.setup before (give event)).taken 0 (0 + length outputs) marks hands.are
      ∙ ap (λ (w : Went). w.taken) (event_taken was.gateway.setup before event (ends before s))

  shown_here : (before : List GatewayEvent) → Stands was.gateway before → (move_went was.gateway.setup before (give event)).shown ≡ sends outputs ∷ []
  shown_here before s = ap (λ (w : Went). w.shown) (event_taken was.gateway.setup before event (ends before s))
      ∙ ap (λ (l : List OutDatagram). sends l ∷ []) (sym (took.sent before s))

-- nothing was sent: a line was answered
pub ran_answered : (was is : Live) (input : Input) (move : Move) (shown : Shown) → Says input move
    → IsByTick input move shown → is.gateway.setup ≡ was.gateway.setup
    → ((before : List GatewayEvent) → Stands was.gateway before → Stands is.gateway before)
    → ((before : List GatewayEvent) → Stands was.gateway before → move_went was.gateway.setup before move ≡ record { shown = shown ∷ []; taken = before })
    → sent_at (showed input move shown) ≡ [] → is.handed ≡ was.handed
    → Grows was.told (input_text was.script input shown) is.told
    → IfSome is.told (λ text. is.script ≡ after_input was.script input shown) → Ran was (showed input move shown ∷ []) is
unfolding written script_after
ran_answered was is input move shown says ticks setup stands went none handed told script = record {
  setup = setup;
  stands = λ before s. subst (Stands is.gateway) (sym (ap (λ (w : Went). w.taken) (went before s))) (stands before s);
  play = λ before s. (says, ap (λ (w : Went). w.shown) (went before s), tt);
  handed = rw (none) (subst (λ (o : Option (List Sent)). Grows was.handed [] o) (sym handed) (grows_nothing was.handed));
  told = rw (append-nil (input_text was.script input shown)) told;
  script = script;
  marks = tt;
  ticks = (ticks, tt);
}

-- ---- runs one after the other

written_more : (script : Script) (a b : List Entry) → written script (a ++ b) ≡ written script a ++ written (script_after script a) b
unfolding written script_after
written_more script [] b = refl
written_more script (entry ∷ a) b =
    ap (λ (l : List ℕ). entry_text script entry ++ l) (written_more (after_entry script entry) a b)
    ∙ sym (append_assoc (entry_text script entry) (written (after_entry script entry) a) (written (script_after (after_entry script entry) a) b))

script_more : (script : Script) (a b : List Entry) → script_after script (a ++ b) ≡ script_after (script_after script a) b
unfolding script_after
script_more script [] b = refl
script_more script (entry ∷ a) b = script_more (after_entry script entry) a b

taken_more : (setup : Setup) (before : List GatewayEvent) (a b : List Entry) → taken_after setup before (a ++ b) ≡ taken_after setup (taken_after setup before a) b
taken_more setup before [] b = refl
taken_more setup before (showed input move shown ∷ a) b = taken_more setup (move_went setup before move).taken a b
taken_more setup before (became mark place ∷ a) b = taken_more setup before a b

play_more : (setup : Setup) (before : List GatewayEvent) (a b : List Entry) → IsPlay setup before a → IsPlay setup (taken_after setup before a) b → IsPlay setup before (a ++ b)
play_more setup before [] b p q = q
play_more setup before (showed input move shown ∷ a) b p q = (p.0, p.1, play_more setup (move_went setup before move).taken a b p.2 q)
play_more setup before (became mark place ∷ a) b p q = play_more setup before a b p q

in_place_anew : (after last : ℕ) (entries : List Entry) → AreInPlace 0 0 entries → AreInPlace after last entries
in_place_anew after last [] are = tt
in_place_anew after last (showed input move shown ∷ entries) are = are
in_place_anew after last (became mark place ∷ entries) are =
    let low : 0 < place = are.0 in
    let high : place ≤ 0 = are.1.0 in
    absurd (omega (arith, low, high))

in_place_more : (after last : ℕ) (a b : List Entry) → AreInPlace after last a → AreInPlace 0 0 b → AreInPlace after last (a ++ b)
in_place_more after last [] b p q = in_place_anew after last b q
in_place_more after last (showed input move shown ∷ a) b p q = in_place_more 0 (length (datagrams_in shown)) a b p q
in_place_more after last (became mark place ∷ a) b p q = (p.0, p.1, in_place_more place last a b p.2 q)

by_ticks_more : (a b : List Entry) → AreByTicks a → AreByTicks b → AreByTicks (a ++ b)
by_ticks_more [] b p q = q
by_ticks_more (showed input move shown ∷ a) b p q = (p.0, by_ticks_more a b p.1 q)
by_ticks_more (became mark place ∷ a) b p q = by_ticks_more a b p q

pub ran_on : (was mid is : Live) (a b : List Entry) → Ran was a mid → Ran mid b is → Ran was (a ++ b) is
ran_on was mid is a b p q = record {
  setup = q.setup ∙ p.setup;
  stands = λ before s. rw (taken_more was.gateway.setup before a b)
      (subst (λ (x : Setup). Stands is.gateway (taken_after x (taken_after was.gateway.setup before a) b)) p.setup (q.stands (taken_after was.gateway.setup before a) (p.stands before s)));
  play = λ before s. play_more was.gateway.setup before a b (p.play before s)
      (subst (λ (x : Setup). IsPlay x (taken_after was.gateway.setup before a) b) p.setup (q.play (taken_after was.gateway.setup before a) (p.stands before s)));
  handed = rw (flat_map-append sent_at a b, map-append sent_of (sent_in a) (sent_in b))
      (grows_on was.handed mid.handed is.handed (map sent_of (sent_in a)) (map sent_of (sent_in b)) p.handed q.handed);
  told = rw (written_more was.script a b) (then_told was.told mid.told is.told (written was.script a) (script_after was.script a) mid.script b p.told p.script q.told);
  script = rw (script_more was.script a b) (by_told mid.told is.told p.script q.script q.told);
  marks = in_place_more 0 0 a b p.marks q.marks;
  ticks = by_ticks_more a b p.ticks q.ticks;
} where
  by_told : (m o : Option (List ℕ)) → IfSome m (λ text. mid.script ≡ script_after was.script a) → IfSome o (λ text. is.script ≡ script_after mid.script b)
      → Grows m (written mid.script b) o → IfSome o (λ text. is.script ≡ script_after (script_after was.script a) b)
  by_told None o known last grows = subst (λ (x : Option (List ℕ)). IfSome x (λ text. is.script ≡ script_after (script_after was.script a) b)) (sym grows) tt
  by_told (Some text) None known last grows = tt
  by_told (Some text) (Some more) known last grows = subst (λ (x : Script). is.script ≡ script_after x b) known last

-- ---- what is told of a run

pub handed_known : (was is : Live) (entries : List Entry) (were are : List Sent) → Ran was entries is → was.handed ≡ Some were → is.handed ≡ Some are
    → are ≡ were ++ map sent_of (sent_in entries)
handed_known was is entries were are r a b = known was.handed is.handed (map sent_of (sent_in entries)) were are r.handed a b

pub told_known : (was is : Live) (entries : List Entry) (were are : List ℕ) → Ran was entries is → was.told ≡ Some were → is.told ≡ Some are
    → are ≡ were ++ written was.script entries
told_known was is entries were are r a b = known was.told is.told (written was.script entries) were are r.told a b

pub script_known : (was is : Live) (entries : List Entry) (text : List ℕ) → Ran was entries is → is.told ≡ Some text → is.script ≡ script_after was.script entries
script_known was is entries text r told = from (rw told at r.script) where
  from : IfSome (Some text) (λ (t : List ℕ). is.script ≡ script_after was.script entries) → is.script ≡ script_after was.script entries
  from same = same

-- ---- what came in

pub marks_are_of : (says : Input → Type 0) (after last : ℕ) (marks : List Entry) → AreMarks after last marks → AreOf says marks
marks_are_of says after last [] are = tt
marks_are_of says after last (showed input move shown ∷ marks) are = absurd are
marks_are_of says after last (became mark place ∷ marks) are = marks_are_of says place last marks are.2

pub are_of_more : (says : Input → Type 0) (a b : List Entry) → AreOf says a → AreOf says b → AreOf says (a ++ b)
are_of_more says [] b p q = q
are_of_more says (showed input move shown ∷ a) b p q = (p.0, are_of_more says a b p.1 q)
are_of_more says (became mark place ∷ a) b p q = are_of_more says a b p q

pub are_so : (says other : Input → Type 0) → ((input : Input) → says input → other input) → (entries : List Entry) → AreOf says entries → AreOf other entries
are_so says other so [] are = tt
are_so says other so (showed input move shown ∷ entries) are = (so input are.0, are_so says other so entries are.1)
are_so says other so (became mark place ∷ entries) are = are_so says other so entries are

-- ---- ticks that go on

pub marks_are_later : (setup : Setup) (before : List GatewayEvent) (after last : ℕ) (marks : List Entry) → AreMarks after last marks → AreLater setup before marks
marks_are_later setup before after last [] are = tt
marks_are_later setup before after last (showed input move shown ∷ marks) are = absurd are
marks_are_later setup before after last (became mark place ∷ marks) are = marks_are_later setup before place last marks are.2

pub later_more : (setup : Setup) (before : List GatewayEvent) (a b : List Entry) → AreLater setup before a → AreLater setup (taken_after setup before a) b
    → AreLater setup before (a ++ b)
later_more setup before [] b p q = q
later_more setup before (showed input move shown ∷ a) b p q = (p.0, later_more setup (move_went setup before move).taken a b p.1 q)
later_more setup before (became mark place ∷ a) b p q = later_more setup before a b p q

-- no tick is so
abbrev pub IsStill : (Input → Type 0) → Type 0
IsStill says = (moment : ℕ) → says (passed moment) → ⊥

later_input : (says : Input → Type 0) → IsStill says → (now : ℕ) (input : Input) → says input → IsLater now input
later_input says still now (arrived source bytes) so = tt
later_input says still now (typed line) so = tt
later_input says still now (passed moment) so = absurd (still moment so)

pub later_of : (says : Input → Type 0) → IsStill says → (entries : List Entry) → AreOf says entries → (setup : Setup) (before : List GatewayEvent)
    → AreLater setup before entries
later_of says still [] are setup before = tt
later_of says still (showed input move shown ∷ entries) are setup before =
    (later_input says still (plain setup before).now input are.0, later_of says still entries are.1 setup (move_went setup before move).taken)
later_of says still (became mark place ∷ entries) are setup before = later_of says still entries are setup before

-- ---- one event or question

pub goes_on_quietly : (says : Input → Type 0) (was is : Live) → Took was.gateway [] is.gateway [] [] → is.handed ≡ was.handed → is.told ≡ was.told
    → is.script ≡ was.script → RanOf says was is
goes_on_quietly says was is took handed told script = record { entries = []; ran = ran_nothing was is took handed told script; inputs = tt }

pub takes_so : {O : Type 0} (turns : O → GatewayState → O → Type 0) (hands : O → SocketAddrV4 → List ℕ → List SentMessage → Option Mark → O → Type 0)
    (was mid is : Live) (from to : O)
    (stepped : GatewayState) (input : Input) (event : GatewayEvent) (outputs sent : List OutDatagram) → Says input (give event)
    → IsByTick input (give event) (sends sent) → Took was.gateway (event ∷ []) stepped [] outputs → mid.gateway ≡ stepped → sent ≡ outputs
    → ((before : List GatewayEvent) → Stands was.gateway before → Ends (plain was.gateway.setup before) event None)
    → mid.handed ≡ was.handed → Grows was.told (input_text was.script input (sends sent)) mid.told
    → IfSome mid.told (λ text. mid.script ≡ after_input was.script input (sends sent))
    → HandsFrom turns hands mid from sent is to → TakesBy turns hands was from input event is to
takes_so turns hands was mid is from to stepped input event outputs sent says ticks took gateway same ends kept told script handed =
    let took_so : Took was.gateway (event ∷ []) mid.gateway [] sent =
    subst (λ (g : GatewayState). Took was.gateway (event ∷ []) g [] sent) (sym gateway)
    (subst (λ (l : List OutDatagram). Took was.gateway (event ∷ []) stepped [] l) (sym same) took) in
    record {
      takes = record {
        outputs = sent;
        marks = handed.by.marks;
        took = subst (λ (g : GatewayState). Took was.gateway (event ∷ []) g [] sent) (sym handed.by.out.gateway) took_so;
        are = all_marked mid is sent handed.by.marks handed.by.out;
        ran = ran_sent was mid is input event sent handed.by.marks says ticks took_so ends kept told script handed.by.out;
      };
      turned = handed.turned;
      told = handed.told;
      said = handed.by.said;
      noted = handed.by.noted;
      each = handed.by.each;
    }

pub goes_on_by : (says : Input → Type 0) (was is : Live) (input : Input) (event : GatewayEvent) → says input → Takes was input event is
    → RanOf says was is
goes_on_by says was is input event so t = record {
  entries = showed input (give event) (sends t.outputs) ∷ t.marks;
  ran = t.ran;
  inputs = (so, marks_are_of says 0 (length t.outputs) t.marks t.are);
}

-- an act that was refused, and not for want of memory
ran_refused : (was is : Live) (line : List ℕ) (event : GatewayEvent) (refusal : Refusal) → Says (typed line) (give event) → KeepsClock (give event)
    → (refusal ≡ OutOfMemory → ⊥) → Took was.gateway [] is.gateway [] []
    → ((before : List GatewayEvent) → Stands was.gateway before → Ends (plain was.gateway.setup before) event (Some refusal))
    → is.handed ≡ was.handed → Grows was.told (clock_text was.script ++ printed_line line ++ told_text (printed_line (refusal_line refusal))) is.told
    → IfSome is.told (λ text. is.script ≡ at_clock was.script) → Ran was (showed (typed line) (give event) (refuses refusal) ∷ []) is
unfolding told
ran_refused was is line event refusal says still other took ends kept told script =
    ran_answered was is (typed line) (give event) (refuses refusal) says still took.setup
    (λ before s. rw (append-nil before) at (took.stands before s))
    (λ before s. event_refused was.gateway.setup before event refusal other (ends before s)) refl kept told script

-- and one of which it isn't said here why, or that it was told
pub refuses_so : (was is : Live) (line : List ℕ) (event : GatewayEvent) (refusal answer : Refusal) (text : List ℕ) → Says (typed line) (give event)
    → KeepsClock (give event) → Took was.gateway [] is.gateway [] []
    → ((before : List GatewayEvent) → Stands was.gateway before → Ends (plain was.gateway.setup before) event (Some refusal))
    → is.handed ≡ was.handed → TellsRefusal line refusal answer text was.told was.script is.told is.script → Refuses was line event answer text is
refuses_so was is line event refusal answer text says still took ends kept (inl quiet) = inl (quiet.0, ran_nothing was is took kept quiet.1 quiet.2)
refuses_so was is line event refusal answer text says still took ends kept (inr r) =
    subst (λ (x : Refusal). Refuses was line event x text is) (sym r.0)
    (inr (r.1, ran_refused was is line event refusal says still r.1 took ends kept r.2 r.3, r.4))

pub goes_on_refused : (says : Input → Type 0) (was is : Live) (line : List ℕ) (event : GatewayEvent) (refusal : Refusal) (text : List ℕ)
    → says (typed line) → Refuses was line event refusal text is → RanOf says was is
goes_on_refused says was is line event refusal text so (inl quiet) = record { entries = []; ran = quiet.1; inputs = tt }
goes_on_refused says was is line event refusal text so (inr r) =
    record { entries = showed (typed line) (give event) (refuses refusal) ∷ []; ran = r.1; inputs = (so, tt) }

-- an act that can be done ends as its event does, also where want of memory is told of it
pub ends_as_told : (m : Machine) (event : GatewayEvent) (line text : List ℕ) (refusal answer : Refusal) (were are : Option (List ℕ)) (was is : Script)
    → refusal_of m event ≡ None → Ends m event (Some refusal) → TellsRefusal line refusal answer text were was are is → Ends m event (Some answer)
ends_as_told m event line text refusal answer were are was is possible ended told =
    wanted (refusal_of m event) (takes_none m event) possible ended (memory told) where
      memory : TellsRefusal line refusal answer text were was are is → refusal ≡ OutOfMemory → answer ≡ OutOfMemory
      memory (inl quiet) wants = quiet.0
      memory (inr said) wants = absurd (said.1 wants)

      wanted : (r : Option Refusal) (free : Bool) → r ≡ None → ends r free (Some refusal) → (refusal ≡ OutOfMemory → answer ≡ OutOfMemory) → ends r free (Some answer)
      wanted (Some cause) free possible ended wants = absurd cc
      wanted None true possible ended wants = absurd cc
      wanted None false possible ended wants = wants ended

-- where want of memory is told of it, nothing else is told
pub told_nothing : (line text : List ℕ) (refusal answer : Refusal) (were are : Option (List ℕ)) (was is : Script)
    → TellsRefusal line refusal answer text were was are is → answer ≡ OutOfMemory → (are ≡ were) × (is ≡ was)
told_nothing line text refusal answer were are was is (inl quiet) memory = (quiet.1, quiet.2)
told_nothing line text refusal answer were are was is (inr said) memory = absurd (said.1 (sym said.0 ∙ memory))

-- ---- lines that say an act or a question

pub says_act : (line : List ℕ) (number : ℕ) (act : Act) → line_in (words line) ≡ Some (Whole (Phone number act)) → Says (typed line) (give (phone number act))
unfolding move_in
says_act line number act says = rw says refl

says_ask : (line : List ℕ) (number : ℕ) → line_in (words line) ≡ Some (Whole (Show number)) → Says (typed line) (ask number)
unfolding move_in
says_ask line number says = rw says refl

pub answers_line : (g : GatewayState) (line : ℕ) (status : LineStatus) (text : List ℕ) → 1 ≤ line → line ≤ g.setup.names.lines
    → ((before : List GatewayEvent) → Stands g before → status_of (plain g.setup before) line ≡ Some status)
    → text ≡ printed_line (shown_line status) → IsAnswer g line text
unfolding printed
answers_line g line status text low high is same = record {
  status = Some status;
  shows = λ before s. rw (le-leb 1 line low, le-leb line g.setup.names.lines high, is before s) refl;
  text = same;
}

pub answers_none : (g : GatewayState) (line : ℕ) (text : List ℕ) → (1 ≤ line → line ≤ g.setup.names.lines → ⊥)
    → text ≡ printed_line (refusal_line NoSuchLine) → IsAnswer g line text
unfolding printed
answers_none g line text none same = record {
  status = None;
  shows = λ before s. rw (both_not line g.setup.names.lines none) refl;
  text = same;
}

-- so it is where it is put behind what was said before, if memory was there
pub shows_line : {A B : Type 0} (g : GatewayState) (line : ℕ) (status : LineStatus) (done : Result A B) (before after : List ℕ) → 1 ≤ line → line ≤ g.setup.names.lines
    → ((events : List GatewayEvent) → Stands g events → status_of (plain g.setup events) line ≡ Some status)
    → OnOk done (after ≡ before ++ printed_line (shown_line status)) → OnOk done ((shown : List ℕ) × IsAnswer g line shown × (after ≡ before ++ shown))
shows_line g line status (Ok done) before after low high is put =
    (printed_line (shown_line status), answers_line g line status (printed_line (shown_line status)) low high is refl, put)
shows_line g line status (Err why) before after low high is put = tt

pub answers_shown : {A B : Type 0} (g : GatewayState) (line : ℕ) (done : Result A B) (before after : List ℕ) → before ≡ []
    → OnOk done ((shown : List ℕ) × IsAnswer g line shown × (after ≡ before ++ shown)) → OnOk done (IsAnswer g line after)
answers_shown g line (Ok done) before after none put =
    subst (λ (l : List ℕ). IsAnswer g line l) (sym (put.2 ∙ ap (λ (l : List ℕ). l ++ put.0) none)) put.1
answers_shown g line (Err why) before after none put = tt

pub answers_refused : {A B : Type 0} (g : GatewayState) (line : ℕ) (done : Result A B) (before after : List ℕ) → before ≡ []
    → (1 ≤ line → line ≤ g.setup.names.lines → ⊥) → OnOk done (after ≡ before ++ printed_line (refusal_line NoSuchLine)) → OnOk done (IsAnswer g line after)
answers_refused g line (Ok done) before after none other put =
    answers_none g line after other (put ∙ ap (λ (l : List ℕ). l ++ printed_line (refusal_line NoSuchLine)) none)
answers_refused g line (Err why) before after none other put = tt

asked_went : (setup : Setup) (before : List GatewayEvent) (number : ℕ) (shown : Shown) → line_shown setup before number ≡ shown
    → move_went setup before (ask number) ≡ record { shown = shown ∷ []; taken = before }
unfolding move_went
asked_went setup before number shown is = ap (λ (s : Shown). let found : Went = record { shown = s ∷ []; taken = before } in found) is

sends_nothing : (input : Input) (move : Move) (status : Option LineStatus) → sent_at (showed input move (answer_of status)) ≡ []
sends_nothing input move None = refl
sends_nothing input move (Some status) = refl

answer_told : (status : Option LineStatus) (text : List ℕ) → text ≡ printed (answer_of status) → told_text text ≡ told (answer_of status)
unfolding printed told
answer_told None text is = ap told_text is
answer_told (Some status) text is = ap told_text is

-- a question
pub answers_so : (was is : Live) (line : List ℕ) (number : ℕ) (text : List ℕ) → line_in (words line) ≡ Some (Whole (Show number)) → IsAnswer was.gateway number text
    → is.gateway ≡ was.gateway → is.handed ≡ was.handed → Grows was.told (clock_text was.script ++ printed_line line ++ told_text text) is.told
    → IfSome is.told (λ t. is.script ≡ at_clock was.script) → Asked was line number text is
answers_so was is line number text says a gateway handed grew script = record {
  answer = a;
  gateway = gateway;
  ran = ran_answered was is (typed line) (ask number) (answer_of a.status) (says_ask line number says) tt (ap (λ (g : GatewayState). g.setup) gateway)
      (λ before s. subst (λ (g : GatewayState). Stands g before) (sym gateway) s)
      (λ before s. asked_went was.gateway.setup before number (answer_of a.status) (a.shows before s))
      (sends_nothing (typed line) (ask number) a.status) handed
      (subst (λ (t : List ℕ). Grows was.told (clock_text was.script ++ printed_line line ++ t) is.told) (answer_told a.status text a.text) grew) script;
}

pub goes_on_answered : (says : Input → Type 0) (was is : Live) (line : List ℕ) (number : ℕ) (text : List ℕ) → says (typed line)
    → Asked was line number text is → RanOf says was is
goes_on_answered says was is line number text so a =
    record { entries = showed (typed line) (ask number) (answer_of a.answer.status) ∷ []; ran = a.ran; inputs = (so, tt) }

-- ---- runs in a loop

same_gateway : (g h : GatewayState) → h ≡ g → Took g [] h [] []
same_gateway g h same = subst (λ (x : GatewayState). Took g [] x [] []) (sym same) (took_none g g [] [] refl refl refl refl (λ m is. is))

pub stays : (says : Input → Type 0) (was : Live) → RanOf says was was
stays says was = goes_on_quietly says was was (same_gateway was.gateway was.gateway refl) refl refl refl

pub ran_stays : (was : Live) → Ran was [] was
ran_stays was = ran_nothing was was (same_gateway was.gateway was.gateway refl) refl refl refl

-- what a trace is told may be broken off where it is written
pub ran_written_off : (was is : Live) → is.gateway ≡ was.gateway → is.script ≡ was.script → is.handed ≡ was.handed → Grows was.told [] is.told → Ran was [] is
unfolding written script_after
ran_written_off was is gateway script handed told = record {
  setup = ap (λ (g : GatewayState). g.setup) gateway;
  stands = λ before s. subst (λ (g : GatewayState). Stands g before) (sym gateway) s;
  play = λ before s. tt;
  handed = subst (λ (o : Option (List Sent)). Grows was.handed [] o) (sym handed) (grows_nothing was.handed);
  told = told;
  script = any_text is.told;
  marks = tt;
  ticks = tt;
} where
  any_text : (o : Option (List ℕ)) → IfSome o (λ text. is.script ≡ was.script)
  any_text None = tt
  any_text (Some text) = script
