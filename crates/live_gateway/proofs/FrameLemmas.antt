-- What of an exchange, and of a desk, stays as it was.
use Rattle.std.proofs.Common.{◌≡◌, ◌⊎◌, inl, inr, ℕ, Bool, List, Option, refl, ◌∙◌, ap, subst}
use Rattle.std.specs.Prelude.{nat_lt, if◌then◌else◌, true, false, Result, Ok, Err}
use Rattle.std.specs.Global.{Box}
use Rattle.message_counts.specs.declared.reporting.Faults.{Faults}
use Rattle.page_state.specs.BoardShowing.{BoardState}
use Rattle.live_io.specs.Around.{Around}
use Rattle.live_io.specs.Sending.{Traffic}
use Rattle.live_io.specs.declared.lines.Lines.{Lines}
use Rattle.live_io.specs.declared.surroundings.Told.{Told}
use Rattle.turns.specs.declared.schedule.Schedule.{Schedule}
use Rattle.turns.specs.declared.turn.Turn.{Turn}
use Rattle.turns.specs.declared.turn.Turn.TheVariants.{End, Look, Wait, Tick, Command, Datagram, Visit, Note}
use Rattle.output_queues.specs.declared.now.Now.{Now}
use Rattle.live_journal.specs.declared.journal.Journal.{Journal}
use Rattle.telephone_control.specs.Paging.{IsSameBeside}
use Rattle.live_gateway.specs.declared.desk.Desk.{Desk}
use Rattle.live_gateway.specs.declared.exchange.Exchange.{Exchange}
use Rattle.live_gateway.specs.declared.spoilt_way.SpoiltWay.{SpoiltWay}
use Rattle.live_gateway.specs.Desk.{at_desk}
use Rattle.live_gateway.specs.Exchanging.{faults_by, with_unreceived}
use Rattle.live_play.specs.Readable.{first_unread}
use Rattle.live_gateway.specs.Leaving.{TakesFromPage, DoesVisit, Leaves}

-- ---- an exchange

-- it is what its parts are
pub made_of : {S : Type 0} (is : Exchange S) (around : S) (network : Option (Box SpoiltWay)) (journal : Journal) (now : Now) (read : ℕ) (faults : Faults)
    (is_offering : Bool) → is.around ≡ around → is.network ≡ network → is.journal ≡ journal → is.now ≡ now → is.read ≡ read → is.faults ≡ faults
    → is.is_offering ≡ is_offering
    → is ≡ record { around = around; network = network; journal = journal; now = now; read = read; faults = faults; is_offering = is_offering }
made_of {S} is around network journal now read faults is_offering a b c d e f g =
    ap (λ (x : S). record is { around = x }) a
    ∙ ap (λ (x : Option (Box SpoiltWay)). record is { around = around; network = x }) b
    ∙ ap (λ (x : Journal). record is { around = around; network = network; journal = x }) c
    ∙ ap (λ (x : Now). record is { around = around; network = network; journal = journal; now = x }) d
    ∙ ap (λ (x : ℕ). record is { around = around; network = network; journal = journal; now = now; read = x }) e
    ∙ ap (λ (x : Faults). record is { around = around; network = network; journal = journal; now = now; read = read; faults = x }) f
    ∙ ap (λ (x : Bool). record (record is { around = around; network = network; journal = journal }) { now = now; read = read; faults = faults; is_offering = x }) g

-- a journal is as it was, but for what the page is shown
board_alone : (was is : Journal) → IsSameBeside was is → is ≡ record was { board = is.board }
board_alone was is same =
    ap (λ x. record is { tally = x }) same.0
    ∙ ap (λ x. record is { tally = was.tally; log = x }) same.1
    ∙ ap (λ x. record is { tally = was.tally; log = was.log; capture = x }) same.2
    ∙ ap (λ x. record is { tally = was.tally; log = was.log; capture = was.capture; written = x }) same.3

pub shown_alone : {P : Type 0} (was is : Journal) → (is ≡ was) ⊎ (IsSameBeside was is × P) → is ≡ record was { board = is.board }
shown_alone was is (inl same) = subst (λ (x : Journal). is ≡ record x { board = is.board }) same refl
shown_alone was is (inr shows) = board_alone was is shows.0

-- a visitor was served, behind what the page was shown
pub served_alone : {S : Type 0} (was is : Exchange S) (shown : Journal) → shown ≡ record was.journal { board = shown.board }
    → is ≡ record was { around = is.around; journal = record shown { board = is.journal.board } }
    → is ≡ record was { around = is.around; journal = record was.journal { board = is.journal.board } }
served_alone {S} was is shown board served =
    served ∙ ap (λ (x : Journal). record was { around = is.around; journal = record x { board = is.journal.board } }) board

-- a datagram of lines was taken, or none was
pub heard_alone : {S : Type 0} (was is : Exchange S) (read : ℕ) → is ≡ record was { around = is.around; read = is.read } → is.read ≡ read
    → is ≡ record was { around = is.around; read = read }
heard_alone {S} was is read rest same = rest ∙ ap (λ (n : ℕ). record was { around = is.around; read = n }) same

-- a turn begins, behind a look at the clock
pub begun_alone : {S : Type 0} (was mid is : Exchange S) → mid ≡ record was { faults = mid.faults } → is.around ≡ mid.around → is.network ≡ mid.network
    → is.journal ≡ mid.journal → is.read ≡ mid.read → is.is_offering ≡ mid.is_offering → is ≡ record was { now = is.now; faults = is.faults }
begun_alone {S} was mid is looked around network journal read offering =
    subst (λ (x : Exchange S). is ≡ record x { now = is.now; faults = is.faults }) looked
    (made_of is mid.around mid.network mid.journal is.now mid.read is.faults mid.is_offering around network journal refl read refl offering)

-- ---- a desk

pub with_exchange : {S T : Type 0} (desk : Desk S T) (was is : Exchange S) → is ≡ was → ◌≡◌ {A = Desk S T} (record desk { exchange = is }) (record desk { exchange = was })
with_exchange {S} {T} desk was is same = ap (λ (x : Exchange S). record desk { exchange = x }) same

-- a run begins, behind a look at the clock
pub starts_so : {S T : Type 0} (was : Desk S T) (looked : Exchange S) (schedule : Schedule) (first : ℕ → Schedule) (moment told : ℕ)
    → looked ≡ record was.exchange { faults = looked.faults } → schedule ≡ first moment → moment ≡ told
    → ◌≡◌ {A = Desk S T} (record was { exchange = looked; schedule = schedule })
    (record was { exchange = record was.exchange { faults = looked.faults }; schedule = first told })
starts_so {S} {T} was looked schedule first moment told same starts says =
    ap (λ (x : Exchange S). record was { exchange = x; schedule = schedule }) same
    ∙ ap (λ (x : Schedule). record was { exchange = record was.exchange { faults = looked.faults }; schedule = x }) (starts ∙ ap first says)

-- that the clock failed is no input
still_refused : {E : Type 0} (clock : Result ℕ E) (faults : Faults) → (faults_by clock faults).refused ≡ faults.refused
still_refused (Err fault) faults = refl
still_refused (Ok moment) faults = by_moment (nat_lt moment first_unread) where
  by_moment : (b : Bool) → (if b then faults else with_unreceived faults).refused ≡ faults.refused
  by_moment true = refl
  by_moment false = refl

-- as a turn begins nothing goes over it, and no input is refused
pub begins_same : {S T E : Type 0} (told : T → Option (List ℕ)) (traffic : S → Traffic) (was begun : Desk S T) (clock : Result ℕ E)
    → begun ≡ record was { exchange = record was.exchange { now = begun.exchange.now; faults = begun.exchange.faults }; schedule = begun.schedule }
    → begun.exchange.faults ≡ faults_by clock was.exchange.faults → at_desk told traffic begun ≡ at_desk told traffic was
begins_same told traffic was begun clock before counts =
    ap (at_desk told traffic) before
    ∙ ap (λ (n : ℕ). at_desk told traffic (record was { exchange = record was.exchange { faults = record was.exchange.faults { refused = n } } }))
    (ap (λ (x : Faults). x.refused) counts ∙ still_refused clock was.exchange.faults)

-- nor does anything where it is looked for lines
pub heard_same : {S T : Type 0} (told : T → Option (List ℕ)) (traffic : S → Traffic) (was : Desk S T) (heard : Exchange S) (lines : Lines)
    → heard ≡ record was.exchange { around = heard.around; read = heard.read } → traffic heard.around ≡ traffic was.exchange.around
    → at_desk told traffic (record was { exchange = heard; lines = lines }) ≡ at_desk told traffic was
heard_same {S} told traffic was heard lines rest kept =
    ap (λ (x : Exchange S). at_desk told traffic (record was { exchange = x })) rest ∙ ap (λ (x : Traffic). at_desk told (λ (s : S). x) was) kept

-- nor does anything where the page is asked
pub page_same : {S T : Type 0} (told : T → Option (List ℕ)) (traffic : S → Traffic) (tells : S → Told → Type 0)
    (is_its_turn is_of_page : Bool) (was is : Desk S T) → TakesFromPage tells is_its_turn is_of_page was is
    → (at_desk told traffic is ≡ at_desk told traffic was) × (is.admission ≡ was.admission)
page_same {S} {T} told traffic tells is_its_turn is_of_page was is page = (
  ap (at_desk told traffic) page.rest ∙ ap (λ (x : Exchange S). at_desk told traffic (record was { exchange = x })) page.shown,
  ap (λ (x : Desk S T). x.admission) page.rest,
)

-- nor to others where a visitor is served
pub visit_same : {S T V : Type 0} (told : T → Option (List ℕ)) (around : Around S)
    (serves : V → S → BoardState → ℕ → V → S → BoardState → Type 0) (moment : ℕ) (visitors left : Option (Box V)) (was is : Desk S T) → DoesVisit around serves moment visitors left was is
    → (at_desk told around.traffic is ≡ at_desk told around.traffic was) × (is.admission ≡ was.admission)
visit_same {S} {T} told around serves moment visitors left was is visit =
    let page = page_same told around.traffic around.tells false was.is_of_page visit.served is visit.page in (
      page.0 ∙ ap (at_desk told around.traffic) visit.before ∙ ap (λ (x : Traffic). at_desk told (λ (s : S). x) was) visit.kept,
      page.1 ∙ ap (λ (x : Desk S T). x.admission) visit.before,
    )

-- it was asked for the time of day where it stood before, too
pub dated_before : {S : Type 0} (dates : S → ℕ → Type 0) (was looked : Exchange S) (time : ℕ) → looked ≡ record was { faults = looked.faults }
    → dates looked.around time → dates was.around time
dated_before {S} dates was looked time same dated = subst (λ (x : Exchange S). dates x.around time) same dated

-- a turn leaves the schedule
pub leaves_schedule : {S T V : Type 0} (around : Around S) (serves : V → S → BoardState → ℕ → V → S → BoardState → Type 0) (now : ℕ)
    (turn : Turn) (visitors left : Option (Box V)) (was is : Desk S T) → Leaves around serves now turn visitors left was is → is.schedule ≡ was.schedule
leaves_schedule {S} {T} around serves now End visitors left was is leaves = ap (λ (x : Desk S T). x.schedule) leaves.0
leaves_schedule {S} {T} around serves now Look visitors left was is leaves = ap (λ (x : Desk S T). x.schedule) leaves.0.rest
leaves_schedule {S} {T} around serves now (Wait until) visitors left was is leaves = ap (λ (x : Desk S T). x.schedule) leaves.0.rest
leaves_schedule {S} {T} around serves now (Tick moment) visitors left was is leaves = ap (λ (x : Desk S T). x.schedule) leaves.0.0
leaves_schedule around serves now Command visitors left was is leaves = leaves.1
leaves_schedule {S} {T} around serves now Datagram visitors left was is leaves = ap (λ (x : Desk S T). x.schedule) leaves.0
leaves_schedule {S} {T} around serves now Visit visitors left was is leaves =
    ap (λ (x : Desk S T). x.schedule) leaves.page.rest ∙ ap (λ (x : Desk S T). x.schedule) leaves.before
leaves_schedule {S} {T} around serves now (Note pause) visitors left was is leaves = ap (λ (x : Desk S T). x.schedule) leaves.0.0
