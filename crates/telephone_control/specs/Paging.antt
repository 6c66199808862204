-- What the page is shown of a gateway, and how it comes that what it asks for is done.
use Rattle.std.specs.Prelude.{◌≡◌, ◌≢◌, ◌⊎◌, ℕ, Bool, true, false, List, [], drop, slice_get, Option, Some, None}
use Rattle.std.specs.Global.{Box}
use Rattle.plain_machine.specs.Event.{GatewayEvent}
use Rattle.plain_machine.specs.Lists.{plain}
use Rattle.plain_machine.specs.Machine.{serves}
use Rattle.gateway_core.specs.GatewayState.{GatewayState}
use Rattle.gateway_core.specs.Remembering.{remembered}
use Rattle.gateway_core.specs.Stands.{Stands}
use Rattle.page_state.specs.declared.act.QueuedAct.{QueuedAct}
use Rattle.page_state.specs.declared.picture.Picture.{Picture}
use Rattle.page_state.specs.MetricsShowing.{lines_of}
use Rattle.page_state.specs.Sums.{next_number}
use Rattle.page_state.specs.Acts.{act_line}
use Rattle.page_state.specs.BoardShowing.{BoardState}
use Rattle.live_io.specs.declared.lines.Lines.{Lines}
use Rattle.live_io.specs.Hearing.{Begins}
use Rattle.live_journal.specs.declared.journal.Journal.{Journal}
use Rattle.message_counts.specs.declared.reporting.Faults.{Faults}
use Rattle.telephone_control.specs.Picturing.{with_numbers, by_name, files_written, verbs_from, codes_from}
use Rattle.telephone_control.specs.Viewing.{lines_in, lines_viewed}

-- all that a journal keeps but what the page is shown
abbrev pub IsSameBeside : Journal → Journal → Type 0
IsSameBeside was is = (is.tally ≡ was.tally) × (is.log ≡ was.log) × (is.capture ≡ was.capture) × (is.written ≡ was.written)

-- Shown

-- a picture is of a gateway as it is, whose clock is so far behind the machine's, and of what was counted
pub record IsOf (gateway : GatewayState) (journal : Journal) (faults : Faults) (lag : ℕ) (picture : Picture) : Type 0 where
  pub counted : picture.counts ≡ with_numbers picture.counts journal faults
  pub clock : (events : List GatewayEvent) → Stands gateway events → picture.clock ≡ (plain gateway.setup events).now
  pub behind : picture.behind ≡ lag
  pub serving : (events : List GatewayEvent) → Stands gateway events → picture.is_serving ≡ serves (plain gateway.setup events).endpoints
  pub unanswered : picture.unanswered_since ≡ journal.tally.value.unanswered_since
  pub first : picture.first ≡ gateway.setup.first
  pub commands : picture.counts.commands.items ≡ verbs_from 0 journal.tally.value.texts.commands
  pub answers : picture.counts.answers.items ≡ codes_from 0 journal.tally.value.sent.answers.items
  pub held : (events : List GatewayEvent) → Stands gateway events → picture.counts.transactions ≡ remembered (plain gateway.setup events)
  pub files : by_name picture.counts.write_faults.items ≡ files_written journal
  pub lines : (events : List GatewayEvent) → Stands gateway events
      → lines_in picture.lines.items ≡ lines_viewed gateway.setup (plain gateway.setup events) gateway.setup.names.lines

-- a board shows another picture, under the next number where its lines changed; what happened, and what is asked for, stay
pub record Shows (was is : BoardState) : Type 0 where
  pub same : lines_of was.picture ≡ lines_of is.picture → is.version ≡ was.version
  pub changed : lines_of was.picture ≢ lines_of is.picture → is.version ≡ next_number was.version
  pub ring : is.ring ≡ was.ring
  pub acts : is.acts ≡ was.acts

abbrev pub ShowsOn : (Picture → Type 0) → Option (Box BoardState) → Option (Box BoardState) → Type 0
ShowsOn is_shown None is = is ≡ None
ShowsOn is_shown (Some was) None = ⊥
ShowsOn is_shown (Some was) (Some is) = is_shown is.value.picture × Shows was.value is.value

-- the page is shown a gateway as it is now, where there is a page; or memory is refused, and it is shown what it was
abbrev pub ShowsPage : GatewayState → Faults → ℕ → Journal → Journal → Type 0
ShowsPage gateway faults behind was is =
    (is ≡ was) ⊎ (IsSameBeside was is × ShowsOn (IsOf gateway was faults behind) was.board is.board)

-- Asked for

-- the acts that wait at the page, from the oldest
abbrev pub acts_of : Option (Box BoardState) → List QueuedAct
acts_of None = []
acts_of (Some board) = board.value.acts

-- of a board only the act that has waited longest is taken; where there is no board, none comes
abbrev pub TakesOldest : Option (Box BoardState) → Option (Box BoardState) → Type 0
TakesOldest None is = is ≡ None
TakesOldest (Some was) None = ⊥
TakesOldest (Some was) (Some is) = is.value ≡ record was.value { acts = drop 1 was.value.acts }

-- The act that has waited longest waits no more, and its line is left, of nobody's: that is so; or no line is taken, since none waits or
-- memory is refused for its line.
pub record TakesAct (was : Journal) (lines : Lines) (taken : Bool) (is : Journal) (left : Lines) : Type 0 where
  pub acts : acts_of is.board ≡ drop 1 (acts_of was.board)
  pub board : TakesOldest was.board is.board
  pub beside : IsSameBeside was is
  pub line : taken ≡ true → (act : QueuedAct) × (slice_get (acts_of was.board) 0 ≡ Some act) × Begins None (act_line act) lines left
  pub none : taken ≡ false → left ≡ lines
