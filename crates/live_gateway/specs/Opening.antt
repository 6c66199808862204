-- What a gateway that runs begins with.
use Rattle.std.specs.Prelude.{◌≡◌, ℕ, Bool, false, List, [], Option, None, is_some, IfSome, IfNone}
use Rattle.std.specs.Borrow.{Bor}
use Rattle.std.specs.Global.{Box}
use Rattle.std.specs.declared.net.socket_addr.SocketAddrV4.{SocketAddrV4}
use Rattle.impairment.specs.Drawing.{generators_of}
use Rattle.impairment.specs.Naming.{named}
use Rattle.impairment.specs.declared.network.BadNetwork.{BadNetwork}
use Rattle.impairment.specs.declared.spoiling.Spoiling.{Spoiling}
use Rattle.log_format.specs.File.{file_head}
use Rattle.message_counts.specs.Counting.{counts_in, no_counts}
use Rattle.message_counts.specs.Places.{no_sends}
use Rattle.message_counts.specs.SentCounting.{tally_in, no_tally}
use Rattle.message_counts.specs.declared.message_tally.MessageTally.{MessageTally}
use Rattle.page_state.specs.Keeping.{nothing_yet}
use Rattle.page_state.specs.BoardShowing.{BoardState}
use Rattle.output_queues.specs.Recording.{state_when}
use Rattle.live_io.specs.Typing.{left_of}
use Rattle.live_io.specs.declared.lines.Lines.{Lines}
use Rattle.told_messages.specs.declared.log.Log.{Log}
use Rattle.traces.specs.Writing.{opening_script}
use Rattle.live_journal.specs.Recording.{Begins}
use Rattle.live_journal.specs.declared.capture.Capture.{Capture}
use Rattle.live_journal.specs.declared.journal.Journal.{Journal}
use Rattle.live_play.specs.declared.play.LivePlay.{LivePlay}
use Rattle.live_gateway.specs.declared.exchange.Exchange.{Exchange}
use Rattle.live_gateway.specs.declared.opening.DeskSettings.{DeskSettings}
use Rattle.live_gateway.specs.declared.spoilt_way.SpoiltWay.{SpoiltWay}
use Rattle.live_gateway.specs.Exchanging.{faultless}

-- nothing was counted yet, and no answer is owed
abbrev pub CountsNothing : MessageTally → Type 0
CountsNothing tally =
    (tally.datagrams_in ≡ 0) × (tally.datagrams_out ≡ 0) × (tally.strangers ≡ 0)
    × (counts_in tally.texts ≡ no_counts) × (tally_in tally.sent ≡ no_tally) × (tally.places.sends ≡ no_sends)
    × (tally.unanswered_since ≡ None)

-- there is a board where there is a page: nothing happened that it shows, and nobody asked it for anything
abbrev pub BeginsBoard : Bool → Option (Box BoardState) → Type 0
BeginsBoard has_page board =
    (is_some board ≡ has_page) × IfSome board (λ shown. (shown.value.ring ≡ nothing_yet) × (shown.value.acts ≡ []))

-- a network spoils what goes over it as this says, and draws from the beginning, each way
abbrev pub SpoilsBy : Spoiling → BadNetwork → Type 0
SpoilsBy spoiling network = (network.spoiling ≡ spoiling) × (network.generators ≡ generators_of spoiling)

-- a network spoils what goes over it where one is asked for, as was asked, and by the domain too; and nothing waits in it
abbrev pub BeginsNetwork : Option Spoiling → List ℕ → Option (Box SpoiltWay) → Type 0
BeginsNetwork asked domain network = (is_some network ≡ is_some asked)
    × IfSome network (λ way. (way.value.network.waiting.items ≡ [])
    × IfSome asked (λ spoiling. SpoilsBy (named spoiling domain) way.value.network))

-- What is said is told in a log where one is asked for, which leaves out this domain. Nothing stands in it, nothing came or was sent, no
-- answer is owed, and of strangers the first is told of.
abbrev pub BeginsLog : Bool → List ℕ → Log → Type 0
BeginsLog has_log domain log = (log.record.state ≡ state_when has_log) × (log.record.out.items ≡ []) × (log.domain ≡ domain)
    × (log.own.entries ≡ []) × (log.arrival ≡ None) × (log.came.moment ≡ 0) × (log.sent ≡ 0)
    × (log.quiet ≡ record { next = 0; untold = 0 })

-- what is said is captured where a file is named for that, from its head on, and by this address of the gateway
abbrev pub BeginsCapture : Option (Bor (List ℕ)) → SocketAddrV4 → Capture → Type 0
BeginsCapture file here capture = Begins (is_some file) file_head capture.record × (capture.here ≡ here)
    × IfSome file (λ name. capture.name ≡ name.now) × IfNone file (capture.name ≡ [])

-- a log and a capture begin as settings ask for them, and all that was recorded was kept and written
abbrev pub BeginsRecords : DeskSettings → List ℕ → Journal → Type 0
BeginsRecords settings domain journal = BeginsLog settings.has_log domain journal.log.value
    × BeginsCapture settings.capture settings.here journal.capture.value
    × (journal.written ≡ record { dropped = 0; output = 0; error = 0; capture = 0 })

-- nothing went over it, nothing failed, and nothing waits to be taken
abbrev pub IsUnused : {S : Type 0} → Exchange S → Type 0
IsUnused exchange =
    (exchange.read ≡ 0) × (exchange.faults ≡ faultless) × (exchange.now.clock ≡ 0) × (exchange.is_offering ≡ false)

-- its script begins, and nothing was answered
abbrev pub IsUnplayed : {T : Type 0} → LivePlay T → Type 0
IsUnplayed play = (play.script ≡ opening_script) × (play.printed.items ≡ [])

-- nobody typed anything
abbrev pub IsUntyped : Lines → Type 0
IsUntyped lines = (left_of lines ≡ []) × (lines.sender ≡ None)
