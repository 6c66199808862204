use Rattle.std.proofs.Common.{map}
use Rattle.page_state.specs.declared.ring.Kind.TheVariants.{Sent}
use Rattle.told_messages.specs.Labelling.{sent_label}
use Rattle.told_messages.specs.Showing.{HappenedWith}
use Rattle.told_messages.proofs.ShowingLemmas.{goes_on}
use Rattle.live_journal.proofs.journal.Journal.sent.Goals as goal

pub returns-in-Some-clause-shown : goal.returns-in-Some-clause-shown
returns-in-Some-clause-shown c =
    goes_on (HappenedWith c.args.now.clock Sent c.args.to c.args.bytes.now (map sent_label c.args.messages.now)) c.args.self.now.board
    c.in-Some.board c.show_sent.new.board c.in-Some.is (rw (c.deref_mut-in-Some.ensures.value) at c.show_sent.ensures)
