use Rattle.told_messages.specs.Showing.{Turned}
use Rattle.told_messages.proofs.ShowingLemmas.{goes_on}
use Rattle.live_journal.proofs.journal.Journal.turned.Goals as goal

pub returns-in-Some-clause-shown : goal.returns-in-Some-clause-shown
returns-in-Some-clause-shown c =
    goes_on (Turned c.args.now.clock c.args.taken.now.outcomes.now c.args.taken.now.given_up.now) c.args.self.now.board c.in-Some.board
    c.show_turned.new.board c.in-Some.is (rw (c.deref_mut-in-Some.ensures.value) at c.show_turned.ensures)
