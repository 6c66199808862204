use Rattle.told_messages.proofs.ShowingLemmas.{gave_up}
use Rattle.told_messages.proofs.showing.show_given_up.Goals as goal

pub returns-in-len1-up : goal.returns-in-len1-up
returns-in-len1-up c =
    gave_up c.args.moment c.args.given_up.now _ _ c.in-len1-up.len_at_least
    (c.show.new.board, rw (c.nobody.ensures) at c.show.ensures, c.label_given_up.ensures)
