use Rattle.std.proofs.Common.{ap, ◌∙◌}
use Rattle.transmission.specs.Kept.{HistoryState, from_young}
use Rattle.transmission.proofs.PurgeLaws.{purged_tells}
use Rattle.transmission.proofs.history.History.purge.Goals as goal

pub returns-clause-told : goal.returns-clause-told
returns-clause-told c =
    purged_tells c.cut_off.new.self.kept c.args.self.now.kept c.args.now
    (ap (λ (history : HistoryState). history.kept) (c.cut_off.ensures ∙ c.pass_old.ensures)
    ∙ ap (λ (history : HistoryState). from_young c.args.now history.kept) c.settle.ensures)
