use Rattle.std.proofs.Common.{sym, ap, ◌∙◌, rules, eqb}
use Rattle.std.proofs.lemmas.Iterator.{YieldsList-from_slice}
use Rattle.std.proofs.lemmas.Iterator.Consumers.{count_from_yields_List, YieldsList-from_filter}
use Rattle.event_syntax.proofs.LetterLemmas.{letters_counted}
use Rattle.event_syntax.proofs.range.is_single.Goals as goal

pub returns : goal.returns
returns c =
    let counted = count_from_yields_List _ _ c.count.ensures.ran (YieldsList-from_filter _ (λ has. has) (YieldsList-from_slice c.args.set cc) c.filter.ensures.closure (λ x b q k. search rules)) in
    ap (λ n. eqb n 1) (counted ∙ sym (letters_counted c.args.set (search rules)))
