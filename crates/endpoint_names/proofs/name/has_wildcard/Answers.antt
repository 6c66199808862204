use Rattle.std.proofs.Common.{rules, tests}
use Rattle.std.proofs.lemmas.Iterator.Search.{any_from_yields_List}
use Rattle.std.proofs.lemmas.Iterator.Splits.{YieldsList-from_slice_split}
use Rattle.mg_bytes.specs.Bytes.{is_slash}
use Rattle.endpoint_names.specs.Name.{has_wildcard, is_wildcard}
use Rattle.endpoint_names.proofs.name.has_wildcard.Goals as goal

pub returns : goal.returns
unfolding has_wildcard
returns c =
    any_from_yields_List is_wildcard _ _ _ c.any.ensures.ran
    (YieldsList-from_slice_split _ is_slash c.args.local.now c.split.ensures.rest c.split.ensures.done c.split.ensures.closure (λ x b q k. search (rules, tests)))
    (λ x b q k. search (rules, tests))
