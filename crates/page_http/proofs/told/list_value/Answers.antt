use Rattle.std.proofs.Common.{List, map, ap, ◌∙◌}
use Rattle.std.proofs.lemmas.List.{map-append}
use Rattle.serde_json.specs.Data.{Data, array}
use Rattle.serde_json.specs.View.{view, items_of}
use Rattle.page_http.proofs.ValuesLemmas.{put_value, put_values}
use Rattle.page_http.proofs.told.list_value.Goals as goal

pub loop-item-preserved : goal.loop-item-preserved
loop-item-preserved g c =
    put_value g.T.Told.told c.args.items.now c.loop-item.item-index _ _ _ _ _ c.loop-item-test.true
    (c.in_ok-value.ensures ∙ ap g.T.Told.told c.item-item.is)
    (ap (map view) c.in_ok-push.ensures.items ∙ map-append view c.loop-item.list.items _) c.loop-item.invariant

pub returns : goal.returns
returns g c =
    c.from.ensures
    ∙ ap (λ (values : List Data). array (items_of values))
    (put_values g.T.Told.told c.args.items.now c.loop-item.item-index _ _ c.loop-item-test.false c.loop-item.invariant)
