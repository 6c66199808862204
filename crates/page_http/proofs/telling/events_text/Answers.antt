use Rattle.std.proofs.Common.{ℕ, Bool, List, ◌&&◌, length, nat_lt, ap, ap₂, ◌∙◌}
use Rattle.std.proofs.lemmas.Result.{IfOk-weaker}
use Rattle.std.specs.Prelude.{◌==◌, not}
use Rattle.serde_json.specs.Data.{array}
use Rattle.serde_json.specs.View.{items_of}
use Rattle.serde_json.specs.declared.value.Value.{Value}
use Rattle.page_http.proofs.TellingLemmas.{any_told, events_whole, told_as, told_whole}
use Rattle.page_http.proofs.telling.events_text.Goals as goal

pub returns : goal.returns
returns c =
    let told = c.in_ok-next.ensures in
    let some = ap (λ (values : List Value). not (length values == 0)) c.as_slice.ensures.value ∙ any_told _ _ told.told in
    let more = c.has_more-more.ensures ∙ ap₂ (λ (n : ℕ) (any : Bool). nat_lt n c.args.ring.now.last && any) told.next some in
    let events = c.from.ensures ∙ ap (λ values. array (items_of values)) told.told in
    let is =
    c.in_ok-value.ensures _ (c.put_truth.ensures _ (c.put_number.ensures _ (c.put.ensures _ (c.put_shown.ensures _ c.new-object.ensures))))
    ∙ told_as c.args.ring.now c.args.after c.args.version c.args.clock _ _ _ _ told.next c.first_of.ensures events more in
    IfOk-weaker c.to_string.result _ _
    (λ text h. told_whole _ _ _ is (events_whole c.args.ring.now c.args.after c.args.version c.args.clock) h)
    c.to_string.ensures.text
