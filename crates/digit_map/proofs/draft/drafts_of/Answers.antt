use Rattle.std.proofs.Common.{◌≡◌, ◌-◌, ◌%◌, length, map, arith, ap, ◌∙◌}
use Rattle.std.specs.Vec.{vec_len}
use Rattle.digit_map.specs.Cuts.{strings_of}
use Rattle.digit_map.specs.Places.{places_in}
use Rattle.digit_map.specs.Drafts.{draft_of}
use Rattle.digit_map.specs.declared.draft.Draft.{Draft}
use Rattle.std.proofs.Common.{List}
use Rattle.digit_map.proofs.DraftLaws.{all_added}
use Rattle.digit_map.proofs.draft.drafts_of.Goals as goal

pub returns : goal.returns
returns c =
    let known : vec_len c.in_ok-drafts.drafts ≡ length c.in_ok-drafts.drafts.items = c.in_ok-drafts.drafts.ok.0 in
    let long : c.len.result ≡ length (map draft_of (places_in (strings_of c.args.text.now))) =
    c.len.ensures ∙ known ∙ ap (λ (x : List Draft). length x) c.in_ok-drafts.ensures in
    let added : c.loop-added.added ≡ 32 - c.len.result % 32 = omega arith in
    all_added _ c.loop-added.added _ (rw long at added) c.loop-added.invariant
