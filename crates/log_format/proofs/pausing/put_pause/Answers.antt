use Rattle.std.proofs.Common.{◌≡◌, ℕ, List, ◌++◌, subst, ap, ◌∙◌}
use Rattle.std.specs.Prelude.{OnOk, decimal}
use Rattle.log_format.specs.TimeOfDay.{date_and_time}
use Rattle.log_format.specs.Pausing.{pause_line}
use Rattle.log_format.proofs.DraftLemmas.{put_on}
use Rattle.log_format.proofs.pausing.put_pause.Goals as goal

pub returns : goal.returns
unfolding pause_line
returns c =
    let begun = c.put_date_and_time.ensures ∙ ap (λ (line : List ℕ). line ++ date_and_time c.args.moment) c.new-line.ensures in
    let counted = c.put_decimal.ensures ∙ ap (λ (n : ℕ). c.put.new.self ++ decimal n) c.seconds.ensures in
    let paused = put_on _ _ _ _ (put_on _ _ _ _ begun c.put.ensures) counted in
    let waiting = put_on _ _ _ _ (put_on _ _ _ _ paused c.put-2.ensures) c.put_waiting.ensures in
    subst (λ (line : List ℕ). OnOk c.append_to.result (c.append_to.new.out.items ≡ c.args.out.now.items ++ line))
    (put_on _ _ _ _ waiting c.put-3.ensures) c.append_to.ensures.ok
