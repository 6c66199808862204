use Rattle.std.proofs.Common.{◌≡◌, ℕ, List, ◌++◌, ◌∙◌}
use Rattle.std.specs.Prelude.{OnOk}
use Rattle.live_system.proofs.PuttingLemmas.{put_so}
use Rattle.live_system.proofs.ending.put_unbound.Goals as goal

pub returns : goal.returns
returns c =
    put_so (λ (text : List ℕ). OnOk c.put_pieces.result (c.put_pieces.new.out.items ≡ c.args.out.now.items ++ text)) _ _ _ _ _ _
    c.text.ensures (c.as_str.ensures.value ∙ c.in_ok-address.ensures.ok) c.reason_of.ensures c.put_pieces.ensures
