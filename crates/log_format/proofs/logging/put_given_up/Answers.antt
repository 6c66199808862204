use Rattle.std.proofs.Common.{◌≡◌, ℕ, List, ◌++◌, subst}
use Rattle.std.specs.Prelude.{OnOk}
use Rattle.log_format.specs.Lines.{given_up_line}
use Rattle.log_format.proofs.DraftLemmas.{put_on}
use Rattle.log_format.proofs.logging.put_given_up.Goals as goal

pub returns-clause-ok : goal.returns-clause-ok
unfolding given_up_line
returns-clause-ok c =
    let headed = put_on _ _ _ _ (put_on _ _ _ _ c.begun-line.ensures c.put.ensures) c.put_header.ensures in
    subst (λ (line : List ℕ). OnOk c.append_to.result (c.append_to.new.out.items ≡ c.args.out.now.items ++ line))
    (put_on _ _ _ _ headed c.put_byte.ensures) c.append_to.ensures.ok
