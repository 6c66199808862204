use Rattle.std.proofs.Common.{◌≡◌, ◌++◌, ◌∙◌, codes, refl, append_assoc}
use Rattle.connections.specs.Numbers.{number_text}
use Rattle.line_changes.specs.Telling.{what_text}
use Rattle.line_changes.proofs.TellingLemmas.{more}
use Rattle.line_changes.proofs.telling.put_over.Goals as goal

pub returns : goal.returns
unfolding what_text
returns c =
    let out = c.args.out.now in
    let word = codes "connection " in
    let id = number_text c.args.number in
    let put : c.put-2.new.self ≡ ((out ++ word) ++ id) ++ codes " over" = rw (c.put-2.ensures, c.in_ok-put_id.ensures, c.put.ensures) refl in
    put ∙ more ((out ++ word) ++ id) out (word ++ id) (codes " over") (append_assoc out word id)
