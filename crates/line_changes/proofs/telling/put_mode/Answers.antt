use Rattle.std.proofs.Common.{◌≡◌, ◌++◌, ◌∙◌, codes, refl, append_assoc}
use Rattle.connections.specs.Modes.{mode_text}
use Rattle.connections.specs.Numbers.{number_text}
use Rattle.line_changes.specs.Telling.{mode_part}
use Rattle.line_changes.proofs.TellingLemmas.{more}
use Rattle.line_changes.proofs.telling.put_mode.Goals as goal

pub returns : goal.returns
unfolding mode_part
returns c =
    let out = c.args.out.now in
    let word = codes "connection " in
    let id = number_text c.args.connection.number in
    let mode = mode_text c.args.connection.mode in
    let space = codes " " in
    let put : c.put-4.new.self ≡ ((((out ++ word) ++ id) ++ space) ++ mode) ++ space =
    rw (c.put-4.ensures, c.put-3.ensures, c.mode_text.ensures, c.put-2.ensures, c.in_ok-put_id.ensures, c.put.ensures) refl in
    put
    ∙ more ((((out ++ word) ++ id) ++ space) ++ mode) out (((word ++ id) ++ space) ++ mode) space
    (more (((out ++ word) ++ id) ++ space) out ((word ++ id) ++ space) mode
    (more ((out ++ word) ++ id) out (word ++ id) space (append_assoc out word id)))
