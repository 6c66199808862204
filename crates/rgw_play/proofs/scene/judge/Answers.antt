use Rattle.std.proofs.Common.{◌≡◌, ap, sym, ◌∙◌, Err}
use Rattle.std.specs.Prelude.{map}
use Rattle.mg_bytes.specs.Lines.{line_of}
use Rattle.rgw_scripts.specs.declared.played.PlayFault.TheVariants as play_fault
use Rattle.rgw_scripts.specs.Input.{script_lines}
use Rattle.rgw_scripts.specs.Configuration.{config_in}
use Rattle.rgw_scripts.specs.Script.{steps_of}
use Rattle.rgw_scripts.specs.Play.{judged, configured, scene_of}
use Rattle.rgw_scripts.proofs.JudgedLemmas.{too_long, not_too_long}
use Rattle.rgw_play.proofs.scene.judge.Goals as goal

pub returns-then-is_too_long-clause-err : goal.returns-then-is_too_long-clause-err
returns-then-is_too_long-clause-err c = too_long c.args.input.now (sym c.is_too_long.ensures ∙ c.if-is_too_long.true)

pub returns-in-Err-clause-err : goal.returns-in-Err-clause-err
returns-in-Err-clause-err c =
    let steps = steps_of (script_lines c.args.input.now) in
    let whole : judged c.args.input.now ≡ configured (config_in c.parts_of-parts.result.config.now) steps =
    not_too_long c.args.input.now (sym c.is_too_long.ensures ∙ c.if-is_too_long.false) ∙ ap (λ text. configured (config_in text) steps) (sym c.parts_of-parts.ensures.config) in
    rw whole (c.in-Err.ensures.err steps)

pub returns-in-Ok-read_script-clause-scene : goal.returns-in-Ok-read_script-clause-scene
returns-in-Ok-read_script-clause-scene c =
    let steps = steps_of (script_lines c.args.input.now) in
    let whole : judged c.args.input.now ≡ configured (config_in c.parts_of-parts.result.config.now) steps =
    not_too_long c.args.input.now (sym c.is_too_long.ensures ∙ c.if-is_too_long.false) ∙ ap (λ text. configured (config_in text) steps) (sym c.parts_of-parts.ensures.config) in
    whole ∙ c.in-Ok.ensures.ok steps
    ∙ ap (scene_of c.in-Ok.gateway.setup) (ap (λ pieces. steps_of (map line_of pieces)) (sym c.parts_of-parts.ensures.script) ∙ c.in-Ok-read_script.ensures.ok)

pub returns-clause-err : goal.returns-clause-err
returns-clause-err c =
    let steps = steps_of (script_lines c.args.input.now) in
    let whole : judged c.args.input.now ≡ configured (config_in c.parts_of-parts.result.config.now) steps =
    not_too_long c.args.input.now (sym c.is_too_long.ensures ∙ c.if-is_too_long.false) ∙ ap (λ text. configured (config_in text) steps) (sym c.parts_of-parts.ensures.config) in
    whole ∙ c.in-Ok.ensures.ok steps
    ∙ ap (scene_of c.in-Ok.gateway.setup)
    (ap (λ pieces. steps_of (map line_of pieces)) (sym c.parts_of-parts.ensures.script) ∙ c.in-Err-BadLine.ensures.bad c.in-Err-BadLine.line c.in-Err-BadLine.field-0-is)
    ∙ ap (λ line. Err (play_fault.Script line)) (sym c.in-Err-BadLine.line-is)
