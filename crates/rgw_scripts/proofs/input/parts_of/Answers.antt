use Rattle.std.proofs.Common.{◌≡◌, ◌∙◌, sym, ap, false, length, arith}
use Rattle.std.specs.List.{concat}
use Rattle.mg_bytes.specs.Lines.{cut, line_of}
use Rattle.rgw_scripts.specs.Input.{is_separator, script_pieces}
use Rattle.rgw_scripts.proofs.PartLemmas.{rest_le, next_left, next_config, whole_config, all_config, script_more}
use Rattle.rgw_scripts.proofs.input.parts_of.Goals as goal

pub returns-then-is_separator-clause-config : goal.returns-then-is_separator-clause-config
returns-then-is_separator-clause-config c =
    let (piece, old, is) = c.in-Some.ensures.steps in
    whole_config c.args.input.now _ c.loop-line.end c.loop-line.rest c.next.new.self piece old
    (sym (ap is_separator is) ∙ sym c.is_separator.ensures ∙ c.if-is_separator.true) c.loop-line.invariant.config

pub returns-then-is_separator-clause-few : goal.returns-then-is_separator-clause-few
returns-then-is_separator-clause-few c =
    let (piece, old, is) = c.in-Some.ensures.steps in
    let fits = rest_le c.args.input.now c.loop-line.end c.loop-line.rest c.next.new.self piece c.loop-line.invariant.within c.loop-line.invariant.left old in
    omega (arith, fits, ap length c.rest.ensures.whole)

pub overflow_sub-end : goal.overflow_sub-end
overflow_sub-end c =
    let (piece, old, is) = c.in-Some.ensures.steps in
    let fits = rest_le c.args.input.now c.loop-line.end c.loop-line.rest c.next.new.self piece c.loop-line.invariant.within c.loop-line.invariant.left old in
    omega (arith, fits, ap length c.rest-in-Some.ensures.whole)

pub loop-line-preserved : goal.loop-line-preserved
loop-line-preserved c =
    let (piece, old, is) = c.in-Some.ensures.steps in
    let inv = c.loop-line.invariant in
    let other : is_separator (line_of piece) ≡ false = sym (ap is_separator is) ∙ sym c.is_separator.ensures ∙ c.if-is_separator.false in
    let size : length c.rest-in-Some.result.now ≡ length (concat c.next.new.self) = ap length c.rest-in-Some.ensures.whole in
    record {
      within = omega arith;
      left = rw size (next_left c.args.input.now c.loop-line.end c.loop-line.rest c.next.new.self piece inv.within inv.left old);
      config = rw size (next_config c.args.input.now _ c.loop-line.end c.loop-line.rest c.next.new.self piece inv.within inv.left old other inv.config);
      script = sym (ap script_pieces old ∙ script_more piece c.next.new.self other) ∙ inv.script;
    }

pub returns-clause-config : goal.returns-clause-config
returns-clause-config c =
    let inv = c.loop-line.invariant in
    all_config c.args.input.now _ c.loop-line.end c.loop-line.rest inv.within inv.left c.in_default.ensures.steps.0 inv.config

pub returns-clause-script : goal.returns-clause-script
unfolding cut script_pieces
returns-clause-script c = sym (ap script_pieces c.in_default.ensures.steps.0) ∙ c.loop-line.invariant.script
