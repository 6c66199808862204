use Rattle.std.proofs.Common.{◌∙◌, sym, arith}
use Rattle.std.specs.Prelude.{nat_lt}
use Rattle.std.proofs.lemmas.Bool.{and_parts, ltb-true}
use Rattle.call_processing.specs.Fates.{may_pass, most_put_off}
use Rattle.line_control.proofs.care.Care.answer.Goals as goal

pub overflow_add-self : goal.overflow_add-self
overflow_add-self c =
    let both = and_parts (may_pass c.args.code) (nat_lt c.args.self.now.put_off most_put_off) (sym c.is_put_off.ensures ∙ c.if-is_put_off.true) in
    omega (arith, ltb-true c.args.self.now.put_off most_put_off both.1)
