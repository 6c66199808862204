use Rattle.std.proofs.Common.{◌≡◌, ◌++◌, ◌∷◌, [], ◌∙◌, List, ℕ, codes, refl, subst}
use Rattle.std.specs.Prelude.{IfOk}
use Rattle.std.specs.Fmt.{decimal}
use Rattle.mg_bytes.specs.Bytes.{space}
use Rattle.call_agent.proofs.StandLemmas.{command_is}
use Rattle.call_agent.proofs.issuing.command_text.Goals as goal

pub returns : goal.returns
returns c =
    let built : c.put-4.new.self ≡ (((((c.args.verb.now ++ space ∷ []) ++ decimal c.args.id) ++ space ∷ []) ++ c.args.name.now) ++ codes " MGCP 1.0\r\n") ++ c.args.rest.now =
    rw (
      c.put-4.ensures,
      c.put-3.ensures,
      c.put-2.ensures,
      c.put_byte-2.ensures,
      c.put_decimal.ensures,
      c.from.ensures,
      c.number.ensures.value,
      c.put_byte.ensures,
      c.put.ensures,
      c.new-text.ensures,
    ) refl in
    subst (λ (whole : List ℕ). IfOk c.into_text.result (λ text. text ≡ whole))
    (built ∙ command_is c.args.verb.now (decimal c.args.id) c.args.name.now (codes " MGCP 1.0\r\n") c.args.rest.now) c.into_text.ensures
