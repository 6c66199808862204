use Rattle.std.proofs.Common.{◌≡◌, ◌++◌, ◌∷◌, [], ap, ◌∙◌, Some, rules}
use Rattle.std.specs.Prelude.{option_map}
use Rattle.rgw_scripts.specs.Script.{hex_byte, hex_bytes}
use Rattle.rgw_scripts.proofs.HexLemmas.{hex_bytes-pair}
use Rattle.rgw_scripts.proofs.words.hex_bytes.Goals as goal

pub loop-high-preserved : goal.loop-high-preserved
loop-high-preserved c =
    let byte : hex_byte c.in-Some.high c.in-Some.low ≡ Some c.in-Some-hex_byte.byte = search rules in
    let items : c.push.new.self.items ≡ c.loop-high.bytes.items ++ c.in-Some-hex_byte.byte ∷ [] = c.in_ok-push.ensures.items in
    ap (λ x. option_map (λ more. x ++ more) (hex_bytes c.in-Some.after.now)) items
    ∙ hex_bytes-pair c.loop-high.bytes.items c.loop-high.rest.now c.in-Some.after.now c.in-Some.high c.in-Some.low c.in-Some-hex_byte.byte c.in-Some.ensures byte
    ∙ c.loop-high.invariant
