-- The ports of a gateway's lines are ports.
use Rattle.std.proofs.Common.{◌≡◌, ℕ, ◌+◌, ◌*◌, ◌-◌, ◌<◌, ◌≤◌, arith, ap, ◌∙◌}
use Rattle.std.specs.Prelude.{◌%◌}
use Rattle.connections.specs.declared.connection.Connection.{Connection}
use Rattle.plain_machine.specs.declared.setup.Setup.{Setup}
use Rattle.plain_machine.specs.Machine.{port_of}
use Rattle.plain_machine.specs.Setup.{IsSetUp, most_lines, highest_media_base}
use Rattle.rgw_c.specs.declared.structs.ConnectionTold.{ConnectionTold}
use Rattle.rgw_c.specs.LineTelling.{local_port, connection_of}

whole : (setup : Setup) (line place : ℕ) → IsSetUp setup → 1 ≤ line → line ≤ setup.names.lines → place < 4
    → local_port setup line place ≡ port_of setup line + 2 * place
whole setup line place set_up low high first_four =
    let few : setup.names.lines ≤ most_lines = set_up.lines in
    let base : setup.media_base ≤ highest_media_base = set_up.ports in omega (arith, few, base, low, high, first_four)

pub told_whole : (setup : Setup) (line place : ℕ) (connection : Connection) (told : ConnectionTold) → told ≡ connection_of setup line place connection
    → IsSetUp setup → 1 ≤ line → line ≤ setup.names.lines → place < 4 → told.local_port ≡ port_of setup line + 2 * place
told_whole setup line place connection told is set_up low high first_four =
    ap (λ (t : ConnectionTold). t.local_port) is ∙ whole setup line place set_up low high first_four
