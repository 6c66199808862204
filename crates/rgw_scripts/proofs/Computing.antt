-- The definitions opened, so that worked examples compute.
use Rattle.std.specs.Prelude.{⊤}
use Rattle.plain_machine.proofs.Computing.{on_examples as gateway_examples}
use Rattle.rgw_scripts.specs.Input.{config_pieces, script_pieces}
use Rattle.rgw_scripts.specs.Configuration.{addresses_in, names_from, settings_of, config_of, unread_key}
use Rattle.rgw_scripts.specs.Script.{address_of, hex_bytes, key_with, act_of, line_of_two, line_of_three, line_in, read_from}
use Rattle.rgw_scripts.specs.Printing.{printed_datagram, listed, line_head, signals_shown, connections_shown, lost_shown}
use Rattle.rgw_scripts.specs.Moves.{moves_of, move_went, went, printed, is_refused}

unfoldable pub on_examples : ⊤
unfolding gateway_examples config_pieces script_pieces addresses_in names_from settings_of config_of unread_key address_of hex_bytes key_with act_of line_of_two line_of_three line_in read_from printed_datagram listed line_head signals_shown connections_shown lost_shown moves_of move_went went printed is_refused
on_examples = tt
