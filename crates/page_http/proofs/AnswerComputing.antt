-- The definitions opened, so that worked examples compute.
use Rattle.std.specs.Prelude.{⊤}
use Rattle.hex.specs.Hex.{encode_with}
use Rattle.page_state.proofs.BoardComputing.{on_examples as board_examples}
use Rattle.serde_json.proofs.OnLiterals.{serde_json_on_literals}
use Rattle.page_http.specs.Acting.{queued_in}
use Rattle.page_http.specs.Labelling.{message_word}

unfoldable pub on_examples : ⊤
unfolding board_examples serde_json_on_literals encode_with queued_in message_word
on_examples = tt
