-- The definitions opened, so that worked examples compute.
use Rattle.std.specs.Prelude.{⊤}
use Rattle.mg_bytes.proofs.Computing.{on_examples as bytes_examples}
use Rattle.mgcp_text.specs.Header.{verb_of, id_of, start_of, header_of}
use Rattle.mgcp_text.specs.Parameter.{param_of}
use Rattle.mgcp_text.specs.Reading.{skip_empty, params_of, some_params_of, description_of, command_from, response_from, read_text}
use Rattle.mgcp_text.specs.Confirmation.{span_of, spans_of, k_of}
use Rattle.mgcp_text.specs.Writing.{command_line, response_line, param_line, written, is_id, is_writable_body, is_writable}

unfoldable pub on_examples : ⊤
unfolding bytes_examples verb_of id_of start_of header_of param_of skip_empty params_of some_params_of description_of command_from response_from read_text span_of spans_of k_of command_line response_line param_line written is_id is_writable_body is_writable
on_examples = tt
