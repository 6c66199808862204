-- The definitions opened, so that worked examples compute.
use Rattle.std.specs.Prelude.{⊤}
use Rattle.mg_bytes.proofs.Computing.{on_examples as bytes_examples}
use Rattle.sdp_subset.specs.Payloads.{are_payloads, payloads_from}
use Rattle.sdp_subset.specs.Fields.{are_fields, from_audio, first_connection, connection_of}
use Rattle.sdp_subset.specs.Reading.{each_payload, payloads_of, audio_of, address_of, session_with, session_of}
use Rattle.sdp_subset.specs.Writing.{origin_line, connection_line, audio_line, ptime_line, session_lines, session_text}

unfoldable pub on_examples : ⊤
unfolding bytes_examples are_payloads payloads_from are_fields from_audio first_connection connection_of each_payload payloads_of audio_of address_of session_with session_of origin_line connection_line audio_line ptime_line session_lines session_text
on_examples = tt
