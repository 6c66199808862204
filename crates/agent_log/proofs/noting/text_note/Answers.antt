use Rattle.mgcp_text.specs.Reading.{outcome_of}
use Rattle.agent_log.proofs.NotingLemmas.{header_noted, read_noted}
use Rattle.agent_log.proofs.noting.text_note.Goals as goal

pub returns : goal.returns
returns c =
    let noted = read_noted c.args.is_repeat c.header_in.result.now (outcome_of c.read_message-read.result) c.note_for.result c.note_for.ensures c.read_message-read.ensures.value in
    header_noted c.args.is_repeat c.args.text.now c.note_for.result (rw (c.header_in.ensures) at noted)
