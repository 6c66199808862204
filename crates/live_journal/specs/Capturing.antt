-- What a capture is told.
use Rattle.std.specs.Prelude.{◌≡◌, ◌⊎◌, ℕ, List, [], ◌++◌}
use Rattle.log_format.specs.File.{file_head, record_of}
use Rattle.log_format.specs.Packet.{Packet}
use Rattle.output_queues.specs.declared.record.RecordState.{RecordState}
use Rattle.output_queues.specs.declared.record.RecordState.TheVariants.{Off, On, OutOfMemory}
use Rattle.told_messages.specs.Recording.{Records}
use Rattle.live_journal.specs.declared.capture.Capture.{Capture}

-- a packet stands behind what a capture has, where that is told all
abbrev pub Captures : Capture → Packet → Capture → Type 0
Captures was packet is = Records was.record (record_of packet) is.record × (is ≡ record was { «record» = is.record })

-- what it has and isn't written yet stands in another file, behind a head of its own, where it is told all and memory isn't refused
abbrev pub BeginsFile : RecordState → List ℕ → RecordState → List ℕ → Type 0
BeginsFile Off were state are = (state ≡ Off) × (are ≡ were)
BeginsFile On were state are = ((state ≡ On) × (are ≡ file_head ++ were)) ⊎ ((state ≡ OutOfMemory) × (are ≡ []))
BeginsFile OutOfMemory were state are = (state ≡ OutOfMemory) × (are ≡ were)
