-- What a tally counts of datagrams: one alone, and nothing else.
use Rattle.std.specs.Prelude.{◌≡◌}
use Rattle.gateway_core.specs.Wire.{counted}
use Rattle.message_counts.specs.declared.message_tally.MessageTally.{MessageTally}

-- one came
abbrev pub with_received : MessageTally → MessageTally
with_received tally = record tally { datagrams_in = counted tally.datagrams_in 1 }

-- one was sent
abbrev pub with_handed_out : MessageTally → MessageTally
with_handed_out tally = record tally { datagrams_out = counted tally.datagrams_out 1 }

-- one came from who may not speak
abbrev pub with_stranger : MessageTally → MessageTally
with_stranger tally = record tally { strangers = counted tally.strangers 1 }

-- none was counted
abbrev pub CountsNoDatagram : MessageTally → MessageTally → Type 0
CountsNoDatagram was is =
    (is.datagrams_in ≡ was.datagrams_in) × (is.datagrams_out ≡ was.datagrams_out) × (is.strangers ≡ was.strangers)
