-- What a K confirms (RFC 3435, 3.2.2.1 and 3.5.1).
use Rattle.std.specs.Prelude.{List, [], map}
use Rattle.mgcp_text.specs.declared.confirmation.IdRange.{IdRange}
use Rattle.mgcp_text.specs.declared.confirmation.KValue.{KValue}
use Rattle.mgcp_text.specs.declared.confirmation.KValue.TheVariants.{Absent, Unreadable, Items}
use Rattle.transmission.specs.declared.span.IdSpan.{IdSpan}

-- the spans of ids that a readable K names (RFC 3435, 3.2.2.1)
abbrev pub span_of : IdRange → IdSpan
span_of range = record { first = range.first; last = range.last }

abbrev pub spans_of : KValue → List IdSpan
spans_of Absent = []
spans_of Unreadable = []
spans_of (Items ranges) = map span_of ranges
