-- The texts of a datagram (RFC 3435, 3.5.4 and 3.5.5).
use Rattle.std.specs.Prelude.{ℕ, ◌+◌, ◌/◌, nat_lt, if◌then◌else◌, List, [], length}
use Rattle.mgcp_text.specs.Parts.{parts_of}

-- the largest datagram that is taken (RFC 3435, 3.5.4)
abbrev pub largest_datagram : ℕ
largest_datagram = 4000

-- the most texts that it has: between two texts stands a line that is a single dot, which takes two bytes, or one where it is
-- the last and has no end
abbrev pub most_texts : ℕ
most_texts = largest_datagram / 2 + 1

-- the texts of a datagram: its parts, or none where it is too long
unfoldable pub texts_of : List ℕ → List (List ℕ)
texts_of bytes = if nat_lt largest_datagram (length bytes) then [] else parts_of bytes
