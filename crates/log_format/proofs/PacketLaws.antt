-- How long packets are.
use Rattle.std.proofs.Common.{◌≡◌, ℕ, ◌+◌, ◌*◌, ◌≤◌, List, [], ◌∷◌, ◌++◌, length, refl, ap, ◌∙◌, arith, length-append}
use Rattle.std.specs.Prelude.{slice_index}
use Rattle.std.specs.Net.Addr.{segments_of, octets_of}
use Rattle.std.proofs.lemmas.List.{length-take, take_all}
use Rattle.log_format.specs.Checksum.{checksum_of}
use Rattle.log_format.specs.Packet.{Packet, carried, packet_length, header_words, ipv4_header, udp_header, ipv4_packet}

pub whole : (bytes : List ℕ) → length bytes ≤ 65507 → carried bytes ≡ bytes
whole bytes few = take_all 65507 bytes few

pub within : (bytes : List ℕ) → packet_length bytes ≤ 65535
within bytes = omega (arith, length-take 65507 bytes)

-- a word has two bytes
twice : (words : List ℕ) → length (octets_of words) ≡ 2 * length words
twice [] = refl
twice (word ∷ words) = omega (arith, twice words)

-- four octets are two words
halved : (octets : List ℕ) → length octets ≡ 4 → length (segments_of octets) ≡ 2
halved [] four = absurd (omega arith)
halved (a ∷ []) four = absurd (omega arith)
halved (a ∷ b ∷ []) four = absurd (omega arith)
halved (a ∷ b ∷ c ∷ []) four = absurd (omega arith)
halved (a ∷ b ∷ c ∷ d ∷ []) four = refl
halved (a ∷ b ∷ c ∷ d ∷ e ∷ octets) four = absurd (omega arith)

header_long : (total : ℕ) (source destination : List ℕ) → length source ≡ 4 → length destination ≡ 4 → length (ipv4_header total source destination) ≡ 20
unfolding ipv4_header
header_long total source destination from to =
    let words : List ℕ = header_words total source destination (checksum_of (header_words total source destination 0)) in
    let first : length (segments_of source) ≡ 2 = halved source from in
    let second : length (segments_of destination) ≡ 2 = halved destination to in
    let both : length (segments_of source ++ segments_of destination) ≡ length (segments_of source) + length (segments_of destination) = length-append (segments_of source) (segments_of destination) in
    let ten : length words ≡ 10 = omega (arith, both) in
    twice words ∙ ap (λ (n : ℕ). 2 * n) ten

udp_long : (source destination total : ℕ) → length (udp_header source destination total) ≡ 8
unfolding udp_header
udp_long source destination total = refl

pub as_long : (packet : Packet) → length packet.from.ip.octets ≡ 4 → length packet.to.ip.octets ≡ 4 → length (ipv4_packet packet) ≡ packet_length packet.bytes
unfolding ipv4_packet
as_long packet from to =
    let head : length (ipv4_header (packet_length packet.bytes) packet.from.ip.octets packet.to.ip.octets) ≡ 20 = header_long (packet_length packet.bytes) packet.from.ip.octets packet.to.ip.octets from to in
    simp (length-append, header_long (packet_length packet.bytes) packet.from.ip.octets packet.to.ip.octets from to, udp_long) (omega arith)

-- the words that four octets are
pub segments_four : (octets : List ℕ) → length octets ≡ 4
    → segments_of octets ≡ (slice_index octets 0 * 256 + slice_index octets 1) ∷ (slice_index octets 2 * 256 + slice_index octets 3) ∷ []
segments_four [] four = absurd (omega arith)
segments_four (a ∷ []) four = absurd (omega arith)
segments_four (a ∷ b ∷ []) four = absurd (omega arith)
segments_four (a ∷ b ∷ c ∷ []) four = absurd (omega arith)
segments_four (a ∷ b ∷ c ∷ d ∷ []) four = refl
segments_four (a ∷ b ∷ c ∷ d ∷ e ∷ octets) four = absurd (omega arith)
