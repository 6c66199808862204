-- The addresses of the worked examples, and who counts the bytes that it answers.
use Rattle.std.specs.Prelude.{◌≡◌, ◌+◌, ℕ, Bool, List, [], ◌∷◌, length, Option, option_map}
use Rattle.std.specs.declared.net.ipv4_addr.Ipv4Addr.{Ipv4Addr}
use Rattle.std.specs.declared.net.socket_addr.SocketAddr.{SocketAddr}
use Rattle.std.specs.declared.net.socket_addr.SocketAddrV4.{SocketAddrV4}
use Rattle.live_io.specs.Speaking.{admitted_in, may_speak}

abbrev pub socket_at : List ℕ → ℕ → SocketAddrV4
socket_at octets port = record { ip = record { octets = octets }; port = port }

-- 127.0.0.1, 192.168.1.5 and 0.0.0.0
abbrev pub here : List ℕ
here = 127 ∷ 0 ∷ 0 ∷ 1 ∷ []

abbrev pub there : List ℕ
there = 192 ∷ 168 ∷ 1 ∷ 5 ∷ []

abbrev pub everywhere : List ℕ
everywhere = 0 ∷ 0 ∷ 0 ∷ 0 ∷ []

-- a.b.c.d
abbrev pub host_at : ℕ → ℕ → ℕ → ℕ → Ipv4Addr
host_at a b c d = record { octets = a ∷ b ∷ c ∷ d ∷ [] }

-- whether who has this address may speak, as a word says it, if it says anything
abbrev pub admits : List ℕ → Ipv4Addr → Option Bool
admits word host = option_map (λ admitted. may_speak admitted host) (admitted_in word)

abbrev pub counts_bytes : ℕ → SocketAddr → List ℕ → ℕ → Type 0
counts_bytes was to text is = is ≡ was + length text
