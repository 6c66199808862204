-- From whom datagrams are taken: who may speak to a program, as far as an address tells. A port tells nobody apart, since who sends
-- may choose it.
use Rattle.std.specs.Prelude.{ℕ, ◌+◌, ◌-◌, ◌%◌, ◌^◌, Bool, true, false, not, ◌&&◌, ◌||◌, nat_le, nat_eq, codes, bytes_eq, if◌then◌else◌, List, [], ◌∷◌}
use Rattle.std.specs.Prelude.{◌++◌, length, Option, Some, None, option_map, option_and_then}
use Rattle.std.specs.List.{list_any, starts_with}
use Rattle.std.specs.Net.Addr.{ipv4_bits}
use Rattle.std.specs.declared.net.ipv4_addr.Ipv4Addr.{Ipv4Addr}
use Rattle.mg_bytes.specs.Address.{ipv4_of}
use Rattle.mg_bytes.specs.Bytes.{full_stop, slash}
use Rattle.mg_bytes.specs.Items.{items_of}
use Rattle.mg_bytes.specs.Numbers.{decimal_of}
use Rattle.mg_bytes.specs.Option.{◌>>=◌}
use Rattle.mg_bytes.specs.Words.{split_once}
use Rattle.live_io.specs.declared.speaking.Network.{Network}
use Rattle.live_io.specs.declared.speaking.Speakers.{Speakers}

-- Networks

-- an address has so many bits
abbrev pub address_bits : ℕ
address_bits = 32

-- so many addresses have so many of their first bits in common
abbrev pub size_of : ℕ → ℕ
size_of bits = 2 ^ (address_bits - bits)

-- the first of them, where this is one
abbrev pub first_of : ℕ → ℕ → ℕ
first_of number bits = number - number % size_of bits

-- the addresses that have so many of their first bits in common with this one
abbrev pub network_at : Ipv4Addr → ℕ → Network
network_at address bits = record {
  first = first_of (ipv4_bits address) bits;
  last = first_of (ipv4_bits address) bits + (size_of bits - 1);
}

abbrev pub is_within : Ipv4Addr → Network → Bool
is_within host network = nat_le network.first (ipv4_bits host) && nat_le (ipv4_bits host) network.last

-- Who may speak

-- whoever sends, or whoever has an address of one of these networks
pub record Admitted : Type 0 where
  pub is_any : Bool
  pub networks : List Network

abbrev pub admitted_by : Speakers → Admitted
admitted_by speakers = record { is_any = speakers.is_any; networks = speakers.networks.items }

abbrev pub anybody : Admitted
anybody = record { is_any = true; networks = [] }

abbrev pub nobody : Admitted
nobody = record { is_any = false; networks = [] }

-- whoever has one more address
abbrev pub with_host : Admitted → Ipv4Addr → Admitted
with_host admitted host = record admitted { networks = admitted.networks ++ network_at host address_bits ∷ [] }

abbrev pub may_speak : Admitted → Ipv4Addr → Bool
may_speak admitted host = admitted.is_any || list_any (is_within host) admitted.networks

-- What a word says of that, as `10.0.0.7,10.1.0.0/16` (this program's profile)

-- a number has no zero in front of it: some programs read such a number in base 8
abbrev pub is_bare : List ℕ → Bool
is_bare number = nat_le (length number) 1 || not (starts_with nat_eq number (codes "0"))

-- four such numbers with dots between them
unfoldable pub bare_address_of : List ℕ → Option Ipv4Addr
bare_address_of text = do
  first ← split_once full_stop text
  second ← split_once full_stop first.1
  third ← split_once full_stop second.1
  if is_bare first.0 && is_bare second.0 && is_bare third.0 && is_bare third.1 then ipv4_of text else None

-- an address, or `localhost`, which is 127.0.0.1 (RFC 6761, 6.3)
unfoldable pub host_of : List ℕ → Option Ipv4Addr
host_of text =
    if bytes_eq text (codes "localhost") then Some (record { octets = 127 ∷ 0 ∷ 0 ∷ 1 ∷ [] }) else bare_address_of text

abbrev pub bits_from : ℕ → Option ℕ
bits_from number = if nat_le number address_bits then Some number else None

-- so many bits, 0 to 32
unfoldable pub bits_of : List ℕ → Option ℕ
bits_of text = if is_bare text then option_and_then bits_from (decimal_of text) else None

abbrev pub network_from : List ℕ → Option (List ℕ × List ℕ) → Option Network
network_from text None = option_map (λ address. network_at address address_bits) (host_of text)
network_from text (Some sides) =
    option_and_then (λ address. option_map (network_at address) (bits_of sides.1)) (host_of sides.0)

-- a host alone, or one with the number of those of its bits that count; the others don't
unfoldable pub network_of : List ℕ → Option Network
network_of text = network_from text (split_once slash text)

-- the networks that items say, behind these
unfoldable pub networks_from : List Network → List (List ℕ) → Option (List Network)
networks_from networks [] = Some networks
networks_from networks (item ∷ items) =
    option_and_then (λ network. networks_from (networks ++ network ∷ []) items) (network_of item)

abbrev pub these : List Network → Admitted
these networks = record { is_any = false; networks = networks }

-- anybody, or networks, which commas part
unfoldable pub admitted_in : List ℕ → Option Admitted
admitted_in text =
    if bytes_eq text (codes "any") then Some anybody else option_map these (networks_from [] (items_of text))
