-- A seed that is mixed with a name, so that networks of one seed draw otherwise where their names differ: by FNV-1a in 64 bits,
-- begun at the seed.
use Rattle.std.specs.Prelude.{ℕ, ◌*◌, ◌%◌, ◌^◌, bit_xor, List, fold}
use Rattle.impairment.specs.declared.spoiling.Impairment.{Impairment}
use Rattle.impairment.specs.declared.spoiling.Spoiling.{Spoiling}

-- the prime of FNV-1a in 64 bits
abbrev pub fnv_prime : ℕ
fnv_prime = 1099511628211

-- a seed, mixed with one byte: what goes beyond 64 bits is dropped
abbrev pub mixed_with : ℕ → ℕ → ℕ
mixed_with seed byte = bit_xor seed byte * fnv_prime % 2 ^ 64

-- and with all bytes of a name in their order
abbrev pub mixed : ℕ → List ℕ → ℕ
mixed seed name = fold mixed_with seed name

-- the same network, which draws by its name too, each way
abbrev pub named_way : Impairment → List ℕ → Impairment
named_way impairment name = record impairment { seed = mixed impairment.seed name }

abbrev pub named : Spoiling → List ℕ → Spoiling
named spoiling name = record { incoming = named_way spoiling.incoming name; outgoing = named_way spoiling.outgoing name }
