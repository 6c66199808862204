-- What a text says of a network, as `lose 10%, in copy 5%, out late 0-3000, seed 7` (this program's profile).
use Rattle.std.specs.Prelude.{ℕ, codes, if◌then◌else◌, bytes_eq, List, [], ◌∷◌, Option, Some, None, Result, Ok, Err}
use Rattle.std.specs.Option.{unwrap_or}
use Rattle.mg_bytes.specs.Steps.{◌>>=◌}
use Rattle.mg_bytes.specs.Bytes.{space}
use Rattle.mg_bytes.specs.Blanks.{trimmed}
use Rattle.mg_bytes.specs.Items.{items_of}
use Rattle.mg_bytes.specs.Numbers.{decimal_of}
use Rattle.mg_bytes.specs.Words.{split_once}
use Rattle.impairment.specs.declared.spoiling.Impairment.{Impairment}
use Rattle.impairment.specs.declared.spoiling.Parts.{Parts}
use Rattle.impairment.specs.declared.spoiling.WayParts.{WayParts}
use Rattle.impairment.specs.declared.spoiling.Spoiling.{Spoiling}
use Rattle.impairment.specs.declared.spoiling.SpoilingFault.{SpoilingFault}
use Rattle.impairment.specs.declared.spoiling.SpoilingFault.TheVariants.{Lose, Copy, Late, Seed, Other}
use Rattle.impairment.specs.Spelling.{percent_of, span_of}

abbrev pub no_parts : Parts
no_parts = record { lose = None; copy = None; late = None; seed = None }

abbrev pub nothing_said : WayParts
nothing_said = record { incoming = no_parts; outgoing = no_parts }

-- a part stands there once for a way, and its value is one
abbrev pub put_once : {A : Type 0} → Option A → Option A → SpoilingFault → (A → Parts) → Result Parts SpoilingFault
put_once None None fault put = Err fault
put_once None (Some found) fault put = Ok (put found)
put_once (Some held) found fault put = Err fault

abbrev pub with_lose : Parts → Option ℕ → Result Parts SpoilingFault
with_lose parts value = put_once parts.lose value Lose (λ lose. record parts { lose = Some lose })

abbrev pub with_copy : Parts → Option ℕ → Result Parts SpoilingFault
with_copy parts value = put_once parts.copy value Copy (λ copy. record parts { copy = Some copy })

abbrev pub with_late : Parts → Option (ℕ × ℕ) → Result Parts SpoilingFault
with_late parts value = put_once parts.late value Late (λ late. record parts { late = Some late })

abbrev pub with_seed : Parts → Option ℕ → Result Parts SpoilingFault
with_seed parts value = put_once parts.seed value Seed (λ seed. record parts { seed = Some seed })

-- what a word says with the value behind it
abbrev pub with_named : Parts → Option (List ℕ × List ℕ) → Result Parts SpoilingFault
with_named parts None = Err Other
with_named parts (Some sides) =
    if bytes_eq sides.0 (codes "lose") then with_lose parts (percent_of (trimmed sides.1))
    else if bytes_eq sides.0 (codes "copy") then with_copy parts (percent_of (trimmed sides.1))
    else if bytes_eq sides.0 (codes "late") then with_late parts (span_of (trimmed sides.1))
    else if bytes_eq sides.0 (codes "seed") then with_seed parts (decimal_of (trimmed sides.1))
    else Err Other

-- a part: a word, blanks, and its value
abbrev pub with_part : Parts → List ℕ → Result Parts SpoilingFault
with_part parts item = with_named parts (split_once space item)

-- a part that stands there without a way is of both
abbrev pub with_both : WayParts → List ℕ → Result WayParts SpoilingFault
with_both parts item = with_part parts.incoming item >>= λ incoming.
    with_part parts.outgoing item >>= λ outgoing. Ok (record { incoming = incoming; outgoing = outgoing })

abbrev pub with_incoming : WayParts → Result Parts SpoilingFault → Result WayParts SpoilingFault
with_incoming parts read = read >>= λ incoming. Ok (record parts { incoming = incoming })

abbrev pub with_outgoing : WayParts → Result Parts SpoilingFault → Result WayParts SpoilingFault
with_outgoing parts read = read >>= λ outgoing. Ok (record parts { outgoing = outgoing })

-- `in` or `out` in front of it says of which it is
abbrev pub with_way : WayParts → List ℕ → Option (List ℕ × List ℕ) → Result WayParts SpoilingFault
with_way parts item None = Err Other
with_way parts item (Some sides) =
    if bytes_eq sides.0 (codes "in") then with_incoming parts (with_part parts.incoming (trimmed sides.1))
    else if bytes_eq sides.0 (codes "out") then with_outgoing parts (with_part parts.outgoing (trimmed sides.1))
    else with_both parts item

abbrev pub with_item : WayParts → List ℕ → Result WayParts SpoilingFault
with_item parts item = with_way parts item (split_once space item)

-- parts in their order; the first that is wrong is the fault
unfoldable pub with_items : WayParts → List (List ℕ) → Result WayParts SpoilingFault
with_items parts [] = Ok parts
with_items parts (item ∷ items) = with_item parts item >>= λ more. with_items more items

-- where a part is missing, nothing is lost, copied or late that way, and the seed is 1
abbrev pub made_of : Parts → Impairment
made_of parts = record {
  lose = unwrap_or parts.lose 0;
  copy = unwrap_or parts.copy 0;
  least = (unwrap_or parts.late (0, 0)).0;
  most = (unwrap_or parts.late (0, 0)).1;
  seed = unwrap_or parts.seed 1;
}

-- what a text says: its parts, which commas part
unfoldable pub spoiling_of : List ℕ → Result Spoiling SpoilingFault
spoiling_of text = with_items nothing_said (items_of text)
    >>= λ parts. Ok (record { incoming = made_of parts.incoming; outgoing = made_of parts.outgoing })
