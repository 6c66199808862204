-- What a K parameter confirms (RFC 3435, 3.2.2.1 and 3.5.1): `K: 6234-6255, 6257`.
use Rattle.std.specs.Prelude.{ℕ, nat_le, if◌then◌else◌, List, [], ◌∷◌, codes, Option, Some, None}
use Rattle.mg_bytes.specs.Option.{◌>>=◌}
use Rattle.mg_bytes.specs.Bytes.{hyphen}
use Rattle.mg_bytes.specs.Items.{items_of}
use Rattle.mg_bytes.specs.Words.{split_once}
use Rattle.mgcp_text.specs.declared.message.Param.{Param}
use Rattle.mgcp_text.specs.declared.confirmation.IdRange.{IdRange}
use Rattle.mgcp_text.specs.declared.confirmation.KValue.{KValue}
use Rattle.mgcp_text.specs.declared.confirmation.KValue.TheVariants.{Absent, Unreadable, Items}
use Rattle.mgcp_text.specs.Message.{param_at}
use Rattle.mgcp_text.specs.Header.{id_of}

abbrev pub range_of : ℕ → ℕ → Option IdRange
range_of first last =
    if nat_le first last then Some (record { first = first; last = last }) else None

abbrev pub span_from : List ℕ → Option (List ℕ × List ℕ) → Option IdRange
span_from item None = do
  id ← id_of item
  range_of id id
span_from item (Some sides) = do
  first ← id_of sides.0
  last ← id_of sides.1
  range_of first last

-- an id, or two with `-` between them that don't go downwards
unfoldable pub span_of : List ℕ → Option IdRange
span_of item = span_from item (split_once hyphen item)

abbrev pub put_first : Option IdRange → Option (List IdRange) → Option (List IdRange)
put_first span others = do
  first ← span
  rest ← others
  Some (first ∷ rest)

-- all of the items, or none where one is no id and no span
unfoldable pub spans_of : List (List ℕ) → Option (List IdRange)
spans_of [] = Some []
spans_of (item ∷ items) = put_first (span_of item) (spans_of items)

abbrev pub k_from : Option (List IdRange) → KValue
k_from None = Unreadable
k_from (Some spans) = Items spans

-- a value: empty, or items that commas part
abbrev pub value_of : List ℕ → KValue
value_of [] = Items []
value_of (b ∷ bs) = k_from (spans_of (items_of (b ∷ bs)))

abbrev pub first_value : Option Param → KValue
first_value None = Absent
first_value (Some param) = value_of param.value

-- the value of the first K parameter
unfoldable pub k_of : List Param → KValue
k_of params = first_value (param_at (codes "K") params)
