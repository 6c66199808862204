-- The value of L (RFC 3435, 2.3.5 and 3.2.2): what is asked of a connection.
use Rattle.std.specs.Prelude.{ℕ, Bool, false, ◌&&◌, ◌||◌, not, ◌==◌, nat_le, is_some, if◌then◌else◌, List, [], ◌∷◌, ◌++◌, take, codes, decimal, Option, Some, None, Result, Ok, Err}
use Rattle.std.specs.List.{list_all, list_any, slice_split}
use Rattle.mg_bytes.specs.Bytes.{colon, hyphen}
use Rattle.mg_bytes.specs.Case.{same_but_case}
use Rattle.mg_bytes.specs.Items.{items_of}
use Rattle.mg_bytes.specs.Numbers.{decimal_of}
use Rattle.mg_bytes.specs.Option.{◌>>=◌}
use Rattle.mg_bytes.specs.Words.{split_once}
use Rattle.connections.specs.declared.codec.Codec.{Codec}
use Rattle.connections.specs.declared.codec.Codec.TheVariants.{Pcmu, Pcma}
use Rattle.connections.specs.declared.codec.Codecs.{Codecs}
use Rattle.connections.specs.declared.codec.Codecs.TheVariants.{Only, Both}
use Rattle.connections.specs.declared.options.CodecChoice.{CodecChoice}
use Rattle.connections.specs.declared.options.CodecChoice.TheVariants.{ByEncoding, NoneKnown, These}
use Rattle.connections.specs.declared.options.Options.{Options}
use Rattle.connections.specs.Codecs.{is_same_codec, codec_named, codec_name}

-- The value of `a`: codecs

-- one more codec, at its first place only
abbrev pub with_codec : Option Codecs → Codec → Option Codecs
with_codec None codec = Some (Only codec)
with_codec (Some (Only first)) codec = if is_same_codec first codec then Some (Only first) else Some (Both first)
with_codec (Some (Both first)) codec = Some (Both first)

abbrev pub with_found : Option Codecs → Option Codec → Option Codecs
with_found codecs None = codecs
with_found codecs (Some codec) = with_codec codecs codec

-- what a name adds: a codec, or nothing where this gateway knows none of that name
abbrev pub with_name : Option Codecs → List ℕ → Option Codecs
with_name codecs name = with_found codecs (codec_named name)

unfoldable pub with_names : Option Codecs → List (List ℕ) → Option Codecs
with_names codecs [] = codecs
with_names codecs (name ∷ names) = with_names (with_name codecs name) names

-- `;`
abbrev pub semicolon : ℕ
semicolon = 59

abbrev pub is_semicolon : ℕ → Bool
is_semicolon b = b == semicolon

-- the names that semicolons part
unfoldable pub names_of : List ℕ → List (List ℕ)
names_of value = slice_split is_semicolon value

abbrev pub codecs_in : List ℕ → Option Codecs
codecs_in value = with_names None (names_of value)

abbrev pub choice_of : Option Codecs → CodecChoice
choice_of None = NoneKnown
choice_of (Some codecs) = These codecs

-- The value of `p`: a packet time in ms, or the least and the greatest

abbrev pub bounds_from : List ℕ → Option (List ℕ × List ℕ) → Option (ℕ × ℕ)
bounds_from value None = decimal_of value >>= λ n. Some (n, n)
bounds_from value (Some sides) = decimal_of sides.0 >>= λ least. decimal_of sides.1 >>= λ greatest. Some (least, greatest)

-- `n` or `m-n`
unfoldable pub bounds_of : List ℕ → Option (ℕ × ℕ)
bounds_of value = bounds_from value (split_once hyphen value)

abbrev pub lies_in : ℕ × ℕ → ℕ → Bool
lies_in bounds ms = nat_le bounds.0 ms && nat_le ms bounds.1

-- the least of 10, 20 and 30 ms that lies between them
abbrev pub time_within : ℕ × ℕ → Option ℕ
time_within bounds =
    if lies_in bounds 10 then Some 10 else
    (if lies_in bounds 20 then Some 20 else
    (if lies_in bounds 30 then Some 30 else None))

-- without `p`
abbrev pub default_time : ℕ
default_time = 20

-- The items of L

-- these are ignored: bandwidth, echo cancellation, gain control, reservation, silence suppression, type of service and
-- type of network, and those that begin with `x-`
abbrev pub is_ignored : List ℕ → Bool
is_ignored name =
    same_but_case name (codes "b") || same_but_case name (codes "e") || same_but_case name (codes "gc")
    || same_but_case name (codes "r") || same_but_case name (codes "s") || same_but_case name (codes "t")
    || same_but_case name (codes "nt") || same_but_case (take 2 name) (codes "x-")

abbrev pub is_option_from : Option (List ℕ × List ℕ) → Bool
is_option_from None = false
is_option_from (Some sides) =
    if same_but_case sides.0 (codes "p") then is_some (bounds_of sides.1)
    else same_but_case sides.0 (codes "a") || is_ignored sides.0

-- `name:value` of a name that is known
unfoldable pub is_option : List ℕ → Bool
is_option item = is_option_from (split_once colon item)

abbrev pub name_from : List ℕ → Option (List ℕ × List ℕ) → List ℕ
name_from item None = item
name_from item (Some sides) = sides.0

-- the name of an item
unfoldable pub name_of : List ℕ → List ℕ
name_of item = name_from item (split_once colon item)

abbrev pub is_of : List ℕ → List ℕ → Bool
is_of name item = same_but_case (name_of item) name

-- a second item has this name
unfoldable pub comes_again : List ℕ → List (List ℕ) → Bool
comes_again name [] = false
comes_again name (item ∷ items) = if is_of name item then list_any (is_of name) items else comes_again name items

-- an option, whose name no other item of the list has
abbrev pub is_once : List (List ℕ) → List ℕ → Bool
is_once items item = is_option item && not (comes_again (name_of item) items)

abbrev pub are_options : List (List ℕ) → Bool
are_options items = list_all (is_once items) items

abbrev pub value_from : List ℕ → Option (List ℕ × List ℕ) → Option (List ℕ)
value_from name None = None
value_from name (Some sides) = if same_but_case sides.0 name then Some sides.1 else None

unfoldable pub value_in : List ℕ → List ℕ → Option (List ℕ)
value_in name item = value_from name (split_once colon item)

abbrev pub or_value : Option (List ℕ) → Option (List ℕ) → Option (List ℕ)
or_value None next = next
or_value (Some value) next = Some value

-- the value of the item of this name, if there is one
unfoldable pub value_of : List ℕ → List (List ℕ) → Option (List ℕ)
value_of name [] = None
value_of name (item ∷ items) = or_value (value_in name item) (value_of name items)

-- without `a` the codecs are those of the line's encoding
abbrev pub choice_from : Option (List ℕ) → CodecChoice
choice_from None = ByEncoding
choice_from (Some value) = choice_of (codecs_in value)

abbrev pub timed : CodecChoice → Option ℕ → Result Options ℕ
timed choice None = Err 535
timed choice (Some ms) = Ok (record { codecs = choice; packet_time = ms })

abbrev pub options_with : CodecChoice → Option (List ℕ) → Result Options ℕ
options_with choice None = Ok (record { codecs = choice; packet_time = default_time })
options_with choice (Some value) = timed choice (bounds_of value >>= time_within)

unfoldable pub options_in : List (List ℕ) → Result Options ℕ
options_in items =
    if are_options items then options_with (choice_from (value_of (codes "a") items)) (value_of (codes "p") items)
    else Err 541

-- the value of L: what isn't spelled so, or stands twice, is 541, wherever it stands; else no time to be had is 535
unfoldable pub options_of : List ℕ → Result Options ℕ
options_of value = options_in (items_of value)

-- without L
abbrev pub no_options : Options
no_options = record { codecs = ByEncoding; packet_time = default_time }

-- How options are written

abbrev pub codecs_text : Codecs → List ℕ
codecs_text (Only codec) = codec_name codec
codecs_text (Both Pcmu) = codes "PCMU;PCMA"
codecs_text (Both Pcma) = codes "PCMA;PCMU"

-- `a:PCMU;PCMA, p:20`
unfoldable pub options_text : Codecs → ℕ → List ℕ
options_text codecs ms = codes "a:" ++ (codecs_text codecs ++ (codes ", p:" ++ decimal ms))
