-- Lists of addresses as a document gives them.
use Rattle.std.proofs.Common.{◌≡◌, ◌≢◌, List, [], ◌∷◌, length, map, refl, Option, Some, None}
use Rattle.std.specs.declared.net.ipv4_addr.Ipv4Addr.{Ipv4Addr}
use Rattle.toml.specs.declared.value.Value.{Value}
use Rattle.toml.specs.Data.{Data, Items, item}
use Rattle.toml.specs.View.{view, items_of, items_view}
use Rattle.mg_bytes.specs.Option.{◌>>=◌}
use Rattle.endpoint_names.specs.Route.{route_of}
use Rattle.rgw_scripts.specs.Configuration.{address_in, addresses_in}

-- an address before others, where all are there
abbrev put : Option Ipv4Addr → Option (List Ipv4Addr) → Option (List Ipv4Addr)
put address others = address >>= (λ a. others >>= (λ rest. Some (a ∷ rest)))

five : (a b c d e : Option Ipv4Addr) (more : Option (List Ipv4Addr)) → (put a (put b (put c (put d (put e more)))) >>= route_of) ≡ None
five None b c d e more = refl
five (Some a) None c d e more = refl
five (Some a) (Some b) None d e more = refl
five (Some a) (Some b) (Some c) None e more = refl
five (Some a) (Some b) (Some c) (Some d) None more = refl
five (Some a) (Some b) (Some c) (Some d) (Some e) None = refl
five (Some a) (Some b) (Some c) (Some d) (Some e) (Some more) = refl

-- five values or more are no route, whatever they are
pub five_are_none : (a b c d e : Data) (more : Items) → (addresses_in (item a (item b (item c (item d (item e more))))) >>= route_of) ≡ None
unfolding addresses_in
five_are_none a b c d e more = five (address_in a) (address_in b) (address_in c) (address_in d) (address_in e) (addresses_in more)

-- another number of values than 1 to 4 is no route
pub other_numbers : (values : List Value) → length values ≢ 1 → length values ≢ 2 → length values ≢ 3 → length values ≢ 4 → (addresses_in (items_view values) >>= route_of) ≡ None
unfolding addresses_in
other_numbers [] one two three four = refl
other_numbers (a ∷ []) one two three four = absurd (one refl)
other_numbers (a ∷ b ∷ []) one two three four = absurd (two refl)
other_numbers (a ∷ b ∷ c ∷ []) one two three four = absurd (three refl)
other_numbers (a ∷ b ∷ c ∷ d ∷ []) one two three four = absurd (four refl)
other_numbers (a ∷ b ∷ c ∷ d ∷ e ∷ more) one two three four = five_are_none (view a) (view b) (view c) (view d) (view e) (items_of (map view more))
