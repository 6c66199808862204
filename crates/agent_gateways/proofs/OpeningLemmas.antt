-- Which gateways and lines a board of a configuration has.
use Rattle.std.proofs.Common.{◌≡◌, ℕ, suc, ◌+◌, ◌<◌, ◌≤◌, List, [], ◌∷◌, ◌++◌, length, get_or, drop, refl, sym, ap, subst, ◌∙◌}
use Rattle.std.proofs.Common.{append_assoc, append-nil, length-append}
use Rattle.std.proofs.lemmas.List.{drop_more, at_drop_all, map-append}
use Rattle.std.proofs.lemmas.List.Elements.{All-nil, All-push}
use Rattle.std.specs.Prelude.{map, min, All}
use Rattle.std.specs.declared.net.socket_addr.SocketAddrV4.{SocketAddrV4}
use Rattle.endpoint_names.specs.declared.name.Pattern.TheVariants.{One}
use Rattle.endpoint_names.specs.Name.{name_text}
use Rattle.agent_config.specs.declared.config.GatewayConfig.{GatewayConfig}
use Rattle.agent_log.specs.declared.station.Station.{Station}
use Rattle.agent_gateways.specs.declared.gateway.Gateway.{Gateway}
use Rattle.agent_gateways.specs.Opening.{begins_as, gateways_from, known_as, lines_of, Known, StandsNew}
use Rattle.agent_gateways.specs.Opening.{greatest_line, new_station, stations_behind, stations_from}

-- one more is added
pub known_more : (were are : List Gateway) (gateway : Gateway) (time : ℕ) (own : SocketAddrV4) (first before : ℕ) (address : SocketAddrV4)
    (domain : List ℕ) (lines many : ℕ) → are ≡ were ++ gateway ∷ [] → known_as gateway ≡ begins_as time own first address domain lines
    → first ≡ before → lines ≡ many → map known_as are ≡ map known_as were ++ begins_as time own before address domain many ∷ []
known_more were are gateway time own first before address domain lines many more begins first_is lines_are =
    ap (λ (all : List Gateway). map known_as all) more
    ∙ map-append known_as were (gateway ∷ [])
    ∙ ap (λ (one : Known). map known_as were ++ one ∷ []) begins
    ∙ ap (λ (place : ℕ). map known_as were ++ begins_as time own place address domain lines ∷ []) first_is
    ∙ ap (λ (count : ℕ). map known_as were ++ begins_as time own before address domain count ∷ []) lines_are

pub stands_more : (were are : List Gateway) (gateway : Gateway) → are ≡ were ++ gateway ∷ [] → StandsNew gateway
    → All StandsNew were → All StandsNew are
stands_more were are gateway more stands all = subst (All StandsNew) (sym more) (All-push StandsNew were gateway all stands)

-- so is that of the configuration whose turn it is
added : (time : ℕ) (own : SocketAddrV4) (config : List GatewayConfig) (place : ℕ) (gateway : GatewayConfig) (domain : List ℕ)
    (before now : ℕ) (all so_far next : List Known)
    → place < length config → gateway ≡ get_or config place gateway → domain ≡ gateway.domain
    → now ≡ before + length gateway.numbers.items
    → next ≡ so_far ++ begins_as time own before gateway.address domain (lines_of gateway.numbers.items) ∷ []
    → so_far ++ gateways_from time own before (drop place config) ≡ all → next ++ gateways_from time own now (drop (place + 1) config) ≡ all
added time own config place gateway domain before now all so_far next within item domain_is now_is next_is given =
    let lines = lines_of gateway.numbers.items in
    let behind = before + length gateway.numbers.items in
    ap (λ (count : ℕ). next ++ gateways_from time own count (drop (place + 1) config)) now_is
    ∙ ap (λ (list : List Known). list ++ gateways_from time own behind (drop (place + 1) config)) next_is
    ∙ ap
    (λ (text : List ℕ).
    (so_far ++ begins_as time own before gateway.address text lines ∷ []) ++ gateways_from time own behind (drop (place + 1) config))
    domain_is
    ∙ append_assoc so_far (begins_as time own before gateway.address gateway.domain lines ∷ [])
    (gateways_from time own behind (drop (place + 1) config))
    ∙ ap (λ (one : GatewayConfig). so_far ++ gateways_from time own before (one ∷ drop (place + 1) config)) item
    ∙ ap (λ (left : List GatewayConfig). so_far ++ gateways_from time own before left) (sym (drop_more config place gateway within))
    ∙ given

pub added_one : (time : ℕ) (own : SocketAddrV4) (given config : List GatewayConfig) (place : ℕ) (gateway : GatewayConfig) (domain : List ℕ)
    (before now : ℕ) (all so_far next : List Known)
    → given ≡ config → place < length given → gateway ≡ get_or given place gateway → domain ≡ gateway.domain
    → now ≡ before + length gateway.numbers.items
    → next ≡ so_far ++ begins_as time own before gateway.address domain (lines_of gateway.numbers.items) ∷ []
    → so_far ++ gateways_from time own before (drop place config) ≡ all → next ++ gateways_from time own now (drop (place + 1) config) ≡ all
added_one time own given config place gateway domain before now all so_far next same within item domain_is now_is next_is had =
    subst (λ (list : List GatewayConfig). next ++ gateways_from time own now (drop (place + 1) list) ≡ all) same
    (added time own given place gateway domain before now all so_far next within item domain_is now_is next_is
    (subst (λ (list : List GatewayConfig). so_far ++ gateways_from time own before (drop place list) ≡ all) (sym same) had))

-- all are
pub added_all : (time : ℕ) (own : SocketAddrV4) (given config : List GatewayConfig) (place before : ℕ) (all so_far : List Known)
    → given ≡ config → length given ≤ place → so_far ++ gateways_from time own before (drop place config) ≡ all → so_far ≡ all
added_all time own given config place before all so_far same past had =
    let none : so_far ++ gateways_from time own before (drop place given) ≡ so_far ++ []
    = ap (λ (left : List GatewayConfig). so_far ++ gateways_from time own before left)
    (at_drop_all (λ (left : List GatewayConfig). left) given place past) in
    sym (append-nil so_far) ∙ sym none
    ∙ subst (λ (list : List GatewayConfig). so_far ++ gateways_from time own before (drop place list) ≡ all) (sym same) had

-- on a board that had none, and no lines
pub board_has : (time : ℕ) (own : SocketAddrV4) (were are : List Gateway) (had : List Station) (config : List GatewayConfig)
    → were ≡ [] → had ≡ [] → map known_as are ≡ map known_as were ++ gateways_from time own (length had) config
    → map known_as are ≡ gateways_from time own 0 config
board_has time own were are had config none empty all =
    all ∙ ap (λ (list : List Gateway). map known_as list ++ gateways_from time own (length had) config) none
    ∙ ap (λ (list : List Station). gateways_from time own (length list) config) empty

pub board_stands : (were are : List Gateway) → were ≡ [] → (All StandsNew were → All StandsNew are) → All StandsNew are
board_stands were are none all = all (subst (All StandsNew) (sym none) (All-nil StandsNew))

pub one_longer : (were are : List Gateway) (gateway : Gateway) → are ≡ were ++ gateway ∷ [] → length are ≡ length were + 1
one_longer were are gateway more = ap (λ (all : List Gateway). length all) more ∙ length-append were (gateway ∷ [])

-- Lines: one more of a gateway is put, for the digits whose turn it is

pub station_more : (gateway : ℕ) (domain : List ℕ) (line : ℕ) (name bytes number : List ℕ) (were are : List Station)
    → name ≡ name_text (One line) domain → number ≡ bytes
    → are ≡ were ++ (record { gateway = gateway; line = line; name = name; number = number; taken = 0 }) ∷ []
    → are ≡ were ++ new_station gateway domain line bytes ∷ []
station_more gateway domain line name bytes number were are name_is number_is more =
    more
    ∙ ap (λ (text : List ℕ). were ++ (record { gateway = gateway; line = line; name = text; number = number; taken = 0 }) ∷ []) name_is
    ∙ ap (λ (digits : List ℕ). were ++ new_station gateway domain line digits ∷ []) number_is

pub put_one : (gateway : ℕ) (domain : List ℕ) (before line : ℕ) (numbers : List (List ℕ)) (place : ℕ) (digits bytes : List ℕ)
    (all so_far next : List Station) → line ≡ min (before + 1) greatest_line → place < length numbers
    → digits ≡ get_or numbers place digits → bytes ≡ digits → next ≡ so_far ++ new_station gateway domain line bytes ∷ []
    → so_far ++ stations_behind gateway domain before (drop place numbers) ≡ all
    → next ++ stations_behind gateway domain line (drop (place + 1) numbers) ≡ all
put_one gateway domain before line numbers place digits bytes all so_far next line_is within item bytes_are next_is given =
    ap (λ (lines : List Station). lines ++ stations_behind gateway domain line (drop (place + 1) numbers)) next_is
    ∙ append_assoc so_far (new_station gateway domain line bytes ∷ []) (stations_behind gateway domain line (drop (place + 1) numbers))
    ∙ ap (λ (one : ℕ). so_far ++ new_station gateway domain one bytes ∷ stations_behind gateway domain one (drop (place + 1) numbers)) line_is
    ∙ ap (λ (one : List ℕ). so_far ++ stations_behind gateway domain before (one ∷ drop (place + 1) numbers)) (bytes_are ∙ item)
    ∙ ap (λ (left : List (List ℕ)). so_far ++ stations_behind gateway domain before left) (sym (drop_more numbers place digits within))
    ∙ given

-- a line for each
one_each : (gateway : ℕ) (domain : List ℕ) (before : ℕ) (numbers : List (List ℕ))
    → length (stations_behind gateway domain before numbers) ≡ length numbers
one_each gateway domain before [] = refl
one_each gateway domain before (digits ∷ more) =
    ap (λ (count : ℕ). suc count) (one_each gateway domain (min (before + 1) greatest_line) more)

-- so there are so many more
pub put_more : (had have : List Station) (gateway : ℕ) (domain : List ℕ) (numbers : List (List ℕ))
    → have ≡ had ++ stations_behind gateway domain 0 numbers → length have ≡ length had + length numbers
put_more had have gateway domain numbers all =
    ap (λ (lines : List Station). length lines) all
    ∙ length-append had (stations_behind gateway domain 0 numbers)
    ∙ ap (λ (count : ℕ). length had + count) (one_each gateway domain 0 numbers)

-- all of a gateway are
pub put_all : (gateway : ℕ) (domain : List ℕ) (before : ℕ) (numbers : List (List ℕ)) (place : ℕ) (all so_far : List Station)
    → length numbers ≤ place → so_far ++ stations_behind gateway domain before (drop place numbers) ≡ all → so_far ≡ all
put_all gateway domain before numbers place all so_far past given =
    let none : so_far ++ stations_behind gateway domain before (drop place numbers) ≡ so_far ++ []
    = ap (λ (left : List (List ℕ)). so_far ++ stations_behind gateway domain before left)
    (at_drop_all (λ (left : List (List ℕ)). left) numbers place past) in
    sym (append-nil so_far) ∙ sym none ∙ given

-- those of the gateway whose turn it is are put, which gets the next place
lined : (config : List GatewayConfig) (place : ℕ) (gateway : GatewayConfig) (domain : List ℕ) (many now : ℕ)
    (all so_far next : List Station) → place < length config → gateway ≡ get_or config place gateway → domain ≡ gateway.domain → now ≡ many + 1
    → next ≡ so_far ++ stations_behind many domain 0 gateway.numbers.items
    → so_far ++ stations_from many (drop place config) ≡ all → next ++ stations_from now (drop (place + 1) config) ≡ all
lined config place gateway domain many now all so_far next within item domain_is now_is next_is before =
    ap (λ (at : ℕ). next ++ stations_from at (drop (place + 1) config)) now_is
    ∙ ap (λ (lines : List Station). lines ++ stations_from (many + 1) (drop (place + 1) config)) next_is
    ∙ ap
    (λ (text : List ℕ).
    (so_far ++ stations_behind many text 0 gateway.numbers.items) ++ stations_from (many + 1) (drop (place + 1) config)) domain_is
    ∙ append_assoc so_far (stations_behind many gateway.domain 0 gateway.numbers.items) (stations_from (many + 1) (drop (place + 1) config))
    ∙ ap (λ (one : GatewayConfig). so_far ++ stations_from many (one ∷ drop (place + 1) config)) item
    ∙ ap (λ (left : List GatewayConfig). so_far ++ stations_from many left) (sym (drop_more config place gateway within))
    ∙ before

pub lined_one : (given config : List GatewayConfig) (place : ℕ) (gateway : GatewayConfig) (domain : List ℕ) (many now : ℕ)
    (all so_far next : List Station)
    → given ≡ config → place < length given → gateway ≡ get_or given place gateway → domain ≡ gateway.domain → now ≡ many + 1
    → next ≡ so_far ++ stations_behind many domain 0 gateway.numbers.items → so_far ++ stations_from many (drop place config) ≡ all
    → next ++ stations_from now (drop (place + 1) config) ≡ all
lined_one given config place gateway domain many now all so_far next same within item domain_is now_is next_is before =
    subst (λ (list : List GatewayConfig). next ++ stations_from now (drop (place + 1) list) ≡ all) same
    (lined given place gateway domain many now all so_far next within item domain_is now_is next_is
    (subst (λ (list : List GatewayConfig). so_far ++ stations_from many (drop place list) ≡ all) (sym same) before))

-- those of all gateways are
pub lined_all : (given config : List GatewayConfig) (place many : ℕ) (all so_far : List Station) → given ≡ config → length given ≤ place
    → so_far ++ stations_from many (drop place config) ≡ all → so_far ≡ all
lined_all given config place many all so_far same past before =
    let none : so_far ++ stations_from many (drop place given) ≡ so_far ++ []
    = ap (λ (left : List GatewayConfig). so_far ++ stations_from many left)
    (at_drop_all (λ (left : List GatewayConfig). left) given place past) in
    sym (append-nil so_far) ∙ sym none
    ∙ subst (λ (list : List GatewayConfig). so_far ++ stations_from many (drop place list) ≡ all) (sym same) before

-- on a board that had neither
pub board_lines : (were : List Gateway) (had have : List Station) (config : List GatewayConfig) → were ≡ [] → had ≡ []
    → have ≡ had ++ stations_from (length were) config → have ≡ stations_from 0 config
board_lines were had have config none empty all =
    all ∙ ap (λ (list : List Station). list ++ stations_from (length were) config) empty
    ∙ ap (λ (list : List Gateway). stations_from (length list) config) none
