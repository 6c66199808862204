-- Who is known, host by host, is who has one of all their addresses.
use Rattle.std.proofs.Common.{◌≡◌, ℕ, ◌≤◌, List, [], ◌∷◌, ◌++◌, length, take, refl, ◌∙◌, ap}
use Rattle.std.proofs.lemmas.List.{take_all}
use Rattle.std.proofs.lemmas.List.Sums.{fold-append}
use Rattle.std.specs.List.{fold}
use Rattle.std.specs.declared.net.ipv4_addr.Ipv4Addr.{Ipv4Addr}
use Rattle.endpoint_names.specs.declared.table.Host.{Host}
use Rattle.endpoint_names.specs.Route.{addresses}
use Rattle.plain_machine.specs.declared.setup.Setup.{Setup}
use Rattle.live_io.specs.Speaking.{Admitted, nobody, with_host}
use Rattle.live_gateway.specs.Admitting.{hosts_of, with_hosts, known_hosts, known_to}
use Rattle.live_gateway.specs.Naming.{Word, no_word, with_named_host, with_all, known_word}

-- what is made of all that several have, one behind another, is made of what each has
folded_each : {A B C : Type 0} (step : A → B → A) (parts : C → List B) (start : A) (front : List B) (list : List C)
    → fold step start (fold (λ all one. all ++ parts one) front list) ≡ fold (λ made one. fold step made (parts one)) (fold step start front) list
folded_each {A} step parts start front [] = refl
folded_each {A} step parts start front (one ∷ list) =
    folded_each step parts start (front ++ parts one) list
    ∙ ap (λ (made : A). fold (λ so_far next. fold step so_far (parts next)) made list) (fold-append step start front (parts one))

known_each : (setup : Setup) → with_hosts nobody (known_hosts setup) ≡ known_to setup
unfolding known_to
known_each setup =
    folded_each with_host (λ (host : Host). addresses host.route) nobody (addresses (hosts_of setup.agent.route)) setup.names.table

-- behind the last of them
pub admits_all : (setup : Setup) (admitted : Admitted) (hosts : List Ipv4Addr) (place : ℕ) → length hosts ≤ place
    → admitted ≡ with_hosts nobody (take place hosts) → hosts ≡ known_hosts setup → admitted ≡ known_to setup
admits_all setup admitted hosts place over so_far all =
    so_far ∙ ap (λ (list : List Ipv4Addr). with_hosts nobody list) (take_all place hosts over ∙ all) ∙ known_each setup

named_each : (setup : Setup) → (with_all no_word (known_hosts setup)).text ≡ known_word setup
unfolding known_word
named_each setup =
    ap (λ (word : Word). word.text)
    (folded_each with_named_host (λ (host : Host). addresses host.route) no_word (addresses (hosts_of setup.agent.route)) setup.names.table)

pub names_all : (setup : Setup) (word : Word) (hosts : List Ipv4Addr) (place : ℕ) → length hosts ≤ place
    → word ≡ with_all no_word (take place hosts) → hosts ≡ known_hosts setup → word.text ≡ known_word setup
names_all setup word hosts place over so_far all =
    ap (λ (w : Word). w.text) (so_far ∙ ap (λ (list : List Ipv4Addr). with_all no_word list) (take_all place hosts over ∙ all))
    ∙ named_each setup
