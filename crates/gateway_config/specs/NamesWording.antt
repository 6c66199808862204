-- What is told of hosts that are none (this gateway's profile).
use Rattle.std.specs.Prelude.{ℕ, true, false, codes, List, [], ◌∷◌, ◌++◌, Option, Some, None}
use Rattle.std.specs.declared.net.ipv4_addr.Ipv4Addr.{Ipv4Addr}
use Rattle.toml.specs.Data.{Data, Members, no_members, member, as_table}
use Rattle.log_format.specs.Grouping.{number_shown}
use Rattle.endpoint_names.specs.declared.route.Route.{Route}
use Rattle.endpoint_names.specs.declared.table.Host.{Host}
use Rattle.endpoint_names.specs.declared.table.TableFault.{TableFault}
use Rattle.endpoint_names.specs.declared.table.TableFault.TheVariants.{NotADomain, Twice, Full}
use Rattle.endpoint_names.specs.Route.{most_addresses}
use Rattle.endpoint_names.specs.Table.{most_hosts, fault_of}
use Rattle.rgw_scripts.specs.Configuration.{count_of, route_in}
use Rattle.gateway_config.specs.Pieces.{text_shown, value_shown, domain_wanted}

-- the first host whose value gives no addresses
abbrev pub unread_by : Option (Route Ipv4Addr) → List ℕ × Data → Option (List ℕ × Data) → Option (List ℕ × Data)
unread_by None host behind = Some host
unread_by (Some route) host behind = behind

unfoldable pub unread_host : Members → Option (List ℕ × Data)
unread_host no_members = None
unread_host (member name value members) = unread_by (route_in value) (name, value) (unread_host members)

-- the first that a gateway with these hosts can't take, behind those before it, and why
abbrev pub refused_by : Option TableFault → List ℕ → Option (List ℕ × TableFault) → Option (List ℕ × TableFault)
refused_by (Some fault) name behind = Some (name, fault)
refused_by None name behind = behind

abbrev pub routed_by : Option (Route Ipv4Addr) → (Route Ipv4Addr → Option (List ℕ × TableFault)) → Option (List ℕ × TableFault)
routed_by None behind = None
routed_by (Some route) behind = behind route

unfoldable pub refused_host : List Host → Members → Option (List ℕ × TableFault)
refused_host hosts no_members = None
refused_host hosts (member name value members) = routed_by (route_in value) (λ route.
    refused_by (fault_of hosts name) name (refused_host (hosts ++ (record { name = name; route = route }) ∷ []) members))

-- what stands in the place of a host's addresses, and what may
abbrev pub unread_told : List ℕ → Data → List ℕ
unread_told name value =
    text_shown false name ++ codes " = " ++ value_shown true value
    ++ codes ", wanted an IPv4 address, as \"10.0.0.7\", or a list of 1 to " ++ number_shown most_addresses

-- why a gateway can't take a host of so many
abbrev pub refused_told : ℕ → List ℕ → TableFault → List ℕ
refused_told count name NotADomain = text_shown false name ++ codes ", wanted " ++ domain_wanted
refused_told count name Twice = text_shown false name ++ codes " stands twice"
refused_told count name Full = number_shown count ++ codes " hosts, wanted at most " ++ number_shown most_hosts

abbrev pub refusal_by : Option (List ℕ × TableFault) → ℕ → List ℕ
refusal_by None count = []
refusal_by (Some refused) count = refused_told count refused.0 refused.1

-- one that can't be read comes first
abbrev pub hosts_by : Option (List ℕ × Data) → Members → List ℕ
hosts_by (Some unread) hosts = unread_told unread.0 unread.1
hosts_by None hosts = refusal_by (refused_host [] hosts) (count_of hosts)

abbrev pub hosts_told : Members → List ℕ
hosts_told hosts = hosts_by (unread_host hosts) hosts

abbrev pub names_by : Option Members → Data → List ℕ
names_by (Some hosts) value = hosts_told hosts
names_by None value = value_shown true value ++ codes ", wanted a table [names]"

-- what stands in the place of hosts, and what may
abbrev pub names_told : Data → List ℕ
names_told value = names_by (as_table value) value
