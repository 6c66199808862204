-- The configured names of hosts, each with its addresses. They stand for DNS (this gateway's profile).
use Rattle.std.specs.Prelude.{ℕ, nat_le, Bool, ◌&&◌, ◌||◌, ◌==◌, if◌then◌else◌, List, [], ◌∷◌, length, not, nat_lt, Option, Some, None}
use Rattle.std.specs.List.{list_all, list_any}
use Rattle.std.specs.Char.{is_ascii_alphanumeric}
use Rattle.std.specs.declared.net.ipv4_addr.Ipv4Addr.{Ipv4Addr}
use Rattle.endpoint_names.specs.declared.route.Route.{Route}
use Rattle.mg_bytes.specs.Bytes.{hyphen, full_stop}
use Rattle.mg_bytes.specs.Checks.{unless, first_fault}
use Rattle.mg_bytes.specs.Case.{same_but_case}
use Rattle.endpoint_names.specs.declared.table.Host.{Host}
use Rattle.endpoint_names.specs.declared.table.TableFault.{TableFault}
use Rattle.endpoint_names.specs.declared.table.TableFault.TheVariants.{NotADomain, Twice, Full}

-- a letter, a digit, `-` or `.`
abbrev pub is_domain_byte : ℕ → Bool
is_domain_byte b = is_ascii_alphanumeric b || b == hyphen || b == full_stop

-- the most bytes of a domain name, and the most names of a table
abbrev pub longest_domain : ℕ
longest_domain = 64

abbrev pub most_hosts : ℕ
most_hosts = 64

-- 1 to 64 of these
abbrev pub is_domain : List ℕ → Bool
is_domain text = nat_le 1 (length text) && nat_le (length text) longest_domain && list_all is_domain_byte text

-- the addresses of the first host with this name, without case
unfoldable pub route_to : List Host → List ℕ → Option (Route Ipv4Addr)
route_to [] name = None
route_to (host ∷ hosts) name =
    if same_but_case host.name name then Some host.route else route_to hosts name

-- a host of the table has this name, without case
abbrev pub has_name : List Host → List ℕ → Bool
has_name hosts name = list_any (λ host. same_but_case host.name name) hosts

-- why a name can't be added
abbrev pub fault_of : List Host → List ℕ → Option TableFault
fault_of hosts name = first_fault
    (unless (is_domain name) NotADomain
    ∷ unless (not (has_name hosts name)) Twice
    ∷ unless (nat_lt (length hosts) most_hosts) Full
    ∷ [])

-- a fault's number, from 1
abbrev pub table_fault_number : TableFault → ℕ
table_fault_number NotADomain = 1
table_fault_number Twice = 2
table_fault_number Full = 3
