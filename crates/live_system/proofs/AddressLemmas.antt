-- Where a text says no address.
use Rattle.std.proofs.Common.{◌≡◌, ℕ, List, Option, None, sym, subst}
use Rattle.std.specs.Net.Grammar.{IsSocketV4Text}
use Rattle.std.specs.declared.net.socket_addr.SocketAddrV4.{SocketAddrV4}
use Rattle.live_system.specs.Addresses.{local_port, IsAddressBy, IsAddress}

pub no_address : (text : List ℕ) → local_port text ≡ None → ((address : SocketAddrV4) → ¬ (IsSocketV4Text text address))
    → (address : SocketAddrV4) → ¬ (IsAddress text address)
no_address text none wrong address = subst (λ (port : Option ℕ). ¬ (IsAddressBy port text address)) (sym none) (wrong address)
