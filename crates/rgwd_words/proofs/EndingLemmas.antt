-- How a program ends that is refused a socket, whatever the system says; and what pieces say.
use Rattle.std.proofs.Common.{◌≡◌, ℕ, Bool, true, false, List, [], ◌∷◌, ◌++◌, map, Bor, refl, sym, ap, true≢false}
use Rattle.std.specs.Prelude.{◌≢◌, nat_le}
use Rattle.std.specs.List.{flat_map}
use Rattle.std.specs.declared.io.ErrorKind.{ErrorKind}
use Rattle.std.specs.declared.io.ErrorKind.TheVariants as kinds
use Rattle.std.specs.declared.net.socket_addr.SocketAddrV4.{SocketAddrV4}
use Rattle.live_system.specs.declared.address_words.AddressWord.{AddressWord}
use Rattle.live_system.specs.declared.ending.CommonEnding.{CommonEnding}
use Rattle.live_system.specs.declared.ending.CommonEnding.TheVariants as endings
use Rattle.live_system.specs.Ending.{status_of as common_status}
use Rattle.live_system.specs.Wording.{joined, piece_text}

-- what is so where something is, and where it isn't, is so
in_each_case : {A : Type 0} (fails : Bool) → (A → fails ≡ true) → ((A → ⊥) → fails ≡ true) → fails ≡ true
in_each_case true is is_not = refl
in_each_case false is is_not = is_not (λ a. true≢false (sym (is a)))

pub unbound_fails : {word : AddressWord} {address : SocketAddrV4} {kind : ErrorKind} {ending : CommonEnding}
    → (kind ≡ kinds.OutOfMemory → ending ≡ endings.OutOfMemory) → (kind ≢ kinds.OutOfMemory → ending ≡ endings.Unbound word address kind)
    → nat_le 2 (common_status ending) ≡ true
unbound_fails {word} {address} {kind} {ending} memory other = in_each_case (nat_le 2 (common_status ending))
    (λ refused. ap (λ (e : CommonEnding). nat_le 2 (common_status e)) (memory refused))
    (λ told. ap (λ (e : CommonEnding). nat_le 2 (common_status e)) (other told))

-- pieces that are lent say what their texts say
pub joined_pieces : (pieces : List (Bor (List ℕ))) → flat_map piece_text pieces ≡ joined (map piece_text pieces)
joined_pieces [] = refl
joined_pieces (piece ∷ more) = ap (λ (text : List ℕ). piece.now ++ text) (joined_pieces more)
