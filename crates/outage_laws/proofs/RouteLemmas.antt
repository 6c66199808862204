-- Each send of a message goes to one of the addresses of its route.
use Rattle.std.proofs.Common.{◌≡◌, ℕ, zero, suc, true, List, [], ◌∷◌, inl, inr, refl, sym, subst}
use Rattle.std.specs.Prelude.{◌⊎◌}
use Rattle.std.specs.List.{list_any, slice_index_or}
use Rattle.std.proofs.lemmas.List.Folds.{list_any-from_Any}
use Rattle.std.specs.declared.net.socket_addr.SocketAddrV4.{SocketAddrV4}
use Rattle.endpoint_names.specs.declared.route.Route.{Route}
use Rattle.endpoint_names.specs.declared.route.Route.TheVariants.{One, Two, Three, Four}
use Rattle.endpoint_names.specs.Route.{at}
use Rattle.transmission.specs.Packing.{same_address}
use Rattle.machine_laws.specs.Saying.{OneOf}
use Rattle.machine_laws.proofs.EachLemmas.{any_from_one, one_weaker}
use Rattle.agent_core.specs.World.{is_among}
use Rattle.world_laws.proofs.PostedFinal.{address_itself}

abbrev IsIn : SocketAddrV4 → List SocketAddrV4 → Type 0
IsIn a all = OneOf (λ (b : SocketAddrV4). b ≡ a) all

-- one of a list, or what stands for one that isn't in it
one_or : (all : List SocketAddrV4) (place : ℕ) (other : SocketAddrV4) → (slice_index_or all place other ≡ other) ⊎ IsIn (slice_index_or all place other) all
one_or [] place other = inl refl
one_or (a ∷ all) zero other = inr (inl refl)
one_or (a ∷ all) (suc place) other = by_rest (one_or all place other) where
  by_rest : (slice_index_or all place other ≡ other) ⊎ IsIn (slice_index_or all place other) all
      → (slice_index_or all place other ≡ other) ⊎ ((a ≡ slice_index_or all place other) ⊎ IsIn (slice_index_or all place other) all)
  by_rest (inl same) = inl same
  by_rest (inr there) = inr (inr there)

among : (all : List SocketAddrV4) (place : ℕ) (other : SocketAddrV4) → IsIn other all → list_any (same_address (slice_index_or all place other)) all ≡ true
among all place other there =
    list_any-from_Any (same_address a) all
    (any_from_one (λ (b : SocketAddrV4). same_address a b ≡ true) all
    (one_weaker (λ (b : SocketAddrV4). b ≡ a) (λ (b : SocketAddrV4). same_address a b ≡ true)
    (λ b same. subst (λ (x : SocketAddrV4). same_address a x ≡ true) (sym same) (address_itself a)) all (by_case (one_or all place other)))) where
      a : SocketAddrV4
      a = slice_index_or all place other

      by_case : (slice_index_or all place other ≡ other) ⊎ IsIn (slice_index_or all place other) all → IsIn (slice_index_or all place other) all
      by_case (inl same) = subst (λ (x : SocketAddrV4). IsIn x all) (sym same) there
      by_case (inr is) = is

pub at_among : (route : Route SocketAddrV4) (send : ℕ) → is_among route (at route send) ≡ true
unfolding at
at_among (One a) send = among (a ∷ []) _ a (inl refl)
at_among (Two a b) send = among (a ∷ b ∷ []) _ a (inl refl)
at_among (Three a b c) send = among (a ∷ b ∷ c ∷ []) _ a (inl refl)
at_among (Four a b c d) send = among (a ∷ b ∷ c ∷ d ∷ []) _ a (inl refl)
