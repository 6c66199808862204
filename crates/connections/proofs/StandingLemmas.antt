-- What stands after a deletion that was planned, and what an audit tells.
use Rattle.std.proofs.Common.{◌≡◌, ℕ, zero, suc, ◌<◌, Bool, List, [], ◌∷◌, length, get_or, take, map, refl, sym, ap, ◌∙◌, arith, Option, Some, None}
use Rattle.std.specs.Prelude.{Ok}
use Rattle.connections.specs.declared.connection.Connection.{Connection}
use Rattle.connections.specs.declared.deletion.Deletion.{Deletion}
use Rattle.connections.specs.declared.plan.Plan.TheVariants.{Empty}
use Rattle.connections.specs.Places.{holds_id, place_where}
use Rattle.connections.specs.Planning.{emptied, committed, planned_alone}
use Rattle.connections.specs.Standing.{Standing, described, is_emptied, without, refused, deleted, audited}
use Rattle.connections.proofs.PlaceLemmas.{emptied_all, emptied_meant}

abbrev holding : Standing → List (Option Connection) → Standing
holding was places = record was { places = places }

pub deletion_planned : (deletion : Deletion) (was : Standing) (those : List Bool) → refused deletion was.places ≡ None
    → those ≡ map (is_emptied deletion) was.places → planned_alone (Ok (Empty those)) was ≡ deleted deletion was
unfolding deleted
deletion_planned deletion was those taken meant =
    let e : holding was (emptied those was.places) ≡ holding was (map (without deletion) was.places) =
    ap (λ (list : List Bool). holding was (emptied list was.places)) meant ∙ ap (holding was) (emptied_meant deletion was.places) in
    rw taken (ap Ok e)

pub emptied_up_to : (those : List Bool) (was : Standing) (places : List (Option Connection)) (n : ℕ) → length was.places ≡ 4 → n ≡ 4
    → places ≡ emptied (take n those) was.places → holding was places ≡ committed (Empty those) was
emptied_up_to those was places n four all made =
    ap (holding was) (made ∙ emptied_all n those was.places (omega arith))

-- an element doesn't depend on what stands for one that there isn't
get_or_any : {A : Type 0} (xs : List A) (n : ℕ) (d e : A) → n < length xs → get_or xs n d ≡ get_or xs n e
get_or_any [] n d e few = absurd (omega arith)
get_or_any (x ∷ xs) zero d e few = refl
get_or_any (x ∷ xs) (suc n) d e few = get_or_any xs n d e (omega arith)

pub audited_at : (id : List ℕ) (was : Standing) (place : ℕ) (connection : Connection) (held : Option Connection)
    → Some place ≡ place_where (holds_id id) was.places → place < length was.places → get_or was.places place held ≡ Some connection
    → Ok (record { connection = connection; description = described was place connection }) ≡ audited id was
unfolding audited
audited_at id was place connection held found inside here =
    let e : get_or was.places place None ≡ Some connection = get_or_any was.places place None held inside ∙ here in
    rw (sym found) (rw e refl)
