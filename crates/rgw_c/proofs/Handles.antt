-- The machine value of a `Handle`. Assumes `Logic`.
--     R, Z, Held            an instance, the allocator and a handle, as rows;  word  a handle's machine value, of its pointer's
--     held_in               a handle is made of its pointer and what is there
--     held_out              a handle by value is one of the two, and its pointer can be compared with null
use Rattle.std.proofs.Common.{◌≡◌, ℕ, List, [], ◌∷◌, ◌++◌, refl, subst, lit<}
use seplogic.Ra.Ura.{Ura}
use mir.Raw.{raw as bare}
use mir.Syntax.{ty_ptr}
use mir.Val.{Val, vptr, vstruct, vcons, vnil, of_list, has_ty, WT}
use base.Logic.{ent, guard, via, guard_i, never, fst∗, snd∗}
use base.Fraction.{full_share}
use lib.Dec.{T}
use mathlib.Core.Bool.{true, ◌&&◌}
use types.Logic.{Logic, sem}
use types.Kit.{Item, Goal, Seq, Step, step, ‵, given, ◌$◌, drop, use1, learn, fsplit, fjoin, fpick, fpack, feq_i, feq_l}
use contract.Monad.{fact_use}
use denote.RattleType.{RattleType, Valss}
use denote.Builtin.{RawPtr}
use denote.Memory.{lone}
use denote.RawPtr.{Ptr, block_ptr, null_ptr, ptr_val, in_a_block, lies_at, Testable}
use denote.Steps.{nothing}
use denote.Struct.Struct.{within}
use denote.Struct.Owning.{shape}
use Rattle.std.specs.Prelude.{Option, Some, None}
use Rattle.std.specs.contracts.alloc.Global as global
use Rattle.std.specs.contracts.impls.GlobalAllocator.TheImpl.{ghosts}
use Rattle.std.proofs.GlobalToken.{dealloc_token-Testable}
use Rattle.rgw_c.specs.contracts.instance.Instance as instance
use Rattle.rgw_c.specs.Held.{heap, held_at}
use Rattle.rgw_c.specs.contracts.handle.Handle as handle

abbrev pub R : RattleType
R = instance.the_row

abbrev pub Z : RattleType
Z = global.the_row

abbrev pub Held : RattleType
Held = handle.the_row

abbrev pub word : Val → Val
word v = vstruct (vcons v vnil)

-- the null pointer has its type
pub null_good : T (has_ty ty_ptr (ptr_val null_ptr) && true) × WT (word (ptr_val null_ptr))
null_good = (tt, (record { fits = lit< tt }, tt))

-- the right to free a block says that its pointer can be compared with null
comparable : {M : Type 1} {𝓤 : Ura M} (𝓛 : Logic 𝓤) (p : Ptr) (x : R.Denot)
    → ent 𝓤 (sem 𝓛 (held_at p (Some x))) (guard 𝓤 (Testable p) (sem 𝓛 (held_at p (Some x))))
comparable {𝓤 = 𝓤} 𝓛 p x = let right = ghosts.dealloc_token heap (bare (lone R.mir)) p in
    fact_use 𝓤 (Testable p) (via 𝓤 (sem 𝓛 right) (snd∗ 𝓤 (sem 𝓛 (lies_at R full_share p x)) (sem 𝓛 right))
    (dealloc_token-Testable 𝓛 heap (bare (lone R.mir)) p)) (guard_i 𝓤 (Testable p) (sem 𝓛 (held_at p (Some x))))

module _ {M : Type 1} {𝓤 : Ura M} {𝓛 : Logic 𝓤} {K : Type 0} {Γ : List (Item 𝓤)} {G : Goal 𝓤 𝓛.H} where
  pub held_in : K → (p : Ptr) (m : Option R.Denot)
      → Step K 𝓛 (‵ (Held.own_val (record { at = p; held = m }) (word (ptr_val p) ∷ [])) ∷ Γ) G (‵ (held_at p m) ∷ Γ) G
  held_in t p m = step (λ s. let v : Val = ptr_val p in
      nothing t $ feq_i t (List Val) (v ∷ []) (v ∷ []) refl $ fjoin t $ feq_i t (List Val) (word v ∷ []) (word v ∷ []) refl $ fjoin t $
      fpack t (Valss (RawPtr ∷ [])) (within (shape handle.the_type) (p, tt) (word v ∷ [])) (v ∷ [], tt) $ fjoin t $ s)

  either : K → (p : Ptr) (m : Option R.Denot) → (m ≡ None → p ≡ null_ptr → Seq K 𝓛 Γ G)
      → ((b o : ℕ) (x : R.Denot) → m ≡ Some x → p ≡ block_ptr b o → Testable (block_ptr b o)
      → Seq K 𝓛 (‵ (held_at (block_ptr b o) (Some x)) ∷ Γ) G)
      → Seq K 𝓛 (‵ (held_at p m) ∷ Γ) G
  either t p None none one = feq_l t (λ e. none refl e)
  either t p (Some x) none one =
      let nowhere = fst∗ 𝓤 (never 𝓤) (sem 𝓛 (ghosts.dealloc_token heap (bare (lone R.mir)) null_ptr)) in
      in_a_block t p (λ q. held_at q (Some x)) nowhere (λ b o e.
      use1 𝓛 (given (Testable (block_ptr b o)) (‵ (held_at (block_ptr b o) (Some x)))) (comparable 𝓛 (block_ptr b o) x) $
      learn t (λ tested. one b o x refl e tested))

  pub held_out : K → (d : Held.Denot) (vs : List Val) → (d.held ≡ None → vs ≡ word (ptr_val null_ptr) ∷ [] → Seq K 𝓛 Γ G)
      → ((b o : ℕ) (x : R.Denot) → d.held ≡ Some x → vs ≡ word (vptr b o) ∷ [] → Testable (block_ptr b o)
      → Seq K 𝓛 (‵ (held_at (block_ptr b o) (Some x)) ∷ Γ) G)
      → Seq K 𝓛 (‵ (Held.own_val d vs) ∷ Γ) G
  held_out t d vs none one =
      fsplit t $ fpick t (λ vss. fsplit t $ feq_l t (λ ev. fsplit t $ feq_l t (λ ep. drop t $
      let at_word : Ptr → Type 0 = λ p. vs ≡ word (ptr_val p) ∷ [] in
      let laid : at_word d.at = subst (λ (ps : List Val). vs ≡ vstruct (of_list (ps ++ [])) ∷ []) ep ev in
      either t d.at d.held (λ m e. none m (subst at_word e laid)) (λ b o x m e tested. one b o x m (subst at_word e laid) tested))))
