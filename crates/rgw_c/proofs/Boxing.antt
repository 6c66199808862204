-- A box of an instance becomes a pointer, and a pointer becomes a box again, as a call of each sees it. Assumes `Logic`.
--     Owner                     such a box, with its laws
--     one_value                 what is owned of a type with the laws is one machine value, of its type
--     R', Z'                    an instance and the allocator as a call passes them, with their laws
--     lets_heap, lets_instance  what a call passes to let them go; heap_goes, instance_goes  that it does
--     Raw, raw_asks, raw_tells  `into_raw` at the two: it asks for the box, and tells where the instance lies
--     Back, back_asks, back_tells  `from_raw`: it asks for an instance in its block, and gives a box of it
use Rattle.std.proofs.Common.{◌≡◌, ℕ, List, [], ◌∷◌, refl, ap, ◌∙◌}
use seplogic.Ra.Ura.{Ura}
use mir.Raw.{raw as bare}
use mir.Syntax.{Dict, Callee, impl, method, no_args, tnil, tcons, dnil}
use mir.Val.{Val, vptr}
use base.Fraction.{full_share}
use base.Logic.{SProp, ent, sep, ex, guard, emp, never, id⊢, fst∗, emp∗}
use base.Fml.{ftrue, fsep, flft}
use prog.Memory.{Memory}
use prog.Model.{Model}
use prog.Routine.{Routine}
use prog.Wired.{Wired}
use contract.BorrowLft.{◌⊑◌, ⊑_refl}
use contract.Monad.{Fun, fact, fact_i}
use contract.Running.{Running}
use types.Logic.{Logic, sem}
use types.Kit.{Goal, Item, Seq, Step, step, ‵, raw, ◌⊛◌, some, later, ◌$◌, ◌∵◌, !, qed, move, keep, drop, use0, use1}
use types.Kit.{split, split3, join, fjoin, feq_i, feq_l, pick, check, show, await, updating, now, done}
use denote.Exit.{no}
use denote.RattleType.{RattleType}
use denote.RawPtr.{Ptr, RawPtr, block_ptr, null_ptr, ptr_val, in_a_block}
use denote.Memory.{lone}
use denote.Param.{arg, layout}
use denote.Param.Glue as glue
use denote.Param.Laws.{Laws, arg_laws}
use denote.Param.NoDrop as no_drop
use denote.Steps.{only, nothing, heard}
use denote.Triple.Carry.{beside, spared}
use denote.Triple.Clauses.{Lasts, lasts}
use denote.Triple.Spec.{Spec, triple_of}
use denote.Triple.Statement.{Contract}
use denote.Triple.Table.{run_framed, widened}
use Rattle.core.proofs.alloc.Calls.{handle_tells}
use Rattle.core.proofs.cell.Inside.{Good}
use Rattle.std.specs.Prelude.{Some}
use Rattle.std.specs.contracts.impls.GlobalAllocator.TheImpl.{ghosts, dict}
use Rattle.std.proofs.alloc.Global.TheLaws as of_heap
use Rattle.std_alloc.specs.contracts.boxed.Box as box
use Rattle.std_alloc.proofs.boxed.Box.TheLaws as of_box
use Rattle.std_alloc.specs.contracts.boxed.Box.into_raw as into_raw
use Rattle.std_alloc.specs.contracts.boxed.Box.from_raw as from_raw
use Rattle.rgw_c.specs.Held.{heap, held_at}
use Rattle.rgw_c.specs.contracts.rgw_c++instance++Instance+Destruct.drop as instance_drop
use Rattle.rgw_c.proofs.rgw_c++instance++Instance+Destruct.drop.Symbol as instance_drop_code
use Rattle.rgw_c.proofs.rgw_c++instance++Instance+Destruct.drop.Met as instance_dropped
use Rattle.rgw_c.proofs.Destruct++none.drop.Symbol as none
use Rattle.rgw_c.proofs.instance.Instance.TheLaws as of_instance
use Rattle.rgw_c.proofs.Handles.{R, Z}

abbrev pub Owner : RattleType
Owner = box.the_row R Z ghosts

abbrev pub owner_laws : Laws Owner
owner_laws = of_box.the_row_laws R Z ghosts of_instance.the_row_laws of_heap.the_row_laws

abbrev pub R' : RattleType
R' = arg (bare (layout R)) no R

abbrev pub Z' : RattleType
Z' = arg (bare (layout Z)) no Z

pub instance_laws : Laws R'
instance_laws = arg_laws (bare (layout R)) no R of_instance.the_row_laws refl

pub heap_laws : Laws Z'
heap_laws = arg_laws (bare (layout Z)) no Z of_heap.the_row_laws refl

abbrev pub lets_heap : Dict
lets_heap = impl ("rgw_c::Destruct++none::drop" ∷ []) (tcons (layout Z') tnil) dnil

abbrev pub lets_instance : Dict
lets_instance = impl ("rgw_c::rgw_c++instance++Instance+Destruct::drop" ∷ []) tnil dnil

-- what a call asks of the lifetimes of two types: these reach nothing, and are alive always
module _ {M : Type 1} {𝓤 : Ura M} where
  abbrev Within : Item 𝓤 → Item 𝓤
  Within P = raw (fact 𝓤 ([] ⊑ [])) ⊛ raw (fact 𝓤 ([] ⊑ [])) ⊛ P

  abbrev Alive : Item 𝓤
  Alive = ‵ (flft [] full_share) ⊛ ‵ (flft [] full_share) ⊛ ‵ ftrue

module _ {M : Type 1} {𝓤 : Ura M} {𝓛 : Logic 𝓤} {K : Type 0} {Γ : List (Item 𝓤)} {G : Goal 𝓤 𝓛.H} where
  pub one_value : K → (X : RattleType) → Laws X → (x : X.Denot) (vs : List Val)
      → ((v : Val) → vs ≡ v ∷ [] → Good (layout X) v → Seq K 𝓛 (‵ (X.own_val x (v ∷ [])) ∷ Γ) G)
      → Seq K 𝓛 (‵ (X.own_val x vs) ∷ Γ) G
  one_value t X L = let some_dict : Dict = impl [] tnil dnil in
      handle_tells (record { row = X; laws = L; g = record { dealloc_token = λ a τ p. ftrue }; d = some_dict; drops = some_dict }) t

  within : K → (P : Item 𝓤) → Step K 𝓛 (Within P ∷ Γ) G (P ∷ Γ) G
  within t P = step (λ s. let always = fact_i 𝓤 ([] ⊑ []) (emp 𝓤) (⊑_refl []) in
      use0 𝓛 (raw (fact 𝓤 ([] ⊑ []))) always $ join t $ use0 𝓛 (raw (fact 𝓤 ([] ⊑ []))) always $ join t $ s)

  alive : K → Step K 𝓛 (Alive ∷ Γ) G Γ G
  alive t = step (λ s. let token = 𝓛.lfts.lft-nil full_share in
      nothing t $ use0 𝓛 (‵ (flft [] full_share)) token $ join t $ use0 𝓛 (‵ (flft [] full_share)) token $ join t $ s)

module _ {M : Type 1} {𝓤 : Ura M} (𝓛 : Logic 𝓤) (at_mem : Memory → SProp 𝓤) (run : Routine → Fun 𝓤) where
  open 𝓛 use {H}

  abbrev pub Raw : Contract 𝓤
  Raw = triple_of 𝓛 (into_raw.signature R' Z' ghosts dict lets_heap lets_instance)
      (into_raw.spec R' Z' ghosts dict lets_heap lets_instance 𝓛 at_mem run)

  abbrev pub Back : Contract 𝓤
  Back = triple_of 𝓛 (from_raw.signature R' Z' ghosts dict lets_heap) (from_raw.spec R' Z' ghosts dict lets_heap 𝓛 at_mem run)

  module _ (d : Owner.Denot) (w : Val) where
    abbrev pub at_raw : Raw.Ghost
    at_raw = ((([], ([], tt)), (full_share, (full_share, tt)), tt, (d, tt), (w ∷ [], tt)), tt)

    pub raw_asks : ent 𝓤 (sem 𝓛 (Owner.own_val d (w ∷ []))) (Raw.pre at_raw)
    raw_asks = qed 𝓛 (‵ (Owner.own_val d (w ∷ [])) ∷ []) ∵
        nothing ! $ within ! (‵ ftrue) $ nothing ! $ move ! (2 ∷ 0 ∷ []) $ fjoin ! $ alive ! $ join ! $ done !

    abbrev Lies : ℕ → ℕ → Val → SProp 𝓤
    Lies b o v = guard 𝓤 (v ≡ vptr b o) (sem 𝓛 (held_at (block_ptr b o) (Some d.value)))

    pub raw_tells : (v : Val) → ent 𝓤 (Raw.post at_raw v) (H.⇛ (ex 𝓤 (λ (b : ℕ). ex 𝓤 (λ (o : ℕ). Lies b o v))))
    raw_tells v = let Ended = into_raw.ended R' Z' ghosts dict lets_heap lets_instance in
        qed 𝓛 (raw (Raw.post at_raw v) ∷ []) ∵ updating ! $
        use1 𝓛 (later (some (λ (p : Ptr). (Alive ⊛ ‵ (RawPtr.own_val p (v ∷ []))) ⊛
        some (λ (ws : Lasts Ended ([], ([], tt)) (d, tt)).
        ‵ (lasts Ended ([], ([], tt)) (d, tt) ws) ⊛ ‵ (held_at p (Some d.value)))))) (id⊢ 𝓤 _) $
        await ! tt $ pick ! (λ p. split ! $ move ! (1 ∷ []) $ pick ! (λ ws. split ! $ drop ! $
        move ! (1 ∷ []) $ split ! $ drop ! $ feq_l ! (λ e.
        let nowhere = fst∗ 𝓤 (never 𝓤) (sem 𝓛 (ghosts.dealloc_token heap (bare (lone R.mir)) null_ptr)) in
        in_a_block ! p (λ q. held_at q (Some d.value)) nowhere (λ b o at.
        now ! $ show ! (λ (b' : ℕ). ex 𝓤 (λ (o' : ℕ). Lies b' o' v)) b $ show ! (λ (o' : ℕ). Lies b o' v) o $
        check ! (ap only e ∙ ap (λ (q : Ptr). only (ptr_val q ∷ [])) at) $ done !))))

  module _ (b o : ℕ) (x : R.Denot) (a : Z.Denot) (h : Val) where
    abbrev pub at_back : Back.Ghost
    at_back = ((([], ([], tt)), (full_share, (full_share, tt)), tt, (a, (block_ptr b o, tt)), (h ∷ [], (vptr b o ∷ [], tt))), x)

    pub back_asks : ent 𝓤 (sep 𝓤 (sem 𝓛 (held_at (block_ptr b o) (Some x))) (sem 𝓛 (Z.own_val a (h ∷ [])))) (Back.pre at_back)
    back_asks = let there : Item 𝓤 = ‵ (held_at (block_ptr b o) (Some x)) in
        qed 𝓛 (there ∷ ‵ (Z.own_val a (h ∷ [])) ∷ []) ∵ within ! there $
        nothing ! $ feq_i ! (List Val) (vptr b o ∷ []) (vptr b o ∷ []) refl $ fjoin ! $ move ! (2 ∷ 0 ∷ []) $ fjoin ! $
        alive ! $ join ! $ done !

    abbrev Boxes : Owner.Denot → Val → SProp 𝓤
    Boxes r v = guard 𝓤 (r.value ≡ x) (sem 𝓛 (Owner.own_val r (v ∷ [])))

    pub back_tells : (v : Val) → ent 𝓤 (Back.post at_back v) (H.⇛ (ex 𝓤 (λ (r : Owner.Denot). Boxes r v)))
    back_tells v = let Ended = from_raw.ended R' Z' ghosts dict lets_heap in
        qed 𝓛 (raw (Back.post at_back v) ∷ []) ∵ updating ! $
        use1 𝓛 (later (some (λ (r : Owner.Denot). (Alive ⊛ ‵ (Owner.own_val r (v ∷ []))) ⊛
        some (λ (ws : Lasts Ended ([], ([], tt)) (a, (block_ptr b o, tt))).
        ‵ (lasts Ended ([], ([], tt)) (a, (block_ptr b o, tt)) ws) ⊛
        raw (fact 𝓤 (r.value ≡ x)) ⊛ raw (fact 𝓤 (r.alloc ≡ a)))))) (id⊢ 𝓤 _) $
        await ! tt $ pick ! (λ r. split ! $ move ! (1 ∷ []) $ pick ! (λ ws. split3 ! $ drop ! $ heard ! (r.value ≡ x) (λ is.
        drop ! $ split ! $ drop ! $ now ! $ show ! (λ (z : Owner.Denot). Boxes z v) r $ check ! is $ done !)))

module _ {M : Type 1} (𝓤 : Ura M) (𝓛 : Logic 𝓤) (𝓜 : Model 𝓤 𝓛.H) (𝓡 : Running 𝓤 𝓛.H 𝓜) where
  pub heap_goes : Wired 𝓡.env none.code → glue.Met 𝓛 𝓜 𝓡 𝓡.env Z' lets_heap
  unfolding Rattle.rgw_c.proofs.Destruct++none.drop.Code.code
  heap_goes w = no_drop.glues "rgw_c::Destruct++none::drop" 𝓡.env w Z' heap_laws M 𝓤 𝓛 𝓜 𝓡

  -- an instance's drop, of which nothing is said
  abbrev Gone : Spec 𝓤 instance_drop.signature
  Gone κs a = record { ghost = Unit {0}; requires = λ g. emp 𝓤; ensures = λ g r. (glue.spent 𝓛 R' ([], tt) a).ensures g r }

  pub instance_goes : Wired 𝓡.env instance_drop_code.code → glue.Met 𝓛 𝓜 𝓡 𝓡.env R' lets_instance
  instance_goes w =
      let S = instance_drop.signature in let said = instance_drop.spec 𝓛 𝓜.mem 𝓡.returns in
      let k : Callee = method lets_instance 0 no_args in let framed = run_framed 𝓤 𝓛.H 𝓜 𝓡 (𝓡.env k) in
      spared 𝓛 S (𝓡.run (𝓡.env k)) framed 1 (R'.lives, tt) Gone
      (beside 𝓛 S (𝓡.run (𝓡.env k)) framed said Gone (λ κs a g. tt) (λ κs a g. emp 𝓤) (λ κs a g. emp∗ 𝓤 (emp 𝓤))
      (λ κs a g r. qed 𝓛 (raw ((said κs a).ensures tt r) ∷ raw (emp 𝓤) ∷ []) ∵ keep ! [] $
      show ! (λ (ws : Unit {0} × Unit {0}). sep 𝓤 (sem 𝓛 (fsep ftrue ftrue)) (emp 𝓤)) (tt, tt) $
      nothing ! $ nothing ! $ nothing ! $ join ! $ done !)
      (widened 𝓤 𝓛.H (triple_of 𝓛 S said) 𝓜 𝓡 𝓡.env (𝓡.env instance_drop_code.name) (𝓡.env k)
      (instance_drop_code.as_method 𝓡.env w k refl) (instance_dropped.met 𝓤 𝓛 𝓜 𝓡 w)))
