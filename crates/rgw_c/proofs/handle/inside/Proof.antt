-- `inside` compares the pointer with null, and makes a box of one that isn't.
use Rattle.std.proofs.Common.{◌≡◌, List, [], ◌∷◌, ◌++◌, refl, sym, ap, ◌∙◌, subst, lit<}
use mir.Val.{Val, vptr, vcons, vnil}
use base.Logic.{SProp, emp}
use base.Fml.{ftrue}
use prog.Wp.{WpFn}
use types.Kit.{‵, raw, ◌⊛◌, some, later, given, at_ret, prop, ◌$◌, ◌∵◌, !, qed, by, move, keep, split, fsplit, fjoin, regoal}
use types.Kit.{use0, use1, use2, pick, learn, await, rewrite}
use types.Run.{stop, fld, lit, of_opd, bin, no_more, and_then, first, blocks, branches, skips, exec, returns, returns_within, enter}
use types.ByLocal.{alloc_all, pass_all, free_all, look_at, get, get_in, sets, lands_last, env}
use types.Part.{agg, sub, whole}
use types.Match.{live}
use contract.Monad.{fact, fact_i}
use contract.Running.{tables}
use denote.Exit.{yes}
use denote.RattleType.{RattleType, owns}
use denote.Signature.{types_at, type_at, plain}
use denote.RawPtr.{block_ptr, null_ptr, ptr_val, tests_null}
use denote.Steps.{nothing, only}
use denote.Param.{layout}
use denote.Triple.Call.{calls_at_last}
use denote.Triple.Walked.{Stays, stay_dropped, walk_of, Goes-dropped}
use Rattle.core.proofs.atomic.Steps.{fm, Ptr-Good}
use Rattle.core.proofs.cell.Inside.{Good}
use Rattle.core.proofs.option.Made.{Some-of, none_of}
use Rattle.std.specs.Prelude.{Some, None, option_map}
use Rattle.std.specs.contracts.impls.GlobalAllocator.TheImpl.{ghosts, dict}
use Rattle.std.proofs.impls.GlobalAllocator.TheImpl.Met as allocator
use Rattle.std.proofs.alloc.Global.TheLaws as of_heap
use Rattle.std.proofs.raw_atomic.Walks.{proved_at, leaves}
use Rattle.std_alloc.proofs.ResultValues.{and_tt}
use Rattle.std_alloc.proofs.boxed.Box.from_raw.Met.{met}
use Rattle.rgw_c.proofs.Handles.{Z, Held, word, null_good, held_out}
use Rattle.rgw_c.proofs.Boxing.{Owner, owner_laws, one_value, R', Z', instance_laws, heap_laws, lets_heap, heap_goes}
use Rattle.rgw_c.proofs.Boxing.{Back, at_back, back_asks, back_tells}
use Rattle.rgw_c.specs.contracts.handle.inside.{ended, clauses}
use Rattle.rgw_c.specs.contracts.handle.inside.Key.{name as #self}
use Rattle.rgw_c.proofs.handle.inside.Statement.{statement}
use Rattle.rgw_c.proofs.handle.inside.Code as code

abbrev stayed : Stays ended.signature.params ended.kept
stayed = (stay_dropped (plain (λ _. Held)) yes, (stay_dropped (plain (λ _. Z)) yes, tt))

abbrev Out : RattleType
Out = type_at ended.signature.result tt

pub inside_spec : {M : Type 1} → statement M
inside_spec {M = M} 𝓤 𝓛 𝓜 𝓡 wired =
    let H = 𝓛.H in let 𝓣 = tables 𝓤 H 𝓜 𝓡 𝓡.env in let c = clauses 𝓛 𝓜.mem 𝓡.returns in let fn = code.function in
    proved_at 𝓛 ended stayed c 𝓜 𝓡 (
      Goes-dropped 𝓛 0 (plain (λ _. Held)) yes (λ κs x f. refl),
      (Goes-dropped 𝓛 0 (plain (λ _. Z)) yes (λ κs x f. refl), tt),
    ) #self fn (code.unfolded 𝓤 H 𝓜 𝓡 wired) (λ z are.
    let Post : Val → SProp 𝓤 = (walk_of 𝓛 ended stayed c).post z in let Run : List Val → SProp 𝓤 = λ ws. WpFn 𝓤 H 𝓣.C 𝓣.Λ fn ws Post in
    let d = z.0.3.0 in let a = z.0.3.1.0 in let Says = λ (r : Out.Denot). option_map (λ b. b.value) r ≡ d.held in
    let asked = raw ((c tt z.0.3).requires z.1) in let owned = owns (types_at ended.signature.params tt) z.0.3 z.0.4 in
    qed 𝓛 ((‵ ftrue ⊛ ‵ owned) ∷ asked ∷ []) ∵ split ! $ move ! (1 ∷ []) $ fsplit ! $ move ! (1 ∷ []) $ fsplit ! $
    one_value ! Z of_heap.the_row_laws a z.0.4.1.0 (λ h wh fits. move ! (2 ∷ []) $ held_out ! d z.0.4.0
    -- null
    (λ m ws. let w : Val = word (ptr_val null_ptr) in regoal ! (λ (us : List Val). prop (Run (us ++ (z.0.4.1.0 ++ [])))) ws refl $
    regoal ! (λ (us : List Val). prop (Run (w ∷ (us ++ [])))) wh refl $
    enter ! 𝓣.C 𝓣.Λ fn (w ∷ h ∷ []) Post $ alloc_all ! (λ l. pass_all ! refl (null_good, (fits, tt)) $
    sets ! (of_opd ! (get_in ! (fld ! refl (stop !)) (sub ! 0 refl (whole !)))) refl (Ptr-Good null_ptr) $
    sets ! (of_opd ! (get ! refl)) refl (Ptr-Good null_ptr) $
    sets ! (bin ! (get ! refl) (lit ! tt) tt) refl (tt, tt) $ first ! $ branches ! (get ! refl)
    (λ _. sets ! (agg ! (and_then ! (lit ! tt) (no_more !))) refl (tt, (record { fits = lit< tt }, tt)) $
    returns_within ! Post refl (look_at ! 0 refl) $ free_all ! refl $
    use0 𝓛 (raw (fact 𝓤 (Says None))) (fact_i 𝓤 (Says None) (emp 𝓤) (sym m)) $
    use0 𝓛 (‵ (Out.own_val None (live 0 vnil ∷ []))) (none_of 𝓛 Owner) $
    nothing ! $ nothing ! $ fjoin ! $ nothing ! $ fjoin ! $ nothing ! $ keep ! (0 ∷ 1 ∷ 2 ∷ 3 ∷ []) $
    by ! (leaves 𝓛 ended stayed c z (live 0 vnil) None (tt, (tt, tt)) (tt, (tt, tt))))
    (λ wrong. absurd wrong)))
    -- a pointer
    (λ b o x m ws tested. let w : Val = word (vptr b o) in regoal ! (λ (us : List Val). prop (Run (us ++ (z.0.4.1.0 ++ [])))) ws refl $
    regoal ! (λ (us : List Val). prop (Run (w ∷ (us ++ [])))) wh refl $
    enter ! 𝓣.C 𝓣.Λ fn (w ∷ h ∷ []) Post $ alloc_all ! (λ l. pass_all ! refl ((tt, (tt, tt)), (fits, tt)) $ let E = env fn.locals l in
    sets ! (of_opd ! (get_in ! (fld ! refl (stop !)) (sub ! 0 refl (whole !)))) refl (tt, tt) $
    sets ! (of_opd ! (get ! refl)) refl (tt, tt) $
    sets ! (bin ! (get ! refl) (lit ! tt) (tests_null (block_ptr b o) tested)) refl (tt, tt) $ first ! $ branches ! (get ! refl)
    (λ wrong. absurd wrong) (λ _. skips ! $ exec ! 𝓣.C 𝓣.Λ E code.Mir.t-5 (at_ret E Post) $ first ! $ blocks ! $
    sets ! (of_opd ! (get ! refl)) refl fits $ sets ! (of_opd ! (get ! refl)) refl (tt, tt) $ sets ! (of_opd ! (get ! refl)) refl (tt, tt) $
    let Asks = Back 𝓛 𝓜.mem 𝓡.returns in let y = at_back 𝓛 𝓜.mem 𝓡.returns b o x a h in
    use2 𝓛 (raw (Asks.pre y)) (back_asks 𝓛 𝓜.mem 𝓡.returns b o x a h) $
    calls_at_last ! (fm 𝓛 𝓜 𝓡) Asks
    (met 𝓤 𝓛 𝓜 𝓡 (code.calls-std_alloc::boxed::Box::from_raw 𝓡.env wired) R' Z' instance_laws heap_laws ghosts dict lets_heap
    (allocator.passed 𝓡.env (code.calls-std_heap::GlobalAllocator::allocate 𝓡.env wired)
    (code.calls-std_heap::GlobalAllocator::deallocate 𝓡.env wired) (code.calls-std_heap::GlobalAllocator::grow 𝓡.env wired)
    (code.calls-std_heap::GlobalAllocator::shrink 𝓡.env wired) M 𝓤 𝓛 𝓜 𝓡)
    (heap_goes 𝓤 𝓛 𝓜 𝓡 (code.calls-rgw_c::Destruct++none::drop 𝓡.env wired)))
    y (and_then ! (get ! refl) (and_then ! (get ! refl) (no_more !))) (λ v.
    use1 𝓛 (later (some (λ (r : Owner.Denot). given (r.value ≡ x) (‵ (Owner.own_val r (v ∷ []))))))
    (back_tells 𝓛 𝓜.mem 𝓡.returns b o x a h v) $
    await ! tt $ pick ! (λ r. learn ! (λ is. one_value ! Owner owner_laws r (v ∷ []) (λ u same good.
    let fine : Good (layout Owner) v = subst (Good (layout Owner)) (sym (ap only same)) good in
    let made : Val = live 1 (vcons v vnil) in
    rewrite ! 0 (λ (e : Val). ‵ (Owner.own_val r (e ∷ []))) (sym (ap only same)) refl $
    lands_last ! refl fine $ exec ! 𝓣.C 𝓣.Λ E code.Mir.t-6 (at_ret E Post) $ sets ! (of_opd ! (get ! refl)) refl fine $
    sets ! (agg ! (and_then ! (lit ! tt) (and_then ! (get ! refl) (no_more !)))) refl
    (and_tt _ fine.0, (record { fits = lit< tt }, (fine.1, tt))) $
    use1 𝓛 (‵ (Out.own_val (Some r) (made ∷ []))) (Some-of 𝓛 Owner r v) $
    use0 𝓛 (raw (fact 𝓤 (Says (Some r)))) (fact_i 𝓤 (Says (Some r)) (emp 𝓤) (ap Some is ∙ sym m)) $
    returns ! (look_at ! 0 refl) $ free_all ! refl $ move ! (1 ∷ 0 ∷ []) $
    nothing ! $ nothing ! $ fjoin ! $ nothing ! $ fjoin ! $ nothing ! $ keep ! (0 ∷ 1 ∷ 2 ∷ 3 ∷ []) $
    by ! (leaves 𝓛 ended stayed c z made (Some r) (tt, (tt, tt)) (tt, (tt, tt))))))))))))
