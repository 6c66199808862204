-- `opened` asks the box for its pointer.
use Rattle.std.proofs.Common.{◌≡◌, ℕ, List, [], ◌∷◌, ◌++◌, refl}
use mir.Val.{Val, vptr}
use base.Logic.{SProp, emp}
use base.Fml.{ftrue}
use prog.Wp.{WpFn}
use types.Kit.{Item, ‵, raw, ◌⊛◌, some, later, given, prop, ◌$◌, ◌∵◌, !, qed, by, move, keep, split, fsplit, fjoin, regoal, use0, use1}
use types.Kit.{pick, learn, await}
use types.Run.{of_opd, no_more, and_then, returns, enter}
use types.ByLocal.{alloc_all, pass_all, free_all, look_at, get, sets, lands_as}
use types.Part.{agg}
use contract.Monad.{fact, fact_i}
use contract.Running.{tables}
use denote.Exit.{yes}
use denote.RattleType.{owns}
use denote.Signature.{types_at, plain}
use denote.RawPtr.{block_ptr}
use denote.Steps.{nothing}
use denote.Triple.Call.{calls_at}
use denote.Triple.Walked.{Stays, stay_dropped, walk_of, Goes-dropped}
use Rattle.core.proofs.atomic.Steps.{fm}
use Rattle.std.specs.Prelude.{Some}
use Rattle.std.specs.contracts.impls.GlobalAllocator.TheImpl.{ghosts, dict}
use Rattle.std.proofs.impls.GlobalAllocator.TheImpl.Met as allocator
use Rattle.std.proofs.raw_atomic.Walks.{proved_at, leaves}
use Rattle.std_alloc.proofs.boxed.Box.into_raw.Met.{met}
use Rattle.rgw_c.specs.Held.{held_at}
use Rattle.rgw_c.proofs.Handles.{Held, word, held_in}
use Rattle.rgw_c.proofs.Boxing.{Owner, owner_laws, one_value, R', Z', instance_laws, heap_laws, lets_heap, lets_instance}
use Rattle.rgw_c.proofs.Boxing.{heap_goes, instance_goes, Raw, at_raw, raw_asks, raw_tells}
use Rattle.rgw_c.specs.contracts.handle.opened.{ended, clauses}
use Rattle.rgw_c.specs.contracts.handle.opened.Key.{name as #self}
use Rattle.rgw_c.proofs.handle.opened.Statement.{statement}
use Rattle.rgw_c.proofs.handle.opened.Code as code

abbrev stayed : Stays ended.signature.params ended.kept
stayed = (stay_dropped (plain (λ _. Owner)) yes, tt)

pub opened_spec : {M : Type 1} → statement M
opened_spec {M = M} 𝓤 𝓛 𝓜 𝓡 wired =
    let H = 𝓛.H in let 𝓣 = tables 𝓤 H 𝓜 𝓡 𝓡.env in let c = clauses 𝓛 𝓜.mem 𝓡.returns in let fn = code.function in
    proved_at 𝓛 ended stayed c 𝓜 𝓡 (Goes-dropped 𝓛 0 (plain (λ _. Owner)) yes (λ κs x f. refl), tt) #self fn
    (code.unfolded 𝓤 H 𝓜 𝓡 wired) (λ z are.
    let Post : Val → SProp 𝓤 = (walk_of 𝓛 ended stayed c).post z in let d = z.0.3.0 in
    let asked = raw ((c tt z.0.3).requires z.1) in let owned = owns (types_at ended.signature.params tt) z.0.3 z.0.4 in
    qed 𝓛 ((‵ ftrue ⊛ ‵ owned) ∷ asked ∷ []) ∵ split ! $ move ! (1 ∷ []) $ fsplit ! $ one_value ! Owner owner_laws d z.0.4.0 (λ w is good.
    regoal ! (λ (us : List Val). prop (WpFn 𝓤 H 𝓣.C 𝓣.Λ fn (us ++ []) Post)) is refl $
    enter ! 𝓣.C 𝓣.Λ fn (w ∷ []) Post $ alloc_all ! (λ l. pass_all ! refl (good, tt) $ sets ! (of_opd ! (get ! refl)) refl good $
    let Asks = Raw 𝓛 𝓜.mem 𝓡.returns in let y = at_raw 𝓛 𝓜.mem 𝓡.returns d w in
    use1 𝓛 (raw (Asks.pre y)) (raw_asks 𝓛 𝓜.mem 𝓡.returns d w) $
    calls_at ! (fm 𝓛 𝓜 𝓡) Asks
    (met 𝓤 𝓛 𝓜 𝓡 (code.calls-std_alloc::boxed::Box::into_raw 𝓡.env wired) R' Z' instance_laws heap_laws ghosts dict lets_heap lets_instance
    (allocator.passed 𝓡.env (code.calls-std_heap::GlobalAllocator::allocate 𝓡.env wired)
    (code.calls-std_heap::GlobalAllocator::deallocate 𝓡.env wired) (code.calls-std_heap::GlobalAllocator::grow 𝓡.env wired)
    (code.calls-std_heap::GlobalAllocator::shrink 𝓡.env wired) M 𝓤 𝓛 𝓜 𝓡)
    (heap_goes 𝓤 𝓛 𝓜 𝓡 (code.calls-rgw_c::Destruct++none::drop 𝓡.env wired))
    (instance_goes 𝓤 𝓛 𝓜 𝓡 (code.calls-rgw_c::rgw_c++instance++Instance+Destruct::drop 𝓡.env wired)))
    y (and_then ! (get ! refl) (no_more !)) (λ v.
    let there : ℕ → ℕ → Item 𝓤 = λ b o. ‵ (held_at (block_ptr b o) (Some d.value)) in
    use1 𝓛 (later (some (λ (b : ℕ). some (λ (o : ℕ). given (v ≡ vptr b o) (there b o))))) (raw_tells 𝓛 𝓜.mem 𝓡.returns d w v) $
    await ! tt $ pick ! (λ b. pick ! (λ o. learn ! (λ at. lands_as ! at refl (tt, tt) $ sets ! (of_opd ! (get ! refl)) refl (tt, tt) $
    sets ! (agg ! (and_then ! (get ! refl) (no_more !))) refl (tt, (tt, tt)) $ held_in ! (block_ptr b o) (Some d.value) $
    let h : Held.Denot = record { at = block_ptr b o; held = Some d.value } in let Says = h.held ≡ Some d.value in
    use0 𝓛 (raw (fact 𝓤 Says)) (fact_i 𝓤 Says (emp 𝓤) refl) $ move ! (1 ∷ 0 ∷ []) $ nothing ! $ nothing ! $ fjoin ! $ nothing ! $
    returns ! (look_at ! 0 refl) $ free_all ! refl $ keep ! (0 ∷ 1 ∷ 2 ∷ 3 ∷ []) $
    by ! (leaves 𝓛 ended stayed c z (word (vptr b o)) h (tt, tt) (tt, tt)))))))))
