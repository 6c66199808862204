use Rattle.std.proofs.Common.{◌≡◌, ℕ, List, [], ◌∷◌, ◌++◌, ap, ◌∙◌}
use Rattle.mgcp_text.specs.Packing.{has_room, packed}
use Rattle.mgcp_text.proofs.PackingLaws.{parts-packed, within-packed, within-joinable}
use Rattle.mgcp_text.proofs.JoinLemmas.{join_room, join_next, join_last}
use Rattle.mgcp_text.proofs.datagram.join.Goals as goal
use Rattle.mgcp_text.proofs.datagram.join.Goals.{In_ok-push-2, then-has_room+in_ok-put_behind, else-has_room+in_ok-push+in_ok-begun-2}

pub loop-text-preserved : goal.loop-text-preserved
loop-text-preserved c =
    let tested = c.has_room.ensures ∙ ap (λ (begun : List ℕ). has_room c.args.max begun c.as_bytes-text.result.now) c.deref.ensures.value in
    elim c.if-has_room.branch [
      | then-has_room+in_ok-put_behind w ↦
          join_room c.args.max c.loop-text.text-index _ _ _ _ _ _ _ _ _ c.loop-text-test.true c.text-item.is c.as_bytes-text.ensures tested
          w.if-has_room.true (ap (λ datagrams. datagrams.items) w.datagrams-is)
          (ap (λ begun. begun.items) w.begun-is ∙ w.in_ok-put_behind.ensures) c.loop-text.invariant
      | else-has_room+in_ok-push+in_ok-begun-2 w ↦
          join_next c.args.max c.loop-text.text-index _ _ _ _ _ _ _ _ _ c.loop-text-test.true c.text-item.is c.as_bytes-text.ensures tested
          w.if-has_room.false
          (ap (λ datagrams. datagrams.items) w.datagrams-is ∙ w.in_ok-push.ensures.items
          ∙ ap (λ (datagram : List ℕ). c.loop-text.datagrams.items ++ datagram ∷ []) w.of.ensures)
          (ap (λ begun. begun.items) w.begun-is ∙ w.in_ok-begun-2.ensures.items) c.loop-text.invariant
    ]

-- all texts are joined
whole : (c : In_ok-push-2) → c.push-2.new.self.items ≡ packed c.args.max c.args.texts.now
whole c =
    join_last c.args.max c.loop-text.text-index _ _ _ _ _ c.loop-text-test.false
    (c.in_ok-push-2.ensures.items ∙ ap (λ (datagram : List ℕ). c.loop-text.datagrams.items ++ datagram ∷ []) c.of-2.ensures)
    c.loop-text.invariant

pub returns-clause-value : goal.returns-clause-value
returns-clause-value c = whole c

pub returns-clause-parts : goal.returns-clause-parts
returns-clause-parts c = rw (whole c) (parts-packed c.args.max c.args.texts.now c.requires)

pub returns-clause-within : goal.returns-clause-within
returns-clause-within c =
    rw (whole c) (within-packed c.args.max c.args.texts.now (within-joinable c.args.max c.args.texts.now c.requires))
