use Rattle.std.proofs.Common.{ℕ, ◌==◌, [], refl, sym, ap, ◌∙◌, arith, length}
use Rattle.event_syntax.specs.declared.walk.Stand.TheVariants.{Entry}
use Rattle.event_syntax.specs.Walking.{is_left, wrong, ends, on, into, out}
use Rattle.event_syntax.proofs.LoopLemmas.{turns_at, outermost_is, on_short, into_short, out_short, into_none, into_more, out_none, out_more}
use Rattle.event_syntax.proofs.HoldLemmas.{leads_at, of_fault}
use Rattle.event_syntax.proofs.walk.walked.Goals as goal

pub returns-in-Wrong-clause-value : goal.returns-in-Wrong-clause-value
returns-in-Wrong-clause-value c =
    (turns_at c.loop-outers.stand c.loop-outers.depth c.loop-outers.outers.items c.loop-outers.rest.now c.next_name-mark.result.0.now
    c.next_name-mark.result.2.now c.next_name-mark.result.1 c.is_empty.result c.nested_at-nested.result
    (is_left Entry (length c.args.value.now) [] c.args.value.now) c.trimmed.result.now wrong
    c.loop-outers.invariant.left (c.is_empty.ensures ∙ ap (λ (n : ℕ). n == 0) c.loop-outers.outers.ok.0) c.nested_at-nested.ensures c.next_name-mark.ensures.whole c.next_name-mark.ensures.free
    c.next_name-mark.ensures.fits c.trimmed.ensures c.in-Wrong.ensures).left

pub returns-in-Ends-clause-value : goal.returns-in-Ends-clause-value
returns-in-Ends-clause-value c =
    c.is_empty-in-Ends.ensures ∙ ap (λ (n : ℕ). n == 0) c.loop-outers.outers.ok.0 ∙ sym (outermost_is c.loop-outers.outers.items) ∙ (turns_at c.loop-outers.stand c.loop-outers.depth c.loop-outers.outers.items c.loop-outers.rest.now c.next_name-mark.result.0.now
    c.next_name-mark.result.2.now c.next_name-mark.result.1 c.is_empty.result c.nested_at-nested.result
    (is_left Entry (length c.args.value.now) [] c.args.value.now) c.trimmed.result.now ends
    c.loop-outers.invariant.left (c.is_empty.ensures ∙ ap (λ (n : ℕ). n == 0) c.loop-outers.outers.ok.0) c.nested_at-nested.ensures c.next_name-mark.ensures.whole c.next_name-mark.ensures.free
    c.next_name-mark.ensures.fits c.trimmed.ensures c.in-Ends.ensures).left

pub loop-outers-smaller-in-On : goal.loop-outers-smaller-in-On
loop-outers-smaller-in-On c =
    on_short _ _ _ _ _ _ (turns_at c.loop-outers.stand c.loop-outers.depth c.loop-outers.outers.items c.loop-outers.rest.now c.next_name-mark.result.0.now
    c.next_name-mark.result.2.now c.next_name-mark.result.1 c.is_empty.result c.nested_at-nested.result
    (is_left Entry (length c.args.value.now) [] c.args.value.now) c.trimmed.result.now (on c.in-On.next c.in-On.more.now)
    c.loop-outers.invariant.left (c.is_empty.ensures ∙ ap (λ (n : ℕ). n == 0) c.loop-outers.outers.ok.0) c.nested_at-nested.ensures c.next_name-mark.ensures.whole c.next_name-mark.ensures.free
    c.next_name-mark.ensures.fits c.trimmed.ensures c.in-On.ensures)

pub loop-outers-preserved-in-On : goal.loop-outers-preserved-in-On
loop-outers-preserved-in-On c = record {
  left =
      (turns_at c.loop-outers.stand c.loop-outers.depth c.loop-outers.outers.items c.loop-outers.rest.now c.next_name-mark.result.0.now
      c.next_name-mark.result.2.now c.next_name-mark.result.1 c.is_empty.result c.nested_at-nested.result
      (is_left Entry (length c.args.value.now) [] c.args.value.now) c.trimmed.result.now (on c.in-On.next c.in-On.more.now)
      c.loop-outers.invariant.left (c.is_empty.ensures ∙ ap (λ (n : ℕ). n == 0) c.loop-outers.outers.ok.0) c.nested_at-nested.ensures c.next_name-mark.ensures.whole c.next_name-mark.ensures.free
      c.next_name-mark.ensures.fits c.trimmed.ensures c.in-On.ensures).left;
  holds = λ held. c.loop-outers.invariant.holds (leads_at c.loop-outers.stand c.loop-outers.rest.now c.next_name-mark.result.0.now c.next_name-mark.result.2.now
      c.next_name-mark.result.1 c.is_empty.result c.nested_at-nested.result c.trimmed.result.now (on c.in-On.next c.in-On.more.now)
      c.nested_at-nested.ensures c.next_name-mark.ensures.whole c.next_name-mark.ensures.free c.trimmed.ensures c.in-On.ensures held);
}

pub returns-then-depth-eq0-clause-value : goal.returns-then-depth-eq0-clause-value
returns-then-depth-eq0-clause-value c =
    into_none _ _ _ _ _ _ c.if-depth-eq0.true (turns_at c.loop-outers.stand c.loop-outers.depth c.loop-outers.outers.items c.loop-outers.rest.now c.next_name-mark.result.0.now
    c.next_name-mark.result.2.now c.next_name-mark.result.1 c.is_empty.result c.nested_at-nested.result
    (is_left Entry (length c.args.value.now) [] c.args.value.now) c.trimmed.result.now (into c.in-Into.seen c.in-Into.more.now)
    c.loop-outers.invariant.left (c.is_empty.ensures ∙ ap (λ (n : ℕ). n == 0) c.loop-outers.outers.ok.0) c.nested_at-nested.ensures c.next_name-mark.ensures.whole c.next_name-mark.ensures.free
    c.next_name-mark.ensures.fits c.trimmed.ensures c.in-Into.ensures)

pub loop-outers-smaller-in-Into : goal.loop-outers-smaller-in-Into
loop-outers-smaller-in-Into c =
    into_short _ _ _ _ _ _ (turns_at c.loop-outers.stand c.loop-outers.depth c.loop-outers.outers.items c.loop-outers.rest.now c.next_name-mark.result.0.now
    c.next_name-mark.result.2.now c.next_name-mark.result.1 c.is_empty.result c.nested_at-nested.result
    (is_left Entry (length c.args.value.now) [] c.args.value.now) c.trimmed.result.now (into c.in-Into.seen c.in-Into.more.now)
    c.loop-outers.invariant.left (c.is_empty.ensures ∙ ap (λ (n : ℕ). n == 0) c.loop-outers.outers.ok.0) c.nested_at-nested.ensures c.next_name-mark.ensures.whole c.next_name-mark.ensures.free
    c.next_name-mark.ensures.fits c.trimmed.ensures c.in-Into.ensures)

pub loop-outers-preserved-in-Into : goal.loop-outers-preserved-in-Into
loop-outers-preserved-in-Into c = record {
  left =
      into_more _ _ _ _ _ _ _ (omega arith) c.in_ok-push-in-Into.ensures.items (turns_at c.loop-outers.stand c.loop-outers.depth c.loop-outers.outers.items c.loop-outers.rest.now c.next_name-mark.result.0.now
      c.next_name-mark.result.2.now c.next_name-mark.result.1 c.is_empty.result c.nested_at-nested.result
      (is_left Entry (length c.args.value.now) [] c.args.value.now) c.trimmed.result.now (into c.in-Into.seen c.in-Into.more.now)
      c.loop-outers.invariant.left (c.is_empty.ensures ∙ ap (λ (n : ℕ). n == 0) c.loop-outers.outers.ok.0) c.nested_at-nested.ensures c.next_name-mark.ensures.whole c.next_name-mark.ensures.free
      c.next_name-mark.ensures.fits c.trimmed.ensures c.in-Into.ensures);
  holds = λ held. c.loop-outers.invariant.holds (leads_at c.loop-outers.stand c.loop-outers.rest.now c.next_name-mark.result.0.now c.next_name-mark.result.2.now
      c.next_name-mark.result.1 c.is_empty.result c.nested_at-nested.result c.trimmed.result.now (into c.in-Into.seen c.in-Into.more.now)
      c.nested_at-nested.ensures c.next_name-mark.ensures.whole c.next_name-mark.ensures.free c.trimmed.ensures c.in-Into.ensures refl);
}

pub returns-in_default-clause-value : goal.returns-in_default-clause-value
returns-in_default-clause-value c =
    out_none _ _ _ _ _ (sym c.loop-outers.outers.ok.0 ∙ c.in_default.ensures.cases.0) (turns_at c.loop-outers.stand c.loop-outers.depth c.loop-outers.outers.items c.loop-outers.rest.now c.next_name-mark.result.0.now
    c.next_name-mark.result.2.now c.next_name-mark.result.1 c.is_empty.result c.nested_at-nested.result
    (is_left Entry (length c.args.value.now) [] c.args.value.now) c.trimmed.result.now (out c.in-Out.more.now)
    c.loop-outers.invariant.left (c.is_empty.ensures ∙ ap (λ (n : ℕ). n == 0) c.loop-outers.outers.ok.0) c.nested_at-nested.ensures c.next_name-mark.ensures.whole c.next_name-mark.ensures.free
    c.next_name-mark.ensures.fits c.trimmed.ensures c.in-Out.ensures)

pub loop-outers-smaller : goal.loop-outers-smaller
loop-outers-smaller c =
    out_short _ _ _ _ _ (turns_at c.loop-outers.stand c.loop-outers.depth c.loop-outers.outers.items c.loop-outers.rest.now c.next_name-mark.result.0.now
    c.next_name-mark.result.2.now c.next_name-mark.result.1 c.is_empty.result c.nested_at-nested.result
    (is_left Entry (length c.args.value.now) [] c.args.value.now) c.trimmed.result.now (out c.in-Out.more.now)
    c.loop-outers.invariant.left (c.is_empty.ensures ∙ ap (λ (n : ℕ). n == 0) c.loop-outers.outers.ok.0) c.nested_at-nested.ensures c.next_name-mark.ensures.whole c.next_name-mark.ensures.free
    c.next_name-mark.ensures.fits c.trimmed.ensures c.in-Out.ensures)

pub loop-outers-preserved : goal.loop-outers-preserved
loop-outers-preserved c = record {
  left =
      out_more _ _ _ _ _ _ _ c.in-Some.ensures.items (turns_at c.loop-outers.stand c.loop-outers.depth c.loop-outers.outers.items c.loop-outers.rest.now c.next_name-mark.result.0.now
      c.next_name-mark.result.2.now c.next_name-mark.result.1 c.is_empty.result c.nested_at-nested.result
      (is_left Entry (length c.args.value.now) [] c.args.value.now) c.trimmed.result.now (out c.in-Out.more.now)
      c.loop-outers.invariant.left (c.is_empty.ensures ∙ ap (λ (n : ℕ). n == 0) c.loop-outers.outers.ok.0) c.nested_at-nested.ensures c.next_name-mark.ensures.whole c.next_name-mark.ensures.free
      c.next_name-mark.ensures.fits c.trimmed.ensures c.in-Out.ensures);
  holds = λ held. c.loop-outers.invariant.holds (leads_at c.loop-outers.stand c.loop-outers.rest.now c.next_name-mark.result.0.now c.next_name-mark.result.2.now
      c.next_name-mark.result.1 c.is_empty.result c.nested_at-nested.result c.trimmed.result.now (out c.in-Out.more.now)
      c.nested_at-nested.ensures c.next_name-mark.ensures.whole c.next_name-mark.ensures.free c.trimmed.ensures c.in-Out.ensures held);
}

pub returns-in_err-push-in-Into-clause-memory : goal.returns-in_err-push-in-Into-clause-memory
returns-in_err-push-in-Into-clause-memory c =
    of_fault c.from_residual.result _ (c.loop-outers.invariant.holds (leads_at c.loop-outers.stand c.loop-outers.rest.now c.next_name-mark.result.0.now c.next_name-mark.result.2.now
    c.next_name-mark.result.1 c.is_empty.result c.nested_at-nested.result c.trimmed.result.now (into c.in-Into.seen c.in-Into.more.now)
    c.nested_at-nested.ensures c.next_name-mark.ensures.whole c.next_name-mark.ensures.free c.trimmed.ensures c.in-Into.ensures refl))
