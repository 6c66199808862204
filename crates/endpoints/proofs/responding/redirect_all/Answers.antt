use Rattle.std.proofs.Common.{◌<◌, length, refl, ◌∙◌, rules}
use Rattle.command_forms.specs.declared.forms.Target.TheVariants.{All}
use Rattle.endpoints.proofs.StoreLemmas.{several_next, several_end}
use Rattle.endpoints.proofs.responding.redirect_all.Goals as goal

pub loop-place-preserved : goal.loop-place-preserved
loop-place-preserved c =
    let inside : c.loop-place.place < length c.args.store.now.endpoints.list = rw (← c.list-place-end.ensures.value) c.loop-place-test.true in
    record {
      completes = λ is are rest. c.loop-place.invariant.completes is are
          (several_next All c.loop-place.place _ _ _ _ is _ _ are inside refl c.in_ok-redirect_line.ensures rest);
      found = c.in_ok-redirect_line.ensures.found ∙ c.loop-place.invariant.found;
    }

pub returns : goal.returns
returns c = c.loop-place.invariant.completes _ _ (several_end All c.loop-place.place _ _ _ _ (rw (← c.list-place-end.ensures.value) (search rules)))
