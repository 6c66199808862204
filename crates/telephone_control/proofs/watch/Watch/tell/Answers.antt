use Rattle.std.proofs.Common.{◌≡◌, false, true, inl, inr, refl, sym, ◌∙◌}
use Rattle.line_changes.specs.Watching.{is_watched}
use Rattle.telephone_control.proofs.WatchingLemmas.{refused_and_over}
use Rattle.telephone_control.proofs.watch.Watch.tell.Goals as goal

pub returns-then-not-is_taken-clause-watch : goal.returns-then-not-is_taken-clause-watch
returns-then-not-is_taken-clause-watch g c = λ events stands. inl (rw (c.if-not-is_taken.true) refl, refl, refl)

pub returns-then-not-is_watched-clause-watch : goal.returns-then-not-is_watched-clause-watch
returns-then-not-is_watched-clause-watch g c = λ events stands.
    let unwatched : is_watched c.now-now.result c.args.self.now.watchers.places ≡ false =
    sym c.is_watched.ensures ∙ c.if-not-is_watched.true in
    inl (rw (c.if-not-is_taken.false) (rw (c.now-now.ensures.value events stands) at unwatched), refl, refl)

pub returns-in-Ok-clause-watch : goal.returns-in-Ok-clause-watch
returns-in-Ok-clause-watch g c = λ events stands.
    let watched : is_watched c.now-now.result c.args.self.now.watchers.places ≡ true =
    sym c.is_watched.ensures ∙ c.if-not-is_watched.false in
    inr (inl (rw (c.if-not-is_taken.false) (rw (c.now-now.ensures.value events stands) at watched), c.in-Ok.ensures.told events stands))

pub returns-in-Err-clause-watch : goal.returns-in-Err-clause-watch
returns-in-Err-clause-watch g c = λ events stands.
    let watched : is_watched c.now-now.result c.args.self.now.watchers.places ≡ true =
    sym c.is_watched.ensures ∙ c.if-not-is_watched.false in
    inr (inr (
      rw (c.if-not-is_taken.false) (rw (c.now-now.ensures.value events stands) at watched),
      c.clear.ensures,
      c.tell_lines.new.around,
      refused_and_over g.S.Surroundings.around.answers _ _ _ _ _ _ c.tell_lines.new.self c.clear.new.self (c.in-Err.ensures.refused events stands),
      rw (c.tell_lines.ensures.watchers, c.now-now.ensures.value events stands) at c.tell_all.ensures.told,
    ))

pub returns-in-Err-clause-watchers : goal.returns-in-Err-clause-watchers
returns-in-Err-clause-watchers g c = inr (c.clear.ensures, _, _, rw (c.tell_lines.ensures.watchers) at c.tell_all.ensures.told)
