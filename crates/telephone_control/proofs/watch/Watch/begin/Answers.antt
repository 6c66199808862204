use Rattle.std.proofs.Common.{◌≡◌, false, true, map, Some, sym, ap, ◌∙◌, true≢false}
use Rattle.line_changes.specs.Watching.{is_watched}
use Rattle.telephone_control.specs.declared.watch.Watch.{Watch}
use Rattle.telephone_control.proofs.watch.Watch.begin.Goals as goal
use Rattle.telephone_control.proofs.watch.Watch.begin.Goals.{then-not-is_watched+in_ok-self, else-not-is_watched}

pub returns-clause-anew : goal.returns-clause-anew
returns-clause-anew c = λ events stands none. elim c.if-not-is_watched.branch [
  | then-not-is_watched+in_ok-self w ↦
      ap (λ (s : Watch). map (λ line. Some line) s.seen.items) w.self-is ∙ w.in_ok-self.ensures events stands
  | else-not-is_watched w ↦
      let watched : is_watched c.now-now.result c.args.self.now.watchers.places ≡ true =
      sym c.is_watched.ensures ∙ w.if-not-is_watched.false in
      let now = rw (c.now-now.ensures.value events stands) at watched in
      absurd (true≢false (sym now ∙ none))
]

pub returns-clause-kept : goal.returns-clause-kept
returns-clause-kept c = λ events stands some. elim c.if-not-is_watched.branch [
  | then-not-is_watched+in_ok-self w ↦
      let unwatched : is_watched c.now-now.result c.args.self.now.watchers.places ≡ false =
      sym c.is_watched.ensures ∙ w.if-not-is_watched.true in
      let now = rw (c.now-now.ensures.value events stands) at unwatched in
      absurd (true≢false (sym some ∙ now))
  | else-not-is_watched w ↦ ap (λ (s : Watch). s.seen) w.self-is
]
