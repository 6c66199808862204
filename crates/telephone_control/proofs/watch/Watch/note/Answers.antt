use Rattle.std.proofs.Common.{◌≡◌, ◌-◌, ◌++◌, ◌∙◌, ℕ, refl, ap, sym, List, Option, Some, slice_get}
use Rattle.std.proofs.lemmas.Option.{slice_get_read}
use Rattle.line_changes.specs.declared.change.Change.{Change}
use Rattle.line_changes.specs.Seen.{SeenLine}
use Rattle.line_changes.specs.Changes.{changes_of}
use Rattle.telephone_control.specs.Watching.{changes_behind}
use Rattle.telephone_control.proofs.WatchingLemmas.{err_if, some_put}
use Rattle.telephone_control.proofs.watch.Watch.note.Goals as goal

pub returns-in_err-put_changes-clause-told_some : goal.returns-in_err-put_changes-clause-told_some
returns-in_err-put_changes-clause-told_some c = err_if c.from_residual.result (0, c.clear-2.ensures)

pub returns-clause-told_some : goal.returns-clause-told_some
returns-clause-told_some c =
    let read : slice_get c.deref.result.now (c.from.result - 1) ≡ Some c.in-Some.was.now =
    slice_get_read c.deref.result.now _ (c.from.result - 1) c.in-Some.was.now refl c.in-Some.ensures.lookup.3.0 c.in-Some.ensures.lookup.1 in
    let found : slice_get c.args.self.now.seen.items (c.args.line - 1) ≡ Some c.in-Some.was.now =
    ap (λ (seen : List SeenLine). slice_get seen (c.args.line - 1)) (sym c.deref.ensures.value)
    ∙ ap (λ (line : ℕ). slice_get c.deref.result.now (line - 1)) (sym c.from.ensures) ∙ read in
    let list : c.as_slice.result.now ≡ changes_behind (slice_get c.args.self.now.seen.items (c.args.line - 1)) c.args.is.now =
    c.as_slice.ensures.value ∙ c.in_ok-put_changes.ensures
    ∙ ap (λ (before : List Change). before ++ changes_of c.in-Some.was.now c.args.is.now) c.clear.ensures.items
    ∙ sym (ap (λ (seen : Option SeenLine). changes_behind seen c.args.is.now) found) in
    some_put c.put_all.result c.args.moment c.args.line _ _ _ _ _ c.clear-2.ensures list c.put_all.ensures.err
