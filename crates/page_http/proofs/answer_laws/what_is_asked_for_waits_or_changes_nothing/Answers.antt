use Rattle.std.proofs.Common.{refl, ap}
use Rattle.page_state.specs.BoardShowing.{BoardState}
use Rattle.page_http.proofs.answer_laws.what_is_asked_for_waits_or_changes_nothing.Goals as goal

pub returns-clause-taken : goal.returns-clause-taken
returns-clause-taken c = λ old new body h.
    let t = h.taken refl in (t.0, t.1, ap (λ (b : BoardState). b.acts) t.2)

pub returns-clause-shown : goal.returns-clause-shown
returns-clause-shown c = λ old new body h.
    let t = h.taken refl in
    (ap (λ (b : BoardState). b.picture) t.2, ap (λ (b : BoardState). b.version) t.2, ap (λ (b : BoardState). b.ring) t.2)

pub returns-clause-no_room : goal.returns-clause-no_room
returns-clause-no_room c = λ old new body h. (h.refused (λ e. cc), h.no_room refl, h.full refl)

pub returns-clause-unreadable : goal.returns-clause-unreadable
returns-clause-unreadable c = λ old new body h. (h.refused (λ e. cc), h.unreadable refl)
