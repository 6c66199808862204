use Rattle.std.proofs.Common.{◌≡◌, true, false, List, length, Option, ap, sym, ◌∙◌, true≢false}
use Rattle.std.specs.Global.{Box}
use Rattle.page_http.specs.declared.places.Seat.{Seat}
use Rattle.page_server.specs.declared.site.Came.{Came}
use Rattle.page_server.specs.declared.site.Came.TheVariants.{Nobody, Refused, LetIn, TurnedAway}
use Rattle.page_server.specs.declared.site.Site.{Site}
use Rattle.page_server.specs.declared.visitor.Visitor.{Visitor}
use Rattle.page_server.specs.Receiving.{LetsIn}
use Rattle.page_server.proofs.examples.who_has_places_has_examples.Goals as goal

pub returns-clause-opened : goal.returns-clause-opened
returns-clause-opened c = λ site opened. (ap (λ (places : List (Option (Box Visitor))). length places) opened.0, opened.1, opened.2, opened.4)

pub returns-clause-seated : goal.returns-clause-seated
returns-clause-seated c = λ host one are seats. (seats.0, ap (λ (seat : Seat). seat.active) seats.1.seat, seats.2)

pub returns-clause-unseated : goal.returns-clause-unseated
returns-clause-unseated c = λ host were are same. same

nobody_may : (came : Came) (was is : Site) → was.may_accept ≡ false → LetsIn 5 came was is
    → (is.places.items ≡ was.places.items) × (is.may_accept ≡ false) × (is.again ≡ was.again)
nobody_may Nobody was is none lets = lets
nobody_may Refused was is none lets = absurd (true≢false (sym lets.2 ∙ none))
nobody_may LetIn was is none lets = absurd (true≢false (sym lets.0 ∙ none))
nobody_may TurnedAway was is none lets = absurd (true≢false (sym lets.0 ∙ none))

pub returns-clause-nobody : goal.returns-clause-nobody
returns-clause-nobody c = nobody_may

pub returns-clause-let_in : goal.returns-clause-let_in
returns-clause-let_in c = λ was is lets. (lets.1, lets.2)

pub returns-clause-refused : goal.returns-clause-refused
returns-clause-refused c = λ was is lets. (lets.1, lets.3, lets.0)

pub returns-clause-turned_away : goal.returns-clause-turned_away
returns-clause-turned_away c = λ was is lets. (lets.2, lets.1, lets.3)
