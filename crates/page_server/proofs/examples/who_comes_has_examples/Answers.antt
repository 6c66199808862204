use Rattle.std.proofs.Common.{Bool, true, false, refl, ap}
use Rattle.std.specs.Prelude.{◌||◌}
use Rattle.http_server.specs.declared.state.Config.{Config}
use Rattle.http_server.specs.History.{History}
use Rattle.page_http.specs.declared.places.Seat.{Seat}
use Rattle.page_server.proofs.examples.who_comes_has_examples.Goals as goal

pub returns-clause-waited_for : goal.returns-clause-waited_for
returns-clause-waited_for c = λ host visitor new. (ap (λ (s : Seat). s.host) new.seat, ap (λ (s : Seat). s.active) new.seat, new.deadline)

pub returns-clause-ready : goal.returns-clause-ready
returns-clause-ready c = λ host visitor new. (new.reads, new.writes, new.turn)

pub returns-clause-asks_for_nothing : goal.returns-clause-asks_for_nothing
returns-clause-asks_for_nothing c = λ host visitor new. (ap (λ (h : History). h.calls) new.asked, ap (λ (l : Config). l.max_body_len) new.limits)

pub returns-clause-held : goal.returns-clause-held
returns-clause-held c = λ host visitor new.
    (ap (λ (l : Config). l.limits.max_head_len) new.limits, ap (λ (l : Config). l.max_pending) new.limits)

pub returns-clause-told_readable : goal.returns-clause-told_readable
returns-clause-told_readable c = λ was none. (ap (λ (b : Bool). b || true) none, refl)

pub returns-clause-told_writable : goal.returns-clause-told_writable
returns-clause-told_writable c = λ was none. (ap (λ (b : Bool). b || true) none, refl)

pub returns-clause-still_readable : goal.returns-clause-still_readable
returns-clause-still_readable c = λ was some. ap (λ (b : Bool). b || false) some
