use Rattle.std.proofs.Common.{false, Bool, ◌∙◌, ap}
use Rattle.std.specs.Prelude.{not}
use Rattle.mg_bytes.specs.Lists.{is_empty}
use Rattle.live_io.specs.Typing.{left_of}
use Rattle.live_laws.proofs.WayExampleLemmas.{line_left}
use Rattle.live_laws.proofs.way_examples.the_page_is_asked_by_turns.Goals as goal

pub returns-clause-turn : goal.returns-clause-turn
returns-clause-turn c = λ asked is. is

pub returns-clause-typed : goal.returns-clause-typed
returns-clause-typed c = λ asked is. is.2 ∙ ap (λ (b : Bool). not b) is.1

pub returns-clause-untyped : goal.returns-clause-untyped
returns-clause-untyped c = λ asked is. is.2 ∙ ap (λ (b : Bool). not b) is.1

pub returns-clause-takes : goal.returns-clause-takes
returns-clause-takes c = λ was is lines left is_then takes. takes

pub returns-clause-behind : goal.returns-clause-behind
returns-clause-behind c = λ was is page. page.asks

pub returns-clause-left : goal.returns-clause-left
returns-clause-left c = λ was is page left. line_left page.asked (is_empty (left_of was.lines)) false is.is_of_page was.exchange.journal is.exchange.journal was.lines is.lines left
    page.took
