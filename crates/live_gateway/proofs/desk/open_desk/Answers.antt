use Rattle.std.proofs.Common.{◌≡◌, false, refl}
use Rattle.turns.specs.Schedule.{opening}
use Rattle.telephone_control.specs.Watching.{IsUnwatched}
use Rattle.live_gateway.specs.Opening.{BeginsBoard, CountsNothing, IsUnused, IsUnplayed, IsUntyped}
use Rattle.live_gateway.proofs.OpeningLemmas.{held_so}
use Rattle.live_gateway.proofs.desk.open_desk.Goals as goal

pub returns-clause-around : goal.returns-clause-around
returns-clause-around g c =
    held_so (λ desk. desk.exchange.around ≡ c.args.around.value) _ c.boxed.result c.boxed.ensures c.in-Ok-exchange_of.ensures.around

pub returns-clause-gateway : goal.returns-clause-gateway
returns-clause-gateway g c =
    held_so (λ desk. desk.play.gateway ≡ c.args.gateway) _ c.boxed.result c.boxed.ensures c.new-2.ensures.gateway

pub returns-clause-admission : goal.returns-clause-admission
returns-clause-admission g c = held_so (λ desk. desk.admission ≡ c.args.admission) _ c.boxed.result c.boxed.ensures refl

pub returns-clause-end : goal.returns-clause-end
returns-clause-end g c = held_so (λ desk. desk.end ≡ c.args.settings.now.end) _ c.boxed.result c.boxed.ensures refl

pub returns-clause-page : goal.returns-clause-page
returns-clause-page g c =
    held_so (λ desk. BeginsBoard c.args.settings.now.has_page desk.exchange.journal.board) _ c.boxed.result c.boxed.ensures
    c.in-Ok-exchange_of.ensures.page

pub returns-clause-unused : goal.returns-clause-unused
returns-clause-unused g c =
    held_so (λ desk. IsUnused desk.exchange) _ c.boxed.result c.boxed.ensures c.in-Ok-exchange_of.ensures.unused

pub returns-clause-unplayed : goal.returns-clause-unplayed
returns-clause-unplayed g c =
    held_so (λ desk. IsUnplayed desk.play) _ c.boxed.result c.boxed.ensures (c.new-2.ensures.script, c.new-2.ensures.printed)

pub returns-clause-untyped : goal.returns-clause-untyped
returns-clause-untyped g c =
    held_so (λ desk. IsUntyped desk.lines) _ c.boxed.result c.boxed.ensures (c.in-Ok.ensures.left, c.in-Ok.ensures.sender)

pub returns-clause-counted : goal.returns-clause-counted
returns-clause-counted g c =
    held_so (λ desk. CountsNothing desk.exchange.journal.tally.value) _ c.boxed.result c.boxed.ensures
    c.in-Ok-exchange_of.ensures.counted

pub returns-clause-begins : goal.returns-clause-begins
returns-clause-begins g c =
    held_so (λ desk. (desk.is_of_page ≡ false) × (desk.schedule ≡ opening 0) × IsUnwatched desk.watch) _ c.boxed.result c.boxed.ensures
    (refl, c.starting_at.ensures, c.new-3.ensures)
