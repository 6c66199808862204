-- What a tick leaves of a board and of a wire, gateway by gateway.
use Rattle.std.proofs.Common.{◌≡◌, ◌⊎◌, inl, inr, ℕ, ◌+◌, zero, suc, Bool, true, false, length, sym, subst, arith}
use Rattle.agent_log.specs.declared.tally.Tally.{Tally}
use Rattle.agent_log.specs.Counts.{with_given_up}
use Rattle.live_io.specs.Around.{Around}
use Rattle.agent_gateways.specs.Tallying.{counted_if}
use Rattle.agent_gateways.specs.declared.switchboard.Switchboard.{Switchboard}
use Rattle.live_agent.specs.declared.wire.Wire.{Wire}
use Rattle.live_agent.specs.Clock.{is_behind}
use Rattle.live_agent.specs.Sending.{SendsOver, SettlesLines}
use Rattle.live_agent.specs.Ticking.{GivesUpAll, GivesUpEach, GivesUpLast, GivesUpMany, GivesUpNext, GivesUpOne, TicksAll, TicksEach, TicksOne, WakesAll, WakesEach, WakesMany, WakesNext}
use Rattle.live_agent.specs.Turning.{DoesTick, TickedOver}
use Rattle.live_agent.proofs.SendingLemmas.{outputs_over, over_journal, over_none, sent_more, ticked_over}
use Rattle.live_agent.proofs.TypingLemmas.{by_gateways, gives_up, same_lines, settled_more}

-- whether a command was given up
pub given_counted : (found is_so : Bool) (was is : Tally) → found ≡ is_so → is ≡ counted_if is_so with_given_up was → is ≡ counted_if found with_given_up was
given_counted found is_so was is same counts = subst (λ (one : Bool). is ≡ counted_if one with_given_up was) (sym same) counts

-- whether a line was found
pub woken_so : (found is_so : Bool) (place : ℕ) (board now : Switchboard) → found ≡ is_so → WakesNext found place board now → WakesNext is_so place board now
woken_so found is_so place board now same wakes = subst (λ (one : Bool). WakesNext one place board now) same wakes

-- one more waits
woken_by : (place count next : ℕ) (board woken now : Switchboard) → next ≡ suc count → WakesMany place count board woken
    → WakesNext true place woken now → WakesMany place next board now
woken_by place count next board woken now one_more so_far line =
    subst (λ (many : ℕ). WakesMany place many board now) (sym one_more) (woken, so_far, line)

pub woken_more : (place count : ℕ) (board woken now : Switchboard) → WakesMany place count board woken → WakesNext true place woken now
    → WakesMany place (count + 1) board now
woken_more place count board woken now so_far line = woken_by place count (count + 1) board woken now (omega arith) so_far line

woken_lines : (place count : ℕ) (board now : Switchboard) → WakesMany place count board now → SettlesLines board now
woken_lines place zero board now same = same_lines board now same
woken_lines place (suc count) board now wakes =
    settled_more board wakes.0 now (woken_lines place count board wakes.0 wakes.1) wakes.2.rest

last_lines : (count : ℕ) (woken now : Switchboard) (place most : ℕ) → WakesNext false place woken now ⊎ ((count ≡ most) × (now ≡ woken)) → SettlesLines woken now
last_lines count woken now place most (inl none) = none.rest
last_lines count woken now place most (inr enough) = same_lines woken now enough.1

all_lines : (place : ℕ) (board now : Switchboard) → WakesAll place board now → SettlesLines board now
all_lines place board now wakes =
    settled_more board wakes.woken now (woken_lines place wakes.count board wakes.woken wakes.many) (last_lines wakes.count wakes.woken now place _ wakes.last)

-- those of one gateway more do
waked_by : (place next : ℕ) (board woken now : Switchboard) → next ≡ suc place → WakesEach place board woken → WakesAll place woken now
    → WakesEach next board now
waked_by place next board woken now one_more so_far all =
    subst (λ (count : ℕ). WakesEach count board now) (sym one_more) (woken, so_far, all)

pub waked_more : (place : ℕ) (board woken now : Switchboard) → WakesEach place board woken → WakesAll place woken now → WakesEach (place + 1) board now
waked_more place board woken now so_far all = waked_by place (place + 1) board woken now (omega arith) so_far all

pub waked_lines : (count : ℕ) (board now : Switchboard) → WakesEach count board now → SettlesLines board now
waked_lines zero board now same = same_lines board now same
waked_lines (suc place) board now wakes =
    settled_more board wakes.0 now (waked_lines place board wakes.0 wakes.1) (all_lines place wakes.0 now wakes.2)

module _ {S : Type 0} where
  pub given_so : (found is_so : Bool) (place : ℕ) (board now : Switchboard) (was is : Wire S) → found ≡ is_so → GivesUpNext found place board was now is
      → GivesUpNext is_so place board was now is
  given_so found is_so place board now was is same gives = subst (λ (one : Bool). GivesUpNext one place board was now is) same gives

  next_over : (found : Bool) (place : ℕ) (board now : Switchboard) (was is : Wire S) → GivesUpNext found place board was now is → SendsOver was is
  next_over found place board now was is gives = over_journal was is gives.rest

  next_lines : (found : Bool) (place : ℕ) (board now : Switchboard) (was is : Wire S) → GivesUpNext found place board was now is → SettlesLines board now
  next_lines found place board now was is gives = gives_up place board now gives.gives_up

  none_lines : (count place : ℕ) (board now : Switchboard) (was is : Wire S) → GivesUpLast count place board was now is → SettlesLines board now
  none_lines count place board now was is (inl none) = next_lines false place board now was is none
  none_lines count place board now was is (inr enough) = same_lines board now enough.1

  none_over : (count place : ℕ) (board now : Switchboard) (was is : Wire S) → GivesUpLast count place board was now is → SendsOver was is
  none_over count place board now was is (inl none) = next_over false place board now was is none
  none_over count place board now was is (inr enough) = over_none was is enough.2

module _ {S : Type 0} (around : Around S) where
  -- one agent's clock more goes on
  ticked_by : (to place next : ℕ) (board ticked now : Switchboard) (was sent is : Wire S) → next ≡ suc place → TicksEach around to place board was ticked sent
      → TicksOne around to place ticked sent now is → TicksEach around to next board was now is
  ticked_by to place next board ticked now was sent is one_more so_far one =
      subst (λ (count : ℕ). TicksEach around to count board was now is) (sym one_more) (ticked, sent, so_far, one)

  pub ticked_more : (to place : ℕ) (board ticked now : Switchboard) (was sent is : Wire S) → TicksEach around to place board was ticked sent
      → TicksOne around to place ticked sent now is → TicksEach around to (place + 1) board was now is
  ticked_more to place board ticked now was sent is so_far one =
      ticked_by to place (place + 1) board ticked now was sent is (omega arith) so_far one

  ticked_lines : (to count : ℕ) (board now : Switchboard) (was is : Wire S) → TicksEach around to count board was now is → SettlesLines board now
  ticked_lines to zero board now was is ticks = same_lines board now ticks.0
  ticked_lines to (suc place) board now was is ticks =
      settled_more board ticks.0 now (ticked_lines to place board ticks.0 was ticks.1 ticks.2) (by_gateways ticks.0 now ticks.3.rest)

  clocks_over : (to count : ℕ) (board now : Switchboard) (was is : Wire S) → TicksEach around to count board was now is → SendsOver was is
  clocks_over to zero board now was is ticks = over_none was is ticks.1
  clocks_over to (suc place) board now was is ticks =
      sent_more was ticks.1 is (clocks_over to place board ticks.0 was ticks.1 ticks.2)
      (outputs_over around true ticks.3.outputs ticks.3.went_on ticks.1 is ticks.3.goes)

  -- one command more is given up
  given_by : (place count next : ℕ) (board given now : Switchboard) (was told is : Wire S) → next ≡ suc count → GivesUpMany around place count board was given told
      → GivesUpOne around place given told now is → GivesUpMany around place next board was now is
  given_by place count next board given now was told is one_more so_far one =
      subst (λ (many : ℕ). GivesUpMany around place many board was now is) (sym one_more) (given, told, so_far, one)

  pub given_more : (place count : ℕ) (board given now : Switchboard) (was told is : Wire S) → GivesUpMany around place count board was given told
      → GivesUpOne around place given told now is → GivesUpMany around place (count + 1) board was now is
  given_more place count board given now was told is so_far one =
      given_by place count (count + 1) board given now was told is (omega arith) so_far one

  many_lines : (place count : ℕ) (board now : Switchboard) (was is : Wire S) → GivesUpMany around place count board was now is → SettlesLines board now
  many_lines place zero board now was is gives = same_lines board now gives.0
  many_lines place (suc count) board now was is gives =
      settled_more board gives.0 now (many_lines place count board gives.0 was gives.1 gives.2)
      (settled_more gives.0 gives.3.given now (next_lines true place gives.0 gives.3.given gives.1 gives.3.told gives.3.gives_up) gives.3.settles.lines)

  many_over : (place count : ℕ) (board now : Switchboard) (was is : Wire S) → GivesUpMany around place count board was now is → SendsOver was is
  many_over place zero board now was is gives = over_none was is gives.1
  many_over place (suc count) board now was is gives =
      sent_more was gives.1 is (many_over place count board gives.0 was gives.1 gives.2)
      (sent_more gives.1 gives.3.told is (next_over true place gives.0 gives.3.given gives.1 gives.3.told gives.3.gives_up) gives.3.settles.over)

  -- what is given up at one gateway more
  gave_by : (place next : ℕ) (board given now : Switchboard) (was told is : Wire S) → next ≡ suc place → GivesUpEach around place board was given told
      → GivesUpAll around place given told now is → GivesUpEach around next board was now is
  gave_by place next board given now was told is one_more so_far all =
      subst (λ (count : ℕ). GivesUpEach around count board was now is) (sym one_more) (given, told, so_far, all)

  pub gave_more : (place : ℕ) (board given now : Switchboard) (was told is : Wire S) → GivesUpEach around place board was given told
      → GivesUpAll around place given told now is → GivesUpEach around (place + 1) board was now is
  gave_more place board given now was told is so_far all = gave_by place (place + 1) board given now was told is (omega arith) so_far all

  gave_lines : (count : ℕ) (board now : Switchboard) (was is : Wire S) → GivesUpEach around count board was now is → SettlesLines board now
  gave_lines zero board now was is gives = same_lines board now gives.0
  gave_lines (suc place) board now was is gives =
      settled_more board gives.0 now (gave_lines place board gives.0 was gives.1 gives.2)
      (settled_more gives.0 gives.3.given now (many_lines place gives.3.count gives.0 gives.3.given gives.1 gives.3.told gives.3.many)
      (none_lines gives.3.count place gives.3.given now gives.3.told is gives.3.last))

  gave_over : (count : ℕ) (board now : Switchboard) (was is : Wire S) → GivesUpEach around count board was now is → SendsOver was is
  gave_over zero board now was is gives = over_none was is gives.1
  gave_over (suc place) board now was is gives =
      sent_more was gives.1 is (gave_over place board gives.0 was gives.1 gives.2)
      (sent_more gives.1 gives.3.told is (many_over place gives.3.count gives.0 gives.3.given gives.1 gives.3.told gives.3.many)
      (none_over gives.3.count place gives.3.given now gives.3.told is gives.3.last))

  -- all of it
  pub tick_lines : (moment to : ℕ) (board now : Switchboard) (was is : Wire S) → TicksAll around moment to board was now is → SettlesLines board now
  tick_lines moment to board now was is ticks =
      settled_more board ticks.woken now
      (settled_more board ticks.given ticks.woken
      (settled_more board ticks.ticked ticks.given
      (ticked_lines to (length board.gateways.items) board ticks.ticked (record was { now = record was.now { clock = to } }) ticks.said ticks.ticks)
      (gave_lines (length ticks.ticked.gateways.items) ticks.ticked ticks.given (record ticks.said { is_behind = is_behind moment to }) ticks.told
      ticks.gives_up))
      (waked_lines (length ticks.given.gateways.items) ticks.given ticks.woken ticks.wakes))
      ticks.settles.lines

  tick_told : (moment to : ℕ) (board now : Switchboard) (was is : Wire S) (ticks : TicksAll around moment to board was now is)
      → SendsOver (record ticks.said { is_behind = is_behind moment to }) is
  tick_told moment to board now was is ticks =
      sent_more (record ticks.said { is_behind = is_behind moment to }) ticks.told is
      (gave_over (length ticks.ticked.gateways.items) ticks.ticked ticks.given (record ticks.said { is_behind = is_behind moment to }) ticks.told
      ticks.gives_up)
      ticks.settles.over

  pub tick_over : (moment to : ℕ) (board now : Switchboard) (was is : Wire S) → TicksAll around moment to board was now is → TickedOver moment to was is
  tick_over moment to board now was is ticks =
      let said : SendsOver (record was { now = record was.now { clock = to } }) ticks.said
      = clocks_over to (length board.gateways.items) board ticks.ticked (record was { now = record was.now { clock = to } }) ticks.said ticks.ticks in
      let told : SendsOver (record ticks.said { is_behind = is_behind moment to }) is = tick_told moment to board now was is ticks in
      ticked_over was ticks.said is to (is_behind moment to) said told

  pub did_tick : (moment to : ℕ) (board now : Switchboard) (was is : Wire S) → TicksAll around moment to board was now is
      → DoesTick around moment to board now was is
  did_tick moment to board now was is ticks = record {
    ticks = ticks;
    lines = tick_lines moment to board now was is ticks;
    over = tick_over moment to board now was is ticks;
  }
