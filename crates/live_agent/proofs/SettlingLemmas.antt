-- What it leaves of a board and of a wire that lines are settled, line by line.
use Rattle.std.proofs.Common.{◌≡◌, ℕ, ◌+◌, zero, suc, Bool, true, false, refl, sym, subst, arith}
use Rattle.live_io.specs.Around.{Around}
use Rattle.agent_gateways.specs.declared.switchboard.Switchboard.{Switchboard}
use Rattle.agent_gateways.specs.Boards.{settling_in}
use Rattle.live_agent.specs.declared.wire.Wire.{Wire}
use Rattle.live_agent.specs.Sending.{SendsOver, SettlesLines}
use Rattle.live_agent.specs.Settling.{SendsEach, SendsNext, SettlesAll, SettlesBy, SettlesNow, ShowsEach, ShowsOne}
use Rattle.live_agent.proofs.SendingLemmas.{issued_over, over_journal, over_none, sent_more}
use Rattle.live_agent.proofs.TypingLemmas.{by_office, same_lines, settled_more}

module _ {S : Type 0} where
  -- one more is shown
  shown_by : (index next : ℕ) (board shown now : Switchboard) (was told is : Wire S) → next ≡ suc index → ShowsEach index board was shown told
      → ShowsOne index shown told now is → ShowsEach next board was now is
  shown_by index next board shown now was told is one_more so_far line =
      subst (λ (count : ℕ). ShowsEach count board was now is) (sym one_more) (shown, told, so_far, line)

  pub shown_more : (index : ℕ) (board shown now : Switchboard) (was told is : Wire S) → ShowsEach index board was shown told
      → ShowsOne index shown told now is → ShowsEach (index + 1) board was now is
  shown_more index board shown now was told is so_far line =
      shown_by index (index + 1) board shown now was told is (omega arith) so_far line

  pub shown_lines : (count : ℕ) (board now : Switchboard) (was is : Wire S) → ShowsEach count board was now is → SettlesLines board now
  shown_lines zero board now was is shows = same_lines board now shows.0
  shown_lines (suc index) board now was is shows =
      settled_more board shows.0 now (shown_lines index board shows.0 was shows.1 shows.2) (by_office shows.0 now shows.3.rest)

  pub shown_over : (count : ℕ) (board now : Switchboard) (was is : Wire S) → ShowsEach count board was now is → SendsOver was is
  shown_over zero board now was is shows = over_none was is shows.1
  shown_over (suc index) board now was is shows =
      sent_more was shows.1 is (shown_over index board shows.0 was shows.1 shows.2) (over_journal shows.1 is shows.3.leaves)

module _ {S : Type 0} (around : Around S) where
  -- one more is sent what it is to be sent
  issued_by : (index next : ℕ) (board issued now : Switchboard) (was sent is : Wire S) → next ≡ suc index → SendsEach around index board was issued sent
      → SendsNext around index issued sent now is → SendsEach around next board was now is
  issued_by index next board issued now was sent is one_more so_far line =
      subst (λ (count : ℕ). SendsEach around count board was now is) (sym one_more) (issued, sent, so_far, line)

  pub issued_more : (index : ℕ) (board issued now : Switchboard) (was sent is : Wire S) → SendsEach around index board was issued sent
      → SendsNext around index issued sent now is → SendsEach around (index + 1) board was now is
  issued_more index board issued now was sent is so_far line =
      issued_by index (index + 1) board issued now was sent is (omega arith) so_far line

  issued_lines : (count : ℕ) (board now : Switchboard) (was is : Wire S) → SendsEach around count board was now is → SettlesLines board now
  issued_lines zero board now was is issues = same_lines board now issues.0
  issued_lines (suc index) board now was is issues =
      settled_more board issues.0 now (issued_lines index board issues.0 was issues.1 issues.2) issues.3.rest

  each_over : (count : ℕ) (board now : Switchboard) (was is : Wire S) → SendsEach around count board was now is → SendsOver was is
  each_over zero board now was is issues = over_none was is issues.1
  each_over (suc index) board now was is issues =
      sent_more was issues.1 is (each_over index board issues.0 was issues.1 issues.2) (issued_over around issues.3.issued issues.1 is issues.3.goes)

  now_lines : (board now : Switchboard) (was is : Wire S) → SettlesNow around board was now is → SettlesLines board now
  now_lines board now was is so =
      settled_more board so.shown now
      (settled_more board so.begun so.shown (by_office board so.begun so.rest) (shown_lines (settling_in so.begun.office) so.begun so.shown was so.told so.shows))
      (issued_lines (settling_in so.begun.office) so.shown now so.told is so.goes)

  now_over : (board now : Switchboard) (was is : Wire S) → SettlesNow around board was now is → SendsOver was is
  now_over board now was is so =
      sent_more was so.told is (shown_over (settling_in so.begun.office) so.begun so.shown was so.told so.shows)
      (each_over (settling_in so.begun.office) so.shown now so.told is so.goes)

  -- the clock is behind, or it isn't
  pub settled_none : (board : Switchboard) (was : Wire S) → was.is_behind ≡ true → SettlesAll around board was board was
  settled_none board was behind = record {
    lines = refl;
    over = over_none was was refl;
    by = subst (λ (is_behind : Bool). SettlesBy around is_behind board was board was) (sym behind) (refl, refl);
  }

  pub settled_now : (board now : Switchboard) (was is : Wire S) → was.is_behind ≡ false → SettlesNow around board was now is
      → SettlesAll around board was now is
  settled_now board now was is ahead so = record {
    lines = now_lines board now was is so;
    over = now_over board now was is so;
    by = subst (λ (is_behind : Bool). SettlesBy around is_behind board was now is) (sym ahead) so;
  }
