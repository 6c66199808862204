-- What goes over a wire leaves the rest of it, however much that is.
use Rattle.std.proofs.Common.{◌≡◌, ℕ, Bool, true, false, List, [], ◌∷◌, Option, Some, None, Result, Ok, Err, sym, ap, subst, ◌∙◌}
use Rattle.std.specs.Prelude.{is_some}
use Rattle.std.specs.declared.net.socket_addr.SocketAddrV4.{SocketAddrV4}
use Rattle.call_agent.specs.declared.issuing.Issued.{Issued}
use Rattle.call_agent.specs.declared.issuing.IssueFault.{IssueFault}
use Rattle.machine_rules.specs.declared.refusal.Refusal.{Refusal}
use Rattle.transmission.specs.declared.output.OutDatagram.{OutDatagram}
use Rattle.live_agent.specs.declared.wire.Wire.{Wire}
use Rattle.live_io.specs.Around.{Around}
use Rattle.impairment.specs.declared.network.BadNetwork.{BadNetwork}
use Rattle.impairment.specs.declared.packet.Way.TheVariants.{Out}
use Rattle.live_agent.specs.Handing.{Leaves, OffersTo}
use Rattle.live_agent.specs.Sending.{GoesOut, SendsAll, SendsCommand, SendsOutputs, SendsOver}
use Rattle.live_agent.specs.Settling.{SendsIssued}
use Rattle.live_agent.specs.Tallying.{OnlyNotes}

module _ {S : Type 0} where
  -- nothing of it has changed
  pub over_none : (was is : Wire S) → is ≡ was → SendsOver was is
  over_none was is next =
      next ∙ ap (λ (one : Wire S). record was { around = one.around; network = one.network; journal = one.journal }) (sym next)

  -- more goes over it
  pub sent_more : (was between is : Wire S) → SendsOver was between → SendsOver between is → SendsOver was is
  sent_more was between is so_far next =
      next ∙ ap (λ (one : Wire S). record one { around = is.around; network = is.network; journal = is.journal }) so_far

  -- it was offered to the network that spoils it
  pub over_network : (was is : Wire S) → is ≡ record was { network = is.network; journal = is.journal } → SendsOver was is
  over_network was is next =
      next ∙ ap (λ (one : Wire S). record was { around = one.around; network = is.network; journal = is.journal }) (sym next)

  -- it was put onto the machine's network
  pub over_leaving : (was is : Wire S) → is ≡ record was { around = is.around; journal = is.journal } → SendsOver was is
  over_leaving was is next =
      next ∙ ap (λ (one : Wire S). record was { around = is.around; network = one.network; journal = is.journal }) (sym next)

  -- the network handed something out
  pub over_taken : (was is : Wire S) → is ≡ record was { network = is.network } → SendsOver was is
  over_taken was is next =
      next ∙ ap (λ (one : Wire S). record was { around = one.around; network = is.network; journal = one.journal }) (sym next)

  -- something was noted in the journal
  pub over_journal : (was is : Wire S) → is ≡ record was { journal = is.journal } → SendsOver was is
  over_journal was is next =
      next ∙ ap (λ (one : Wire S). record was { around = one.around; network = one.network; journal = is.journal }) (sym next)

  -- the clock went on before, and it became known whether it is behind
  pub ticked_over : (was start is : Wire S) (to : ℕ) (is_behind : Bool) → SendsOver (record was { now = record was.now { clock = to } }) start
      → SendsOver (record start { is_behind = is_behind }) is
      → is ≡ record was { around = is.around; network = is.network; journal = is.journal; now = record was.now { clock = to }; is_behind = is_behind }
  ticked_over was start is to is_behind so_far next =
      next ∙ ap (λ (one : Wire S). record one { around = is.around; network = is.network; journal = is.journal; is_behind = is_behind }) so_far

  -- a turn begins, and it becomes known whether the clock is behind
  pub begun_so : (was begun : Wire S) (is_so known : Bool) → begun ≡ record was { now = record was.now { time = begun.now.time } } → is_so ≡ known
      → record begun { is_behind = is_so } ≡ record was { now = record was.now { time = begun.now.time }; is_behind = known }
  begun_so was begun is_so known begins known_is =
      ap (λ (one : Wire S). record one { is_behind = is_so }) begins
      ∙ ap (λ (is_behind : Bool). record was { now = record was.now { time = begun.now.time }; is_behind = is_behind }) known_is

module _ {S : Type 0} (around : Around S) where
  -- each of these was sent
  pub all_over : (is_repeat : Bool) (datagrams : List OutDatagram) (was is : Wire S) → SendsAll around is_repeat datagrams was is → SendsOver was is
  all_over is_repeat [] was is goes = over_none was is goes
  all_over is_repeat (datagram ∷ more) was is goes =
      sent_more was goes.0 is goes.1.over (all_over is_repeat more goes.0 is goes.2)

  pub outputs_over : (is_repeat : Bool) (outputs : Result (List OutDatagram) Refusal) (went_on : Bool) (was is : Wire S)
      → SendsOutputs around is_repeat outputs went_on was is → SendsOver was is
  outputs_over is_repeat (Ok outputs) went_on was is goes = all_over is_repeat outputs was is goes.1
  outputs_over is_repeat (Err refusal) went_on was is goes = over_journal was is goes.1

  -- a command was
  pub command_over : (datagram : OutDatagram) (was is : Wire S) → SendsCommand around datagram was is → SendsOver was is
  command_over datagram was is goes = sent_more was goes.counted is (over_journal was goes.counted goes.rest) goes.goes.over

  pub issued_over : (issued : Result (Option Issued) IssueFault) (was is : Wire S) → SendsIssued around issued was is → SendsOver was is
  issued_over (Ok None) was is goes = over_none was is goes
  issued_over (Ok (Some issued)) was is goes = command_over issued.datagram was is goes
  issued_over (Err fault) was is goes = over_journal was is goes.0

  -- it went out, where a network spoils it or none does
  pub goes_offered : (to : SocketAddrV4) (bytes : List ℕ) (network : Option BadNetwork) (was is : Wire S) → is_some network ≡ true
      → OffersTo Out to bytes was.now.clock network is.network was.journal.value.tally is.journal.value.tally
      → OnlyNotes was.journal.value is.journal.value → is ≡ record was { network = is.network; journal = is.journal } → GoesOut around to bytes network was is
  goes_offered to bytes None was is some offers notes rest = absurd cc
  goes_offered to bytes (Some network) was is some offers notes rest = (offers, notes, rest)

  pub goes_leaving : (to : SocketAddrV4) (bytes : List ℕ) (network : Option BadNetwork) (was between is : Wire S) → is_some network ≡ false
      → between ≡ was → Leaves around to bytes between is → GoesOut around to bytes network was is
  goes_leaving to bytes None was between is none same leaves = subst (λ (one : Wire S). Leaves around to bytes one is) same leaves
  goes_leaving to bytes (Some network) was between is none same leaves = absurd cc
