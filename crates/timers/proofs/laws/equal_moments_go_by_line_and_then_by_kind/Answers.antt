use Rattle.std.proofs.Common.{arith}
use Rattle.timers.specs.declared.kind.LineDue.TheVariants.{DigitTimer, SignalEnd}
use Rattle.timers.specs.declared.kind.DueKind.TheVariants.{OfLine, Resend, Announce}
use Rattle.timers.proofs.OrderLemmas.{place_within}
use Rattle.timers.proofs.LeastLemmas.{by_kind}
use Rattle.timers.proofs.laws.equal_moments_go_by_line_and_then_by_kind.Goals as goal

pub returns-clause-timer : goal.returns-clause-timer
returns-clause-timer c = λ moment line signal. by_kind moment line (OfLine DigitTimer) (OfLine (SignalEnd signal)) (omega arith)

pub returns-clause-signals : goal.returns-clause-signals
returns-clause-signals c =
    λ moment line signal other less. by_kind moment line (OfLine (SignalEnd signal)) (OfLine (SignalEnd other)) (omega (arith, less))

pub returns-clause-command : goal.returns-clause-command
returns-clause-command c =
    λ moment line signal. by_kind moment line (OfLine (SignalEnd signal)) Resend (let few = place_within signal in omega (arith, few))

pub returns-clause-announcement : goal.returns-clause-announcement
returns-clause-announcement c = λ moment line. by_kind moment line Resend Announce (omega arith)
