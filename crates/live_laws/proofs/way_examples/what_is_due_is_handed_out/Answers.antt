use Rattle.std.proofs.Common.{List, Option, ◌∙◌, ap}
use Rattle.impairment.specs.declared.packet.Packet.{Packet}
use Rattle.impairment.specs.Waiting.{taken}
use Rattle.live_laws.proofs.way_examples.what_is_due_is_handed_out.Goals as goal

pub returns-clause-due : goal.returns-clause-due
returns-clause-due c = λ packet was is waits takes.
    let both = takes.0 ∙ ap (λ (l : List Packet). taken 5 l) waits in
    (ap (λ (r : Option Packet × List Packet). r.0) both, ap (λ (r : Option Packet × List Packet). r.1) both)

pub returns-clause-later : goal.returns-clause-later
returns-clause-later c = λ packet was is waits takes.
    let both = takes.0 ∙ ap (λ (l : List Packet). taken 5 l) waits in
    (ap (λ (r : Option Packet × List Packet). r.0) both, ap (λ (r : Option Packet × List Packet). r.1) both)

pub returns-clause-none : goal.returns-clause-none
returns-clause-none c = λ packet was is waits takes.
    ap (λ (r : Option Packet × List Packet). r.0) (takes.0 ∙ ap (λ (l : List Packet). taken 5 l) waits)

pub returns-clause-undrawn : goal.returns-clause-undrawn
returns-clause-undrawn c = λ packet was is takes. (takes.2, takes.1)

pub returns-clause-nowhere : goal.returns-clause-nowhere
returns-clause-nowhere c = λ packet is takes. takes

pub returns-clause-kept : goal.returns-clause-kept
returns-clause-kept c = λ packet was takes. takes

pub returns-clause-before : goal.returns-clause-before
returns-clause-before c = λ packet was is waits takes.
    ap (λ (r : Option Packet × List Packet). r.0) (takes.0 ∙ ap (λ (l : List Packet). taken 5 l) waits)
