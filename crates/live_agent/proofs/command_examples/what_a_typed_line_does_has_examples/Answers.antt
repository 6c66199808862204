use Rattle.std.proofs.Common.{◌≡◌, ◌⊎◌, inl, inr, ℕ, List, [], Option, Result, refl, sym, ap, subst}
use Rattle.std.specs.Prelude.{codes}
use Rattle.std.specs.declared.net.socket_addr.SocketAddr.{SocketAddr}
use Rattle.call_agent.specs.declared.issuing.Issued.{Issued}
use Rattle.mg_bytes.specs.Lines.{cut, line_of}
use Rattle.live_io.specs.Around.{Around}
use Rattle.live_io.specs.Hearing.{AnswersTo}
use Rattle.live_io.specs.Typing.{left_of}
use Rattle.agent_gateways.specs.Typed.{typed_text}
use Rattle.agent_gateways.specs.declared.switchboard.Switchboard.{Switchboard}
use Rattle.agent_gateways.specs.declared.typed.TypedFault.{TypedFault}
use Rattle.agent_gateways.specs.declared.typed.TypedFault.TheVariants.{OutOfMemory, Unknown}
use Rattle.live_agent.specs.AnyAround.{anywhere}
use Rattle.live_agent.specs.TypedCommands.{fault_text, AnswersAll, AnswersCommand, AnswersIssued, DoesCommand, IsTypedNext}
use Rattle.live_agent.specs.declared.wire.Wire.{Wire}
use Rattle.live_agent.proofs.command_examples.what_a_typed_line_does_has_examples.Goals as goal

pub returns-clause-next : goal.returns-clause-next
returns-clause-next c = λ piece rest board now was is left answers.
    inr (
      typed_text (line_of piece) rest,
      subst (λ (pieces : List (List ℕ)). IsTypedNext pieces (typed_text (line_of piece) rest)) (sym left) (rest, refl, refl),
      answers,
    )

pub returns-clause-before : goal.returns-clause-before
returns-clause-before c = λ board was is answered. inl (refl, answered)

-- a text that is no command is answered as none, or memory is refused
by_answer : (around : Around ℕ) (C : Type 0) (board now : Switchboard) (was is : Wire ℕ)
    → (now ≡ board → (fault : TypedFault) → (fault ≡ OutOfMemory) ⊎ (fault ≡ Unknown) → AnswersAll around.answers (fault_text fault) was is → C)
    → AnswersCommand around [] board now was is → C
unfolding cut
by_answer around C board now was is told (inl none) = told none.0 OutOfMemory (inl refl) none.1
by_answer around C board now was is told (inr some) =
    told some.1.1 Unknown (inr refl)
    (subst (λ (result : Result Issued TypedFault). AnswersIssued around result was is) some.1.0 some.2)

-- where no line is left
by_nothing : (around : Around ℕ) (C : Type 0) (board now : Switchboard) (was is : Wire ℕ)
    → (now ≡ board → (fault : TypedFault) → (fault ≡ OutOfMemory) ⊎ (fault ≡ Unknown) → AnswersAll around.answers (fault_text fault) was is → C)
    → left_of was.lines ≡ [] → DoesCommand around board now was is → C
by_nothing around C board now was is told left (inl none) = told none.0 OutOfMemory (inl refl) none.1
by_nothing around C board now was is told left (inr some) =
    by_answer around C board now was is told
    (subst (λ (text : List ℕ). AnswersCommand around text board now was is)
    (subst (λ (pieces : List (List ℕ)). IsTypedNext pieces some.0) left some.1) some.2)

pub returns-clause-nothing : goal.returns-clause-nothing
returns-clause-nothing c = λ board now was is. by_nothing anywhere _ board now was is (λ stays fault which answered.
    (stays, ap (λ (wire : Wire ℕ). wire.journal) answered.rest))

told_so : (text : List ℕ) (fault : TypedFault) → (fault ≡ OutOfMemory) ⊎ (fault ≡ Unknown) → text ≡ fault_text fault
    → (text ≡ codes "! 1 OutOfMemory\n") ⊎ (text ≡ codes "? VERB NAME, counts, or stop\n")
told_so text fault (inl memory) is = inl (subst (λ (one : TypedFault). text ≡ fault_text one) memory is)
told_so text fault (inr unknown) is = inr (subst (λ (one : TypedFault). text ≡ fault_text one) unknown is)

pub returns-clause-told : goal.returns-clause-told
returns-clause-told c = λ sender text board now was is from. by_nothing (record anywhere { answers = λ (before : ℕ) (to : SocketAddr) (said : List ℕ) (after : ℕ). text ≡ said }) _ board now was is (λ stays fault which answered.
    told_so text fault which
    (subst (λ (one : Option SocketAddr).
    AnswersTo (λ (before : ℕ) (to : SocketAddr) (said : List ℕ) (after : ℕ). text ≡ said) one was.around (fault_text fault) is.around)
    from answered.answered))
