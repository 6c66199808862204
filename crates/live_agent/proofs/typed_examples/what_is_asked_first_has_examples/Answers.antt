use Rattle.std.proofs.Common.{◌≡◌, ℕ, List, [], ◌∷◌, Bool, true, false, ◌==◌, take, Option, None, ◌∙◌, refl, sym, ap, subst, true≢false}
use Rattle.std.specs.Prelude.{codes, IsTrue, IsSomeAnd}
use Rattle.std.specs.Net.Addr.{IsLoopbackV4, IsLoopbackV6, MatchIp}
use Rattle.std.specs.Net.Socket.{socket_ip}
use Rattle.std.specs.declared.net.socket_addr.SocketAddr.{SocketAddr}
use Rattle.live_io.proofs.Computing.{on_examples}
use Rattle.live_io.specs.Example.{there}
use Rattle.live_io.specs.Typing.{left_of}
use Rattle.live_io.specs.declared.lines.Lines.{Lines}
use Rattle.live_agent.specs.declared.session.Request.{Request}
use Rattle.live_agent.specs.declared.session.Request.TheVariants.{Nothing, Counts, Stop, StopFromAfar}
use Rattle.live_agent.specs.Turning.{first_request, AsksFirst}
use Rattle.live_agent.proofs.typed_examples.what_is_asked_first_has_examples.Goals as goal

abbrev IsNear : Option SocketAddr → Type 0
IsNear sender = IsSomeAnd sender (λ (one : SocketAddr). MatchIp (socket_ip one) IsLoopbackV4 IsLoopbackV6)

is_false : (b : Bool) → (IsTrue b → ⊥) → b ≡ false
is_false true never = absurd (never refl)
is_false false never = refl

-- who sent the lines is near, or isn't, and these lines are left
near : (lines : Lines) (request : Request) (sender : Option SocketAddr) (left : List (List ℕ)) → lines.sender ≡ sender → IsNear sender
    → left_of lines ≡ left → AsksFirst lines request → request ≡ first_request true left
near lines request sender left from is_near left_is asks =
    asks.2 ∙ ap (λ (one : Bool). first_request one (left_of lines)) (asks.1.1 (subst IsNear (sym from) is_near))
    ∙ ap (first_request true) left_is

afar : (lines : Lines) (request : Request) (sender : Option SocketAddr) (left : List (List ℕ)) → lines.sender ≡ sender
    → (IsNear sender → ⊥) → left_of lines ≡ left → AsksFirst lines request → request ≡ first_request false left
afar lines request sender left from is_afar left_is asks =
    asks.2
    ∙ ap (λ (one : Bool). first_request one (left_of lines))
    (is_false asks.0 (λ (so : IsTrue asks.0). is_afar (subst IsNear from (asks.1.0 so))))
    ∙ ap (first_request false) left_is

abbrev stop : List (List ℕ)
stop = codes "stop\n" ∷ []

stops : first_request true stop ≡ Stop
unfolding on_examples
stops = refl

stops_afar : first_request false stop ≡ StopFromAfar
unfolding on_examples
stops_afar = refl

pub returns-clause-here : goal.returns-clause-here
returns-clause-here c = λ lines request from left asks. near lines request _ stop from refl left asks ∙ stops

pub returns-clause-here_by_six : goal.returns-clause-here_by_six
returns-clause-here_by_six c = λ lines request from left asks. near lines request _ stop from refl left asks ∙ stops

abbrev begins_so : List ℕ → Bool
begins_so [] = false
begins_so (octet ∷ octets) = octet == 127

away : take 1 there ≡ 127 ∷ [] → ⊥
away same = true≢false (sym (ap begins_so same))

pub returns-clause-elsewhere : goal.returns-clause-elsewhere
returns-clause-elsewhere c = λ lines request from left asks.
    afar lines request _ stop from (λ is_near. away is_near) left asks ∙ stops_afar

pub returns-clause-nobody : goal.returns-clause-nobody
returns-clause-nobody c = λ lines request from left asks. afar lines request None stop from (λ is_near. is_near) left asks ∙ stops_afar

counts_first : first_request false (codes "counts\n" ∷ stop) ≡ Counts
unfolding on_examples
counts_first = refl

pub returns-clause-first : goal.returns-clause-first
returns-clause-first c = λ lines from left. (
  false,
  ((λ so. absurd cc), (λ is_near. absurd (subst IsNear from is_near))),
  sym (ap (first_request false) left ∙ counts_first),
)

nothing_left : (is_near : Bool) → first_request is_near [] ≡ Nothing
nothing_left is_near = refl

pub returns-clause-nothing : goal.returns-clause-nothing
returns-clause-nothing c = λ lines request left asks. asks.2 ∙ ap (first_request asks.0) left ∙ nothing_left asks.0
