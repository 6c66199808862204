-- A line's last command that had its time was brought to the agent behind the step at which it began.
use Rattle.std.proofs.Common.{◌≡◌, ℕ, ◌+◌, ◌≤◌, Bool, true, false, if◌then◌else◌, List, [], ◌∷◌, ◌++◌, Some, inl, inr, refl, sym, subst}
use Rattle.std.specs.Prelude.{◌⊎◌, slice_get}
use Rattle.plain_machine.specs.declared.setup.Setup.{Setup}
use Rattle.plain_machine.specs.Lists.{sent_of}
use Rattle.plain_machine.specs.Message.{Begun, Sent}
use Rattle.plain_machine.specs.Setup.{IsSetUp}
use Rattle.machine_laws.specs.Belonging.{is_of, of_line}
use Rattle.machine_laws.specs.Saying.{OneOf, begun_at, begun_in}
use Rattle.machine_laws.proofs.EachLemmas.{any_from_one, one_before, one_behind}
use Rattle.agent_core.specs.World.{WorldStep, now_in, plain_world, steps_are_taken, world_opening}
use Rattle.world_laws.specs.Reached.{own_in}
use Rattle.world_laws.proofs.WorldLemmas.{line_began}
use Rattle.world_laws.specs.Taking.{IsOwn}
use Rattle.world_laws.specs.Fairness.{AgentAlwaysHasRoom, GoesToAgent}
use Rattle.world_laws.proofs.BroughtLaws.{HandsOver, IsBrought, brought_with}
use Rattle.world_laws.proofs.FairLaws.{IsBefore, stays_found}
use Rattle.world_laws.proofs.FirstSendLemmas.{PostedThen, handed_behind, posted_then}
use Rattle.world_laws.proofs.LookLemmas.{one_parted}

-- what a line began the gateway began
pub begun_of_all : (P : Begun → Type 0) (line : ℕ) (sent : List Sent) → OneOf P (begun_in (of_line line sent)) → OneOf P (begun_in sent)
begun_of_all P line [] one = one
begun_of_all P line (s ∷ sent) one = by_test (is_of line s.owner) one (λ there. begun_of_all P line sent there) where
  by_part : OneOf P (begun_at s) ⊎ OneOf P (begun_in (of_line line sent))
      → (OneOf P (begun_in (of_line line sent)) → OneOf P (begun_in sent)) → OneOf P (begun_in (s ∷ sent))
  by_part (inl here) on = one_before P (begun_at s) (begun_in sent) here
  by_part (inr there) on = one_behind P (begun_at s) (begun_in sent) (on there)

  by_test : (b : Bool) → OneOf P (begun_in (if b then s ∷ of_line line sent else of_line line sent))
      → (OneOf P (begun_in (of_line line sent)) → OneOf P (begun_in sent)) → OneOf P (begun_in (s ∷ sent))
  by_test true one on = by_part (one_parted P (begun_at s) (begun_in (of_line line sent)) one) on
  by_test false one on = one_behind P (begun_at s) (begun_in sent) (on one)

pub own_of_line : (setup : Setup) (line : ℕ) (steps : List WorldStep) (front : List Begun) (b : Begun)
    → line_began setup line steps ≡ front ++ b ∷ [] → IsOwn setup (plain_world setup steps) b
own_of_line setup line steps front b last =
    let w = plain_world setup steps in
    any_from_one (λ (one : Begun). one ≡ b) (own_in setup w)
    (begun_of_all (λ (one : Begun). one ≡ b) line (sent_of setup w.gateway_took)
    (subst (OneOf (λ (one : Begun). one ≡ b)) (sym last) (one_behind (λ (one : Begun). one ≡ b) front (b ∷ []) (inl refl))))

pub record IsBroughtThen (setup : Setup) (line : ℕ) (steps : List WorldStep) (within : ℕ) (b : Begun) : Type 0 where
  pub began : PostedThen setup line steps b
  pub is : IsBrought setup steps within b
  pub behind : IsBefore (began.some ++ began.step ∷ []) is.there.before

pub brought_then : (setup : Setup) (line : ℕ) (steps : List WorldStep) (limit within : ℕ) (front : List Begun) (b : Begun) → IsSetUp setup
    → steps_are_taken setup world_opening steps ≡ true → HandsOver setup steps limit within → AgentAlwaysHasRoom setup steps
    → line_began setup line steps ≡ front ++ b ∷ [] → let w = plain_world setup steps in GoesToAgent setup w b.text
    → b.moment + limit ≤ now_in setup w → IsBroughtThen setup line steps within b
brought_then setup line steps limit within front b set_up taken fair roomy last goes late =
    let began = posted_then setup line steps front b set_up taken last in
    let found : slice_get (plain_world setup steps).posted began.number ≡ Some began.post =
    subst (λ (s : List WorldStep). slice_get (plain_world setup s).posted began.number ≡ Some began.post) (sym began.order)
    (stays_found setup b.id (began.some ++ began.step ∷ []) began.later began.number began.post began.found) in
    let brought =
    brought_with setup steps limit within b set_up taken fair roomy (own_of_line setup line steps front b last) goes late
    began.number began.post found began.shows in
    record {
      began = began;
      is = brought.0;
      behind = handed_behind setup line steps within b began brought.0.number brought.0.post brought.1 brought.0.there;
    }
