-- A world takes steps one after the other.
use Rattle.std.proofs.Common.{◌≡◌, ℕ, ◌+◌, ◌<◌, Bool, true, false, ◌&&◌, List, [], ◌∷◌, ◌++◌, map, length, get_or, take, Option, None, refl, sym, ap, ◌∙◌, subst, append_assoc, append-nil}
use Rattle.std.specs.Prelude.{◌≢◌, is_none, IfSome, slice_get}
use Rattle.std.proofs.lemmas.Bool.{and_parts}
use Rattle.std.proofs.lemmas.List.{take_more, map-append}
use Rattle.std.proofs.lemmas.Option.{slice_get-get_or}
use Rattle.plain_machine.specs.declared.setup.Setup.{Setup}
use Rattle.agent_core.specs.declared.step.Step.{Step}
use Rattle.agent_core.specs.declared.step.StepRefusal.{StepRefusal}
use Rattle.agent_core.specs.declared.step.WorldStopped.{WorldStopped}
use Rattle.agent_core.specs.declared.step.StepRefusal.TheVariants.{OutOfMemory, TickTooFar, ClockBack, NoSuchLine, PhoneState, NoMoreIds, BadCommand, NoSuchPacket, PacketTooOld}
use Rattle.agent_core.specs.World.{World, WorldStep, world_opening, world_after, plain_world, steps_are_taken, step_refusal, went}
use Rattle.agent_core.specs.WorldStands.{WorldState, Keeps, WorldStands, WorldTook, WorldStoppedAt, Leaves, StepEnds, step_of, steps_before}
use Rattle.agent_core.specs.WorldWork.{Goes, Remains, Ends}

-- ---- lists of steps

after_more : (setup : Setup) (w : World) (a b : List WorldStep) → world_after setup w (a ++ b) ≡ world_after setup (world_after setup w a) b
unfolding world_after
after_more setup w [] b = refl
after_more setup w (s ∷ a) b = after_more setup (went setup w s) a b

after_one : (setup : Setup) (before : List WorldStep) (step : WorldStep) → plain_world setup (before ++ step ∷ []) ≡ went setup (plain_world setup before) step
unfolding world_after
after_one setup before step = after_more setup world_opening before (step ∷ [])

taken_more : (setup : Setup) (w : World) (a : List WorldStep) (step : WorldStep) → steps_are_taken setup w a ≡ true → step_refusal setup (world_after setup w a) step ≡ None
    → steps_are_taken setup w (a ++ step ∷ []) ≡ true
unfolding steps_are_taken world_after
taken_more setup w [] step all none = rw none refl
taken_more setup w (s ∷ a) step all none = by_first (is_none (step_refusal setup w s)) all (λ rest. taken_more setup (went setup w s) a step rest none) where
  by_first : (b : Bool) → (b && steps_are_taken setup (went setup w s) a) ≡ true
      → (steps_are_taken setup (went setup w s) a ≡ true → steps_are_taken setup (went setup w s) (a ++ step ∷ []) ≡ true)
      → (b && steps_are_taken setup (went setup w s) (a ++ step ∷ [])) ≡ true
  by_first true rest on = on rest
  by_first false rest on = absurd cc

taken_rest : (setup : Setup) (w : World) (a b : List WorldStep) → steps_are_taken setup w (a ++ b) ≡ true → steps_are_taken setup (world_after setup w a) b ≡ true
unfolding steps_are_taken world_after
taken_rest setup w [] b all = all
taken_rest setup w (s ∷ a) b all =
    let both = and_parts (is_none (step_refusal setup w s)) (steps_are_taken setup (went setup w s) (a ++ b)) all in
    taken_rest setup (went setup w s) a b both.1

-- ---- a world, some steps later

pub took_nothing : (w : WorldState) → WorldTook w [] w
took_nothing w = record { setup = refl; stands = λ before s. rw (append-nil before) s }

-- one step
pub took_step : (w w' : WorldState) (step : WorldStep) → Goes w step w' → WorldTook w (step ∷ []) w'
took_step w w' step goes = record {
  setup = goes.setup;
  stands = λ before s.
      let done = goes.keeps (plain_world w.gateway.setup before) s.keeps in
      record {
        taken = subst (λ (x : Setup). steps_are_taken x world_opening (before ++ step ∷ []) ≡ true) (sym goes.setup)
            (taken_more w.gateway.setup world_opening before step s.taken done.0);
        keeps = subst (λ (x : Setup). Keeps w' (plain_world x (before ++ step ∷ []))) (sym goes.setup)
            (subst (Keeps w') (sym (after_one w.gateway.setup before step)) done.1);
      };
}

-- steps, and then more
pub took_on : (w v u : WorldState) (a b : List WorldStep) → WorldTook w a v → WorldTook v b u → WorldTook w (a ++ b) u
took_on w v u a b first next = record {
  setup = next.setup ∙ first.setup;
  stands = λ before s. rw (← (append_assoc before a b)) (next.stands (before ++ a) (first.stands before s));
}

steps_more : (steps : List Step) (place : ℕ) (d : Step) → place < length steps
    → steps_before steps (place + 1) ≡ steps_before steps place ++ step_of (get_or steps place d) ∷ []
steps_more steps place d inside = ap (map step_of) (take_more steps place d inside) ∙ map-append step_of (take place steps) (get_or steps place d ∷ [])

-- the step at a place more
pub took_next : (w v u : WorldState) (steps : List Step) (place : ℕ) (d : Step) → place < length steps
    → WorldTook w (steps_before steps place) v → Goes v (step_of (get_or steps place d)) u → WorldTook w (steps_before steps (place + 1)) u
took_next w v u steps place d inside first goes =
    rw (steps_more steps place d inside) (took_on w v u (steps_before steps place) (step_of (get_or steps place d) ∷ []) first (took_step v u (step_of (get_or steps place d)) goes))

-- a step that did nothing
pub took_still : (w v u : WorldState) (a : List WorldStep) → WorldTook w a v → Remains v u → WorldTook w a u
took_still w v u a first same = record {
  setup = same.setup ∙ first.setup;
  stands = λ before s.
      let there = first.stands before s in
      record {
        taken = subst (λ (x : Setup). steps_are_taken x world_opening (before ++ a) ≡ true) (sym same.setup) there.taken;
        keeps = subst (λ (x : Setup). Keeps u (plain_world x (before ++ a))) (sym same.setup)
            (same.keeps (plain_world v.gateway.setup (before ++ a)) there.keeps);
      };
}

-- the step at a place
pub at_place : (P : Step → Type 0) (steps : List Step) (place : ℕ) (d : Step) → place < length steps → P (get_or steps place d) → IfSome (slice_get steps place) P
at_place P steps place d inside p = rw (slice_get-get_or steps place d inside) p

-- ---- where a run stops

-- whatever the reason: the world is spent, or it took what came before
pub stop_leaves : (w v u : WorldState) (a : List WorldStep) (refusal : StepRefusal) → WorldTook w a v → Leaves refusal (u.spent ≡ true) (Remains v u)
    → Leaves refusal (u.spent ≡ true) (WorldTook w a u)
stop_leaves w v u a OutOfMemory first left = left
stop_leaves w v u a TickTooFar first left = took_still w v u a first left
stop_leaves w v u a ClockBack first left = took_still w v u a first left
stop_leaves w v u a NoSuchLine first left = took_still w v u a first left
stop_leaves w v u a PhoneState first left = took_still w v u a first left
stop_leaves w v u a NoMoreIds first left = took_still w v u a first left
stop_leaves w v u a BadCommand first left = took_still w v u a first left
stop_leaves w v u a NoSuchPacket first left = took_still w v u a first left
stop_leaves w v u a PacketTooOld first left = took_still w v u a first left

-- the reason is that of the plain world that it stands for
pub stop_cause : (w v : WorldState) (a before : List WorldStep) (step : WorldStep) (given : Option StepRefusal) → WorldTook w a v → WorldStands w before → Ends v step given
    → StepEnds (step_refusal w.gateway.setup (plain_world w.gateway.setup (before ++ a)) step) given
stop_cause w v a before step given first s ends =
    rw (← first.setup) (ends (plain_world v.gateway.setup (before ++ a)) (first.stands before s).keeps)

-- none of the steps before is refused
pub stop_before : (w v : WorldState) (a before : List WorldStep) → WorldTook w a v → WorldStands w before
    → steps_are_taken w.gateway.setup (plain_world w.gateway.setup before) a ≡ true
stop_before w v a before first s =
    taken_rest w.gateway.setup world_opening before a
    (subst (λ (setup : Setup). steps_are_taken setup world_opening (before ++ a) ≡ true) first.setup (first.stands before s).taken)

-- ---- what a run that stopped leaves

pub stop_spends : (w w' : WorldState) (steps : List Step) (stopped : WorldStopped) → WorldStoppedAt w steps w' stopped → stopped.refusal ≡ OutOfMemory → w'.spent ≡ true
stop_spends w w' steps stopped stops is =
    subst (λ (refusal : StepRefusal). Leaves refusal (w'.spent ≡ true) (WorldTook w (steps_before steps stopped.place) w')) is stops.leaves

took_unless : (refusal : StepRefusal) (spent took : Type 0) → refusal ≢ OutOfMemory → Leaves refusal spent took → took
took_unless OutOfMemory spent took other left = absurd (other refl)
took_unless TickTooFar spent took other left = left
took_unless ClockBack spent took other left = left
took_unless NoSuchLine spent took other left = left
took_unless PhoneState spent took other left = left
took_unless NoMoreIds spent took other left = left
took_unless BadCommand spent took other left = left
took_unless NoSuchPacket spent took other left = left
took_unless PacketTooOld spent took other left = left

pub stop_took : (w w' : WorldState) (steps : List Step) (stopped : WorldStopped) → WorldStoppedAt w steps w' stopped → stopped.refusal ≢ OutOfMemory
    → WorldTook w (steps_before steps stopped.place) w'
stop_took w w' steps stopped stops other = took_unless stopped.refusal (w'.spent ≡ true) (WorldTook w (steps_before steps stopped.place) w') other stops.leaves

pub stop_stands : (w w' : WorldState) (before : List WorldStep) (steps : List Step) (stopped : WorldStopped) → WorldStoppedAt w steps w' stopped → stopped.refusal ≢ OutOfMemory
    → WorldStands w before → WorldStands w' (before ++ steps_before steps stopped.place)
stop_stands w w' before steps stopped stops other s = (stop_took w w' steps stopped stops other).stands before s
