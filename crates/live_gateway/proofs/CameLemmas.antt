-- Which datagrams came in at entries, and which inputs were refused there.
use Rattle.std.proofs.Common.{◌≡◌, inl, inr, ℕ, ◌+◌, ◌-◌, ◌≤◌, List, [], ◌∷◌, ◌++◌, refl, sym, ◌∙◌, ap, subst, arith}
use Rattle.std.proofs.lemmas.Grind.{flat_map-append}
use Rattle.live_io.specs.Sending.{Received}
use Rattle.traces.specs.Writing.{Entry, showed, became}
use Rattle.live_play.specs.Coming.{arrived_at, arrived_in, AreAllBut}
use Rattle.live_play.specs.Running.{AreMarks}
use Rattle.live_gateway.specs.Desk.{refusals_at, refusals_in}

pub arrived_both : (a b : List Entry) → arrived_in (a ++ b) ≡ arrived_in a ++ arrived_in b
arrived_both a b = flat_map-append arrived_at a b

pub marks_bring_nothing : (after last : ℕ) (marks : List Entry) → AreMarks after last marks → arrived_in marks ≡ []
marks_bring_nothing after last [] are = refl
marks_bring_nothing after last (showed input move shown ∷ marks) are = absurd are
marks_bring_nothing after last (became mark place ∷ marks) are = marks_bring_nothing place last marks are.2

pub refusals_both : (a b : List Entry) → refusals_in (a ++ b) ≡ refusals_in a + refusals_in b
refusals_both [] b = omega arith
refusals_both (entry ∷ a) b =
    let rest = refusals_both a b in
    omega (arith, rest)

pub marks_refuse_nothing : (after last : ℕ) (marks : List Entry) → AreMarks after last marks → refusals_in marks ≡ 0
marks_refuse_nothing after last [] are = refl
marks_refuse_nothing after last (showed input move shown ∷ marks) are = absurd are
marks_refuse_nothing after last (became mark place ∷ marks) are =
    let rest = marks_refuse_nothing place last marks are.2 in
    omega (arith, rest)

-- ---- all but some

pub all_of : (all : List Received) → AreAllBut 0 all all
all_of [] = refl
all_of (one ∷ more) = inl (more, refl, all_of more)

pub none_missing : (all taken : List Received) → AreAllBut 0 all taken → taken ≡ all
none_missing [] taken are = are
none_missing (one ∷ more) taken (inl a) = a.1 ∙ ap (λ (l : List Received). one ∷ l) (none_missing more a.0 a.2)
none_missing (one ∷ more) taken (inr a) =
    let less : 0 ≡ a.0 + 1 = a.1 in
    absurd (omega (arith, less))

pub all_but_more : (most other : ℕ) (all taken : List Received) → most ≤ other → AreAllBut most all taken → AreAllBut other all taken
all_but_more most other [] taken low are = are
all_but_more most other (one ∷ more) taken low (inl a) = inl (a.0, a.1, all_but_more most other more a.0 low a.2)
all_but_more most other (one ∷ more) taken low (inr a) =
    let less : most ≡ a.0 + 1 = a.1 in
    inr (other - 1, omega (arith, less, low), all_but_more a.0 (other - 1) more taken (omega (arith, less, low)) a.2)

pub all_but_both : (most other : ℕ) (all taken more others : List Received) → AreAllBut most all taken → AreAllBut other more others
    → AreAllBut (most + other) (all ++ more) (taken ++ others)
all_but_both most other [] taken more others are they =
    subst (λ (l : List Received). AreAllBut (most + other) more (l ++ others)) (sym are) (all_but_more other (most + other) more others (omega arith) they)
all_but_both most other (one ∷ all) taken more others (inl a) they =
    inl (a.0 ++ others, ap (λ (l : List Received). l ++ others) a.1, all_but_both most other all a.0 more others a.2 they)
all_but_both most other (one ∷ all) taken more others (inr a) they =
    let less : most ≡ a.0 + 1 = a.1 in
    inr (a.0 + other, omega (arith, less), all_but_both a.0 other all taken more others a.2 they)
