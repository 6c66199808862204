-- The order of what falls due is total, and tells all items apart.
use Rattle.std.proofs.Common.{◌≡◌, ℕ, ◌<◌, List, ◌∷◌, [], get_or, refl, sym, ap, ◌∙◌, arith}
use Rattle.std.specs.List.{Contains}
use Rattle.std.specs.FinMap.{nat_cmp-IsAntisymmetric}
use Rattle.std.specs.declared.cmp.Ordering.{Ordering}
use Rattle.std.specs.declared.cmp.Ordering.TheVariants.{Less, Equal, Greater}
use Rattle.std.specs.Ordering.{nat_cmp, ordering_then}
use Rattle.std.specs.Cmp.{IsTotalOrder, nat_cmp_total}
use Rattle.std.proofs.lemmas.Cmp.{on_total, then_total}
use Rattle.std.proofs.lemmas.List.{get_or_default}
use Rattle.packages.specs.declared.signal.Signal.{Signal}
use Rattle.packages.specs.declared.signal.Signal.TheVariants.{DialTone, Busy, Reorder, Ringing, RingSplash, MessageWaiting, Ringback, Congestion, Confirm}
use Rattle.timers.specs.declared.kind.LineDue.TheVariants.{DigitTimer, SignalEnd}
use Rattle.timers.specs.declared.kind.DueKind.{DueKind}
use Rattle.timers.specs.declared.kind.DueKind.TheVariants.{OfLine, Resend, Announce}
use Rattle.timers.specs.declared.due_item.DueItem.{DueItem}
use Rattle.timers.specs.Order.{place_of, signal_count, kind_number, kind_count, kind_cmp, place_cmp, item_cmp}

pub place_within : (signal : Signal) → place_of signal < signal_count
place_within DialTone = omega arith
place_within Busy = omega arith
place_within Reorder = omega arith
place_within Ringing = omega arith
place_within RingSplash = omega arith
place_within MessageWaiting = omega arith
place_within Ringback = omega arith
place_within Congestion = omega arith
place_within Confirm = omega arith

pub kind_within : (kind : DueKind) → kind_number kind < kind_count
kind_within (OfLine DigitTimer) = omega arith
kind_within (OfLine (SignalEnd signal)) = let few = place_within signal in omega (arith, few)
kind_within Resend = omega arith
kind_within Announce = omega arith

pub kind_total : IsTotalOrder kind_cmp
kind_total = on_total kind_number nat_cmp_total

pub place_total : IsTotalOrder place_cmp
place_total =
    then_total (on_total (λ (item : DueItem). item.line) nat_cmp_total)
    (on_total (λ (item : DueItem). item.kind) kind_total)

pub item_total : IsTotalOrder item_cmp
item_total = then_total (on_total (λ (item : DueItem). item.moment) nat_cmp_total) place_total

-- one order and then another tell nothing apart where neither does
both_equal : (x y : Ordering) → ordering_then x y ≡ Equal → (x ≡ Equal) × (y ≡ Equal)
both_equal Less y e = absurd cc
both_equal Equal y e = (refl, e)
both_equal Greater y e = absurd cc

-- the kinds in their order
abbrev pub kinds : List DueKind
kinds =
    OfLine DigitTimer ∷ OfLine (SignalEnd DialTone) ∷ OfLine (SignalEnd Busy) ∷ OfLine (SignalEnd Reorder) ∷ OfLine (SignalEnd Ringing)
    ∷ OfLine (SignalEnd RingSplash) ∷ OfLine (SignalEnd MessageWaiting) ∷ OfLine (SignalEnd Ringback) ∷ OfLine (SignalEnd Congestion)
    ∷ OfLine (SignalEnd Confirm) ∷ Resend ∷ Announce ∷ []

-- each stands there by its number
numbered : (kind : DueKind) → get_or kinds (kind_number kind) kind ≡ kind
numbered (OfLine DigitTimer) = refl
numbered (OfLine (SignalEnd DialTone)) = refl
numbered (OfLine (SignalEnd Busy)) = refl
numbered (OfLine (SignalEnd Reorder)) = refl
numbered (OfLine (SignalEnd Ringing)) = refl
numbered (OfLine (SignalEnd RingSplash)) = refl
numbered (OfLine (SignalEnd MessageWaiting)) = refl
numbered (OfLine (SignalEnd Ringback)) = refl
numbered (OfLine (SignalEnd Congestion)) = refl
numbered (OfLine (SignalEnd Confirm)) = refl
numbered Resend = refl
numbered Announce = refl

pub in_kinds : (kind : DueKind) → Contains kinds kind
in_kinds kind = (kind_number kind, kind_within kind, numbered kind)

pub kind_exact : (a b : DueKind) → kind_number a ≡ kind_number b → a ≡ b
kind_exact a b e =
    sym (numbered a)
    ∙ get_or_default kinds (kind_number a) a b (kind_within a)
    ∙ ap (λ (n : ℕ). get_or kinds n b) e
    ∙ numbered b

pub item_exact : (a b : DueItem) → item_cmp a b ≡ Equal → a ≡ b
item_exact a b e =
    let first = both_equal (nat_cmp a.moment b.moment) (place_cmp a b) e in
    let second = both_equal (nat_cmp a.line b.line) (kind_cmp a.kind b.kind) first.1 in
    let moments : a.moment ≡ b.moment = nat_cmp-IsAntisymmetric a.moment b.moment first.0 in
    let lines : a.line ≡ b.line = nat_cmp-IsAntisymmetric a.line b.line second.0 in
    let kinds : a.kind ≡ b.kind =
    kind_exact a.kind b.kind (nat_cmp-IsAntisymmetric (kind_number a.kind) (kind_number b.kind) second.1) in
    λ i. record { moment = moments i; line = lines i; kind = kinds i }
