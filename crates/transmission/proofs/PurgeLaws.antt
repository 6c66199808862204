-- What a purge leaves, and what `undo` goes back to.
use Rattle.std.proofs.Common.{◌≡◌, ℕ, ◌-◌, ◌<◌, ◌≤◌, suc, Bool, true, false, cond, List, [], ◌∷◌, refl, ap, ◌∙◌, arith}
use Rattle.std.specs.Prelude.{All, AllPairs, fold}
use Rattle.std.proofs.lemmas.Bool.{ltb-true}
use Rattle.std.proofs.lemmas.List.Elements.{All-nil, All-cons, All-weaker}
use Rattle.transmission.specs.declared.entry.KeptFirst.{KeptFirst}
use Rattle.transmission.specs.declared.entry.Entry.{Entry}
use Rattle.transmission.specs.declared.entry.Entry.TheVariants.{First, Confirmation}
use Rattle.transmission.specs.Memory.{memory_time, most_firsts, is_young}
use Rattle.transmission.specs.Kept.{HistoryState, kept_with, from_young, firsts_in}
use Rattle.transmission.specs.Looking.{look_of}
use Rattle.transmission.specs.Recalling.{TellsAlike}
use Rattle.transmission.proofs.RecallLaws.{recalls_itself, recalls_purged, recalls_look}

abbrev pub in_order : KeptFirst → KeptFirst → Type 0
in_order first later = first.moment ≤ later.moment

pub pairs_tail : (first : KeptFirst) (firsts : List KeptFirst) → AllPairs in_order (first ∷ firsts) → AllPairs in_order firsts
pairs_tail first firsts pairs = λ i j d lt within. pairs (suc i) (suc j) d (omega arith) (omega arith)

pub pairs_head : (first : KeptFirst) (firsts : List KeptFirst) → AllPairs in_order (first ∷ firsts) → All (in_order first) firsts
pairs_head first firsts pairs = λ k d within. pairs 0 (suc k) d (omega arith) (omega arith)

pub purge_leaves_young : (now : ℕ) (entries : List Entry) → AllPairs (λ (first later : KeptFirst). first.moment ≤ later.moment) (firsts_in entries)
    → All (λ (first : KeptFirst). now - first.moment < memory_time) (firsts_in (from_young now entries))
unfolding from_young
purge_leaves_young now [] pairs = All-nil (λ (first : KeptFirst). now - first.moment < memory_time)
purge_leaves_young now (Confirmation spans ∷ entries) pairs = purge_leaves_young now entries pairs
purge_leaves_young now (First first ∷ entries) pairs = by_age (is_young now first.moment) refl (purge_leaves_young now entries (pairs_tail first (firsts_in entries) pairs)) where
  by_age : (b : Bool) → is_young now first.moment ≡ b → All (λ (f : KeptFirst). now - f.moment < memory_time) (firsts_in (from_young now entries))
      → All (λ (f : KeptFirst). now - f.moment < memory_time) (firsts_in (cond b (First first ∷ entries) (from_young now entries)))
  by_age true is rest =
      let young : now - first.moment < memory_time = ltb-true (now - first.moment) memory_time is in
      All-cons (λ (f : KeptFirst). now - f.moment < memory_time) first (firsts_in entries) young
      (All-weaker (in_order first) (λ (f : KeptFirst). now - f.moment < memory_time) (λ f le. omega arith) (firsts_in entries) (pairs_head first (firsts_in entries) pairs))
  by_age false is rest = rest

pub purge_tells : (entries : List Entry) (id now later : ℕ) → now ≤ later → look_of most_firsts (from_young now entries) id later ≡ look_of most_firsts entries id later
purge_tells entries id now later le =
    recalls_look (from_young now entries) entries now id later (recalls_purged entries entries 0 now (recalls_itself entries) (omega arith)) le

pub purged_tells : (kept before : List Entry) (now : ℕ) → kept ≡ from_young now before → TellsAlike kept before now
purged_tells kept before now is = λ id later le.
    ap (λ (entries : List Entry). look_of most_firsts entries id later) is ∙ purge_tells before id now later le

-- nothing that is kept settles anything
pub still_settled : (more : List Entry) (history : HistoryState) → (fold kept_with history more).settled ≡ history.settled
still_settled [] history = refl
still_settled (entry ∷ more) history = still_settled more (kept_with history entry)

pub still_purged : (more : List Entry) (history : HistoryState) → (fold kept_with history more).purged ≡ history.purged
still_purged [] history = refl
still_purged (entry ∷ more) history = still_purged more (kept_with history entry)
