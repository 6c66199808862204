-- What is written of R is read again.
use Rattle.std.proofs.Common.{◌≡◌, ℕ, ◌≤◌, suc, zero, Bool, true, false, leb, List, [], ◌∷◌, length, map, refl, ◌∙◌, arith}
use Rattle.std.specs.Prelude.{Ok, codes}
use Rattle.std.specs.List.{list_all, AllByRecursion}
use Rattle.std.proofs.lemmas.Bool.{leb-true}
use Rattle.std.proofs.lemmas.List.{length-map}
use Rattle.mg_bytes.proofs.DigitLemmas.{both_true}
use Rattle.event_syntax.specs.declared.events.Events.{Events}
use Rattle.event_syntax.specs.declared.request.Action.TheVariants.{Accumulate}
use Rattle.event_syntax.specs.declared.request.Reaction.{Reaction}
use Rattle.event_syntax.specs.declared.request.Reaction.TheVariants.{Plain, Embed, AccumulateAndEmbed}
use Rattle.event_syntax.specs.declared.request.RequestedEvent.{RequestedEvent}
use Rattle.packages.specs.Cuts.{entries}
use Rattle.packages.specs.Faults.{each}
use Rattle.event_syntax.specs.RequestSpelling.{is_requested, are_requested_within, are_requested}
use Rattle.event_syntax.specs.Events.{is_writable}
use Rattle.event_syntax.specs.Actions.{acts, embeds, plain, embed, accumulate_and_embed, said_by, takes}
use Rattle.event_syntax.specs.Requested.{listed, parts_text, embedded_text, action_text, keep_text, requested, requested_in, requested_of, requested_entry_text, requested_text, joined_in, is_writable_reaction, is_writable_entry, are_writable_requested}
use Rattle.packages.proofs.JoinLemmas.{IsEntry, entries_join}
use Rattle.event_syntax.proofs.ActionLemmas.{embed_alike, both_alike}
use Rattle.event_syntax.proofs.EmbeddedLaws.{join_some, plain_says, action_reads, embed_reads, and_action, keep_actions, keep_words, entry_reads, embedded_again}
use Rattle.event_syntax.specs.Detect.{most_events}

-- an entry, at any depth of what stands in it
record Again (k : ℕ) (entry : RequestedEvent) : Type 0 where
  is : IsEntry (requested_entry_text entry)
  spelled : is_requested (are_requested_within (suc k)) (requested_entry_text entry) ≡ true
  read : requested (requested_entry_text entry) ≡ Ok entry

embed_says : (inside : List ℕ) (keep : Bool) → said_by (embeds inside ∷ keep_words keep) ≡ Ok (record { joined = embed inside; keep = keep })
embed_says inside true = refl
embed_says inside false = refl

both_say : (inside : List ℕ) (keep : Bool)
    → said_by (acts Accumulate ∷ embeds inside ∷ keep_words keep) ≡ Ok (record { joined = accumulate_and_embed inside; keep = keep })
both_say inside true = refl
both_say inside false = refl

entry_again : (k : ℕ) (events : Events) (reaction : Reaction) (keep : Bool) → is_writable events ≡ true
    → takes events (joined_in reaction) ≡ true → is_writable_reaction reaction ≡ true
    → Again k (record { events = events; reaction = reaction; keep = keep })
unfolding requested_entry_text requested
entry_again k events (Plain action) keep ok taken good =
    let inner : List ℕ → Bool = are_requested_within (suc k) in
    let reads = entry_reads inner events (action_text action) (keep_text keep) (acts action ∷ keep_words keep)
    (record { joined = plain action; keep = keep })
    ok (and_action inner _ _ _ _ (action_reads inner action) (keep_actions inner keep)) (plain_says action keep) taken in
    record { is = reads.entry; spelled = reads.spelled; read = rw (reads.read) refl }
entry_again k events (Embed request) keep ok taken good =
    let inner : List ℕ → Bool = are_requested_within (suc k) in
    let inside : List ℕ = listed (parts_text request) in
    let reads = entry_reads inner events (embedded_text request) (keep_text keep) (embeds inside ∷ keep_words keep)
    (record { joined = embed inside; keep = keep })
    ok (and_action inner _ _ _ _ (embed_reads k request good) (keep_actions inner keep)) (embed_says inside keep) (embed_alike events inside [] ∙ taken) in
    record { is = reads.entry; spelled = reads.spelled; read = rw (reads.read, embedded_again request good) refl }
entry_again k events (AccumulateAndEmbed request) keep ok taken good =
    let inner : List ℕ → Bool = are_requested_within (suc k) in
    let inside : List ℕ = listed (parts_text request) in
    let reads = entry_reads inner events (codes "A") (embedded_text request ∷ keep_text keep)
    (acts Accumulate ∷ embeds inside ∷ keep_words keep) (record { joined = accumulate_and_embed inside; keep = keep })
    ok (and_action inner _ _ _ _ (action_reads inner Accumulate) (and_action inner _ _ _ _ (embed_reads k request good) (keep_actions inner keep)))
    (both_say inside keep) (both_alike events inside [] ∙ taken) in
    record { is = reads.entry; spelled = reads.spelled; read = rw (reads.read, embedded_again request good) refl }

again : (k : ℕ) (entry : RequestedEvent) → is_writable_entry entry ≡ true → Again k entry
again k entry ok =
    let a = both_true _ _ ok in
    let b = both_true _ _ a.0 in
    entry_again k entry.events entry.reaction entry.keep b.0 b.1 a.1

-- the list

record AllAgain (k : ℕ) (list : List RequestedEvent) : Type 0 where
  are : AllByRecursion IsEntry (map requested_entry_text list)
  spelled : list_all (is_requested (are_requested_within (suc k))) (map requested_entry_text list) ≡ true
  read : each requested (map requested_entry_text list) ≡ Ok list

all_again : (k : ℕ) (list : List RequestedEvent) → list_all is_writable_entry list ≡ true → AllAgain k list
unfolding each
all_again k [] ok = record { are = tt; spelled = refl; read = refl }
all_again k (entry ∷ list) ok =
    let parts : (is_writable_entry entry ≡ true) × (list_all is_writable_entry list ≡ true) = both_true _ _ ok in
    let one = again k entry parts.0 in
    let rest = all_again k list parts.1 in
    record { are = (one.is, rest.are); spelled = rw (one.spelled) rest.spelled; read = rw (one.read, rest.read) refl }

-- what stands in a value is shorter than it
deep_enough : (list : List RequestedEvent) → list_all is_writable_entry list ≡ true
    → list_all (is_requested (are_requested_within (length (requested_text list)))) (map requested_entry_text list) ≡ true
unfolding requested_text
deep_enough [] ok = refl
deep_enough (entry ∷ list) ok = at_depth (length (requested_text (entry ∷ list))) some
  where
    some : 1 ≤ length (requested_text (entry ∷ list))
    some = leb-true _ _ (join_some (requested_entry_text entry) (map requested_entry_text list) (all_again 0 (entry ∷ list) ok).are.0.some)

    at_depth : (n : ℕ) → 1 ≤ n → list_all (is_requested (are_requested_within n)) (map requested_entry_text (entry ∷ list)) ≡ true
    at_depth zero some = absurd (omega arith)
    at_depth (suc k) some = (all_again k (entry ∷ list) ok).spelled

cut_again : (list : List RequestedEvent) → list_all is_writable_entry list ≡ true → entries (requested_text list) ≡ map requested_entry_text list
unfolding requested_text
cut_again list ok = entries_join (map requested_entry_text list) (all_again 0 list ok).are

pub requested_again : (list : List RequestedEvent) → are_writable_requested list ≡ true → requested_of (requested_text list) ≡ Ok list
unfolding requested_of requested_in are_requested are_requested_within are_writable_requested
requested_again list ok =
    let parts : (leb (length list) most_events ≡ true) × (list_all is_writable_entry list ≡ true) = both_true _ _ ok in
    rw (cut_again list parts.1, deep_enough list parts.1, length-map list requested_entry_text, parts.0) (all_again 0 list parts.1).read
