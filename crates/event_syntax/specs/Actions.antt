-- What an entry of R asks for at its events (RFC 3435, 2.3.3). An action that isn't known, or that
-- doesn't go with the others or with its events, is 523 (illegal actions), parameters are 538 (parameter error), and
-- what isn't spelled so is 510 (protocol error).
use Rattle.std.specs.Prelude.{ℕ, nat_le, Bool, true, false, not, if◌then◌else◌, List, [], ◌∷◌, codes, count_by, filter, Option, Some, None, option_map, Result, Ok, Err}
use Rattle.std.specs.List.{list_any, slice_index_or}
use Rattle.mg_bytes.specs.Case.{same_but_case}
use Rattle.event_syntax.specs.declared.events.Events.{Events}
use Rattle.event_syntax.specs.declared.events.Events.TheVariants.{Letters}
use Rattle.event_syntax.specs.declared.request.Action.{Action}
use Rattle.event_syntax.specs.declared.request.Action.TheVariants.{Notify, Accumulate, Dial, Ignore}
use Rattle.event_syntax.specs.declared.rule.Word.{Word as HeldWord}
use Rattle.event_syntax.specs.declared.rule.Word.TheVariants.{Keeps, Acts, Embeds}
use Rattle.event_syntax.specs.declared.rule.Joined.{Joined as HeldDeed}
use Rattle.event_syntax.specs.declared.rule.Joined.TheVariants.{Plain, Embed, AccumulateAndEmbed}
use Rattle.event_syntax.specs.declared.rule.SoFar.{SoFar as HeldSoFar}
use Rattle.event_syntax.specs.declared.rule.Said.{Said as HeldSaid}
use Rattle.event_syntax.specs.declared.rule.Rule.{Rule as HeldRule}
use Rattle.mg_bytes.specs.Steps.{◌>>=◌}
use Rattle.packages.specs.Faults.{each}
use Rattle.packages.specs.Cuts.{Form, form_of, items}
use Rattle.event_syntax.specs.Events.{events_called}

-- an action: K keeps the signals, N, A, D and I do something by themselves, and E embeds what stands in its parentheses
pub data Word : Type 0 where
  keeps : Word
  acts : (action : Action) → Word
  embeds : (inside : List ℕ) → Word

abbrev pub word_named : List ℕ → Result Word ℕ
word_named name =
    if same_but_case name (codes "N") then Ok (acts Notify) else
    (if same_but_case name (codes "A") then Ok (acts Accumulate) else
    (if same_but_case name (codes "D") then Ok (acts Dial) else
    (if same_but_case name (codes "I") then Ok (acts Ignore) else
    (if same_but_case name (codes "K") then Ok keeps else Err 523))))

abbrev pub word_with : List ℕ → List (List ℕ) → Result Word ℕ
word_with name [] = word_named name
word_with name (inside ∷ rest) = Ok (embeds inside)

abbrev pub word_from : Option Form → Result Word ℕ
word_from None = Err 523
word_from (Some form) = word_with form.head form.inside

-- an action that is spelled
unfoldable pub word_of : List ℕ → Result Word ℕ
word_of action = word_from (form_of action)

-- what is done: an action, or an embedded request, which may stand with A
pub data Joined : Type 0 where
  plain : (action : Action) → Joined
  embed : (inside : List ℕ) → Joined
  accumulate_and_embed : (inside : List ℕ) → Joined

abbrev pub by_one : Word → Result Joined ℕ
by_one keeps = Err 523
by_one (acts action) = Ok (plain action)
by_one (embeds inside) = Ok (embed inside)

-- only A and E go together, in either order
abbrev pub by_two : Word → Word → Result Joined ℕ
by_two (acts Accumulate) (embeds inside) = Ok (accumulate_and_embed inside)
by_two (embeds inside) (acts Accumulate) = Ok (accumulate_and_embed inside)
by_two first second = Err 523

-- no action means N
abbrev pub joined_of : List Word → Result Joined ℕ
joined_of [] = Ok (plain Notify)
joined_of (word ∷ []) = by_one word
joined_of (first ∷ second ∷ []) = by_two first second
joined_of _ = Err 523

abbrev pub is_keeps : Word → Bool
is_keeps keeps = true
is_keeps (acts action) = false
is_keeps (embeds inside) = false

-- what actions say together: K stands with any, once
pub record Said : Type 0 where
  pub joined : Joined
  pub keep : Bool

abbrev pub not_keeps : Word → Bool
not_keeps word = not (is_keeps word)

abbrev pub saying : Bool → Joined → Result Said ℕ
saying keep joined = Ok (record { joined = joined; keep = keep })

abbrev pub said_by : List Word → Result Said ℕ
said_by words =
    if nat_le (count_by is_keeps words) 1
    then joined_of (filter not_keeps words) >>= saying (list_any is_keeps words) else Err 523

-- what the actions of an entry say
unfoldable pub said_of : List (List ℕ) → Result Said ℕ
said_of actions = each word_of actions >>= said_by

-- Which events take which

-- whether T is among some letters
abbrev pub has_timer : List Bool → Bool
has_timer set = slice_index_or set 16 false

-- D stands on letters alone, and where T is among them nothing else does
abbrev pub takes : Events → Joined → Bool
takes (Letters set) (plain Dial) = true
takes (Letters set) joined = not (has_timer set)
takes events (plain Dial) = false
takes events joined = true

-- the rule of an entry: at these events this is done, and the signals are kept or not
pub record Rule : Type 0 where
  pub events : Events
  pub joined : Joined
  pub keep : Bool

abbrev pub ruled_by : Events → Said → Result Rule ℕ
ruled_by events said =
    if takes events said.joined then Ok (record { events = events; joined = said.joined; keep = said.keep }) else Err 523

-- behind the events stand actions, and then parameters, which no event takes
abbrev pub said_in : List (List ℕ) → Result Said ℕ
said_in [] = said_of []
said_in (actions ∷ []) = said_of (items actions)
said_in (actions ∷ parameters ∷ rest) = Err 538

abbrev pub rule_from : Option Form → Result Rule ℕ
rule_from None = Err 510
rule_from (Some form) = do
  events ← events_called form.head
  said ← said_in form.inside
  ruled_by events said

-- the rule of an entry that is spelled; what is embedded isn't looked at yet
unfoldable pub rule_of : List ℕ → Result Rule ℕ
rule_of entry = rule_from (form_of entry)

-- The same of what the code holds, which reads actions one after the other

-- what is done by the actions so far, if one of them but K was there
pub record SoFar : Type 0 where
  pub joined : Option Joined
  pub keep : Bool

abbrev pub nothing_said : SoFar
nothing_said = record { joined = None; keep = false }

abbrev pub with_joined : SoFar → Joined → Result SoFar ℕ
with_joined so_far joined = Ok (record { joined = Some joined; keep = so_far.keep })

abbrev pub and_embed : Option Joined → List ℕ → Result Joined ℕ
and_embed None inside = Ok (embed inside)
and_embed (Some (plain Accumulate)) inside = Ok (accumulate_and_embed inside)
and_embed (Some joined) inside = Err 523

abbrev pub and_action : Option Joined → Action → Result Joined ℕ
and_action None action = Ok (plain action)
and_action (Some (embed inside)) Accumulate = Ok (accumulate_and_embed inside)
and_action (Some joined) action = Err 523

-- with one action more
abbrev pub and_word : SoFar → Word → Result SoFar ℕ
and_word so_far keeps = if so_far.keep then Err 523 else Ok (record so_far { keep = true })
and_word so_far (acts action) = and_action so_far.joined action >>= with_joined so_far
and_word so_far (embeds inside) = and_embed so_far.joined inside >>= with_joined so_far

abbrev pub joined_or_notify : Option Joined → Joined
joined_or_notify None = plain Notify
joined_or_notify (Some joined) = joined

abbrev pub word_seen : HeldWord → Word
word_seen Keeps = keeps
word_seen (Acts action) = acts action
word_seen (Embeds inside) = embeds inside.now

abbrev pub joined_seen : HeldDeed → Joined
joined_seen (Plain action) = plain action
joined_seen (Embed inside) = embed inside.now
joined_seen (AccumulateAndEmbed inside) = accumulate_and_embed inside.now

abbrev pub so_far_seen : HeldSoFar → SoFar
so_far_seen so_far = record { joined = option_map joined_seen so_far.joined; keep = so_far.keep }

abbrev pub said_seen : HeldSaid → Said
said_seen said = record { joined = joined_seen said.joined; keep = said.keep }

abbrev pub rule_seen : HeldRule → Rule
rule_seen rule = record { events = rule.events; joined = joined_seen rule.joined; keep = rule.keep }

abbrev pub seen_as : {A B : Type 0} → (A → B) → Result A ℕ → Result B ℕ
seen_as seen read = read >>= λ x. Ok (seen x)
