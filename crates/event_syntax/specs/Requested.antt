-- The value of R (RFC 3435, 2.3.3): what it is read as, and how it is written.
use Rattle.std.specs.Prelude.{ℕ, nat_le, Bool, true, false, ◌&&◌, ◌||◌, if◌then◌else◌, List, [], ◌∷◌, ◌++◌, length, map, codes, Option, Some, None, Result, Ok, Err, is_ok}
use Rattle.std.specs.List.{list_all, join_with_byte}
use Rattle.std.specs.Str.{bytes_eq}
use Rattle.mg_bytes.specs.Bytes.{comma}
use Rattle.digit_map.specs.declared.fault.MapFault.{MapFault}
use Rattle.digit_map.specs.Reading.{map_of}
use Rattle.digit_map.specs.Spelling.{is_map}
use Rattle.event_syntax.specs.declared.request.Action.{Action}
use Rattle.event_syntax.specs.declared.request.Action.TheVariants.{Notify, Accumulate, Dial, Ignore}
use Rattle.event_syntax.specs.declared.request.EmbeddedEvent.{EmbeddedEvent}
use Rattle.event_syntax.specs.declared.request.EmbeddedRequest.{EmbeddedRequest}
use Rattle.event_syntax.specs.declared.request.Reaction.{Reaction}
use Rattle.event_syntax.specs.declared.request.Reaction.TheVariants.{Plain, Embed, AccumulateAndEmbed}
use Rattle.event_syntax.specs.declared.request.RequestedEvent.{RequestedEvent}
use Rattle.packages.specs.declared.signals.SignalRequest.{SignalRequest}
use Rattle.mg_bytes.specs.Steps.{◌>>=◌}
use Rattle.packages.specs.Faults.{each_up_to}
use Rattle.packages.specs.Cuts.{in_parentheses, entries}
use Rattle.event_syntax.specs.RequestSpelling.{are_requested}
use Rattle.packages.specs.Signals.{signals_text, are_writable_signals}
use Rattle.event_syntax.specs.Events.{events_text, is_writable}
use Rattle.event_syntax.specs.Detect.{most_events}
use Rattle.event_syntax.specs.Actions.{Joined, plain, embed, accumulate_and_embed, Rule, rule_of, takes}
use Rattle.event_syntax.specs.Embedding.{embedded_in}
use Rattle.event_syntax.specs.Walking.{holds_events}

-- Reading

abbrev pub requested_by : Rule → Reaction → RequestedEvent
requested_by rule reaction = record { events = rule.events; reaction = reaction; keep = rule.keep }

-- what is embedded is read behind all that the entry says itself
abbrev pub reaction_of : Joined → Result Reaction ℕ
reaction_of (plain action) = Ok (Plain action)
reaction_of (embed inside) = embedded_in inside >>= λ request. Ok (Embed request)
reaction_of (accumulate_and_embed inside) = embedded_in inside >>= λ request. Ok (AccumulateAndEmbed request)

-- an entry
unfoldable pub requested : List ℕ → Result RequestedEvent ℕ
requested entry = do
  rule ← rule_of entry
  reaction ← reaction_of rule.joined
  Ok (requested_by rule reaction)

-- the entries of a value that is spelled
unfoldable pub requested_in : List ℕ → Result (List RequestedEvent) ℕ
requested_in value = each_up_to most_events requested (entries value)

-- the value, or the code of its first fault: 510 (protocol error) where it isn't spelled
unfoldable pub requested_of : List ℕ → Result (List RequestedEvent) ℕ
requested_of value = if are_requested value then requested_in value else Err 510

-- to read entries takes memory where the first says what is done at its events
abbrev pub first_takes_memory : List (List ℕ) → Bool
first_takes_memory [] = false
first_takes_memory (entry ∷ rest) = is_ok (rule_of entry)

-- to read the value takes memory where a request in it embeds one, and for its entries where they are read; a value
-- without, which isn't spelled or has too many entries, and a fault of the first entry itself take none
unfoldable pub takes_memory : List ℕ → Bool
takes_memory value =
    holds_events [] value
    || (are_requested value && (nat_le (length (entries value)) most_events && first_takes_memory (entries value)))

-- Writing

abbrev pub action_text : Action → List ℕ
action_text Notify = codes "N"
action_text Accumulate = codes "A"
action_text Dial = codes "D"
action_text Ignore = codes "I"

abbrev pub keep_text : Bool → List (List ℕ)
keep_text keep = if keep then codes "K" ∷ [] else []

abbrev pub listed : List (List ℕ) → List ℕ
listed texts = join_with_byte comma texts

-- an entry of an embedded R: the events, and in parentheses what is done
unfoldable pub embedded_event_text : EmbeddedEvent → List ℕ
embedded_event_text entry =
    events_text entry.events ++ in_parentheses (listed (action_text entry.action ∷ keep_text entry.keep))

-- the parts R and S where they aren't empty, and D where there is a map
abbrev pub events_part : List EmbeddedEvent → List (List ℕ)
events_part [] = []
events_part (entry ∷ rest) =
    (codes "R" ++ in_parentheses (listed (map embedded_event_text (entry ∷ rest)))) ∷ []

abbrev pub signals_part : List SignalRequest → List (List ℕ)
signals_part [] = []
signals_part (signal ∷ rest) = (codes "S" ++ in_parentheses (signals_text (signal ∷ rest))) ∷ []

abbrev pub map_part : Option (List ℕ) → List (List ℕ)
map_part None = []
map_part (Some text) = (codes "D" ++ in_parentheses text) ∷ []

abbrev pub parts_text : EmbeddedRequest → List (List ℕ)
parts_text request = events_part request.events ++ (signals_part request.signals ++ map_part request.map)

unfoldable pub embedded_text : EmbeddedRequest → List ℕ
embedded_text request = codes "E" ++ in_parentheses (listed (parts_text request))

-- what is done: N, A, D or I, A before E; K comes last
abbrev pub actions_text : Reaction → List (List ℕ)
actions_text (Plain action) = action_text action ∷ []
actions_text (Embed request) = embedded_text request ∷ []
actions_text (AccumulateAndEmbed request) = codes "A" ∷ embedded_text request ∷ []

-- an entry: the events, and in parentheses what is done
unfoldable pub requested_entry_text : RequestedEvent → List ℕ
requested_entry_text entry =
    events_text entry.events ++ in_parentheses (listed (actions_text entry.reaction ++ keep_text entry.keep))

-- the value: entries with commas between them
unfoldable pub requested_text : List RequestedEvent → List ℕ
requested_text list = listed (map requested_entry_text list)

-- What is written is one word where each map that is embedded is spelled as one

abbrev pub is_spelled_map : Option (List ℕ) → Bool
is_spelled_map None = true
is_spelled_map (Some text) = is_map text

abbrev pub has_spelled_map : Reaction → Bool
has_spelled_map (Plain action) = true
has_spelled_map (Embed request) = is_spelled_map request.map
has_spelled_map (AccumulateAndEmbed request) = is_spelled_map request.map

abbrev pub all_maps_are_spelled : List RequestedEvent → Bool
all_maps_are_spelled list = list_all (λ entry. has_spelled_map entry.reaction) list

-- What can be written so that it is read again: the events take what is done, and what is embedded holds something

abbrev pub is_writable_embedded_event : EmbeddedEvent → Bool
is_writable_embedded_event entry = is_writable entry.events && takes entry.events (plain entry.action)

abbrev pub is_same_map : List ℕ → Result (List ℕ) MapFault → Bool
is_same_map text (Ok read) = bytes_eq read text
is_same_map text (Err fault) = false

-- a map is its text without blanks
abbrev pub is_writable_map : Option (List ℕ) → Bool
is_writable_map None = true
is_writable_map (Some text) = is_same_map text (map_of text)

abbrev pub is_something : List (List ℕ) → Bool
is_something [] = false
is_something (part ∷ parts) = true

abbrev pub is_writable_request : EmbeddedRequest → Bool
is_writable_request request =
    nat_le (length request.events) most_events && list_all is_writable_embedded_event request.events
    && are_writable_signals request.signals && is_writable_map request.map && is_something (parts_text request)

abbrev pub is_writable_reaction : Reaction → Bool
is_writable_reaction (Plain action) = true
is_writable_reaction (Embed request) = is_writable_request request
is_writable_reaction (AccumulateAndEmbed request) = is_writable_request request

-- what is done, by whatever is embedded
abbrev pub joined_in : Reaction → Joined
joined_in (Plain action) = plain action
joined_in (Embed request) = embed []
joined_in (AccumulateAndEmbed request) = accumulate_and_embed []

abbrev pub is_writable_entry : RequestedEvent → Bool
is_writable_entry entry =
    is_writable entry.events && takes entry.events (joined_in entry.reaction) && is_writable_reaction entry.reaction

unfoldable pub are_writable_requested : List RequestedEvent → Bool
are_writable_requested list = nat_le (length list) most_events && list_all is_writable_entry list
