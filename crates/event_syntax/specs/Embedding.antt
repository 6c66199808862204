-- Embedded requests (RFC 3435, 2.3.3): what stands in the parentheses of E. What isn't spelled so is 510
-- (protocol error).
use Rattle.std.specs.Prelude.{◌≡◌, ⊤, ℕ, if◌then◌else◌, List, [], ◌∷◌, codes, Option, Some, None, Result, Ok, Err}
use Rattle.mg_bytes.specs.Case.{same_but_case}
use Rattle.mg_bytes.specs.declared.code_fault.CodeFault.{CodeFault}
use Rattle.mg_bytes.specs.declared.code_fault.CodeFault.TheVariants.{OutOfMemory, Code}
use Rattle.digit_map.specs.Reading.{map_of, or_code}
use Rattle.event_syntax.specs.declared.request.EmbeddedEvent.{EmbeddedEvent}
use Rattle.event_syntax.specs.declared.request.EmbeddedRequest.{EmbeddedRequest}
use Rattle.mg_bytes.specs.Steps.{◌>>=◌}
use Rattle.packages.specs.Faults.{each_up_to}
use Rattle.packages.specs.Cuts.{Form, form_of, items, entries}
use Rattle.packages.specs.Signals.{signals_in}
use Rattle.event_syntax.specs.Detect.{most_events}
use Rattle.event_syntax.specs.Actions.{Joined, plain, embed, accumulate_and_embed, Rule, rule_of}

-- Its R: no request is embedded once more, which is 523 (illegal actions)

abbrev pub embedded_event_by : Rule → Joined → Result EmbeddedEvent ℕ
embedded_event_by rule (plain action) = Ok (record { events = rule.events; action = action; keep = rule.keep })
embedded_event_by rule (embed inside) = Err 523
embedded_event_by rule (accumulate_and_embed inside) = Err 523

unfoldable pub embedded_event : List ℕ → Result EmbeddedEvent ℕ
embedded_event entry = do
  rule ← rule_of entry
  embedded_event_by rule rule.joined

-- Its parts, from left to right

abbrev pub nothing_embedded : EmbeddedRequest
nothing_embedded = record { events = []; signals = []; map = None }

abbrev pub with_events : EmbeddedRequest → List ℕ → Result EmbeddedRequest ℕ
with_events request value = do
  events ← each_up_to most_events embedded_event (entries value)
  Ok (record request { events = events })

abbrev pub with_signals : EmbeddedRequest → List ℕ → Result EmbeddedRequest ℕ
with_signals request value = do
  signals ← signals_in value
  Ok (record request { signals = signals })

abbrev pub with_map : EmbeddedRequest → List ℕ → Result EmbeddedRequest ℕ
with_map request value = do
  map ← or_code (map_of value)
  Ok (record request { map = Some map })

abbrev pub with_part_named : EmbeddedRequest → List ℕ → List ℕ → Result EmbeddedRequest ℕ
with_part_named request name value =
    if same_but_case name (codes "R") then with_events request value else
    (if same_but_case name (codes "S") then with_signals request value else with_map request value)

abbrev pub with_part_in : EmbeddedRequest → List ℕ → List (List ℕ) → Result EmbeddedRequest ℕ
with_part_in request name [] = Err 510
with_part_in request name (value ∷ rest) = with_part_named request name value

abbrev pub with_part_from : EmbeddedRequest → Option Form → Result EmbeddedRequest ℕ
with_part_from request None = Err 510
with_part_from request (Some form) = with_part_in request form.head form.inside

-- a part that is spelled
unfoldable pub with_part : EmbeddedRequest → List ℕ → Result EmbeddedRequest ℕ
with_part request part = with_part_from request (form_of part)

unfoldable pub with_parts : EmbeddedRequest → List (List ℕ) → Result EmbeddedRequest ℕ
with_parts request [] = Ok request
with_parts request (part ∷ parts) = with_part request part >>= λ more. with_parts more parts

-- the request
unfoldable pub embedded_in : List ℕ → Result EmbeddedRequest ℕ
embedded_in inside = with_parts nothing_embedded (items inside)

-- The same of what the code gives

-- the value or the code is what is said, unless memory was refused
abbrev pub Gives : {A : Type 0} → Result A ℕ → Result A CodeFault → Type 0
Gives said (Ok value) = said ≡ Ok value
Gives said (Err (Code code)) = said ≡ Err code
Gives said (Err OutOfMemory) = ⊤
