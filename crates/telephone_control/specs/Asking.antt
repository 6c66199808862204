-- What lines for the telephones ask for.
use Rattle.std.specs.Prelude.{◌≡◌, ◌≤◌, ⊤, ℕ, Bool, true, false, ◌||◌, nat_le, codes, if◌then◌else◌, List, [], ◌∷◌, Option, Some, None}
use Rattle.std.specs.Str.{bytes_eq}
use Rattle.mg_bytes.specs.Option.{◌>>=◌}
use Rattle.mg_bytes.specs.Words.{words}
use Rattle.mg_bytes.specs.Numbers.{decimal_of}
use Rattle.line_changes.specs.Watching.{longest_watch}
use Rattle.rgw_scripts.specs.declared.step.ScriptStep.{ScriptStep}
use Rattle.rgw_scripts.specs.declared.step.ScriptLine.{ScriptLine}
use Rattle.rgw_scripts.specs.declared.step.ScriptLine.TheVariants.{Empty, From, Whole}
use Rattle.rgw_scripts.specs.declared.step.ScriptStep.TheVariants as steps
use Rattle.rgw_scripts.specs.Script.{line_in}
use Rattle.telephone_control.specs.declared.telephones.Typist.{Typist}
use Rattle.telephone_control.specs.declared.telephones.Typist.TheVariants.{Here, Elsewhere, Stranger}
use Rattle.telephone_control.specs.declared.telephones.TelephoneRequest.{TelephoneRequest}
use Rattle.telephone_control.specs.declared.telephones.TelephoneRequest.TheVariants.{Act, Show, ShowAll, Watch, Counts, Stop, StopFromAfar, Refused, Unknown, OutOfMemory}

-- an act and a question are what a script says by the line; it is watched no longer than it may be
abbrev pub AsksFor : TelephoneRequest → Option ScriptLine → Type 0
AsksFor (Act line act) said = said ≡ Some (Whole (steps.Phone line act))
AsksFor (Show line) said = said ≡ Some (Whole (steps.Show line))
AsksFor ShowAll said = ⊤
AsksFor (Watch seconds) said = seconds ≤ longest_watch
AsksFor Counts said = ⊤
AsksFor Stop said = ⊤
AsksFor StopFromAfar said = ⊤
AsksFor Refused said = ⊤
AsksFor Unknown said = ⊤
AsksFor OutOfMemory said = ⊤

-- of the steps of a script an act and a question can be asked for
abbrev pub request_of : ScriptStep → TelephoneRequest
request_of (steps.Phone line act) = Act line act
request_of (steps.Show line) = Show line
request_of (steps.Datagram source bytes) = Unknown
request_of (steps.Tick by) = Unknown
request_of (steps.At moment) = Unknown
request_of (steps.Wait by) = Unknown

abbrev pub request_by : Option ScriptLine → TelephoneRequest
request_by None = Unknown
request_by (Some Empty) = Unknown
request_by (Some (From source)) = Unknown
request_by (Some (Whole step)) = request_of step

-- who asks for the end is at this machine, or isn't heard
abbrev pub stop_request : Bool → TelephoneRequest
stop_request is_near = if is_near then Stop else StopFromAfar

-- how long it is watched, in s
abbrev pub seconds_from : ℕ → Option ℕ
seconds_from n = if nat_le n longest_watch then Some n else None

abbrev pub seconds_of : List ℕ → Option ℕ
seconds_of text = decimal_of text >>= seconds_from

-- `watch SECONDS`
unfoldable pub watch_in : List (List ℕ) → Option ℕ
watch_in [] = None
watch_in (word ∷ []) = None
watch_in (word ∷ time ∷ []) = if bytes_eq word (codes "watch") then seconds_of time else None
watch_in (word ∷ time ∷ other ∷ more) = None

abbrev pub watch_or : Option ℕ → TelephoneRequest → TelephoneRequest
watch_or None request = request
watch_or (Some seconds) request = Watch seconds

-- a line asks what each line of the gateway is: by a star, which a shell takes for files, or in a word, or by nothing more
abbrev pub asks_for_all : List ℕ → Bool
asks_for_all line = bytes_eq line (codes "show *") || bytes_eq line (codes "show all") || bytes_eq line (codes "show")

-- what a line asks for: `counts`, `stop`, `show` for all lines, `watch` for a time, or what a script says by it
unfoldable pub line_request : Bool → List ℕ → TelephoneRequest
line_request is_near line =
    if bytes_eq line (codes "counts") then Counts
    else if bytes_eq line (codes "stop") then stop_request is_near
    else if asks_for_all line then ShowAll
    else watch_or (watch_in (words line)) (request_by (line_in (words line)))

-- what a line asks for by who typed it: anything, anything but the end, or nothing at all
abbrev pub request_in : Typist → List ℕ → TelephoneRequest
request_in Here line = line_request true line
request_in Elsewhere line = line_request false line
request_in Stranger line = Refused

-- what the lines are that ask for something
abbrev pub usage : List ℕ
usage = codes "? phone LINE off|on|flash|KEY, show LINE|all, watch SECONDS, counts, or stop\n"

-- what is answered to a request that is answered by a text alone: where to ask from, want of memory, or what may be asked
abbrev pub short_text : TelephoneRequest → List ℕ
short_text (Act line act) = usage
short_text (Show line) = usage
short_text ShowAll = usage
short_text (Watch seconds) = usage
short_text Counts = usage
short_text Stop = usage
short_text StopFromAfar = codes "! stop is taken from a loopback address alone, 127.0.0.0/8\n"
short_text Refused = usage
short_text Unknown = usage
short_text OutOfMemory = codes "! 1 OutOfMemory\n"

-- memory may be wanted to read what is said as a step of a script is, and for no other line
abbrev pub wants_memory : TelephoneRequest → Bool
wants_memory (Act line act) = true
wants_memory (Show line) = true
wants_memory ShowAll = false
wants_memory (Watch seconds) = false
wants_memory Counts = false
wants_memory Stop = false
wants_memory StopFromAfar = false
wants_memory Refused = false
wants_memory Unknown = true
wants_memory OutOfMemory = true
