-- A script: its steps, or the number of its first line that is none.
use Rattle.std.specs.Prelude.{ℕ, Bool, ◌+◌, ◌*◌, nat_lt, nat_le, codes, if◌then◌else◌, List, [], ◌∷◌, ◌++◌, Option, Some, None, Result, Ok, Err, option_map, option_and_then, find, ◌==◌}
use Rattle.std.specs.Option.{option_or}
use Rattle.std.specs.Char.{digit_value}
use Rattle.std.specs.Str.{bytes_eq}
use Rattle.std.specs.declared.net.socket_addr.SocketAddrV4.{SocketAddrV4}
use Rattle.mg_bytes.specs.Option.{◌>>=◌}
use Rattle.mg_bytes.specs.Words.{words, split_once}
use Rattle.mg_bytes.specs.Address.{ipv4_of, port_of}
use Rattle.mg_bytes.specs.Numbers.{decimal_of}
use Rattle.mg_line.specs.declared.phone.Act.{Act}
use Rattle.mg_line.specs.declared.phone.Act.TheVariants as acts
use Rattle.mg_line.specs.declared.phone.Key.{Key}
use Rattle.mg_line.specs.declared.phone.Key.TheVariants as keys
use Rattle.mg_bytes.specs.Lines.{ended}
use Rattle.rgw_scripts.specs.declared.step.ScriptStep.{ScriptStep}
use Rattle.rgw_scripts.specs.declared.step.ScriptStep.TheVariants.{Datagram, Phone, Tick, At, Wait, Show}
use Rattle.rgw_scripts.specs.declared.step.ScriptLine.{ScriptLine}
use Rattle.rgw_scripts.specs.declared.step.ScriptLine.TheVariants.{Empty, From, Whole}

-- `a.b.c.d:port`
abbrev pub address_from : List ℕ × List ℕ → Option SocketAddrV4
address_from sides = do
  ip ← ipv4_of sides.0
  port ← port_of sides.1
  Some (record { ip = ip; port = port })

unfoldable pub address_of : List ℕ → Option SocketAddrV4
address_of text = split_once 58 text >>= address_from

abbrev pub hex_digit : ℕ → Option ℕ
hex_digit digit = if nat_lt (digit_value digit) 16 then Some (digit_value digit) else None

abbrev pub hex_byte : ℕ → ℕ → Option ℕ
hex_byte high low = do
  sixteens ← hex_digit high
  ones ← hex_digit low
  Some (16 * sixteens + ones)

-- the bytes that pairs of hexadecimal digits spell
unfoldable pub hex_bytes : List ℕ → Option (List ℕ)
hex_bytes [] = Some []
hex_bytes (digit ∷ []) = None
hex_bytes (high ∷ low ∷ digits) = do
  byte ← hex_byte high low
  bytes ← hex_bytes digits
  Some (byte ∷ bytes)

-- `raw ADDRESS HEX`
abbrev pub raw_step : List ℕ → List ℕ → Option ScriptLine
raw_step address digits = do
  source ← address_of address
  bytes ← hex_bytes digits
  Some (Whole (Datagram source bytes))

-- the number of a line, from 0 to 65,535
abbrev pub line_number_from : ℕ → Option ℕ
line_number_from n = if nat_le n 65535 then Some n else None

abbrev pub line_number : List ℕ → Option ℕ
line_number text = decimal_of text >>= line_number_from

-- how long a `wait` is, up to 10,000,000 ms
abbrev pub wait_from : ℕ → Option ℕ
wait_from n = if nat_le n 10000000 then Some n else None

abbrev pub wait_of : List ℕ → Option ℕ
wait_of text = decimal_of text >>= wait_from

-- what stands at a word in a table
abbrev pub at_word : {A : Type 0} → List ℕ → List (List ℕ × A) → Option A
at_word word table = option_map (λ row. row.1) (find (λ row. bytes_eq word row.0) table)

-- the keys, each with its sign
abbrev pub keys_by_sign : List (ℕ × Key)
keys_by_sign =
    (48, keys.Zero) ∷ (49, keys.One) ∷ (50, keys.Two) ∷ (51, keys.Three) ∷ (52, keys.Four)
    ∷ (53, keys.Five) ∷ (54, keys.Six) ∷ (55, keys.Seven) ∷ (56, keys.Eight) ∷ (57, keys.Nine)
    ∷ (42, keys.Star) ∷ (35, keys.Hash) ∷ (65, keys.A) ∷ (66, keys.B) ∷ (67, keys.C) ∷ (68, keys.D) ∷ []

-- the key with a sign
unfoldable pub key_with : ℕ → Option Key
key_with sign = option_map (λ row. row.1) (find (λ row. row.0 == sign) keys_by_sign)

abbrev pub key_of : List ℕ → Option Key
key_of [] = None
key_of (sign ∷ []) = key_with sign
key_of (sign ∷ other ∷ more) = None

-- what is done with the handset, by its word
abbrev pub acts_by_word : List (List ℕ × Act)
acts_by_word = (codes "off", acts.OffHook) ∷ (codes "on", acts.OnHook)
    ∷ (codes "flash", acts.Flash) ∷ []

-- what is done at a telephone: a word, or the sign of a key
unfoldable pub act_of : List ℕ → Option Act
act_of word = option_or (at_word word acts_by_word) (option_map acts.Key (key_of word))

-- `phone LINE ACT`
abbrev pub phone_step : List ℕ → List ℕ → Option ScriptLine
phone_step line word = do
  number ← line_number line
  act ← act_of word
  Some (Whole (Phone number act))

-- the lines of a word and one more, by the word
abbrev pub lines_of_two : List (List ℕ × (List ℕ → Option ScriptLine))
lines_of_two =
    (codes "from", λ rest. option_map From (address_of rest))
    ∷ (codes "tick", λ rest. option_map (λ by. Whole (Tick by)) (decimal_of rest))
    ∷ (codes "at", λ rest. option_map (λ moment. Whole (At moment)) (decimal_of rest))
    ∷ (codes "wait", λ rest. option_map (λ by. Whole (Wait by)) (wait_of rest))
    ∷ (codes "show", λ rest. option_map (λ line. Whole (Show line)) (line_number rest)) ∷ []

unfoldable pub line_of_two : List ℕ → List ℕ → Option ScriptLine
line_of_two word rest = option_and_then (λ line. line rest) (at_word word lines_of_two)

-- the lines of a word and two more, by the word
abbrev pub lines_of_three : List (List ℕ × (List ℕ → List ℕ → Option ScriptLine))
lines_of_three = (codes "raw", raw_step) ∷ (codes "phone", phone_step) ∷ []

unfoldable pub line_of_three : List ℕ → List ℕ → List ℕ → Option ScriptLine
line_of_three word first second = option_and_then (λ line. line first second) (at_word word lines_of_three)

-- what the words of a line say between steps: nothing, that a `from` begins, or a whole step
unfoldable pub line_in : List (List ℕ) → Option ScriptLine
line_in [] = Some Empty
line_in (word ∷ []) = None
line_in (word ∷ first ∷ []) = line_of_two word first
line_in (word ∷ first ∷ second ∷ []) = line_of_three word first second
line_in (word ∷ first ∷ second ∷ other ∷ more) = None

-- a `from` whose `--` hasn't come: the number of its line, its address, and its lines so far, each with CRLF
pub record Waiting : Type 0 where
  pub line : ℕ
  pub source : SocketAddrV4
  pub text : List ℕ

-- what the lines so far were read as
pub record Reading : Type 0 where
  pub steps : List ScriptStep
  pub waiting : Option Waiting

abbrev pub begun : ℕ → List ScriptStep → Option ScriptLine → Option Reading
begun number steps None = None
begun number steps (Some Empty) = Some (record { steps = steps; waiting = None })
begun number steps (Some (From source)) =
    Some (record {
      steps = steps;
      waiting = Some (record { line = number; source = source; text = [] });
    })
begun number steps (Some (Whole step)) = Some (record { steps = steps ++ step ∷ []; waiting = None })

-- the line that ends a `from`
abbrev pub is_end : List ℕ → Bool
is_end line = bytes_eq line (codes "--")

abbrev pub continued : List ScriptStep → Waiting → List ℕ → Reading
continued steps from line =
    if is_end line then record { steps = steps ++ Datagram from.source from.text ∷ []; waiting = None }
    else record {
      steps = steps;
      waiting = Some (record { line = from.line; source = from.source; text = from.text ++ ended line });
    }

abbrev pub next_from : ℕ → List ScriptStep → List ℕ → Option Waiting → Option Reading
next_from number steps line None = begun number steps (line_in (words line))
next_from number steps line (Some from) = Some (continued steps from line)

-- the reading with one more line, if that line may stand there
abbrev pub next_reading : ℕ → List ℕ → Reading → Option Reading
next_reading number line reading = next_from number reading.steps line reading.waiting

-- the steps, unless a `from` has no `--`
abbrev pub closed : List ScriptStep → Option Waiting → Result (List ScriptStep) ℕ
closed steps None = Ok steps
closed steps (Some from) = Err from.line

abbrev pub unless_bad : ℕ → (Reading → Result (List ScriptStep) ℕ) → Option Reading → Result (List ScriptStep) ℕ
unless_bad number next None = Err number
unless_bad number next (Some reading) = next reading

-- what the lines from this number on make of a reading
unfoldable pub read_from : ℕ → Reading → List (List ℕ) → Result (List ScriptStep) ℕ
read_from number reading [] = closed reading.steps reading.waiting
read_from number reading (line ∷ lines) =
    unless_bad number (λ next. read_from (number + 1) next lines) (next_reading number line reading)

-- what lines say from this number on, after these steps, where no `from` is open
abbrev pub steps_after : ℕ → List ScriptStep → List (List ℕ) → Result (List ScriptStep) ℕ
steps_after number steps lines = read_from number (record { steps = steps; waiting = None }) lines

-- the steps of a script's lines, or the number of the first bad one
abbrev pub steps_of : List (List ℕ) → Result (List ScriptStep) ℕ
steps_of lines = steps_after 1 [] lines
