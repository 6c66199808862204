-- How the program ends: its exit status, and what it writes on standard error.
use Rattle.std.specs.Prelude.{ℕ, ◌≡◌, codes, decimal, List, [], ◌++◌, Option, Result, Ok, Err, IfSome, IsOk}
use Rattle.rgw_scripts.specs.declared.played.PlayFault.{PlayFault}
use Rattle.rgw_scripts.specs.declared.played.PlayFault.TheVariants.{OutOfMemory, Read, Write, Config, Script}
use Rattle.rgw_scripts.specs.Printing.{printed_line}
use Rattle.rgw_scripts.specs.Fault.{name_of_config_fault}
use Rattle.rgw_scripts.specs.Play.{judged, PlaysInto, Explains}
use Rattle.rgw_play.specs.declared.words.Task.{Task}
use Rattle.rgw_play.specs.declared.words.Task.TheVariants.{Simulate, Loopback}
use Rattle.rgw_play.specs.declared.words.WordFault.{WordFault}
use Rattle.rgw_play.specs.declared.words.WordFault.TheVariants as word_fault
use Rattle.rgw_play.specs.declared.ending.Ending.{Ending}
use Rattle.rgw_play.specs.declared.ending.Ending.TheVariants.{Played, Usage, Fault, WireFault}

-- 0 where the script was played, 1 where the input is refused, 2 at other words, 3 where memory, a stream or a socket failed
abbrev pub status_of : Ending → ℕ
status_of Played = 0
status_of Usage = 2
status_of (Fault OutOfMemory) = 3
status_of (Fault Read) = 3
status_of (Fault Write) = 3
status_of (Fault (Config number)) = 1
status_of (Fault (Script line)) = 1
status_of WireFault = 3

-- one line, or nothing where the script was played
unfoldable pub error_text : Ending → List ℕ
error_text Played = []
error_text Usage = printed_line (codes "usage: rgw simulate | rgw loopback [--port N]")
error_text (Fault OutOfMemory) = printed_line (codes "out of memory")
error_text (Fault Read) = printed_line (codes "read fault")
error_text (Fault Write) = printed_line (codes "write fault")
error_text WireFault = printed_line (codes "wire fault")
error_text (Fault (Config number)) =
    printed_line (codes "config " ++ decimal number ++ codes " " ++ name_of_config_fault number)
error_text (Fault (Script line)) = printed_line (codes "script line " ++ decimal line)

-- the input was played into the writer
abbrev pub WasPlayed : Option (List ℕ) → Option (List ℕ) → Option (List ℕ) → Type 0
WasPlayed remaining before after =
    IfSome remaining
    (λ input. (commands : ℕ) × (refused : ℕ) × PlaysInto (judged input) commands refused before after)

-- the fault is the input's
abbrev pub IsExplained : PlayFault → Option (List ℕ) → Type 0
IsExplained fault remaining = IfSome remaining (λ input. Explains fault (judged input))

-- the input was played into the writer, or the fault is the input's
abbrev pub Simulates : Ending → Option (List ℕ) → Option (List ℕ) → Option (List ℕ) → Type 0
Simulates Played remaining before after = WasPlayed remaining before after
Simulates Usage remaining before after = ⊥
Simulates (Fault fault) remaining before after = IsExplained fault remaining
Simulates WireFault remaining before after = ⊥

-- the same over sockets, and a socket may fail where there is something to play
abbrev pub Carries : Ending → Option (List ℕ) → Option (List ℕ) → Option (List ℕ) → Type 0
Carries Played remaining before after = WasPlayed remaining before after
Carries Usage remaining before after = ⊥
Carries (Fault fault) remaining before after = IsExplained fault remaining
Carries WireFault remaining before after = IfSome remaining (λ input. IsOk (judged input))

-- how the program ends that was asked for this
abbrev pub Ends : Result Task WordFault → Ending → Option (List ℕ) → Option (List ℕ) →
    Option (List ℕ) → Type 0
Ends (Ok Simulate) ending remaining before after = Simulates ending remaining before after
Ends (Ok (Loopback port)) ending remaining before after = Carries ending remaining before after
Ends (Err word_fault.Usage) ending remaining before after = ending ≡ Usage
Ends (Err word_fault.OutOfMemory) ending remaining before after = ending ≡ Fault OutOfMemory
