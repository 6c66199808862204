-- What a trace has of what a gateway sends and answers. Each line is told behind `| `, and ends in LF.
use Rattle.std.specs.Prelude.{ℕ, ◌-◌, Bool, codes, decimal, ◌||◌, if◌then◌else◌, List, [], ◌∷◌, ◌++◌, take, drop, length, is_some, Option, None}
use Rattle.std.specs.List.{flat_map}
use Rattle.std.specs.Str.{bytes_eq}
use Rattle.std.specs.Net.Text.{socket_v4_text}
use Rattle.std.specs.declared.net.socket_addr.SocketAddrV4.{SocketAddrV4}
use Rattle.mg_bytes.specs.Lines.{lines_of}
use Rattle.mg_bytes.specs.Numbers.{decimal_of}
use Rattle.transmission.specs.declared.output.OutDatagram.{OutDatagram}
use Rattle.rgw_scripts.specs.Printing.{printed_line, refusal_line, shown_line}
use Rattle.rgw_scripts.specs.Moves.{Shown, sends, refuses, tells}
use Rattle.traces.specs.declared.telling.Mark.{Mark}
use Rattle.traces.specs.declared.telling.Mark.TheVariants.{Unsent, Lost}

-- what stands before each line that is told
abbrev pub mark : List ℕ
mark = codes "| "

abbrev pub told_line : List ℕ → List ℕ
told_line line = mark ++ printed_line line

-- the lines of a text
abbrev pub told_text : List ℕ → List ℕ
told_text text = flat_map told_line (lines_of text)

-- a datagram that goes out: its address, without a moment, its lines, and `--`
unfoldable pub told_datagram : SocketAddrV4 → List ℕ → List ℕ
told_datagram to bytes = told_line (codes "> " ++ socket_v4_text to) ++ told_text bytes ++ told_line (codes "--")

abbrev pub told_output : OutDatagram → List ℕ
told_output datagram = told_datagram datagram.to datagram.bytes

-- what is shown: datagrams, why a step is refused, or what a line is
unfoldable pub told : Shown → List ℕ
told (sends datagrams) = flat_map told_output datagrams
told (refuses refusal) = told_text (printed_line (refusal_line refusal))
told (tells status) = told_text (printed_line (shown_line status))

-- the number with which ids begin
abbrev pub first_words : List ℕ
first_words = codes "| first "

abbrev pub told_first : ℕ → List ℕ
told_first first = first_words ++ printed_line (decimal first)

-- what became of a datagram of the turn before, by its place among those, from 1 on: it wasn't sent, or a bad network lost it
abbrev pub unsent_words : List ℕ
unsent_words = codes "| ! not sent "

abbrev pub lost_words : List ℕ
lost_words = codes "| ! lost on its way "

abbrev pub told_mark : Mark → ℕ → List ℕ
told_mark Unsent place = unsent_words ++ printed_line (decimal place)
told_mark Lost place = lost_words ++ printed_line (decimal place)

-- the last line of a trace that is broken off there, since what stands before it wasn't taken
abbrev pub broken_off : List ℕ
broken_off = codes "| ! broken off"

-- the line begins with these words
abbrev pub begins : List ℕ → List ℕ → Bool
begins words line = bytes_eq (take (length words) line) words

-- the line has its end, LF
abbrev pub is_whole : List ℕ → Bool
is_whole piece = bytes_eq (drop (length piece - 1) piece) (10 ∷ [])

-- the number behind these words, if the line has both and nothing else
abbrev pub number_behind : List ℕ → List ℕ → Option ℕ
number_behind words line = if begins words line then decimal_of (drop (length words) line) else None

-- the line, without its end, tells what became of a datagram, or that the trace is broken off
unfoldable pub is_mark : List ℕ → Bool
is_mark line =
    is_some (number_behind unsent_words line) || is_some (number_behind lost_words line) || bytes_eq line broken_off
