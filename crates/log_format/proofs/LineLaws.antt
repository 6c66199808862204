-- Each line of the log is one line of printable ASCII.
use Rattle.std.proofs.Common.{◌≡◌, ℕ, ◌+◌, ◌/◌, ◌%◌, ◌==◌, Bool, true, false, List, [], ◌∷◌, ◌++◌, Option, Some, None, refl, arith}
use Rattle.std.specs.Prelude.{codes, decimal, slice_index, if◌then◌else◌}
use Rattle.std.specs.List.{flat_map}
use Rattle.std.specs.Net.Addr.{ipv4_octets}
use Rattle.std.specs.Net.Text.{ipv4_text, socket_v4_text}
use Rattle.std.specs.declared.net.socket_addr.SocketAddrV4.{SocketAddrV4}
use Rattle.mg_bytes.specs.declared.return_code.ReturnCode.{ReturnCode}
use Rattle.mg_bytes.specs.declared.return_code.ReturnCode.TheVariants.{Executed}
use Rattle.mg_bytes.specs.Lists.{is_empty}
use Rattle.mg_bytes.specs.Lines.{lines_of}
use Rattle.mg_bytes.specs.Words.{words}
use Rattle.mg_bytes.specs.ReturnCode.{words_of, code_with}
use Rattle.log_format.specs.declared.stamp.Stamp.{Stamp}
use Rattle.log_format.specs.declared.stamp.Way.{Way}
use Rattle.log_format.specs.declared.stamp.Way.TheVariants.{Came, Sent}
use Rattle.log_format.specs.declared.note.Note.{Note}
use Rattle.log_format.specs.declared.note.Notice.{Notice}
use Rattle.log_format.specs.declared.note.Notice.TheVariants.{Dropped, SetOn, SetBack}
use Rattle.log_format.specs.declared.note.Note.TheVariants.{AnsweredAgain, Unanswered, SentAgain, Refused, Unreadable, TooLong, Unsent, OutOfMemory, Lost, Late, Copied, Stranger, Unheard, NoRoom}
use Rattle.log_format.specs.Escaping.{shown, escaped, is_text, IsLine}
use Rattle.log_format.specs.Calendar.{is_leap, month_lengths, year_in, month_in}
use Rattle.log_format.specs.TimeOfDay.{two_digits, three_digits, month_text, date_text, date_of, time_of_day, date_and_time}
use Rattle.log_format.specs.Messages.{set_off, name_shown, header_shown, headed, line_shown, message_of, message_shown, header_of}
use Rattle.log_format.specs.Grouping.{number_shown}
use Rattle.log_format.specs.Notes.{words_from, untold_text, note_text, notice_text}
use Rattle.log_format.specs.Lines.{stamp_text, mark_of, waited_text, message_line, note_line, notice_line, given_up_line, refused_line}
use Rattle.log_format.proofs.EscapingLaws.{text_append, text_cons, digit_printable, escaped_text, shown_text, decimal_text, number_text}

two_text : (n : ℕ) → is_text (two_digits n) ≡ true
unfolding two_digits
two_text n =
    text_cons (48 + n / 10 % 10) ((48 + n % 10) ∷ []) (digit_printable (n / 10 % 10) (omega arith))
    (text_cons (48 + n % 10) [] (digit_printable (n % 10) (omega arith)) refl)

three_text : (n : ℕ) → is_text (three_digits n) ≡ true
unfolding two_digits three_digits
three_text n = text_cons (48 + n / 100 % 10) (two_digits n) (digit_printable (n / 100 % 10) (omega arith)) (two_text n)

-- a text, a text that is written out, and a text
around : (xs sign ys : List ℕ) → is_text xs ≡ true → is_text sign ≡ true → is_text ys ≡ true → is_text (xs ++ sign ++ ys) ≡ true
around xs sign ys front between back = text_append (xs ++ sign) ys (text_append xs sign front between) back

time_text : (moment : ℕ) → is_text (time_of_day moment) ≡ true
unfolding time_of_day
time_text moment =
    let hours : List ℕ = two_digits (moment / 3600000000 % 24) in
    let minutes : List ℕ = two_digits (moment / 60000000 % 60) in
    let seconds : List ℕ = two_digits (moment / 1000000 % 60) in
    around (hours ++ codes ":" ++ minutes ++ codes ":" ++ seconds) (codes ".") (three_digits (moment / 1000 % 1000))
    (around (hours ++ codes ":" ++ minutes) (codes ":") seconds
    (around hours (codes ":") minutes (two_text (moment / 3600000000 % 24)) refl (two_text (moment / 60000000 % 60)))
    refl (two_text (moment / 1000000 % 60)))
    refl (three_text (moment / 1000 % 1000))

month_printable : (found : ℕ × ℕ) → is_text (month_text found) ≡ true
month_printable found = around (two_digits found.0) (codes "-") (two_digits (found.1 + 1)) (two_text found.0) refl (two_text (found.1 + 1))

date_printable : (found : ℕ × ℕ) → is_text (date_text found) ≡ true
date_printable found =
    let month : ℕ × ℕ = month_in (month_lengths (is_leap found.0)) 1 found.1 in
    around (two_digits (found.0 / 100) ++ two_digits found.0) (codes "-") (month_text month)
    (text_append (two_digits (found.0 / 100)) (two_digits found.0) (two_text (found.0 / 100)) (two_text found.0))
    refl (month_printable month)

moment_text : (moment : ℕ) → is_text (date_and_time moment) ≡ true
unfolding date_of date_and_time
moment_text moment =
    let day : List ℕ = date_text (year_in 8030 1970 (moment / 86400000000)) in
    text_append (day ++ codes "T" ++ time_of_day moment) (codes "Z")
    (around day (codes "T") (time_of_day moment) (date_printable (year_in 8030 1970 (moment / 86400000000))) refl (time_text moment))
    refl

octets_text : (a b c d : ℕ) → is_text (decimal a ++ codes "." ++ decimal b ++ codes "." ++ decimal c ++ codes "." ++ decimal d) ≡ true
octets_text a b c d =
    around (decimal a ++ codes "." ++ decimal b ++ codes "." ++ decimal c) (codes ".") (decimal d)
    (around (decimal a ++ codes "." ++ decimal b) (codes ".") (decimal c)
    (around (decimal a) (codes ".") (decimal b) (decimal_text a) refl (decimal_text b))
    refl (decimal_text c))
    refl (decimal_text d)

peer_shown : (peer : SocketAddrV4) → is_text (socket_v4_text peer) ≡ true
peer_shown peer =
    let o : List ℕ = peer.ip.octets in
    around (ipv4_text o) (codes ":") (decimal peer.port) (octets_text (slice_index o 0) (slice_index o 1) (slice_index o 2) (slice_index o 3)) refl (decimal_text peer.port)

begun : (stamp : Stamp) → is_text (stamp_text stamp) ≡ true
unfolding stamp_text
begun stamp = around (date_and_time stamp.moment) (codes " ") (socket_v4_text stamp.peer) (moment_text stamp.moment) refl (peer_shown stamp.peer)

-- a message

off_text : (value : List ℕ) → is_text (set_off value) ≡ true
off_text value = text_cons 32 (shown value) refl (shown_text value)

words_text : (own : List ℕ) (words : List (List ℕ)) → is_text (header_shown own words) ≡ true
unfolding header_shown
words_text own [] = refl
words_text own (kind ∷ []) = off_text kind
words_text own (kind ∷ id ∷ []) = text_append (set_off kind) (set_off id) (off_text kind) (off_text id)
words_text own (kind ∷ id ∷ name ∷ more) =
    let last : List ℕ = name_shown own name in
    around (set_off kind) (set_off id) (set_off last) (off_text kind) (off_text id) (off_text last)

line_text : (line : List ℕ) → is_text (line_shown line) ≡ true
line_text line = at_test (is_empty line) where
  at_test : (empty : Bool) → is_text (if empty then [] else set_off line) ≡ true
  at_test true = refl
  at_test false = off_text line

lines_text : (lines : List (List ℕ)) → is_text (flat_map line_shown lines) ≡ true
lines_text [] = refl
lines_text (line ∷ lines) = text_append (line_shown line) (flat_map line_shown lines) (line_text line) (lines_text lines)

message_from : (own : List ℕ) (lines : List (List ℕ)) → is_text (message_of own lines) ≡ true
message_from own [] = refl
message_from own (header ∷ lines) =
    text_append (header_shown own (words header)) (flat_map line_shown lines) (words_text own (words header)) (lines_text lines)

message_text : (own text : List ℕ) → is_text (message_shown own text) ≡ true
unfolding message_shown
message_text own text = message_from own (lines_of text)

headed_text : (own : List ℕ) (lines : List (List ℕ)) → is_text (headed own lines) ≡ true
headed_text own [] = refl
headed_text own (header ∷ lines) = words_text own (words header)

header_text : (own text : List ℕ) → is_text (header_of own text) ≡ true
unfolding header_of
header_text own text = headed_text own (lines_of text)

mark_text : (way : Way) → is_text (mark_of way) ≡ true
mark_text Came = refl
mark_text Sent = refl

waiting_text : (waited : Option ℕ) → is_text (waited_text waited) ≡ true
waiting_text None = refl
waiting_text (Some ms) = around (codes " +") (decimal ms) (codes " ms") refl (decimal_text ms) refl

-- a note

code_words : (code : ReturnCode) → is_text (words_of code) ≡ true
unfolding words_of
code_words Executed = refl
code_words _ = refl

from_text : (code : Option ReturnCode) → is_text (words_from code) ≡ true
from_text None = refl
from_text (Some code) = text_append (codes " ") (words_of code) refl (code_words code)

untold_printable : (untold : ℕ) → is_text (untold_text untold) ≡ true
untold_printable untold = at_test (untold == 0) where
  at_test : (none : Bool) → is_text (if none then [] else codes ", as " ++ decimal untold ++ codes " before it") ≡ true
  at_test true = refl
  at_test false = around (codes ", as ") (decimal untold) (codes " before it") refl (decimal_text untold) refl

noted_text : (note : Note) → is_text (note_text note) ≡ true
unfolding note_text
noted_text (AnsweredAgain id) = around (codes "repeat of ") (decimal id) (codes ", answered again") refl (decimal_text id) refl
noted_text (Unanswered id) = around (codes "repeat of ") (decimal id) (codes ", confirmed, not answered") refl (decimal_text id) refl
noted_text (SentAgain id) = around (codes "repeat of ") (decimal id) (codes ", no answer yet") refl (decimal_text id) refl
noted_text (Refused id code) =
    around (codes "refused " ++ decimal id ++ codes ": ") (decimal code) (words_from (code_with code))
    (around (codes "refused ") (decimal id) (codes ": ") refl (decimal_text id) refl)
    (decimal_text code) (from_text (code_with code))
noted_text Unreadable = refl
noted_text (TooLong length) = around (codes "too long: ") (decimal length) (codes " bytes or more") refl (decimal_text length) refl
noted_text Unsent = refl
noted_text OutOfMemory = refl
noted_text Lost = refl
noted_text (Late ms) = around (codes "late by ") (decimal ms) (codes " ms") refl (decimal_text ms) refl
noted_text (Copied first second) =
    around (codes "copied, late by " ++ decimal first ++ codes " and ") (decimal second) (codes " ms")
    (around (codes "copied, late by ") (decimal first) (codes " and ") refl (decimal_text first) refl)
    (decimal_text second) refl
noted_text (Stranger untold) = text_append (codes "a stranger's, not heard") (untold_text untold) refl (untold_printable untold)
noted_text (Unheard host) =
    let o : List ℕ = ipv4_octets host in
    text_append (codes "no answer is heard from there, but with --agents ") (ipv4_text o) refl
    (octets_text (slice_index o 0) (slice_index o 1) (slice_index o 2) (slice_index o 3))
noted_text (NoRoom young) = around (codes "lost: ") (number_shown young) (codes " commands are young") refl (number_text young) refl

notice_printable : (notice : Notice) → is_text (notice_text notice) ≡ true
unfolding notice_text
notice_printable (Dropped lines) = around (codes "dropped ") (decimal lines) (codes " lines, which nobody took") refl (decimal_text lines) refl
notice_printable (SetOn ms) = around (codes "the time of day was set on by ") (decimal ms) (codes " ms") refl (decimal_text ms) refl
notice_printable (SetBack ms) = around (codes "the time of day was set back by ") (decimal ms) (codes " ms") refl (decimal_text ms) refl

-- the lines

pub message_is_line : (own : List ℕ) (stamp : Stamp) (way : Way) (text : List ℕ) (waited : Option ℕ) → IsLine (message_line own stamp way text waited)
unfolding message_line
message_is_line own stamp way text waited = record {
  line = stamp_text stamp ++ mark_of way ++ message_shown own text ++ waited_text waited;
  printable =
      around (stamp_text stamp ++ mark_of way) (message_shown own text) (waited_text waited)
      (text_append (stamp_text stamp) (mark_of way) (begun stamp) (mark_text way)) (message_text own text) (waiting_text waited);
  ended = refl;
}

pub note_is_line : (stamp : Stamp) (note : Note) → IsLine (note_line stamp note)
unfolding note_line
note_is_line stamp note = record {
  line = stamp_text stamp ++ codes " ! " ++ note_text note;
  printable = around (stamp_text stamp) (codes " ! ") (note_text note) (begun stamp) refl (noted_text note);
  ended = refl;
}

pub notice_is_line : (moment : ℕ) (notice : Notice) → IsLine (notice_line moment notice)
unfolding notice_line
notice_is_line moment notice = record {
  line = date_and_time moment ++ codes " ! " ++ notice_text notice;
  printable = around (date_and_time moment) (codes " ! ") (notice_text notice) (moment_text moment) refl (notice_printable notice);
  ended = refl;
}

pub given_up_is_line : (own : List ℕ) (stamp : Stamp) (text : List ℕ) → IsLine (given_up_line own stamp text)
unfolding given_up_line
given_up_is_line own stamp text = record {
  line = stamp_text stamp ++ codes " ! given up:" ++ header_of own text;
  printable = around (stamp_text stamp) (codes " ! given up:") (header_of own text) (begun stamp) refl (header_text own text);
  ended = refl;
}

pub refused_is_line : (stamp : Stamp) (id : ℕ) (why : List ℕ) → IsLine (refused_line stamp id why)
unfolding refused_line
refused_is_line stamp id why = record {
  line = stamp_text stamp ++ codes " ! refused " ++ decimal id ++ codes ": " ++ escaped why;
  printable =
      around (stamp_text stamp ++ codes " ! refused " ++ decimal id) (codes ": ") (escaped why)
      (around (stamp_text stamp) (codes " ! refused ") (decimal id) (begun stamp) refl (decimal_text id))
      refl (escaped_text why);
  ended = refl;
}
