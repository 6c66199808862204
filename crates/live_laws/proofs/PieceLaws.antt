-- The pieces of a written trace, replayed one after the other.
use Rattle.std.proofs.Common.{◌≡◌, ◌≢◌, ℕ, zero, suc, ◌+◌, ◌-◌, ◌<◌, ◌≤◌, ◌^◌, Bool, true, false, eqb, List, [], ◌∷◌, ◌++◌, length, take, drop, get_or, codes, map, Option, Some, None, refl, sym, ap, ◌∙◌, subst, arith, append_assoc, append-nil, take_all}
use Rattle.std.specs.Prelude.{◌&&◌, ◌==◌, if◌then◌else◌, is_some, is_none}
use Rattle.std.specs.List.{flat_map, onto_first}
use Rattle.std.proofs.lemmas.Grind.{flat_map-append}
use Rattle.std.proofs.lemmas.Bool.{eqb-true}
use Rattle.std.proofs.lemmas.Bool.Decides.{nat_tests}
use Rattle.std.specs.Str.{bytes_eq}
use Rattle.std.specs.Fmt.{decimal}
use Rattle.std.specs.declared.net.socket_addr.SocketAddrV4.{SocketAddrV4}
use Rattle.std.proofs.lemmas.Slice.Eq.{bytes_eq-Decides}
use Rattle.std.proofs.lemmas.List.{take_at, length_push, get_or_push}
use Rattle.mg_bytes.specs.Lines.{is_line_feed, cut, without_end, line_of, lines_of}
use Rattle.mg_bytes.specs.Words.{words}
use Rattle.plain_machine.specs.declared.setup.Setup.{Setup}
use Rattle.plain_machine.specs.Event.{GatewayEvent, datagram}
use Rattle.rgw_scripts.specs.declared.step.ScriptLine.{ScriptLine}
use Rattle.rgw_scripts.specs.declared.step.ScriptLine.TheVariants.{From, Whole}
use Rattle.rgw_scripts.specs.declared.step.ScriptStep.{ScriptStep}
use Rattle.rgw_scripts.specs.Moves.{Move, Shown, give, move_went, sends, refuses, tells as tells_status}
use Rattle.rgw_scripts.specs.Script.{line_in}
use Rattle.mg_bytes.specs.Blanks.{is_blank, trimmed_start, trimmed_end, trimmed}
use Rattle.std.specs.Str.Lines.{strip_carriage_return}
use Rattle.std.specs.Net.Text.{dotted_text, socket_v4_text}
use Rattle.transmission.specs.declared.output.OutDatagram.{OutDatagram}
use Rattle.rgw_scripts.specs.Printing.{printed_line, refusal_line, shown_line}
use Rattle.traces.specs.declared.telling.Mark.{Mark}
use Rattle.traces.specs.declared.telling.Mark.TheVariants.{Unsent, Lost}
use Rattle.traces.specs.Telling.{mark, begins, is_whole, told_line, told_text, told_datagram, told_output, told_mark, number_behind, is_mark, told as shown_text}
use Rattle.traces.specs.Replaying.{Replayed, Comes, goes_on, tells, move_in, moved, played, came, compared, proceeded, by_opened, next}
use Rattle.traces.specs.Running.{Run, with_line, run_from}
use Rattle.live_play.specs.Readable.{Never}
use Rattle.live_laws.specs.Replay.{owing}
use Rattle.live_laws.proofs.ReadingLaws.{never_append, never_decimal}

-- ---- runs

-- it reads these pieces, and is the other run then
abbrev pub Reads : Setup → Run → List (List ℕ) → Run → Type 0
Reads setup run pieces end = (rest : List (List ℕ)) → run_from setup run (pieces ++ rest) ≡ run_from setup end rest

reads_one : (setup : Setup) (run end : Run) (piece : List ℕ) → with_line run piece (next setup run.at piece) ≡ Some end → Reads setup run (piece ∷ []) end
unfolding run_from
reads_one setup run end piece is rest = rw is refl

-- ---- pieces

abbrev pub ended_line : List ℕ → List ℕ
ended_line line = line ++ 10 ∷ []

-- a line with its end is the first piece
pub cut_line : (line rest : List ℕ) → Never is_line_feed line → cut (line ++ (10 ∷ rest)) ≡ ended_line line ∷ cut rest
unfolding cut
cut_line [] rest h = refl
cut_line (b ∷ bs) rest h = rw (h.0, cut_line bs rest h.1) refl

pub cut_ended : (line rest : List ℕ) → Never is_line_feed line → cut (ended_line line ++ rest) ≡ ended_line line ∷ cut rest
cut_ended line rest h = ap cut (append_assoc line (10 ∷ []) rest) ∙ cut_line line rest h

front_is : (xs : List ℕ) (b : ℕ) → take (length (xs ++ b ∷ []) - 1) (xs ++ b ∷ []) ≡ xs
front_is xs b =
    let n : length xs ≡ length (xs ++ b ∷ []) - 1 = omega (arith, length_push xs b) in
    take_at xs (b ∷ []) _ n

drop_at : (ys zs : List ℕ) (k : ℕ) → length ys ≡ k → drop k (ys ++ zs) ≡ zs
drop_at [] zs zero is = refl
drop_at [] zs (suc k) is = absurd (omega arith)
drop_at (y ∷ ys) zs zero is = absurd (omega arith)
drop_at (y ∷ ys) zs (suc k) is = drop_at ys zs k (omega arith)

last_dropped : (xs : List ℕ) (b : ℕ) → drop (length (xs ++ b ∷ []) - 1) (xs ++ b ∷ []) ≡ b ∷ []
last_dropped xs b =
    let n : length xs ≡ length (xs ++ b ∷ []) - 1 = omega (arith, length_push xs b) in
    drop_at xs (b ∷ []) _ n

whole_line : (line : List ℕ) → is_whole (ended_line line) ≡ true
whole_line line = rw (last_dropped line 10) refl

-- ---- what came in

-- a line that says a step is a move, whose showing is owed
pub reads_input : (setup : Setup) (taken : List GatewayEvent) (told : List ℕ) (moves : List Move) (line : List ℕ) (step : ScriptStep) (move : Move)
    → line_in (words line) ≡ Some (Whole step) → move_in step ≡ Some move → begins mark line ≡ false
    → Reads setup (owing taken [] told moves) (ended_line line ∷ [])
    (owing (move_went setup taken move).taken (flat_map shown_text (move_went setup taken move).shown) told (moves ++ move ∷ []))
unfolding next
reads_input setup taken told moves line step move says is plain =
    reads_one setup (owing taken [] told moves) _ (ended_line line) (rw (whole_line line, front_is line 10, plain, says, is) refl)

-- a datagram without a byte is two lines
pub reads_empty : (setup : Setup) (taken : List GatewayEvent) (told : List ℕ) (moves : List Move) (line : List ℕ) (source : SocketAddrV4)
    → line_in (words line) ≡ Some (From source) → begins mark line ≡ false
    → Reads setup (owing taken [] told moves) (ended_line line ∷ ended_line (codes "--") ∷ [])
    (owing (move_went setup taken (give (datagram source []))).taken (flat_map shown_text (move_went setup taken (give (datagram source []))).shown) told
    (moves ++ give (datagram source []) ∷ []))
unfolding next
reads_empty setup taken told moves line source says plain rest =
    let opened : Run = record { at = record { taken = taken; opened = Some source; owed = [] }; told = told; moves = moves ++ [] } in
    reads_one setup (owing taken [] told moves) opened (ended_line line) (rw (whole_line line, front_is line 10, plain, says) refl) (ended_line (codes "--") ∷ rest)
    ∙ reads_one setup opened _ (ended_line (codes "--")) (rw (append-nil moves) refl) rest

-- ---- what went out

abbrev no_feed : List (List ℕ) → Type 0
no_feed [] = Unit {0}
no_feed (line ∷ lines) = Never is_line_feed line × no_feed lines

begins_so : (piece owed : List ℕ) → begins piece (piece ++ owed) ≡ true
begins_so piece owed = rw (take_at piece owed (length piece) refl) ((bytes_eq-Decides piece piece).1 refl)

-- a told line is the next that is owed
pub reads_told : (setup : Setup) (taken : List GatewayEvent) (owed told : List ℕ) (moves : List Move) (line : List ℕ)
    → Reads setup (owing taken (told_line line ++ owed) told moves) (told_line line ∷ []) (owing taken owed (told ++ told_line line) moves)
unfolding next
reads_told setup taken owed told moves line =
    reads_one setup (owing taken (told_line line ++ owed) told moves) _ (told_line line)
    (rw (whole_line (124 ∷ 32 ∷ line), front_is (124 ∷ 32 ∷ line) 10, begins_so (told_line line) owed, drop_at (told_line line) owed (length (told_line line)) refl) refl)

pub reads_all_told : (setup : Setup) (taken : List GatewayEvent) (told : List ℕ) (moves : List Move) (lines : List (List ℕ))
    → Reads setup (owing taken (flat_map told_line lines) told moves) (map told_line lines) (owing taken [] (told ++ flat_map told_line lines) moves)
reads_all_told setup taken told moves [] rest = ap (λ (t : List ℕ). run_from setup (owing taken [] t moves) rest) (sym (append-nil told))
reads_all_told setup taken told moves (line ∷ lines) rest =
    reads_told setup taken (flat_map told_line lines) told moves line (map told_line lines ++ rest)
    ∙ reads_all_told setup taken (told ++ told_line line) moves lines rest
    ∙ ap (λ (t : List ℕ). run_from setup (owing taken [] t moves) rest) (append_assoc told (told_line line) (flat_map told_line lines))

-- what became of a datagram stands where nothing is owed
pub reads_mark : (setup : Setup) (taken : List GatewayEvent) (told : List ℕ) (moves : List Move) (line : List ℕ) → is_mark (mark ++ line) ≡ true
    → Reads setup (owing taken [] told moves) (ended_line (mark ++ line) ∷ []) (owing taken [] told moves)
unfolding next
reads_mark setup taken told moves line is =
    reads_one setup (owing taken [] told moves) (owing taken [] told moves) (ended_line (mark ++ line))
    (rw (whole_line (124 ∷ 32 ∷ line), front_is (124 ∷ 32 ∷ line) 10, is, append-nil moves) refl)

-- ---- the lines of what is shown

cut_told : (lines : List (List ℕ)) (rest : List ℕ) → no_feed lines → cut (flat_map told_line lines ++ rest) ≡ map told_line lines ++ cut rest
cut_told [] rest none = refl
cut_told (line ∷ lines) rest none =
    ap cut (append_assoc (told_line line) (flat_map told_line lines) rest)
    ∙ cut_ended (124 ∷ 32 ∷ line) (flat_map told_line lines ++ rest) (refl, (refl, none.0))
    ∙ ap (λ (pieces : List (List ℕ)). told_line line ∷ pieces) (cut_told lines rest none.1)

never_take : (p : ℕ → Bool) (n : ℕ) (xs : List ℕ) → Never p xs → Never p (take n xs)
never_take p zero xs h = tt
never_take p (suc n) [] h = tt
never_take p (suc n) (x ∷ xs) h = (h.0, never_take p n xs h.1)

never_start : (p : ℕ → Bool) (xs : List ℕ) → Never p xs → Never p (trimmed_start xs)
never_start p [] h = tt
never_start p (x ∷ xs) h = by_test (is_blank x) (never_start p xs h.1) where
  by_test : (b : Bool) → Never p (trimmed_start xs) → Never p (if b then trimmed_start xs else x ∷ xs)
  by_test true rest = rest
  by_test false rest = h

never_trimmed : (p : ℕ → Bool) (xs : List ℕ) → Never p xs → Never p (trimmed xs)
unfolding trimmed trimmed_end
never_trimmed p xs h = never_take p _ (trimmed_start xs) (never_start p xs h)

-- a piece has no line feed, or one at its end
data IsPiece : List ℕ → Type 0 where
  with_feed : (line : List ℕ) → Never is_line_feed line → IsPiece (ended_line line)
  without_feed : (line : List ℕ) → Never is_line_feed line → IsPiece line

data Each (P : List ℕ → Type 0) : List (List ℕ) → Type 0 where
  each_none : Each P []
  each_more : (piece : List ℕ) (pieces : List (List ℕ)) → P piece → Each P pieces → Each P (piece ∷ pieces)

feed_is : (b : ℕ) → is_line_feed b ≡ true → b ≡ 10
feed_is b is = omega (arith, eqb-true b 10 is)

longer_piece : (b : ℕ) (piece : List ℕ) → is_line_feed b ≡ false → IsPiece piece → IsPiece (b ∷ piece)
longer_piece b _ other (with_feed line free) = with_feed (b ∷ line) (other, free)
longer_piece b _ other (without_feed line free) = without_feed (b ∷ line) (other, free)

onto_piece : (b : ℕ) (pieces : List (List ℕ)) → is_line_feed b ≡ false → Each IsPiece pieces → Each IsPiece (onto_first b pieces)
onto_piece b [] other all = each_more (b ∷ []) [] (without_feed (b ∷ []) (other, tt)) each_none
onto_piece b (piece ∷ pieces) other (each_more _ _ is rest) = each_more (b ∷ piece) pieces (longer_piece b piece other is) rest

cut_pieces : (text : List ℕ) → Each IsPiece (cut text)
unfolding cut
cut_pieces [] = each_none
cut_pieces (b ∷ bs) = by_test (is_line_feed b) refl (cut_pieces bs) where
  by_test : (test : Bool) → is_line_feed b ≡ test → Each IsPiece (cut bs) → Each IsPiece (if test then (b ∷ []) ∷ cut bs else onto_first b (cut bs))
  by_test true is rest = each_more (b ∷ []) (cut bs) (subst (λ (x : ℕ). IsPiece (x ∷ [])) (sym (feed_is b is)) (with_feed [] tt)) rest
  by_test false is rest = onto_piece b (cut bs) is rest

never_strip : (p : ℕ → Bool) (xs : List ℕ) → Never p xs → Never p (strip_carriage_return xs)
never_strip p xs h = never_if p _ (take (length xs - 1) xs) xs (never_take p (length xs - 1) xs h) h where
  never_if : (q : ℕ → Bool) (b : Bool) (ys zs : List ℕ) → Never q ys → Never q zs → Never q (if b then ys else zs)
  never_if q true ys zs y z = y
  never_if q false ys zs y z = z

line_feedless : (piece : List ℕ) → IsPiece piece → Never is_line_feed (line_of piece)
line_feedless _ (with_feed line free) =
    never_trimmed is_line_feed (without_end (ended_line line))
    (rw (last_at line 10, front_is line 10) (never_strip is_line_feed line free)) where
      last_at : (xs : List ℕ) (b : ℕ) → get_or (xs ++ b ∷ []) (length (xs ++ b ∷ []) - 1) 0 ≡ b
      last_at xs b =
          let n : length xs ≡ length (xs ++ b ∷ []) - 1 = omega (arith, length_push xs b) in
          get_or_push xs b 0 _ n
line_feedless _ (without_feed line free) =
    never_trimmed is_line_feed (without_end line)
    (either (is_line_feed (get_or line (length line - 1) 0)) (strip_carriage_return (take (length line - 1) line)) line
    (never_strip is_line_feed (take (length line - 1) line) (never_take is_line_feed (length line - 1) line free)) free) where
      either : (b : Bool) (ys zs : List ℕ) → Never is_line_feed ys → Never is_line_feed zs → Never is_line_feed (if b then ys else zs)
      either true ys zs y z = y
      either false ys zs y z = z

lines_from : (pieces : List (List ℕ)) → Each IsPiece pieces → no_feed (map line_of pieces)
lines_from [] all = tt
lines_from (piece ∷ pieces) (each_more _ _ is rest) = (line_feedless piece is, lines_from pieces rest)

lines_feedless : (text : List ℕ) → no_feed (lines_of text)
lines_feedless text = lines_from (cut text) (cut_pieces text)

no_feed_append : (a b : List (List ℕ)) → no_feed a → no_feed b → no_feed (a ++ b)
no_feed_append [] b x y = y
no_feed_append (line ∷ a) b x y = (x.0, no_feed_append a b x.1 y)

address_feedless : (to : SocketAddrV4) → Never is_line_feed (socket_v4_text to)
address_feedless to =
    let dot : Never is_line_feed (codes ".") = (refl, tt) in
    let number : (n : ℕ) → Never is_line_feed (decimal n) = λ n. never_decimal is_line_feed (λ d low high. grind (arith, nat_tests)) n in
    never_append is_line_feed _ (decimal to.port)
    (never_append is_line_feed _ (codes ":")
    (never_append is_line_feed _ _ (never_append is_line_feed _ (codes ".") (never_append is_line_feed _ _ (never_append is_line_feed _ (codes ".")
    (never_append is_line_feed _ _ (never_append is_line_feed _ (codes ".") (number _) dot) (number _)) dot) (number _)) dot) (number _))
    (refl, tt)) (number to.port)

abbrev datagram_lines : OutDatagram → List (List ℕ)
datagram_lines packet = (codes "> " ++ socket_v4_text packet.to) ∷ (lines_of packet.bytes ++ (codes "--" ∷ []))

datagram_feedless : (packet : OutDatagram) → no_feed (datagram_lines packet)
datagram_feedless packet =
    ((refl, (refl, address_feedless packet.to)), no_feed_append (lines_of packet.bytes) (codes "--" ∷ []) (lines_feedless packet.bytes) ((refl, (refl, tt)), tt))

datagram_told : (packet : OutDatagram) → told_output packet ≡ flat_map told_line (datagram_lines packet)
unfolding told_datagram
datagram_told packet =
    append_assoc (told_line (codes "> " ++ socket_v4_text packet.to)) (flat_map told_line (lines_of packet.bytes)) (told_line (codes "--"))
    ∙ ap (λ (t : List ℕ). told_line (codes "> " ++ socket_v4_text packet.to) ++ t)
    (sym (flat_map-append told_line (lines_of packet.bytes) (codes "--" ∷ []) ∙ ap (λ (t : List ℕ). flat_map told_line (lines_of packet.bytes) ++ t) (append-nil (told_line (codes "--")))))

abbrev all_lines : List OutDatagram → List (List ℕ)
all_lines [] = []
all_lines (packet ∷ datagrams) = datagram_lines packet ++ all_lines datagrams

all_feedless : (datagrams : List OutDatagram) → no_feed (all_lines datagrams)
all_feedless [] = tt
all_feedless (packet ∷ datagrams) = no_feed_append (datagram_lines packet) (all_lines datagrams) (datagram_feedless packet) (all_feedless datagrams)

all_told : (datagrams : List OutDatagram) → flat_map told_output datagrams ≡ flat_map told_line (all_lines datagrams)
all_told [] = refl
all_told (packet ∷ datagrams) =
    ap (λ (t : List ℕ). t ++ flat_map told_output datagrams) (datagram_told packet)
    ∙ ap (λ (t : List ℕ). flat_map told_line (datagram_lines packet) ++ t) (all_told datagrams)
    ∙ sym (flat_map-append told_line (datagram_lines packet) (all_lines datagrams))

-- the lines that a trace has of what is shown
abbrev pub lines_shown : Shown → List (List ℕ)
lines_shown (sends datagrams) = all_lines datagrams
lines_shown (refuses refusal) = lines_of (printed_line (refusal_line refusal))
lines_shown (tells_status status) = lines_of (printed_line (shown_line status))

pub shown_lines : (shown : Shown) → shown_text shown ≡ flat_map told_line (lines_shown shown)
unfolding shown_text
shown_lines (sends datagrams) = all_told datagrams
shown_lines (refuses refusal) = refl
shown_lines (tells_status status) = refl

shown_feedless : (shown : Shown) → no_feed (lines_shown shown)
shown_feedless (sends datagrams) = all_feedless datagrams
shown_feedless (refuses refusal) = lines_feedless (printed_line (refusal_line refusal))
shown_feedless (tells_status status) = lines_feedless (printed_line (shown_line status))

-- what is shown is cut into its lines, and read
pub reads_shown : (setup : Setup) (taken : List GatewayEvent) (told : List ℕ) (moves : List Move) (shown : Shown) (rest : List ℕ)
    → run_from setup (owing taken (shown_text shown) told moves) (cut (shown_text shown ++ rest)) ≡ run_from setup (owing taken [] (told ++ shown_text shown) moves) (cut rest)
reads_shown setup taken told moves shown rest =
    rw (shown_lines shown)
    (ap (run_from setup (owing taken (flat_map told_line (lines_shown shown)) told moves)) (cut_told (lines_shown shown) rest (shown_feedless shown))
    ∙ reads_all_told setup taken told moves (lines_shown shown) (cut rest))
