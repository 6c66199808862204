-- What is written of a notification ends in a line end, has no dot line, and fits into a datagram.
use Rattle.std.proofs.Common.{◌≡◌, ℕ, ◌+◌, ◌*◌, ◌<◌, ◌≤◌, true, false, ◌&&◌, List, [], ◌∷◌, ◌++◌, length, map, codes, refl, arith, lit<, Bool, ◌==◌, if◌then◌else◌}
use Rattle.std.specs.Prelude.{nat_le}
use Rattle.std.specs.Fmt.{decimal}
use Rattle.std.specs.Char.{is_ascii_hexdigit}
use Rattle.std.specs.List.{list_all, list_any, join_with_byte}
use Rattle.std.proofs.lemmas.Bool.{and_parts, leb-true}
use Rattle.std.proofs.lemmas.Bool.Decides.{nat_tests}
use Rattle.std.proofs.lemmas.Fmt.{length-decimal-le}
use Rattle.std.proofs.lemmas.List.{length-append}
use Rattle.mg_bytes.specs.Bytes.{space, colon, comma, at_sign}
use Rattle.mg_bytes.specs.Blanks.{is_blank}
use Rattle.mg_bytes.specs.Lines.{is_line_feed, ended}
use Rattle.mg_bytes.specs.Numbers.{is_hex_text}
use Rattle.mg_bytes.specs.declared.letter.Letter.TheVariants as letters
use Rattle.packages.specs.declared.event.LineEvent.{LineEvent}
use Rattle.packages.specs.declared.event.LineEvent.TheVariants as events
use Rattle.packages.specs.declared.signal.Signal.TheVariants.{DialTone, Busy, Reorder, Ringing, RingSplash, MessageWaiting, Ringback, Congestion, Confirm}
use Rattle.packages.specs.Looking.{event_name, signal_name, package_of, completion_of, event_named}
use Rattle.mgcp_text.specs.declared.message.Param.{Param}
use Rattle.mgcp_text.specs.declared.message.Verb.{Verb}
use Rattle.mgcp_text.specs.declared.message.Verb.TheVariants.{Epcf, Rqnt, Ntfy, Crcx, Mdcx, Dlcx, Auep, Aucx, Rsip, Other}
use Rattle.mgcp_text.specs.Writing.{verb_text, command_line, value_text, param_line, written, is_writable_param, is_writable_body, is_id, is_writable}
use Rattle.mgcp_text.proofs.IdLemmas.{is_id_true}
use Rattle.mgcp_text.proofs.ValueLaws.{word_writable}
use Rattle.mgcp_text.proofs.WholeLemmas.{whole_written}
use Rattle.packages.specs.declared.observed.Observed.{Observed}
use Rattle.packages.specs.declared.observed.Observed.TheVariants.{Happened, Ended}
use Rattle.packages.specs.Observed.{observed_entry_text, observed_text}
use Rattle.packages.proofs.ObservedLaws.{observed_no_blanks, observed_one_line}
use Rattle.endpoint_names.specs.declared.name.Pattern.TheVariants.{One, All}
use Rattle.endpoint_names.specs.Name.{local_name, name_text}
use Rattle.endpoint_names.specs.Table.{is_domain_byte, is_domain, longest_domain}
use Rattle.mgcp_text.specs.Packing.{is_joinable}
use Rattle.mgcp_text.proofs.PackingLaws.{joinable-from}
use Rattle.mg_line.specs.Line.{Notice, most_accumulated}
use Rattle.plain_machine.specs.declared.setup.Setup.{Setup}
use Rattle.transmission.specs.Texts.{largest_datagram}
use Rattle.plain_machine.specs.Setup.{IsSetUp, most_lines}
use Rattle.plain_machine.specs.Posting.{numbers, id_on}
use Rattle.plain_machine.specs.Notifying.{notification}
use Rattle.plain_machine.proofs.NameLemmas.{name_is_word, all_is_word}
use Rattle.machine_laws.proofs.NoticeLemmas.{IsTold}
use Rattle.mgcp_text.specs.declared.message.Message.{Message}
use Rattle.mgcp_text.specs.declared.message.Message.TheVariants as messages
use Rattle.plain_machine.specs.Announcing.{announcement}

-- The identifier

hex_solid : (ds : List ℕ) → list_all is_ascii_hexdigit ds ≡ true → (list_any is_blank ds ≡ false) × (list_any is_line_feed ds ≡ false)
hex_solid [] all = (refl, refl)
hex_solid (d ∷ ds) all =
    let both = and_parts (is_ascii_hexdigit d) (list_all is_ascii_hexdigit ds) all in
    let others = hex_solid ds both.1 in
    let blank : is_blank d ≡ false = grind (arith, nat_tests) in
    let feed : is_line_feed d ≡ false = grind (arith, nat_tests) in
    (rw (blank, others.0) refl, rw (feed, others.1) refl)

record IsIdentifier (text : List ℕ) : Type 0 where
  short : length text ≤ 32
  blankless : list_any is_blank text ≡ false
  one_line : list_any is_line_feed text ≡ false

identifier_is : (text : List ℕ) → is_hex_text text ≡ true → IsIdentifier text
identifier_is text digits =
    let both = and_parts _ (list_all is_ascii_hexdigit text) digits in
    let solid = hex_solid text both.1 in
    record { short = leb-true (length text) 32 (and_parts _ _ both.0).1; blankless = solid.0; one_line = solid.1 }

-- The events

event_short : (event : LineEvent) → length (event_name event) ≤ 4
unfolding event_name
event_short events.OffHook = omega arith
event_short events.OnHook = omega arith
event_short events.Flash = omega arith
event_short events.LineComplete = omega arith
event_short events.GenericComplete = omega arith
event_short (events.Letter letters.Zero) = omega arith
event_short (events.Letter letters.One) = omega arith
event_short (events.Letter letters.Two) = omega arith
event_short (events.Letter letters.Three) = omega arith
event_short (events.Letter letters.Four) = omega arith
event_short (events.Letter letters.Five) = omega arith
event_short (events.Letter letters.Six) = omega arith
event_short (events.Letter letters.Seven) = omega arith
event_short (events.Letter letters.Eight) = omega arith
event_short (events.Letter letters.Nine) = omega arith
event_short (events.Letter letters.Star) = omega arith
event_short (events.Letter letters.Hash) = omega arith
event_short (events.Letter letters.A) = omega arith
event_short (events.Letter letters.B) = omega arith
event_short (events.Letter letters.C) = omega arith
event_short (events.Letter letters.D) = omega arith
event_short (events.Letter letters.Timer) = omega arith

entry_short : (event : Observed) → length (observed_entry_text event) ≤ 12
unfolding observed_entry_text event_name signal_name package_of completion_of event_named
entry_short (Happened event) = omega (arith, event_short event)
entry_short (Ended DialTone) = omega arith
entry_short (Ended Busy) = omega arith
entry_short (Ended Reorder) = omega arith
entry_short (Ended Ringing) = omega arith
entry_short (Ended RingSplash) = omega arith
entry_short (Ended MessageWaiting) = omega arith
entry_short (Ended Ringback) = omega arith
entry_short (Ended Congestion) = omega arith
entry_short (Ended Confirm) = omega arith

join_short : (entries : List Observed) → length (join_with_byte comma (map observed_entry_text entries)) ≤ 13 * length entries
join_short [] = omega arith
join_short (event ∷ []) = omega (arith, entry_short event)
join_short (event ∷ next ∷ entries) =
    let rest = join_short (next ∷ entries) in
    let whole = length-append (observed_entry_text event) (comma ∷ join_with_byte comma (map observed_entry_text (next ∷ entries))) in
    omega (arith, entry_short event, rest, whole)

observed_short : (entries : List Observed) → length (observed_text entries) ≤ 13 * length entries
unfolding observed_text
observed_short entries = join_short entries

-- The name

pub domain_short : (domain : List ℕ) → is_domain domain ≡ true → length domain ≤ longest_domain
domain_short domain is =
    let both = and_parts (nat_le 1 (length domain) && nat_le (length domain) longest_domain) (list_all is_domain_byte domain) is in
    leb-true (length domain) longest_domain (and_parts (nat_le 1 (length domain)) (nat_le (length domain) longest_domain) both.0).1

pub name_short : (line : ℕ) (domain : List ℕ) → line ≤ most_lines → is_domain domain ≡ true → length (name_text (One line) domain) ≤ 72
unfolding name_text
name_short line domain few is =
    let number : length (decimal line) ≤ 2 = length-decimal-le 2 line (lit< tt) (omega arith) (omega arith) in
    let most = domain_short domain is in
    let front = length-append (codes "aaln/") (decimal line) in
    let whole = length-append (local_name line) (at_sign ∷ domain) in
    omega (arith, number, most, front, whole)

-- The lines

value_long : (value : List ℕ) → length (value_text value) ≤ length value + 1
value_long [] = omega arith
value_long (b ∷ bs) = omega arith

pub param_short : (code value : List ℕ) (most : ℕ) → length code ≤ 1 → length value ≤ most → length (ended (param_line (record { code = code; value = value }))) ≤ most + 5
unfolding param_line
param_short code value most one short =
    let text = value_long value in
    let front = length-append code (colon ∷ value_text value) in
    let whole = length-append (code ++ (colon ∷ value_text value)) (13 ∷ 10 ∷ []) in
    omega (arith, one, short, text, front, whole)

verb_short : (verb : Verb) → length (verb_text verb) ≤ 4
verb_short Epcf = omega arith
verb_short Rqnt = omega arith
verb_short Ntfy = omega arith
verb_short Crcx = omega arith
verb_short Mdcx = omega arith
verb_short Dlcx = omega arith
verb_short Auep = omega arith
verb_short Aucx = omega arith
verb_short Rsip = omega arith
verb_short Other = omega arith

pub command_short : (verb : Verb) (id : ℕ) (name : List ℕ) → id ≤ 999999999 → length name ≤ 72 → length (ended (command_line verb id name)) ≤ 98
unfolding command_line
command_short verb id name small short =
    let digits : length (decimal id) ≤ 9 = length-decimal-le 9 id (lit< tt) (omega arith) (omega arith) in
    let tail = length-append (space ∷ name) (codes " MGCP 1.0") in
    let middle = length-append (space ∷ decimal id) ((space ∷ name) ++ codes " MGCP 1.0") in
    let line = length-append (verb_text verb) ((space ∷ decimal id) ++ ((space ∷ name) ++ codes " MGCP 1.0")) in
    let whole = length-append (verb_text verb ++ ((space ∷ decimal id) ++ ((space ∷ name) ++ codes " MGCP 1.0"))) (13 ∷ 10 ∷ []) in
    omega (arith, verb_short verb, digits, short, tail, middle, line, whole)

-- The notification

pub no_body : is_writable_body [] ≡ true
unfolding is_writable_body
no_body = refl

id_is : (line number : ℕ) → 1 ≤ line → line ≤ most_lines → number < numbers → (1 ≤ id_on line number) × (id_on line number ≤ 999999999)
id_is line number some few below = (omega arith, omega arith)

pub told_writable : (setup : Setup) (line number : ℕ) (notice : Notice) → IsSetUp setup → 1 ≤ line → line ≤ most_lines → number < numbers → IsTold notice
    → is_writable (notification setup line (id_on line number) notice) ≡ true
unfolding notification is_writable name_text
told_writable setup line number notice set_up some few below told =
    let id = id_is line number some few below in
    let has_id : is_id (id_on line number) ≡ true = is_id_true (id_on line number) id.0 id.1 in
    let word = name_is_word setup line set_up.domain (omega arith) in
    let identifier = identifier_is notice.identifier told.digits in
    let first : is_writable_param (record { code = codes "X"; value = notice.identifier }) ≡ true =
    word_writable (record { code = codes "X"; value = notice.identifier }) refl identifier.blankless identifier.one_line in
    let second : is_writable_param (record { code = codes "O"; value = observed_text notice.observed }) ≡ true =
    word_writable (record { code = codes "O"; value = observed_text notice.observed }) refl (observed_no_blanks notice.observed) (observed_one_line notice.observed) in
    rw (has_id, word.blankless, word.one_line, first, second, no_body) refl

told_short : (setup : Setup) (line number : ℕ) (notice : Notice) → IsSetUp setup → 1 ≤ line → line ≤ most_lines → number < numbers → IsTold notice
    → length (written (notification setup line (id_on line number) notice)) ≤ largest_datagram
unfolding notification written
told_short setup line number notice set_up some few below told =
    let id = (id_on line number) in
    let small : id_on line number ≤ 999999999 = (id_is line number some few below).1 in
    let name = name_text (One line) setup.names.domain in
    let x : Param = record { code = codes "X"; value = notice.identifier } in
    let o : Param = record { code = codes "O"; value = observed_text notice.observed } in
    let start = command_short Ntfy id name small (name_short line setup.names.domain few set_up.domain) in
    let first = param_short (codes "X") notice.identifier 32 (omega arith) (identifier_is notice.identifier told.digits).short in
    let most : length notice.observed ≤ most_accumulated = told.few in
    let events : length (observed_text notice.observed) ≤ 832 = omega (arith, observed_short notice.observed, most) in
    let second = param_short (codes "O") (observed_text notice.observed) 832 (omega arith) events in
    let params = length-append (ended (param_line x)) (ended (param_line o) ++ []) in
    let last = length-append (ended (param_line o)) [] in
    let front = length-append (ended (command_line Ntfy id name)) (ended (param_line x) ++ (ended (param_line o) ++ [])) in
    let whole = length-append (ended (command_line Ntfy id name) ++ (ended (param_line x) ++ (ended (param_line o) ++ []))) [] in
    omega (arith, start, first, second, params, last, front, whole)

pub notification_goes : (setup : Setup) (line number : ℕ) (notice : Notice) → IsSetUp setup → 1 ≤ line → line ≤ most_lines → number < numbers → IsTold notice
    → is_joinable largest_datagram (written (notification setup line (id_on line number) notice)) ≡ true
notification_goes setup line number notice set_up some few below told =
    let whole = whole_written (notification setup line (id_on line number) notice) (told_writable setup line number notice set_up some few below told) in
    joinable-from largest_datagram (written (notification setup line (id_on line number) notice))
    (record { ends = whole.ends; apart = whole.apart; short = told_short setup line number notice set_up some few below told })

-- The announcement of a line, and of the gateway itself, is a message as it goes out.

-- for all lines, or for one
abbrev Announced : Bool → Setup → ℕ → ℕ → Message
Announced all setup line id =
    messages.Command Rsip id (name_text (if all then All else One line) setup.names.domain)
    ((record { code = codes "RM"; value = if all then codes "restart" else codes "disconnected" }) ∷ []) []

all_short : (domain : List ℕ) → length domain ≤ longest_domain → length (name_text All domain) ≤ 72
unfolding name_text
all_short domain short = omega (arith, short)

announced_writable : (all : Bool) (setup : Setup) (line id : ℕ) → IsSetUp setup → line ≤ most_lines → 1 ≤ id → id ≤ 999999999 → is_writable (Announced all setup line id) ≡ true
unfolding is_writable name_text
announced_writable true setup line id set_up few some small =
    let has_id : is_id id ≡ true = is_id_true id some small in
    let word = all_is_word setup set_up.domain in
    let method : is_writable_param (record { code = codes "RM"; value = codes "restart" }) ≡ true = word_writable (record { code = codes "RM"; value = codes "restart" }) refl refl refl in
    rw (has_id, word.blankless, word.one_line, method, no_body) refl
announced_writable false setup line id set_up few some small =
    let has_id : is_id id ≡ true = is_id_true id some small in
    let word = name_is_word setup line set_up.domain (omega (arith, few)) in
    let method : is_writable_param (record { code = codes "RM"; value = codes "disconnected" }) ≡ true = word_writable (record { code = codes "RM"; value = codes "disconnected" }) refl refl refl in
    rw (has_id, word.blankless, word.one_line, method, no_body) refl

-- with a name that is as short, and one parameter
text_short : (id : ℕ) (name : List ℕ) (param : Param) → id ≤ 999999999 → length name ≤ 72 → length (ended (param_line param)) ≤ 30
    → length (written (messages.Command Rsip id name (param ∷ []) [])) ≤ largest_datagram
unfolding written
text_short id name param small short most =
    let start = command_short Rsip id name small short in
    let params = length-append (ended (param_line param)) [] in
    let front = length-append (ended (command_line Rsip id name)) (ended (param_line param) ++ []) in
    let whole = length-append (ended (command_line Rsip id name) ++ (ended (param_line param) ++ [])) [] in
    omega (arith, start, most, params, front, whole)

announced_short : (all : Bool) (setup : Setup) (line id : ℕ) → IsSetUp setup → line ≤ most_lines → id ≤ 999999999 → length (written (Announced all setup line id)) ≤ largest_datagram
unfolding param_line
announced_short true setup line id set_up few small =
    text_short id (name_text All setup.names.domain) (record { code = codes "RM"; value = codes "restart" }) small
    (all_short setup.names.domain (domain_short setup.names.domain set_up.domain)) (omega arith)
announced_short false setup line id set_up few small =
    text_short id (name_text (One line) setup.names.domain) (record { code = codes "RM"; value = codes "disconnected" }) small
    (name_short line setup.names.domain few set_up.domain) (omega arith)

announced_joins : (all : Bool) (setup : Setup) (line id : ℕ) → IsSetUp setup → line ≤ most_lines → 1 ≤ id → id ≤ 999999999
    → is_joinable largest_datagram (written (Announced all setup line id)) ≡ true
announced_joins all setup line id set_up few some small =
    let whole = whole_written (Announced all setup line id) (announced_writable all setup line id set_up few some small) in
    joinable-from largest_datagram (written (Announced all setup line id))
    (record { ends = whole.ends; apart = whole.apart; short = announced_short all setup line id set_up few small })

pub announcement_writable : (setup : Setup) (line number : ℕ) → IsSetUp setup → line ≤ most_lines → number < numbers → 1 ≤ id_on line number
    → is_writable (announcement setup line (id_on line number)) ≡ true
unfolding announcement
announcement_writable setup line number set_up few below some = by_line (line == 0) where
  by_line : (b : Bool) → is_writable (messages.Command Rsip (id_on line number) (name_text (if b then All else One line) setup.names.domain)
      ((record { code = codes "RM"; value = if b then codes "restart" else codes "disconnected" }) ∷ []) []) ≡ true
  by_line b = announced_writable b setup line (id_on line number) set_up few some (omega (arith, few, below))

pub announcement_goes : (setup : Setup) (line number : ℕ) → IsSetUp setup → line ≤ most_lines → number < numbers → 1 ≤ id_on line number
    → is_joinable largest_datagram (written (announcement setup line (id_on line number))) ≡ true
unfolding announcement
announcement_goes setup line number set_up few below some = by_line (line == 0) where
  by_line : (b : Bool) → is_joinable largest_datagram (written (messages.Command Rsip (id_on line number) (name_text (if b then All else One line) setup.names.domain)
      ((record { code = codes "RM"; value = if b then codes "restart" else codes "disconnected" }) ∷ []) [])) ≡ true
  by_line b = announced_joins b setup line (id_on line number) set_up few some (omega (arith, few, below))
