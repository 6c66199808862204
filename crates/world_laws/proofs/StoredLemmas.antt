-- A command that comes to the gateway is answered at once with what is stored, unless that is confirmed or there is no room.
use Rattle.std.proofs.Common.{◌≡◌, ℕ, ◌<◌, ◌≤◌, Bool, true, false, ◌==◌, if◌then◌else◌, List, [], ◌∷◌, ◌++◌, length, Option, Some, inl, inr, refl, sym, ap, ◌∙◌, subst, arith, append_assoc, None, append-nil}
use Rattle.std.specs.Prelude.{◌⊎◌}
use Rattle.std.specs.Str.{bytes_eq}
use Rattle.std.proofs.lemmas.Bool.{and_parts}
use Rattle.std.proofs.lemmas.Bool.Decides.{Decides-eqb}
use Rattle.std.specs.declared.net.socket_addr.SocketAddrV4.{SocketAddrV4}
use Rattle.mgcp_text.specs.declared.message.Message.TheVariants as messages
use Rattle.mgcp_text.specs.Confirmation.{k_of}
use Rattle.mgcp_text.specs.Reading.{Outcome, message, no_header, bad_version, bad_body, read_text}
use Rattle.transmission.specs.Memory.{most_firsts, is_young}
use Rattle.transmission.specs.Arrival.{Arrival}
use Rattle.transmission.specs.Span.{IsNamed}
use Rattle.transmission.specs.Firsts.{Kind, Copied, IsLatestCopy, a_first, a_repeat, lost, kind_of, young_of, added, firsts_of}
use Rattle.transmission.specs.Answers.{is_confirmed}
use Rattle.transmission.proofs.KindLaws.{kind_repeat, kind_lost, firsts_grow}
use Rattle.transmission.proofs.AnswerLaws.{confirmed_is}
use Rattle.transmission.specs.Transacting.{message_to}
use Rattle.plain_machine.specs.declared.setup.Setup.{Setup}
use Rattle.plain_machine.specs.Effect.{Effect}
use Rattle.plain_machine.specs.Message.{again, Sent, datagram_of}
use Rattle.plain_machine.specs.Machine.{Machine}
use Rattle.plain_machine.specs.Answering.{Transaction, command_with, transaction_of, answer_text, reply, executed, transacted, handled_as, handled, took_all}
use Rattle.plain_machine.specs.Transactions.{command_arrival, arriving, commands_in}
use Rattle.plain_machine.proofs.EffectLaws.{handled_now}
use Rattle.machine_laws.proofs.TransactionLaws.{Keeps, one_more, a_first_is_executed, a_repeat_is_answered_again, arrived_on}
use Rattle.retransmission.specs.Issued.{is_command_as}
use Rattle.machine_laws.specs.Saying.{OneOf}
use Rattle.machine_laws.proofs.EachLemmas.{any_from_one, one_before, one_behind, one_from_any, Each, each_both, each_weaker, one_weaker}
use Rattle.world_laws.specs.Copies.{IsConfirmedAmong, HasRoom, IsStored}
use Rattle.world_laws.proofs.LookLemmas.{one_parted}

abbrev pub IsStoredAs : ℕ → List ℕ → Arrival → Type 0
IsStoredAs id text first = (first.id ≡ id) × (first.answer ≡ text)

-- the stored answer goes to this source at this moment
pub record Says (id now : ℕ) (source : SocketAddrV4) (firsts : List Arrival) (sent : List Sent) : Type 0 where
  pub text : List ℕ
  pub stored : OneOf (IsStoredAs id text) firsts
  pub goes : OneOf (λ (one : Sent). datagram_of one ≡ message_to source now text) sent

abbrev pub Answers : ℕ → ℕ → SocketAddrV4 → List Arrival → List Sent → Type 0
Answers id now source firsts sent = IsConfirmedAmong id firsts ⊎ Says id now source firsts sent

-- More behind and before

confirmed_on : (id : ℕ) (firsts newer : List Arrival) → IsConfirmedAmong id firsts → IsConfirmedAmong id (firsts ++ newer)
confirmed_on id firsts newer c = record {
  before = c.before;
  one = c.one;
  later = c.later ++ newer;
  order = ap (λ (x : List Arrival). x ++ newer) c.order ∙ append_assoc c.before (c.one ∷ c.later) newer;
  same = c.same;
  named = any_from_one (λ (next : Arrival). IsNamed id next.confirms) (c.later ++ newer)
      (one_before (λ (next : Arrival). IsNamed id next.confirms) c.later newer (one_from_any (λ (next : Arrival). IsNamed id next.confirms) c.later c.named));
}

answers_on : (id now : ℕ) (source : SocketAddrV4) (firsts newer : List Arrival) (sent more : List Sent) → Answers id now source firsts sent
    → Answers id now source (firsts ++ newer) (sent ++ more)
answers_on id now source firsts newer sent more (inl c) = inl (confirmed_on id firsts newer c)
answers_on id now source firsts newer sent more (inr s) = inr (record {
  text = s.text;
  stored = one_before (IsStoredAs id s.text) firsts newer s.stored;
  goes = one_before (λ (one : Sent). datagram_of one ≡ message_to source now s.text) sent more s.goes;
})

answers_behind : (id now : ℕ) (source : SocketAddrV4) (firsts : List Arrival) (first sent : List Sent) → Answers id now source firsts sent
    → Answers id now source firsts (first ++ sent)
answers_behind id now source firsts first sent (inl c) = inl c
answers_behind id now source firsts first sent (inr s) = inr (record {
  text = s.text;
  stored = s.stored;
  goes = one_behind (λ (one : Sent). datagram_of one ≡ message_to source now s.text) first sent s.goes;
})

-- with more firsts there is less room
young_more : (now : ℕ) (xs ys : List Arrival) → length (young_of now xs) ≤ length (young_of now (xs ++ ys))
young_more now [] ys = omega arith
young_more now (x ∷ xs) ys = by_test (is_young now x.moment) (young_more now xs ys) where
  by_test : (b : Bool) → length (young_of now xs) ≤ length (young_of now (xs ++ ys))
      → length (if b then x ∷ young_of now xs else young_of now xs) ≤ length (if b then x ∷ young_of now (xs ++ ys) else young_of now (xs ++ ys))
  by_test true less = omega (arith, less)
  by_test false less = less

room_before : (now : ℕ) (earlier more : List Arrival) → HasRoom now (firsts_of most_firsts (earlier ++ more)) → HasRoom now (firsts_of most_firsts earlier)
room_before now earlier more room =
    let grow = firsts_grow most_firsts earlier more in
    let all : length (young_of now (firsts_of most_firsts earlier ++ grow.0)) < most_firsts =
    subst (λ (firsts : List Arrival). length (young_of now firsts) < most_firsts) grow.1 room in
    let less = young_more now (firsts_of most_firsts earlier) grow.0 in
    omega (arith, all, less)

-- One command, by what it is of all that arrived

first_says : (m : Machine) (source : SocketAddrV4) (t : Transaction) (firsts : List Arrival)
    → Answers t.id m.now source (firsts ++ command_arrival m t ∷ []) (executed m source t).sent
unfolding executed
first_says m source t firsts = inr (record {
  text = answer_text t;
  stored = one_behind (IsStoredAs t.id (answer_text t)) firsts (command_arrival m t ∷ []) (inl (refl, refl));
  goes = inl refl;
})

repeat_says : (m : Machine) (source : SocketAddrV4) (t : Transaction) (firsts : List Arrival) (copied : Copied) → IsLatestCopy firsts (command_arrival m t) copied
    → (b : Bool) → is_confirmed t.id copied.after ≡ b
    → Answers t.id m.now source firsts (if b then [] else reply m source t.line (again t.id copied.original.answer) ∷ [])
repeat_says m source t firsts copied l true named =
    inl (record { before = l.before; one = copied.original; later = copied.after; order = l.stands; same = l.copy.0; named = confirmed_is t.id copied.after named })
repeat_says m source t firsts copied l false unnamed = inr (record {
  text = copied.original.answer;
  stored = subst (OneOf (IsStoredAs t.id copied.original.answer)) (sym l.stands)
      (one_behind (IsStoredAs t.id copied.original.answer) l.before (copied.original ∷ copied.after) (inl (l.copy.0, refl)));
  goes = inl refl;
})

command_answers : (m : Machine) (source : SocketAddrV4) (t : Transaction) (earlier : List Arrival) → Keeps m earlier → HasRoom m.now (firsts_of most_firsts earlier)
    → Answers t.id m.now source (firsts_of most_firsts (earlier ++ command_arrival m t ∷ [])) (transacted m source t).sent
command_answers m source t earlier keeps room = by_kind (kind_of most_firsts firsts a) refl where
  a : Arrival
  a = command_arrival m t

  firsts : List Arrival
  firsts = firsts_of most_firsts earlier

  joined : (kind : Kind) → kind_of most_firsts firsts a ≡ kind → (done : Effect Machine) → transacted m source t ≡ done → Answers t.id m.now source (added kind firsts a) done.sent
      → Answers t.id m.now source (firsts_of most_firsts (earlier ++ a ∷ [])) (transacted m source t).sent
  joined kind is done does answers =
      subst (λ (e : Effect Machine). Answers t.id m.now source (firsts_of most_firsts (earlier ++ a ∷ [])) e.sent) (sym does)
      (subst (λ (f : List Arrival). Answers t.id m.now source f done.sent) (sym (one_more earlier a ∙ ap (λ (k : Kind). added k firsts a) is)) answers)

  by_kind : (kind : Kind) → kind_of most_firsts firsts a ≡ kind → Answers t.id m.now source (firsts_of most_firsts (earlier ++ a ∷ [])) (transacted m source t).sent
  by_kind a_first is = joined a_first is (executed m source t) (a_first_is_executed m source t earlier keeps is) (first_says m source t firsts)
  by_kind (a_repeat copied) is =
      joined (a_repeat copied) is _ (a_repeat_is_answered_again m source t earlier copied keeps is)
      (repeat_says m source t firsts copied ((kind_repeat most_firsts firsts a copied).0 is) (is_confirmed t.id copied.after) refl)
  by_kind lost is =
      absurd (
      let full : most_firsts ≤ length (young_of m.now firsts) = ((kind_lost most_firsts firsts a).0 is).1 in
      let some : length (young_of m.now firsts) < most_firsts = room in
      omega (arith, full, some))

-- A text that is a command

record IsFound (setup : Setup) (m : Machine) (id : ℕ) (outcome : Outcome) : Type 0 where
  t : Transaction
  reads : transaction_of setup m outcome ≡ Some t
  same : t.id ≡ id

found_as : (setup : Setup) (m : Machine) (id : ℕ) (name : List ℕ) (outcome : Outcome) → is_command_as id name outcome ≡ true → IsFound setup m id outcome
found_as setup m id name no_header is = absurd cc
found_as setup m id name (bad_version other) is = absurd cc
found_as setup m id name (bad_body other) is = absurd cc
found_as setup m id name (message (messages.Response code other params body)) is = absurd cc
found_as setup m id name (message (messages.Command verb other of params body)) is = record {
  t = command_with setup m other (record { verb = verb; name = of; params = params; body = body }) (k_of params);
  reads = refl;
  same = (Decides-eqb other id).0 (and_parts (other == id) (bytes_eq of name) is).0;
}

text_answers : (setup : Setup) (m : Machine) (source : SocketAddrV4) (earlier : List Arrival) (id : ℕ) (name : List ℕ) (outcome : Outcome) → Keeps m earlier
    → is_command_as id name outcome ≡ true → HasRoom m.now (firsts_of most_firsts earlier)
    → Answers id m.now source (firsts_of most_firsts (earlier ++ arriving m (transaction_of setup m outcome))) (handled setup m source outcome).sent
unfolding handled
text_answers setup m source earlier id name outcome keeps reads room =
    let f = found_as setup m id name outcome reads in
    subst (λ (found : Option Transaction). Answers id m.now source (firsts_of most_firsts (earlier ++ arriving m found)) (handled_as found setup m source outcome).sent) (sym f.reads)
    (subst (λ (i : ℕ). Answers i m.now source (firsts_of most_firsts (earlier ++ command_arrival m f.t ∷ [])) (transacted m source f.t).sent) f.same
    (command_answers m source f.t earlier keeps room))

pub first_kept : (setup : Setup) (m : Machine) (source : SocketAddrV4) (outcome : Outcome) (earlier : List Arrival) → Keeps m earlier
    → Keeps (handled setup m source outcome).value (earlier ++ arriving m (transaction_of setup m outcome))
unfolding handled
first_kept setup m source outcome earlier keeps = arrived_on (transaction_of setup m outcome) setup m source outcome earlier keeps

-- The texts of a datagram

abbrev pub AnswersIn : ℕ → SocketAddrV4 → ℕ → List Arrival → List Sent → Type 0
AnswersIn id source now arrived sent = HasRoom now (firsts_of most_firsts arrived) → Answers id now source (firsts_of most_firsts arrived) sent

pub texts_answer : (setup : Setup) (m : Machine) (source : SocketAddrV4) (texts : List (List ℕ)) (earlier : List Arrival) (id : ℕ) (name text : List ℕ) → Keeps m earlier
    → is_command_as id name (read_text text) ≡ true → OneOf (λ (one : List ℕ). one ≡ text) texts
    → AnswersIn id source m.now (earlier ++ commands_in setup m source texts) (took_all setup m source texts).sent
unfolding took_all commands_in
texts_answer setup m source [] earlier id name text keeps reads one = absurd one
texts_answer setup m source (first ∷ texts) earlier id name text keeps reads (inl is) = λ room.
    let here = arriving m (transaction_of setup m (read_text first)) in
    let next = (handled setup m source (read_text first)).value in
    let rest = commands_in setup next source texts in
    let grow = firsts_grow most_firsts (earlier ++ here) rest in
    let first_reads : is_command_as id name (read_text first) ≡ true = ap (λ (x : List ℕ). is_command_as id name (read_text x)) is ∙ reads in
    let answered = text_answers setup m source earlier id name (read_text first) keeps first_reads (room_before m.now earlier (here ++ rest) room) in
    subst (λ (f : List Arrival). Answers id m.now source f ((handled setup m source (read_text first)).sent ++ (took_all setup next source texts).sent))
    (sym grow.1 ∙ ap (firsts_of most_firsts) (append_assoc earlier here rest))
    (answers_on id m.now source (firsts_of most_firsts (earlier ++ here)) grow.0 (handled setup m source (read_text first)).sent (took_all setup next source texts).sent answered)
texts_answer setup m source (first ∷ texts) earlier id name text keeps reads (inr one) =
    let here = arriving m (transaction_of setup m (read_text first)) in
    let next = (handled setup m source (read_text first)).value in
    let rest = commands_in setup next source texts in
    let others = (took_all setup next source texts).sent in
    let on : AnswersIn id source next.now ((earlier ++ here) ++ rest) others =
    texts_answer setup next source texts (earlier ++ here) id name text (first_kept setup m source (read_text first) earlier keeps) reads one in
    let then' : AnswersIn id source m.now (earlier ++ (here ++ rest)) others =
    subst (λ (arrived : List Arrival). AnswersIn id source m.now arrived others) (append_assoc earlier here rest)
    (subst (λ (now : ℕ). AnswersIn id source now ((earlier ++ here) ++ rest) others) (handled_now setup m source (read_text first)) on) in
    λ room. answers_behind id m.now source (firsts_of most_firsts (earlier ++ (here ++ rest))) (handled setup m source (read_text first)).sent others (then' room)

-- What a datagram adds to the firsts is answered at once, whatever a K in it confirms (RFC 3435, 3.5.1).

-- a command with this id is one of these firsts
abbrev pub HasFirst : ℕ → List Arrival → Type 0
HasFirst id firsts = OneOf (λ (first : Arrival). first.id ≡ id) firsts

-- so is one that was answered, and one that was confirmed

pub stored_has : (id : ℕ) (text : List ℕ) (firsts : List Arrival) → IsStored id text firsts → HasFirst id firsts
stored_has id text firsts stored =
    one_weaker (IsStoredAs id text) (λ (first : Arrival). first.id ≡ id) (λ first both. both.0) firsts (one_from_any (IsStoredAs id text) firsts stored)

pub confirmed_has : (id : ℕ) (firsts : List Arrival) → IsConfirmedAmong id firsts → HasFirst id firsts
confirmed_has id firsts c = subst (HasFirst id) (sym c.order) (one_behind (λ (first : Arrival). first.id ≡ id) c.before (c.one ∷ c.later) (inl c.same))

-- its answer goes to this source at this moment
abbrev pub IsSaid : SocketAddrV4 → ℕ → List Sent → Arrival → Type 0
IsSaid source now sent first = OneOf (λ (one : Sent). datagram_of one ≡ message_to source now first.answer) sent

-- what comes behind these firsts is said
pub record Adds (source : SocketAddrV4) (now : ℕ) (firsts all : List Arrival) (sent : List Sent) : Type 0 where
  pub newer : List Arrival
  pub grown : all ≡ firsts ++ newer
  pub said : Each (IsSaid source now sent) newer

nothing_added : (source : SocketAddrV4) (now : ℕ) (earlier : List Arrival) (sent : List Sent)
    → Adds source now (firsts_of most_firsts earlier) (firsts_of most_firsts (earlier ++ [])) sent
nothing_added source now earlier sent =
    record { newer = []; grown = ap (firsts_of most_firsts) (append-nil earlier) ∙ sym (append-nil (firsts_of most_firsts earlier)); said = tt }

-- and more behind that
adds_through : (source : SocketAddrV4) (now : ℕ) (firsts next all : List Arrival) (sent more : List Sent) → Adds source now firsts next sent → Adds source now next all more
    → Adds source now firsts all (sent ++ more)
adds_through source now firsts next all sent more one two = record {
  newer = one.newer ++ two.newer;
  grown = two.grown ∙ ap (λ (x : List Arrival). x ++ two.newer) one.grown ∙ append_assoc firsts one.newer two.newer;
  said = each_both (IsSaid source now (sent ++ more)) one.newer two.newer
      (each_weaker (IsSaid source now sent) (IsSaid source now (sent ++ more))
      (λ first is. one_before (λ (s : Sent). datagram_of s ≡ message_to source now first.answer) sent more is) one.newer one.said)
      (each_weaker (IsSaid source now more) (IsSaid source now (sent ++ more))
      (λ first is. one_behind (λ (s : Sent). datagram_of s ≡ message_to source now first.answer) sent more is) two.newer two.said);
}

-- One command, by what it is of all that arrived

first_said : (m : Machine) (source : SocketAddrV4) (t : Transaction) → IsSaid source m.now (executed m source t).sent (command_arrival m t)
unfolding executed
first_said m source t = inl refl

command_adds : (m : Machine) (source : SocketAddrV4) (t : Transaction) (earlier : List Arrival) → Keeps m earlier
    → Adds source m.now (firsts_of most_firsts earlier) (firsts_of most_firsts (earlier ++ command_arrival m t ∷ [])) (transacted m source t).sent
command_adds m source t earlier keeps = by_kind (kind_of most_firsts firsts a) refl where
  a : Arrival
  a = command_arrival m t

  firsts : List Arrival
  firsts = firsts_of most_firsts earlier

  grows : (kind : Kind) → kind_of most_firsts firsts a ≡ kind → firsts_of most_firsts (earlier ++ a ∷ []) ≡ added kind firsts a
  grows kind is = one_more earlier a ∙ ap (λ (k : Kind). added k firsts a) is

  by_kind : (kind : Kind) → kind_of most_firsts firsts a ≡ kind → Adds source m.now firsts (firsts_of most_firsts (earlier ++ a ∷ [])) (transacted m source t).sent
  by_kind a_first is = record {
    newer = a ∷ [];
    grown = grows a_first is;
    said = (subst (λ (done : Effect Machine). IsSaid source m.now done.sent a) (sym (a_first_is_executed m source t earlier keeps is)) (first_said m source t), tt);
  }
  by_kind (a_repeat copied) is = record { newer = []; grown = grows (a_repeat copied) is ∙ sym (append-nil firsts); said = tt }
  by_kind lost is = record { newer = []; grown = grows lost is ∙ sym (append-nil firsts); said = tt }

-- The texts of a datagram

found_adds : (found : Option Transaction) (setup : Setup) (m : Machine) (source : SocketAddrV4) (outcome : Outcome) (earlier : List Arrival) → Keeps m earlier
    → Adds source m.now (firsts_of most_firsts earlier) (firsts_of most_firsts (earlier ++ arriving m found)) (handled_as found setup m source outcome).sent
found_adds None setup m source outcome earlier keeps = nothing_added source m.now earlier (handled_as None setup m source outcome).sent
found_adds (Some t) setup m source outcome earlier keeps = command_adds m source t earlier keeps

text_adds : (setup : Setup) (m : Machine) (source : SocketAddrV4) (outcome : Outcome) (earlier : List Arrival) → Keeps m earlier
    → Adds source m.now (firsts_of most_firsts earlier) (firsts_of most_firsts (earlier ++ arriving m (transaction_of setup m outcome))) (handled setup m source outcome).sent
unfolding handled
text_adds setup m source outcome earlier keeps = found_adds (transaction_of setup m outcome) setup m source outcome earlier keeps

pub texts_add : (setup : Setup) (m : Machine) (source : SocketAddrV4) (texts : List (List ℕ)) (earlier : List Arrival) → Keeps m earlier
    → Adds source m.now (firsts_of most_firsts earlier) (firsts_of most_firsts (earlier ++ commands_in setup m source texts)) (took_all setup m source texts).sent
unfolding took_all commands_in
texts_add setup m source [] earlier keeps = nothing_added source m.now earlier (took_all setup m source []).sent
texts_add setup m source (text ∷ texts) earlier keeps =
    let here = arriving m (transaction_of setup m (read_text text)) in
    let next = (handled setup m source (read_text text)).value in
    let rest = commands_in setup next source texts in
    let first = firsts_of most_firsts earlier in
    let then' = firsts_of most_firsts (earlier ++ here) in
    let last = firsts_of most_firsts ((earlier ++ here) ++ rest) in
    let said = (handled setup m source (read_text text)).sent in
    let others = (took_all setup next source texts).sent in
    let on : Adds source next.now then' last others =
    texts_add setup next source texts (earlier ++ here) (first_kept setup m source (read_text text) earlier keeps) in
    subst (λ (arrived : List Arrival). Adds source m.now first (firsts_of most_firsts arrived) (said ++ others)) (append_assoc earlier here rest)
    (adds_through source m.now first then' last said others (text_adds setup m source (read_text text) earlier keeps)
    (subst (λ (now : ℕ). Adds source now then' last others) (handled_now setup m source (read_text text)) on))

-- So a command that is one of the firsts afterwards was one of them before, or is answered.

said_here : (id now : ℕ) (source : SocketAddrV4) (newer : List Arrival) (sent : List Sent) → Each (IsSaid source now sent) newer → HasFirst id newer → Says id now source newer sent
said_here id now source [] sent said has = absurd has
said_here id now source (first ∷ newer) sent said (inl is) = record { text = first.answer; stored = inl (is, refl); goes = said.0 }
said_here id now source (first ∷ newer) sent said (inr has) =
    let s = said_here id now source newer sent said.1 has in
    record { text = s.text; stored = inr s.stored; goes = s.goes }

pub had_or_said : (id now : ℕ) (source : SocketAddrV4) (firsts all : List Arrival) (sent : List Sent) → Adds source now firsts all sent → HasFirst id all
    → HasFirst id firsts ⊎ Says id now source all sent
had_or_said id now source firsts all sent adds has = by_part (one_parted (λ (first : Arrival). first.id ≡ id) firsts adds.newer (subst (HasFirst id) adds.grown has)) where
  by_part : HasFirst id firsts ⊎ HasFirst id adds.newer → HasFirst id firsts ⊎ Says id now source all sent
  by_part (inl had) = inl had
  by_part (inr new) =
      let s = said_here id now source adds.newer sent adds.said new in
      inr (record {
        text = s.text;
        stored = subst (OneOf (IsStoredAs id s.text)) (sym adds.grown) (one_behind (IsStoredAs id s.text) firsts adds.newer s.stored);
        goes = s.goes;
      })
