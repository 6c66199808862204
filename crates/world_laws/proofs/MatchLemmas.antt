-- Two lists of ids: the one is the other, or has one more at its end.
use Rattle.std.proofs.Common.{◌≡◌, ◌≢◌, ℕ, zero, suc, ◌<◌, Bool, true, false, if◌then◌else◌, List, [], ◌∷◌, ◌++◌, map, length, inl, inr, refl, sym, ap, ◌∙◌, subst, append-nil, arith, ◌≤◌, ◌==◌, Option, Some, None, append_assoc}
use Rattle.std.specs.Prelude.{◌⊎◌, AllPairs, filter, flat_map, find, nat_lt, option_map}
use Rattle.std.specs.List.{slice_index_or, list_any}
use Rattle.machine_laws.specs.Saying.{OneOf}
use Rattle.machine_laws.proofs.EachLemmas.{Each, each_front, each_back, each_weaker, one_before, one_behind}
use Rattle.std.specs.Str.{bytes_eq}
use Rattle.std.proofs.lemmas.Bool.{and_parts, ltb-false}
use Rattle.std.proofs.lemmas.Bool.Decides.{Decides-eqb}
use Rattle.std.proofs.lemmas.List.Folds.{Any-from_list_any}
use Rattle.std.specs.declared.net.socket_addr.SocketAddrV4.{SocketAddrV4}
use Rattle.mgcp_text.specs.declared.message.Param.{Param}
use Rattle.mgcp_text.specs.declared.message.Message.TheVariants as messages
use Rattle.mgcp_text.specs.Confirmation.{k_of}
use Rattle.mgcp_text.specs.Reading.{Outcome, message, no_header, bad_version, bad_body, read_text}
use Rattle.transmission.specs.declared.entry.Entry.{Entry}
use Rattle.transmission.specs.declared.entry.Entry.TheVariants.{Confirmation}
use Rattle.transmission.specs.Memory.{most_firsts}
use Rattle.transmission.specs.Kept.{first_entry, firsts_in, young_firsts}
use Rattle.transmission.specs.Looking.{Found, Looked, confirmed, confirms, full, latest, look_of, new, recalled_from, repeat, told_by}
use Rattle.transmission.proofs.CountLaws.{firsts_in-append}
use Rattle.retransmission.specs.declared.reply.Reply.{Reply}
use Rattle.retransmission.specs.declared.reply.Reply.TheVariants.{Answered, Provisional, Stranger}
use Rattle.retransmission.specs.Flight.{InFlight, reply_of, heard}
use Rattle.transmission.specs.declared.output.OutDatagram.{OutDatagram}
use Rattle.transmission.specs.Confirming.{spans_of}
use Rattle.transmission.specs.Transacting.{message_to}
use Rattle.retransmission.specs.Issued.{is_command_as}
use Rattle.machine_laws.proofs.GatewayEvents.{IsAnsweredBy}
use Rattle.call_agent.specs.declared.setup.AgentSetup.{AgentSetup}
use Rattle.call_agent.specs.Agent.{AgentMachine}
use Rattle.call_agent.specs.Flying.{has_id}
use Rattle.call_agent.specs.Responding.{replied, responded, responded_to}
use Rattle.call_agent.specs.Taking.{GatewayCommand, answer_to, code_for, command_of, executed, taken_of, transacted_by, faulty_command, read_command}
use Rattle.call_agent.specs.Hearing.{handled, handled_as, took_all}
use Rattle.world_laws.specs.Taking.{IsConfirmedIn}
use Rattle.world_laws.proofs.LookLemmas.{Stands, confirmed_more, latest_stands, stands_kept, young_more, each_two}

-- Ids of which no two are equal

abbrev pub Apart : List ℕ → Type 0
Apart [] = Unit {0}
Apart (id ∷ ids) = Each (λ (other : ℕ). id ≢ other) ids × Apart ids

-- it is one of these
abbrev pub In : ℕ → List ℕ → Type 0
In id ids = OneOf (λ (other : ℕ). other ≡ id) ids

pub apart_front : (some more : List ℕ) → Apart (some ++ more) → Apart some
apart_front [] more apart = tt
apart_front (id ∷ some) more apart = (each_front (λ (other : ℕ). id ≢ other) some more apart.0, apart_front some more apart.1)

apart_back : (some more : List ℕ) → Apart (some ++ more) → Apart more
apart_back [] more apart = apart
apart_back (id ∷ some) more apart = apart_back some more apart.1

not_in : (id : ℕ) (ids : List ℕ) → Each (λ (other : ℕ). id ≢ other) ids → In id ids → ⊥
not_in id [] each one = one
not_in id (other ∷ ids) each (inl same) = each.0 (sym same)
not_in id (other ∷ ids) each (inr one) = not_in id ids each.1 one

-- one of the first of them isn't one of the others
pub apart_clash : (some more : List ℕ) (id : ℕ) → Apart (some ++ more) → In id some → In id more → ⊥
apart_clash [] more id apart here there = here
apart_clash (first ∷ some) more id apart (inl same) there =
    not_in first more (each_back (λ (other : ℕ). first ≢ other) some more apart.0) (subst (λ (i : ℕ). In i more) (sym same) there)
apart_clash (first ∷ some) more id apart (inr here) there = apart_clash some more id apart.1 here there

module _ {X : Type 0} (f : X → ℕ) where
  heads_apart : (id : ℕ) (xs : List X) → ((j : ℕ) (d : X) → j < length xs → id ≢ f (slice_index_or xs j d)) → Each (λ (other : ℕ). id ≢ other) (map f xs)
  heads_apart id [] apart = tt
  heads_apart id (x ∷ xs) apart = (apart zero x (omega arith), heads_apart id xs (λ j d less. apart (suc j) d (omega (arith, less))))

  pub apart_from : (xs : List X) → AllPairs (λ (a b : X). f a ≢ f b) xs → Apart (map f xs)
  apart_from [] pairs = tt
  apart_from (x ∷ xs) pairs = (
    heads_apart (f x) xs (λ j d less. pairs zero (suc j) d (omega arith) (omega (arith, less))),
    apart_from xs (λ i j d less within. pairs (suc i) (suc j) d (omega (arith, less)) (omega (arith, within))),
  )

  far_filtered : (id : ℕ) (p : X → Bool) (xs : List X) → Each (λ (other : ℕ). id ≢ other) (map f xs) → Each (λ (other : ℕ). id ≢ other) (map f (filter p xs))
  far_filtered id p [] each = tt
  far_filtered id p (x ∷ xs) each = by_test (p x) (far_filtered id p xs each.1) where
    by_test : (b : Bool) → Each (λ (other : ℕ). id ≢ other) (map f (filter p xs)) → Each (λ (other : ℕ). id ≢ other) (map f (if b then x ∷ filter p xs else filter p xs))
    by_test true rest = (each.0, rest)
    by_test false rest = rest

  pub apart_filtered : (p : X → Bool) (xs : List X) → Apart (map f xs) → Apart (map f (filter p xs))
  apart_filtered p [] apart = tt
  apart_filtered p (x ∷ xs) apart = by_test (p x) (apart_filtered p xs apart.1) where
    by_test : (b : Bool) → Apart (map f (filter p xs)) → Apart (map f (if b then x ∷ filter p xs else filter p xs))
    by_test true rest = (far_filtered (f x) p xs apart.0, rest)
    by_test false rest = rest

  -- by its id
  pub in_mapped : (id : ℕ) (xs : List X) → OneOf (λ (x : X). f x ≡ id) xs → In id (map f xs)
  in_mapped id [] one = one
  in_mapped id (x ∷ xs) (inl same) = inl same
  in_mapped id (x ∷ xs) (inr one) = inr (in_mapped id xs one)

  pub one_with : (id : ℕ) (xs : List X) → In id (map f xs) → OneOf (λ (x : X). f x ≡ id) xs
  one_with id [] one = one
  one_with id (x ∷ xs) (inl same) = inl same
  one_with id (x ∷ xs) (inr one) = inr (one_with id xs one)

  pub each_in : (xs : List X) → Each (λ (x : X). In (f x) (map f xs)) xs
  each_in [] = tt
  each_in (x ∷ xs) = (inl refl, each_weaker (λ (y : X). In (f y) (map f xs)) (λ (y : X). In (f y) (f x ∷ map f xs)) (λ y one. inr one) xs (each_in xs))

  -- the last of them
  pub record Last (xs : List X) (ids : List ℕ) (id : ℕ) : Type 0 where
    pub front : List X
    pub last : X
    pub is : xs ≡ front ++ last ∷ []
    pub ids_are : map f front ≡ ids
    pub id_is : f last ≡ id

  pub last_of : (xs : List X) (ids : List ℕ) (id : ℕ) → map f xs ≡ ids ++ id ∷ [] → Last xs ids id
  last_of [] [] id is = absurd cc
  last_of [] (other ∷ ids) id is = absurd cc
  last_of (x ∷ []) [] id is = record { front = []; last = x; is = refl; ids_are = refl; id_is = (let same : f x ≡ id = cc in same) }
  last_of (x ∷ y ∷ xs) [] id is = absurd cc
  last_of (x ∷ xs) (other ∷ ids) id is =
      let rest = last_of xs ids id (let same : map f xs ≡ ids ++ id ∷ [] = cc in same) in
      record {
        front = x ∷ rest.front;
        last = rest.last;
        is = ap (λ (l : List X). x ∷ l) rest.is;
        ids_are = ap (λ (l : List ℕ). f x ∷ l) rest.ids_are ∙ (let same : f x ≡ other = cc in ap (λ (i : ℕ). i ∷ ids) same);
        id_is = rest.id_is;
      }

-- lists that end alike
pub ends_same : {X : Type 0} (xs ys : List X) (x y : X) → xs ++ x ∷ [] ≡ ys ++ y ∷ [] → (xs ≡ ys) × (x ≡ y)
ends_same [] [] x y is = (refl, (let same : x ≡ y = cc in same))
ends_same [] (z ∷ []) x y is = absurd cc
ends_same [] (z ∷ w ∷ ys) x y is = absurd cc
ends_same (z ∷ []) [] x y is = absurd cc
ends_same (z ∷ w ∷ xs) [] x y is = absurd cc
ends_same (z ∷ xs) (w ∷ ys) x y is =
    let rest = ends_same xs ys x y (let tail : xs ++ x ∷ [] ≡ ys ++ y ∷ [] = cc in tail) in
    let head : z ≡ w = cc in
    (ap (λ (l : List _). z ∷ l) rest.0 ∙ ap (λ (v : _). v ∷ ys) head, rest.1)

pub last_in : (ids : List ℕ) (id : ℕ) → In id (ids ++ id ∷ [])
last_in [] id = inl refl
last_in (other ∷ ids) id = inr (last_in ids id)

in_either : (id last : ℕ) (ids : List ℕ) → In id (ids ++ last ∷ []) → In id ids ⊎ (last ≡ id)
in_either id last [] (inl same) = inr same
in_either id last [] (inr none) = absurd none
in_either id last (other ∷ ids) (inl same) = inl (inl same)
in_either id last (other ∷ ids) (inr one) = by_rest (in_either id last ids one) where
  by_rest : In id ids ⊎ (last ≡ id) → In id (other ∷ ids) ⊎ (last ≡ id)
  by_rest (inl one) = inl (inr one)
  by_rest (inr same) = inr same

pub in_of_each : (P : ℕ → Type 0) (id : ℕ) (ids : List ℕ) → Each P ids → In id ids → P id
in_of_each P id [] each one = absurd one
in_of_each P id (other ∷ ids) each (inl same) = subst P same each.0
in_of_each P id (other ∷ ids) each (inr one) = in_of_each P id ids each.1 one

-- What began, and what was taken

-- one more began than was taken
pub record OneMore (begun taken : List ℕ) : Type 0 where
  pub last : ℕ
  pub is : begun ≡ taken ++ last ∷ []

abbrev pub Matches : List ℕ → List ℕ → Type 0
Matches begun taken = (begun ≡ taken) ⊎ OneMore begun taken

-- more is taken of what began
pub taken_matches : (begun taken more : List ℕ) → Matches begun taken → Apart (taken ++ more) → Each (λ (id : ℕ). In id begun) more → Matches begun (taken ++ more)
taken_matches begun taken [] (inl same) apart each = inl (same ∙ sym (append-nil taken))
taken_matches begun taken [] (inr one) apart each = inr (record { last = one.last; is = one.is ∙ ap (λ (x : List ℕ). x ++ one.last ∷ []) (sym (append-nil taken)) })
taken_matches begun taken (id ∷ more) (inl same) apart each = absurd (apart_clash taken (id ∷ more) id apart (subst (In id) same each.0) (inl refl))
taken_matches begun taken (id ∷ []) (inr one) apart each = by_place (in_either id one.last taken (subst (In id) one.is each.0)) where
  by_place : In id taken ⊎ (one.last ≡ id) → Matches begun (taken ++ id ∷ [])
  by_place (inl before) = absurd (apart_clash taken (id ∷ []) id apart before (inl refl))
  by_place (inr same) = inl (one.is ∙ ap (λ (i : ℕ). taken ++ i ∷ []) same)
taken_matches begun taken (id ∷ next ∷ more) (inr one) apart each =
    by_place (in_either id one.last taken (subst (In id) one.is each.0)) (in_either next one.last taken (subst (In next) one.is each.1.0)) where
      by_place : In id taken ⊎ (one.last ≡ id) → In next taken ⊎ (one.last ≡ next) → Matches begun (taken ++ id ∷ next ∷ more)
      by_place (inl before) other = absurd (apart_clash taken (id ∷ next ∷ more) id apart before (inl refl))
      by_place (inr same) (inl before) = absurd (apart_clash taken (id ∷ next ∷ more) next apart before (inr (inl refl)))
      by_place (inr same) (inr also) = absurd ((apart_back taken (id ∷ next ∷ more) apart).0.0 (sym same ∙ also))

-- what stands before the last of a list stands before its end
before_last : (some : List ℕ) (id next : ℕ) (more settled : List ℕ) (last : ℕ) → some ++ id ∷ next ∷ more ≡ settled ++ last ∷ [] → In id settled
before_last [] id next more [] last is = absurd cc
before_last [] id next more (first ∷ settled) last is = inl (let same : first ≡ id = cc in same)
before_last (other ∷ []) id next more [] last is = absurd cc
before_last (other ∷ another ∷ some) id next more [] last is = absurd cc
before_last (other ∷ some) id next more (first ∷ settled) last is =
    inr (before_last some id next more settled last (let tail : some ++ id ∷ next ∷ more ≡ settled ++ last ∷ [] = cc in tail))

in_middle : (some : List ℕ) (id : ℕ) (more : List ℕ) → In id (some ++ id ∷ more)
in_middle [] id more = inl refl
in_middle (other ∷ some) id more = inr (in_middle some id more)

-- something begins, where all that began was taken but for what is in flight
pub begun_free : (begun more taken settled : List ℕ) → Matches begun taken → Apart (begun ++ more) → Each (λ (id : ℕ). In id begun) taken
    → begun ++ more ≡ settled → Each (λ (id : ℕ). In id taken) settled → Matches (begun ++ more) taken
begun_free begun [] taken settled matches apart each is answered = subst (λ (x : List ℕ). Matches x taken) (sym (append-nil begun)) matches
begun_free begun (id ∷ more) taken settled matches apart each is answered =
    absurd (apart_clash begun (id ∷ more) id apart
    (in_of_each (λ (i : ℕ). In i begun) id taken each (in_of_each (λ (i : ℕ). In i taken) id settled answered (subst (In id) is (in_middle begun id more)))) (inl refl))

pub begun_one : (begun more taken settled : List ℕ) (last : ℕ) → Matches begun taken → Apart (begun ++ more) → Each (λ (id : ℕ). In id begun) taken
    → begun ++ more ≡ settled ++ last ∷ [] → Each (λ (id : ℕ). In id taken) settled → Matches (begun ++ more) taken
begun_one begun [] taken settled last matches apart each is answered = subst (λ (x : List ℕ). Matches x taken) (sym (append-nil begun)) matches
begun_one begun (id ∷ next ∷ more) taken settled last matches apart each is answered =
    absurd (apart_clash begun (id ∷ next ∷ more) id apart
    (in_of_each (λ (i : ℕ). In i begun) id taken each (in_of_each (λ (i : ℕ). In i taken) id settled answered (before_last begun id next more settled last is))) (inl refl))
begun_one begun (id ∷ []) taken settled last (inl same) apart each is answered = inr (record { last = id; is = ap (λ (x : List ℕ). x ++ id ∷ []) same })
begun_one begun (id ∷ []) taken settled last (inr one) apart each is answered =
    let both = ends_same begun settled id last is in
    let inside : In one.last taken = in_of_each (λ (i : ℕ). In i taken) one.last settled answered (subst (In one.last) (sym one.is ∙ both.0) (last_in taken one.last)) in
    absurd (apart_clash taken (one.last ∷ []) one.last (subst Apart one.is (apart_front begun (id ∷ []) apart)) inside (inl refl))

-- What they tell

module _ {X Y Z : Type 0} (f : X → ℕ) (g : Y → ℕ) (tells : X → List Z) (told : Y → List Z) where
  abbrev pub TellsAs : Y → X → Type 0
  TellsAs y x = (f x ≡ g y) × (tells x ≡ told y)

  -- of two lists with the same ids each tells what the other tells
  pub tell_same : (xs : List X) (ys : List Y) → map f xs ≡ map g ys → Apart (map f xs) → Each (λ (y : Y). OneOf (TellsAs y) xs) ys → flat_map tells xs ≡ flat_map told ys
  tell_same [] [] same apart each = refl
  tell_same [] (y ∷ ys) same apart each = absurd cc
  tell_same (x ∷ xs) [] same apart each = absurd cc
  tell_same (x ∷ xs) (y ∷ ys) same apart each =
      ap (λ (l : List Z). l ++ flat_map tells xs) (first each.0) ∙ ap (λ (l : List Z). told y ++ l) (tell_same xs ys tail apart.1 (others each.1)) where
        head : f x ≡ g y
        head = cc

        tail : map f xs ≡ map g ys
        tail = cc

        far : (id : ℕ) → In id (map f xs) → f x ≢ id
        far id one e = not_in (f x) (map f xs) apart.0 (subst (λ (i : ℕ). In i (map f xs)) (sym e) one)

        first : OneOf (TellsAs y) (x ∷ xs) → tells x ≡ told y
        first (inl is) = is.1
        first (inr one) = absurd (far (g y) (in_mapped f (g y) xs (weaker xs one)) head) where
          weaker : (zs : List X) → OneOf (TellsAs y) zs → OneOf (λ (z : X). f z ≡ g y) zs
          weaker [] one = one
          weaker (z ∷ zs) (inl is) = inl is.0
          weaker (z ∷ zs) (inr one) = inr (weaker zs one)

        behind : (z : Y) → OneOf (TellsAs z) (x ∷ xs) × In (g z) (map g ys) → OneOf (TellsAs z) xs
        behind z (inl is, inside) = absurd (far (g z) (subst (In (g z)) (sym tail) inside) is.0)
        behind z (inr one, inside) = one

        others : Each (λ (z : Y). OneOf (TellsAs z) (x ∷ xs)) ys → Each (λ (z : Y). OneOf (TellsAs z) xs) ys
        others all =
            each_weaker (λ (z : Y). OneOf (TellsAs z) (x ∷ xs) × In (g z) (map g ys)) (λ (z : Y). OneOf (TellsAs z) xs) behind ys
            (each_two (λ (z : Y). OneOf (TellsAs z) (x ∷ xs)) (λ (z : Y). In (g z) (map g ys)) ys all (each_in g ys))

-- A command that comes to the agent is taken and answered at once, unless it is confirmed or there is no room.

-- the stored answer goes to this source at this moment
pub record Says (id now : ℕ) (source : SocketAddrV4) (history : List Entry) (sent : List OutDatagram) : Type 0 where
  pub text : List ℕ
  pub stored : OneOf (IsAnsweredBy id text) (firsts_in history)
  pub goes : OneOf (λ (out : OutDatagram). out ≡ message_to source now text) sent

abbrev pub Answers : ℕ → ℕ → SocketAddrV4 → List Entry → List OutDatagram → Type 0
Answers id now source history sent = IsConfirmedIn id history ⊎ Says id now source history sent

answers_on : (id now : ℕ) (source : SocketAddrV4) (history more : List Entry) (sent after : List OutDatagram) → Answers id now source history sent
    → Answers id now source (history ++ more) (sent ++ after)
answers_on id now source history more sent after (inl c) = inl (confirmed_more id history more c)
answers_on id now source history more sent after (inr s) = inr (record {
  text = s.text;
  stored = subst (OneOf (IsAnsweredBy id s.text)) (sym (firsts_in-append history more)) (one_before (IsAnsweredBy id s.text) (firsts_in history) (firsts_in more) s.stored);
  goes = one_before (λ (out : OutDatagram). out ≡ message_to source now s.text) sent after s.goes;
})

answers_behind : (id now : ℕ) (source : SocketAddrV4) (history : List Entry) (first sent : List OutDatagram) → Answers id now source history sent
    → Answers id now source history (first ++ sent)
answers_behind id now source history first sent (inl c) = inl c
answers_behind id now source history first sent (inr s) =
    inr (record { text = s.text; stored = s.stored; goes = one_behind (λ (out : OutDatagram). out ≡ message_to source now s.text) first sent s.goes })

-- One command

first_says : (m : AgentMachine) (source : SocketAddrV4) (command : GatewayCommand)
    → Answers command.id m.now source (executed m source command).machine.history (executed m source command).sent
first_says m source command =
    let one : Entry = first_entry command.id m.now (answer_to command) in
    inr (record {
      text = answer_to command;
      stored = subst (OneOf (IsAnsweredBy command.id (answer_to command))) (sym (firsts_in-append (m.history ++ Confirmation command.confirms ∷ []) (one ∷ [])))
          (one_behind (IsAnsweredBy command.id (answer_to command)) (firsts_in (m.history ++ Confirmation command.confirms ∷ [])) (firsts_in (one ∷ [])) (inl (refl, refl)));
      goes = inl refl;
    })

found_says : (m : AgentMachine) (source : SocketAddrV4) (command : GatewayCommand) (found : Found) → Stands command.id m.history found → (b : Bool)
    → list_any (confirms command.id) found.after ≡ b
    → Answers command.id m.now source (transacted_by (if b then confirmed else repeat found.first.answer) m source command).machine.history
    (transacted_by (if b then confirmed else repeat found.first.answer) m source command).sent
found_says m source command found s true named =
    inl (record { before = s.before; first = found.first; later = found.after; order = s.order; same = s.same; named = Any-from_list_any (confirms command.id) found.after named })
found_says m source command found s false unnamed = inr (record {
  text = found.first.answer;
  stored = subst (λ (entries : List Entry). OneOf (IsAnsweredBy command.id found.first.answer) (firsts_in entries)) (sym s.order) (stands_kept command.id s.before found.first found.after s.same);
  goes = inl refl;
})

command_answers : (m : AgentMachine) (source : SocketAddrV4) (command : GatewayCommand) → length (young_firsts m.now m.history) < most_firsts
    → Answers command.id m.now source (transacted_by (look_of most_firsts m.history command.id m.now) m source command).machine.history
    (transacted_by (look_of most_firsts m.history command.id m.now) m source command).sent
unfolding look_of
command_answers m source command room =
    by_found (latest m.history command.id m.now) refl (nat_lt (length (young_firsts m.now m.history)) most_firsts) refl where
      by_found : (found : Option Found) → latest m.history command.id m.now ≡ found → (b : Bool) → nat_lt (length (young_firsts m.now m.history)) most_firsts ≡ b
          → Answers command.id m.now source (transacted_by (told_by (option_map (recalled_from command.id) found) b) m source command).machine.history
          (transacted_by (told_by (option_map (recalled_from command.id) found) b) m source command).sent
      by_found (Some found) at b is =
          found_says m source command found (latest_stands m.history command.id m.now found at) (list_any (confirms command.id) found.after) refl
      by_found None at true is = first_says m source command
      by_found None at false is =
          absurd (let full : most_firsts ≤ length (young_firsts m.now m.history) = ltb-false (length (young_firsts m.now m.history)) most_firsts is in omega (arith, full, room))

-- A text that is a command

record IsFound (setup : AgentSetup) (id : ℕ) (outcome : Outcome) : Type 0 where
  command : GatewayCommand
  reads : command_of setup outcome ≡ Some command
  same : command.id ≡ id

found_as : (setup : AgentSetup) (id : ℕ) (name : List ℕ) (outcome : Outcome) → is_command_as id name outcome ≡ true → IsFound setup id outcome
found_as setup id name no_header is = absurd cc
found_as setup id name (bad_version other) is = absurd cc
found_as setup id name (bad_body other) is = absurd cc
found_as setup id name (message (messages.Response code other params body)) is = absurd cc
found_as setup id name (message (messages.Command verb other of params body)) is = record {
  command = record { id = other; confirms = spans_of (k_of params); code = code_for verb; taken = taken_of setup verb of params };
  reads = refl;
  same = (Decides-eqb other id).0 (and_parts (other == id) (bytes_eq of name) is).0;
}

text_answers : (setup : AgentSetup) (m : AgentMachine) (source : SocketAddrV4) (text : List ℕ) (id : ℕ) (name : List ℕ) → is_command_as id name (read_text text) ≡ true
    → length (young_firsts m.now m.history) < most_firsts → Answers id m.now source (handled setup m source text).machine.history (handled setup m source text).sent
unfolding handled
text_answers setup m source text id name reads room =
    let f = found_as setup id name (read_text text) reads in
    subst (λ (found : Option GatewayCommand). Answers id m.now source (handled_as found (read_text text) m source text).machine.history (handled_as found (read_text text) m source text).sent) (sym f.reads)
    (subst (λ (i : ℕ). Answers i m.now source (transacted_by (look_of most_firsts m.history f.command.id m.now) m source f.command).machine.history
    (transacted_by (look_of most_firsts m.history f.command.id m.now) m source f.command).sent) f.same (command_answers m source f.command room))

-- What a text leaves

-- the clock is the same, and the history grows
record Grows (m next : AgentMachine) : Type 0 where
  now : next.now ≡ m.now
  more : List Entry
  grown : next.history ≡ m.history ++ more

grows_not : (m next : AgentMachine) → next.now ≡ m.now → next.history ≡ m.history → Grows m next
grows_not m next now same = record { now = now; more = []; grown = same ∙ sym (append-nil m.history) }

transacted_grows : (looked : Looked) (m : AgentMachine) (source : SocketAddrV4) (command : GatewayCommand) → Grows m (transacted_by looked m source command).machine
transacted_grows new m source command = record { now = refl; more = _; grown = append_assoc m.history _ _ }
transacted_grows (repeat text) m source command = grows_not m m refl refl
transacted_grows confirmed m source command = grows_not m m refl refl
transacted_grows full m source command = grows_not m m refl refl

replied_grows : (reply : Reply) (m : AgentMachine) (heard : InFlight) (code : ℕ) (text : List ℕ) → Grows m (replied reply m heard code text)
replied_grows Answered m heard code text = grows_not m (replied Answered m heard code text) refl refl
replied_grows Provisional m heard code text = grows_not m (replied Provisional m heard code text) refl refl
replied_grows Stranger m heard code text = grows_not m m refl refl

responded_grows : (m : AgentMachine) (source : SocketAddrV4) (code id : ℕ) (params : List Param) (text : List ℕ) → Grows m (responded m source code id params text).machine
unfolding responded
responded_grows m source code id params text = by_found (find (has_id id) m.flights) where
  by_found : (found : Option InFlight) → Grows m (responded_to found m code id text)
  by_found None = grows_not m m refl refl
  by_found (Some flight) = replied_grows (reply_of flight id code) m (heard flight id code m.now) code text

text_grows : (setup : AgentSetup) (m : AgentMachine) (source : SocketAddrV4) (text : List ℕ) (outcome : Outcome) → Grows m (handled_as (command_of setup outcome) outcome m source text).machine
text_grows setup m source text no_header = grows_not m m refl refl
text_grows setup m source text (bad_version id) = transacted_grows (look_of most_firsts m.history id m.now) m source (faulty_command id 528)
text_grows setup m source text (bad_body id) = transacted_grows (look_of most_firsts m.history id m.now) m source (faulty_command id 510)
text_grows setup m source text (message (messages.Command verb id name params body)) = transacted_grows (look_of most_firsts m.history id m.now) m source (read_command setup verb id name params)
text_grows setup m source text (message (messages.Response code id params body)) = responded_grows m source code id params text

texts_grow : (setup : AgentSetup) (m : AgentMachine) (source : SocketAddrV4) (texts : List (List ℕ)) → Grows m (took_all setup m source texts).machine
unfolding took_all handled
texts_grow setup m source [] = grows_not m m refl refl
texts_grow setup m source (text ∷ texts) =
    let one = text_grows setup m source text (read_text text) in
    let rest = texts_grow setup (handled setup m source text).machine source texts in
    record {
      now = rest.now ∙ one.now;
      more = one.more ++ rest.more;
      grown = rest.grown ∙ ap (λ (x : List Entry). x ++ rest.more) one.grown ∙ append_assoc m.history one.more rest.more;
    }

first_grows : (setup : AgentSetup) (m : AgentMachine) (source : SocketAddrV4) (text : List ℕ) → Grows m (handled setup m source text).machine
unfolding handled
first_grows setup m source text = text_grows setup m source text (read_text text)

-- with what came later there is less room
room_before : (m next : AgentMachine) → Grows m next → length (young_firsts m.now next.history) < most_firsts → length (young_firsts m.now m.history) < most_firsts
room_before m next g room =
    let less = young_more m.now m.history g.more in
    let all : length (young_firsts m.now (m.history ++ g.more)) < most_firsts = subst (λ (h : List Entry). length (young_firsts m.now h) < most_firsts) g.grown room in
    omega (arith, less, all)

-- The texts of a datagram

pub texts_answer : (setup : AgentSetup) (m : AgentMachine) (source : SocketAddrV4) (texts : List (List ℕ)) (id : ℕ) (name text : List ℕ) → is_command_as id name (read_text text) ≡ true
    → OneOf (λ (one : List ℕ). one ≡ text) texts → length (young_firsts m.now (took_all setup m source texts).machine.history) < most_firsts
    → Answers id m.now source (took_all setup m source texts).machine.history (took_all setup m source texts).sent
unfolding took_all
texts_answer setup m source [] id name text reads one room = absurd one
texts_answer setup m source (first ∷ texts) id name text reads (inl is) room =
    let next = (handled setup m source first).machine in
    let rest = texts_grow setup next source texts in
    let one = first_grows setup m source first in
    let first_reads : is_command_as id name (read_text first) ≡ true = ap (λ (x : List ℕ). is_command_as id name (read_text x)) is ∙ reads in
    let low = room_before m next one (subst (λ (t : ℕ). length (young_firsts t next.history) < most_firsts) one.now
    (room_before next (took_all setup next source texts).machine rest (subst (λ (t : ℕ). length (young_firsts t (took_all setup next source texts).machine.history) < most_firsts) (sym one.now) room))) in
    subst (λ (h : List Entry). Answers id m.now source h ((handled setup m source first).sent ++ (took_all setup next source texts).sent)) (sym rest.grown)
    (answers_on id m.now source next.history rest.more (handled setup m source first).sent (took_all setup next source texts).sent (text_answers setup m source first id name first_reads low))
texts_answer setup m source (first ∷ texts) id name text reads (inr one) room =
    let next = (handled setup m source first).machine in
    let now = (first_grows setup m source first).now in
    let last = took_all setup next source texts in
    let later : length (young_firsts next.now last.machine.history) < most_firsts = subst (λ (t : ℕ). length (young_firsts t last.machine.history) < most_firsts) (sym now) room in
    answers_behind id m.now source last.machine.history (handled setup m source first).sent last.sent
    (subst (λ (t : ℕ). Answers id t source last.machine.history last.sent) now (texts_answer setup next source texts id name text reads one later))
