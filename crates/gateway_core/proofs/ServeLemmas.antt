-- Turns of a gateway that is served, one after the other.
use Rattle.std.proofs.Common.{◌≡◌, ℕ, ◌+◌, ◌-◌, ◌<◌, ◌≤◌, ◌^◌, true, false, cond, List, [], ◌∷◌, ◌++◌, length, get_or, take, map, Option, Some, None, refl, sym, ◌∙◌, ap, subst, append_assoc, append-nil, arith}
use Rattle.std.specs.List.{flat_map, sum_by, count_by}
use Rattle.std.proofs.lemmas.Bool.{false≢true}
use Rattle.std.proofs.lemmas.List.{map-append, length-append, take_more}
use Rattle.std.proofs.lemmas.List.Sums.{sum_by_push, count_by-le-length}
use Rattle.std.proofs.lemmas.Grind.{flat_map-append}
use Rattle.transmission.specs.declared.output.OutDatagram.{OutDatagram}
use Rattle.plain_machine.specs.declared.setup.Setup.{Setup}
use Rattle.plain_machine.specs.Event.{GatewayEvent}
use Rattle.machine_rules.specs.Turning.{is_last}
use Rattle.gateway_core.specs.declared.served.Served.{Served}
use Rattle.machine_rules.specs.declared.turning.TurnEnd.{TurnEnd}
use Rattle.machine_rules.specs.declared.turning.TurnEnd.TheVariants as ends
use Rattle.gateway_core.specs.GatewayState.{GatewayState}
use Rattle.gateway_core.specs.Stands.{Took}
use Rattle.gateway_core.specs.Wire.{Grows, counted, WireLog, Carries, end, takes, gives}
use Rattle.gateway_core.specs.Serving.{Turn, took, refused, failed, given_at, taken_at, outputs_at, send_faults_at, is_failed, is_refused, handed_of, taken_in, outputs_in, traffic_in, HasReasons, Serves}
use Rattle.gateway_core.specs.Turning.{handing, traffic_at, Went, Ended, Turned, noted}
use Rattle.gateway_core.proofs.StandLemmas.{took_on, took_none}

-- ---- what a wire tells

pub grows_on : {A : Type 0} (a b c : Option (List A)) (xs ys : List A) → Grows a xs b → Grows b ys c → Grows a (xs ++ ys) c
grows_on None b c xs ys g h = subst (λ o. Grows o ys c) g h
grows_on (Some x) None c xs ys g h = subst (λ o. Grows (Some x) (xs ++ ys) o) (sym h) tt
grows_on (Some x) (Some y) None xs ys g h = tt
grows_on (Some x) (Some y) (Some z) xs ys g h = h ∙ ap (λ l. l ++ ys) g ∙ append_assoc x xs ys

pub grows_nothing : {A : Type 0} (a : Option (List A)) → Grows a [] a
grows_nothing None = refl
grows_nothing (Some x) = sym (append-nil x)

pub counted_on : (n a b : ℕ) → counted (counted n a) b ≡ counted n (a + b)
counted_on n a b = omega arith

flat_push : {A : Type 0} (f : Turn → List A) (turns : List Turn) (turn : Turn) → flat_map f (turns ++ turn ∷ []) ≡ flat_map f turns ++ f turn
flat_push f turns turn = flat_map-append f turns (turn ∷ []) ∙ ap (λ l. flat_map f turns ++ l) (append-nil (f turn))

carries_push : (a b c : WireLog) (turns : List Turn) (turn : Turn) → Carries a (traffic_in turns false) b → Carries b (traffic_at turn) c → Carries a (traffic_in (turns ++ turn ∷ []) false) c
carries_push a b c turns turn g h = record {
  given = rw (append-nil (flat_map given_at (turns ++ turn ∷ [])), flat_push given_at turns turn)
      (grows_on a.given b.given c.given (flat_map given_at turns) (given_at turn) (rw (append-nil (flat_map given_at turns)) at g.given) h.given);
  handed = rw (flat_push outputs_at turns turn, map-append handed_of (outputs_in turns) (outputs_at turn))
      (grows_on a.handed b.handed c.handed (map handed_of (outputs_in turns)) (map handed_of (outputs_at turn)) g.handed h.handed);
  receive_faults = h.receive_faults ∙ ap (λ n. counted n (cond (is_failed turn) 1 0)) g.receive_faults
      ∙ counted_on a.receive_faults (count_by is_failed turns) (cond (is_failed turn) 1 0)
      ∙ ap (λ n. counted a.receive_faults n) (sym (sum_by_push (λ t. cond (is_failed t) 1 0) turns turn));
  send_faults = h.send_faults ∙ ap (λ n. counted n (send_faults_at turn)) g.send_faults
      ∙ counted_on a.send_faults (sum_by send_faults_at turns) (send_faults_at turn)
      ∙ ap (λ n. counted a.send_faults n) (sym (sum_by_push send_faults_at turns turn));
}

-- ---- datagrams that are handed over

pub carries_nothing : (a : WireLog) → Carries a (handing [] 0) a
carries_nothing a = record {
  given = grows_nothing a.given;
  handed = grows_nothing a.handed;
  receive_faults = omega arith;
  send_faults = omega arith;
}

-- one datagram more, which was taken or not
hands_more : (a b c : WireLog) (before : List OutDatagram) (datagram : OutDatagram) (faults more : ℕ) → Carries a (handing before faults) b
    → Carries b (takes datagram.to datagram.bytes more) c → Carries a (handing (before ++ datagram ∷ []) (faults + more)) c
hands_more a b c before datagram faults more g h = record {
  given = grows_on a.given b.given c.given [] [] g.given h.given;
  handed = rw (map-append handed_of before (datagram ∷ []))
      (grows_on a.handed b.handed c.handed (map handed_of before) (handed_of datagram ∷ []) g.handed h.handed);
  receive_faults = h.receive_faults ∙ ap (λ n. counted n 0) g.receive_faults ∙ counted_on a.receive_faults 0 0;
  send_faults = h.send_faults ∙ ap (λ n. counted n more) g.send_faults ∙ counted_on a.send_faults faults more;
}

at_place : (a c : WireLog) (datagrams : List OutDatagram) (place : ℕ) (d : OutDatagram) (faults : ℕ) → place < length datagrams
    → Carries a (handing (take place datagrams ++ get_or datagrams place d ∷ []) faults) c → Carries a (handing (take (place + 1) datagrams) faults) c
at_place a c datagrams place d faults inside g = rw (take_more datagrams place d inside) g

pub hands_one : (a b c : WireLog) (datagrams : List OutDatagram) (place : ℕ) (d : OutDatagram) (faults more : ℕ) → place < length datagrams
    → Carries a (handing (take place datagrams) faults) b → Carries b (takes (get_or datagrams place d).to (get_or datagrams place d).bytes more) c
    → Carries a (handing (take (place + 1) datagrams) (faults + more)) c
hands_one a b c datagrams place d faults more inside g h =
    at_place a c datagrams place d (faults + more) inside (hands_more a b c (take place datagrams) (get_or datagrams place d) faults more g h)

-- ---- what the gateway took

-- outputs that go after others
took_after : (g g' : GatewayState) (events : List GatewayEvent) (were more : List OutDatagram) → Took g events g' [] more → Took g events g' were (were ++ more)
took_after g g' events were more t = record {
  setup = t.setup;
  stands = t.stands;
  sent = λ before s. ap (λ (l : List OutDatagram). were ++ l) (t.sent before s);
}

took_push : (g h k : GatewayState) (turns : List Turn) (turn : Turn) → Took g (taken_in turns) h [] (outputs_in turns) → Took h (taken_at turn) k [] (outputs_at turn)
    → Took g (taken_in (turns ++ turn ∷ [])) k [] (outputs_in (turns ++ turn ∷ []))
took_push g h k turns turn a b = rw (flat_push taken_at turns turn, flat_push outputs_at turns turn)
    (took_on g h k (taken_in turns) (taken_at turn) [] (outputs_in turns) (outputs_in turns ++ outputs_at turn) a (took_after h k (taken_at turn) (outputs_in turns) (outputs_at turn) b))

-- ---- why it refused

reasons_push : (setup : Setup) (before : List GatewayEvent) (turns : List Turn) (turn : Turn) → HasReasons setup before turns → HasReasons setup (before ++ taken_in turns) (turn ∷ [])
    → HasReasons setup before (turns ++ turn ∷ [])
reasons_push setup before [] turn a b = rw (append-nil before) at b
reasons_push setup before (took came outputs faults ∷ turns) turn a b =
    reasons_push setup (before ++ came ∷ []) turns turn a (rw (append_assoc before (came ∷ []) (taken_in turns)) b)
reasons_push setup before (refused came refusal ∷ turns) turn a b = (a.0, reasons_push setup before turns turn a.1 b)
reasons_push setup before (failed ∷ turns) turn a b = reasons_push setup before turns turn a b

-- ---- turns, and what is counted of them

pub serves_nothing : (g : GatewayState) (a : WireLog) (served : Served) → Took g [] g [] [] → Carries a (traffic_in [] false) a → served.turns ≡ 0 → served.refused ≡ 0
    → served.receive_faults ≡ 0 → served.send_faults ≡ 0 → served.ended ≡ false → Serves g a [] served g a
serves_nothing g a served t carried turns refuses receives sends ended = record {
  took = t;
  reasons = λ before s. tt;
  carried = rw ended carried;
  turns = rw ended turns;
  refused = refuses;
  receive_faults = receives;
  send_faults = sends;
}

serves_push : (g h k : GatewayState) (a b c : WireLog) (turns : List Turn) (turn : Turn) (served next : Served) → Serves g a turns served h b → served.ended ≡ false
    → Went turn h b k c → next.ended ≡ false → next.turns ≡ served.turns + 1 → next.refused ≡ served.refused + cond (is_refused turn) 1 0
    → next.receive_faults ≡ served.receive_faults + cond (is_failed turn) 1 0 → next.send_faults ≡ counted served.send_faults (send_faults_at turn)
    → Serves g a (turns ++ turn ∷ []) next k c
serves_push g h k a b c turns turn served next s off w ended one refuses fails sends = record {
  took = took_push g h k turns turn s.took w.took;
  reasons = λ before stands. reasons_push g.setup before turns turn (s.reasons before stands)
      (subst (λ (x : Setup). HasReasons x (before ++ taken_in turns) (turn ∷ [])) s.took.setup (w.reason (before ++ taken_in turns) (s.took.stands before stands)));
  carried = rw ended (carries_push a b c turns turn (rw off at s.carried) w.carried);
  turns = rw (ended, one, s.turns, off, length-append turns (turn ∷ [])) (omega arith);
  refused = refuses ∙ ap (λ n. n + cond (is_refused turn) 1 0) s.refused ∙ sym (sum_by_push (λ t. cond (is_refused t) 1 0) turns turn);
  receive_faults = fails ∙ ap (λ n. n + cond (is_failed turn) 1 0) s.receive_faults ∙ sym (sum_by_push (λ t. cond (is_failed t) 1 0) turns turn);
  send_faults = sends ∙ ap (λ n. counted n (send_faults_at turn)) s.send_faults
      ∙ counted_on 0 (sum_by send_faults_at turns) (send_faults_at turn)
      ∙ ap (λ n. counted 0 n) (sym (sum_by_push send_faults_at turns turn));
}

-- so many turns so far, and the end hasn't come
pub record Serving (g : GatewayState) (was : WireLog) (turns : List Turn) (so_far : ℕ) (served : Served) (g' : GatewayState) (is : WireLog) : Type 0 where
  pub serves : Serves g was turns served g' is
  pub count : served.turns ≡ so_far
  pub running : served.ended ≡ false

count_refused : (turns : List Turn) → count_by is_refused turns ≤ length turns
count_refused turns = count_by-le-length is_refused turns

count_failed : (turns : List Turn) → count_by is_failed turns ≤ length turns
count_failed turns = count_by-le-length is_failed turns

one_more : (n : ℕ) → n < 2 ^ 64 - 1 → counted n 1 ≡ n + 1
one_more n lt = omega arith

-- the counts are no greater than the turns
few : (n count : ℕ) (turns : List Turn) (served : Served) → n ≡ length turns → count ≤ length turns → n < 2 ^ 64 - 1 → counted count 1 ≡ count + 1
few n count turns served is le lt = one_more count (omega (arith, is, le, lt))

turns_so_far : (g : GatewayState) (a : WireLog) (turns : List Turn) (n : ℕ) (served : Served) (h : GatewayState) (b : WireLog) → Serving g a turns n served h b → n ≡ length turns
turns_so_far g a turns n served h b s = sym s.count ∙ s.serves.turns ∙ rw s.running (omega arith)

counted_none : (n : ℕ) → n ≡ counted n 0
counted_none n = omega arith

pub goes_on : (g h k : GatewayState) (a b c : WireLog) (turns : List Turn) (n : ℕ) (served : Served) (e : TurnEnd) → Serving g a turns n served h b → n < 2 ^ 64 - 1
    → Turned e h b k c → is_last e ≡ false → (more : List Turn) × Serving g a more (n + 1) (noted served e) k c
goes_on g h k a b c turns n served (ends.Took faults) s lt t off = (
  turns ++ took t.0 t.1 faults ∷ [],
  record {
    serves = serves_push g h k a b c turns (took t.0 t.1 faults) served (noted served (ends.Took faults)) s.serves s.running t.2 s.running
        (rw s.count (one_more n lt)) (omega arith) (omega arith) refl;
    count = rw s.count (one_more n lt);
    running = s.running;
  },
)
goes_on g h k a b c turns n served ends.Refused s lt t off = (
  turns ++ refused t.0 t.1 ∷ [],
  record {
    serves = serves_push g h k a b c turns (refused t.0 t.1) served (noted served ends.Refused) s.serves s.running t.2 s.running
        (rw s.count (one_more n lt))
        (rw s.serves.refused (few n (count_by is_refused turns) turns served (turns_so_far g a turns n served h b s) (count_refused turns) lt))
        (omega arith) (counted_none served.send_faults);
    count = rw s.count (one_more n lt);
    running = s.running;
  },
)
goes_on g h k a b c turns n served ends.Failed s lt t off = (
  turns ++ failed ∷ [],
  record {
    serves = serves_push g h k a b c turns failed served (noted served ends.Failed) s.serves s.running t s.running
        (rw s.count (one_more n lt)) (omega arith)
        (rw s.serves.receive_faults (few n (count_by is_failed turns) turns served (turns_so_far g a turns n served h b s) (count_failed turns) lt))
        (counted_none served.send_faults);
    count = rw s.count (one_more n lt);
    running = s.running;
  },
)
goes_on g h k a b c turns n served ends.Ended s lt t off = absurd (false≢true (sym off))

pub ends_so : (g h k : GatewayState) (a b c : WireLog) (turns : List Turn) (n : ℕ) (served : Served) → Serving g a turns n served h b → n < 2 ^ 64 - 1 → Ended h b k c
    → Serves g a turns (noted served ends.Ended) k c
ends_so g h k a b c turns n served s lt e = record {
  took = rw e.same s.serves.took;
  reasons = s.serves.reasons;
  carried = record {
    given = grows_on a.given b.given c.given (flat_map given_at turns) (end ∷ []) (rw (append-nil (flat_map given_at turns)) at (rw s.running at s.serves.carried).given) e.carried.given;
    handed = rw (append-nil (map handed_of (outputs_in turns))) at
        (grows_on a.handed b.handed c.handed (map handed_of (outputs_in turns)) [] s.serves.carried.handed e.carried.handed);
    receive_faults = e.carried.receive_faults ∙ ap (λ m. counted m 0) s.serves.carried.receive_faults ∙ counted_on a.receive_faults (count_by is_failed turns) 0 ∙ ap (λ m. counted a.receive_faults m) (omega arith);
    send_faults = e.carried.send_faults ∙ ap (λ m. counted m 0) s.serves.carried.send_faults ∙ counted_on a.send_faults (sum_by send_faults_at turns) 0 ∙ ap (λ m. counted a.send_faults m) (omega arith);
  };
  turns = rw s.count (one_more n lt) ∙ ap (λ m. m + 1) (turns_so_far g a turns n served h b s);
  refused = s.serves.refused;
  receive_faults = s.serves.receive_faults;
  send_faults = s.serves.send_faults;
}

-- a turn more, after which it goes on
pub turned_on : (g h k : GatewayState) (a b c : WireLog) (n : ℕ) (served next : Served) (e : TurnEnd) → (turns : List Turn) × Serving g a turns n served h b → n < 2 ^ 64 - 1
    → Turned e h b k c → next ≡ noted served e → is_last e ≡ false → (turns : List Turn) × Serving g a turns (n + 1) next k c
turned_on g h k a b c n served next e s lt t is off = rw is (goes_on g h k a b c s.0 n served e s.1 lt t off)

-- a turn at which the end came
ended_by : (g h k : GatewayState) (a b c : WireLog) (n : ℕ) (served : Served) (e : TurnEnd) → (turns : List Turn) × Serving g a turns n served h b → n < 2 ^ 64 - 1
    → Turned e h b k c → is_last e ≡ true → (turns : List Turn) × Serves g a turns (noted served e) k c
ended_by g h k a b c n served (ends.Took faults) s lt t on = absurd (false≢true on)
ended_by g h k a b c n served ends.Refused s lt t on = absurd (false≢true on)
ended_by g h k a b c n served ends.Failed s lt t on = absurd (false≢true on)
ended_by g h k a b c n served ends.Ended s lt t on = (s.0, ends_so g h k a b c s.0 n served s.1 lt t)

pub turned_out : (g h k : GatewayState) (a b c : WireLog) (n : ℕ) (served next : Served) (e : TurnEnd) → (turns : List Turn) × Serving g a turns n served h b → n < 2 ^ 64 - 1
    → Turned e h b k c → next ≡ noted served e → is_last e ≡ true → (turns : List Turn) × Serves g a turns next k c
turned_out g h k a b c n served next e s lt t is on = rw is (ended_by g h k a b c n served e s lt t on)

noted_end : (served : Served) (e : TurnEnd) → is_last e ≡ true → (noted served e).ended ≡ true
noted_end served (ends.Took faults) on = absurd (false≢true on)
noted_end served ends.Refused on = absurd (false≢true on)
noted_end served ends.Failed on = absurd (false≢true on)
noted_end served ends.Ended on = refl

-- at the last turn the end came
pub end_noted : (served next : Served) (e : TurnEnd) → next ≡ noted served e → is_last e ≡ true → next.ended ≡ true
end_noted served next e is on = rw is (noted_end served e on)

noted_turns : (served : Served) (e : TurnEnd) → (noted served e).turns ≡ counted served.turns 1
noted_turns served (ends.Took faults) = refl
noted_turns served ends.Refused = refl
noted_turns served ends.Failed = refl
noted_turns served ends.Ended = refl

pub turn_count : (g h : GatewayState) (a b : WireLog) (n : ℕ) (served next : Served) (e : TurnEnd) → (turns : List Turn) × Serving g a turns n served h b → n < 2 ^ 64 - 1
    → next ≡ noted served e → next.turns ≡ n + 1
turn_count g h a b n served next e s lt is = rw is (noted_turns served e ∙ ap (λ m. counted m 1) s.1.count ∙ one_more n lt)

-- ---- one turn

pub failed_turn : (g : GatewayState) (a b : WireLog) → Carries a (gives [] 1) b → Went failed g a g b
failed_turn g a b carried = record { took = took_none g g [] [] refl refl refl refl (λ m same. same); reason = λ before s. tt; carried = carried }
