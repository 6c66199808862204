-- What is counted of datagrams that come.
use Rattle.std.proofs.Common.{◌≡◌, ℕ, ◌+◌, Bool, true, false, cond, Option, Some, None, refl, sym, ◌∙◌, ap, arith}
use Rattle.std.specs.Prelude.{nat_lt}
use Rattle.std.specs.Global.{Box}
use Rattle.std.specs.declared.net.socket_addr.SocketAddrV4.{SocketAddrV4}
use Rattle.gateway_core.specs.Wire.{counted}
use Rattle.live_journal.specs.declared.journal.Journal.{Journal}
use Rattle.message_counts.specs.Tallying.{with_received, with_stranger}
use Rattle.message_counts.specs.declared.message_tally.MessageTally.{MessageTally}
use Rattle.live_gateway.specs.declared.admission.Admission.{Admission}
use Rattle.live_gateway.specs.Admitting.{is_heard}
use Rattle.live_gateway.specs.Noting.{TurnsAway, NotesArrival, with_looked, with_strangers, with_found, CountsFound}

counted_none : (n : ℕ) → n ≡ counted n 0
counted_none n = omega arith

counted_on : (n a b : ℕ) → counted (counted n a) b ≡ counted n (a + b)
counted_on n a b = omega arith

no_strangers : (was : MessageTally) → was ≡ with_strangers 0 was
no_strangers was = ap (λ (n : ℕ). let x : MessageTally = record was { strangers = n } in x) (counted_none was.strangers)

more_strangers : (a b : ℕ) (was : MessageTally) → with_strangers b (with_strangers a was) ≡ with_strangers (a + b) was
more_strangers a b was = ap (λ (n : ℕ). let x : MessageTally = record was { strangers = n } in x) (counted_on was.strangers a b)

-- nothing came
pub found_none : (was is : MessageTally) → is ≡ was → CountsFound was None is
found_none was is same = record { strangers = 0; tally = same ∙ no_strangers was }

-- a stranger's did
pub strange_found : (was : Journal) (time : ℕ) (source : SocketAddrV4) (is : Journal) → TurnsAway was time source is → CountsFound was.tally.value None is.tally.value
strange_found was time source is turned = by_port (nat_lt 0 source.port) refl where
  by_port : (b : Bool) → nat_lt 0 source.port ≡ b → CountsFound was.tally.value None is.tally.value
  by_port true port = record { strangers = 1; tally = (turned.port port).tally }
  by_port false none = found_none was.tally.value is.tally.value (ap (λ (journal : Journal). journal.tally.value) (turned.portless none))

-- what is counted behind what counted no datagram but strangers'
pub found_behind : (was mid is : MessageTally) (found : Option (SocketAddrV4 × ℕ)) → CountsFound was None mid → CountsFound mid found is → CountsFound was found is
found_behind was mid is found none c = record {
  strangers = none.strangers + c.strangers;
  tally = c.tally ∙ ap (λ (tally : MessageTally). with_found found (with_strangers c.strangers tally)) none.tally
      ∙ ap (λ (tally : MessageTally). with_found found tally) (more_strangers none.strangers c.strangers was);
}

-- between what counts nothing
pub found_between : (was mid next is : MessageTally) (found : Option (SocketAddrV4 × ℕ)) → mid ≡ was → CountsFound mid found next → is ≡ next
    → CountsFound was found is
found_between was mid next is found before c behind = record {
  strangers = c.strangers;
  tally = behind ∙ c.tally ∙ ap (λ (tally : MessageTally). with_found found (with_strangers c.strangers tally)) before;
}

-- one came, which is heard, or a stranger's
pub arrival_found : (admission : Admission) (was : Journal) (time : ℕ) (source : SocketAddrV4) (len : ℕ) (is : Journal) → NotesArrival admission was time source is
    → is_heard admission source ≡ true → CountsFound was.tally.value (Some (source, len)) is.tally.value
arrival_found admission was time source len is notes heard = record {
  strangers = 0;
  tally = notes.heard heard ∙ ap (λ (tally : MessageTally). with_received tally) (no_strangers was.tally.value);
}

pub arrival_strange : (admission : Admission) (was : Journal) (time : ℕ) (source : SocketAddrV4) (is : Journal) → NotesArrival admission was time source is
    → is_heard admission source ≡ false → CountsFound was.tally.value None is.tally.value
arrival_strange admission was time source is notes strange = strange_found was time source is (notes.strange strange)

-- a heard one's arrival, and a stranger's

pub not_both : (b : Bool) → b ≡ true → b ≡ false → ⊥
not_both true heard strange = cc
not_both false heard strange = cc

pub arrives : (admission : Admission) (was : Journal) (time : ℕ) (source : SocketAddrV4) (is : Journal) → is_heard admission source ≡ true
    → is.tally.value ≡ with_received was.tally.value → NotesArrival admission was time source is
arrives admission was time source is heard counts = record {
  heard = λ may. counts;
  strange = λ other. absurd (not_both (is_heard admission source) heard other);
}

pub arrives_strange : (admission : Admission) (was : Journal) (time : ℕ) (source : SocketAddrV4) (is : Journal) → is_heard admission source ≡ false
    → TurnsAway was time source is → NotesArrival admission was time source is
arrives_strange admission was time source is strange turned = record {
  heard = λ may. absurd (not_both (is_heard admission source) may strange);
  strange = λ other. turned;
}

-- ---- at one look

pub heard_looked : (admission : Admission) (was mid is : Journal) (time : ℕ) (found : SocketAddrV4 × ℕ) → mid ≡ was
    → NotesArrival admission mid time found.0 is → is_heard admission found.0 ≡ true → is.tally.value ≡ with_looked admission (Some found) was.tally.value
heard_looked admission was mid is time found same notes may =
    notes.heard may ∙ ap (λ (journal : Journal). with_received journal.tally.value) same
    ∙ sym (ap (λ (b : Bool). cond b (with_received was.tally.value) (cond (nat_lt 0 found.0.port) (with_stranger was.tally.value) was.tally.value)) may)

pub strange_looked : (admission : Admission) (was mid is : Journal) (time : ℕ) (found : SocketAddrV4 × ℕ) → mid ≡ was
    → NotesArrival admission mid time found.0 is → is_heard admission found.0 ≡ false → is.tally.value ≡ with_looked admission (Some found) was.tally.value
strange_looked admission was mid is time found same notes other =
    by_port (nat_lt 0 found.0.port) refl
    ∙ sym (ap (λ (b : Bool). cond b (with_received was.tally.value) (cond (nat_lt 0 found.0.port) (with_stranger was.tally.value) was.tally.value)) other) where
      by_port : (b : Bool) → nat_lt 0 found.0.port ≡ b → is.tally.value ≡ cond b (with_stranger was.tally.value) was.tally.value
      by_port true port = ((notes.strange other).port port).tally ∙ ap (λ (journal : Journal). with_stranger journal.tally.value) same
      by_port false none = ap (λ (journal : Journal). journal.tally.value) ((notes.strange other).portless none ∙ same)

-- what was sent stays counted as it was
with_found_keeps_sent : (found : Option (SocketAddrV4 × ℕ)) (tally : MessageTally) → (with_found found tally).sent ≡ tally.sent
with_found_keeps_sent None tally = refl
with_found_keeps_sent (Some found) tally = refl

pub found_keeps_sent : (was : MessageTally) (found : Option (SocketAddrV4 × ℕ)) (is : MessageTally) → CountsFound was found is → is.sent ≡ was.sent
found_keeps_sent was found is c = ap (λ (tally : MessageTally). tally.sent) c.tally ∙ with_found_keeps_sent found (with_strangers c.strangers was)

-- ---- what keeps the tally

pub same_tally : (was is : Box MessageTally) → is ≡ was → is.value ≡ was.value
same_tally was is same = ap (λ (tally : Box MessageTally). tally.value) same

pub tally_of : (was is : Journal) → is ≡ was → is.tally.value ≡ was.tally.value
tally_of was is same = ap (λ (journal : Journal). journal.tally.value) same
