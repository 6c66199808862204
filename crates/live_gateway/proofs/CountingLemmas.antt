-- What is counted of looks for datagrams.
use Rattle.std.proofs.Common.{inr, ◌≡◌, ℕ, Bool, true, false, cond, List, Option, None, Some, ◌∙◌, refl, sym, ap, subst}
use Rattle.std.specs.Prelude.{⊤, Result, Ok, Err, is_err, is_some}
use Rattle.std.specs.declared.net.socket_addr.SocketAddrV4.{SocketAddrV4}
use Rattle.message_counts.specs.declared.reporting.Faults.{Faults}
use Rattle.live_io.specs.declared.surroundings.Fault.{Fault}
use Rattle.live_gateway.specs.declared.admission.Admission.{Admission}
use Rattle.live_gateway.specs.declared.exchange.Exchange.{Exchange}
use Rattle.live_gateway.specs.Admitting.{is_heard}
use Rattle.live_gateway.specs.Exchanging.{LooksOnce, heard_in, faults_behind, with_unreceived, CountsReceived}

-- nothing was counted behind it, and nothing else was asked of the surroundings
pub looked_before : {S : Type 0} (receives : S → Result (Option (SocketAddrV4 × ℕ)) Fault → List ℕ → S → Type 0) (was mid is : Exchange S)
    (found : Option (SocketAddrV4 × ℕ)) (room : List ℕ) → LooksOnce receives was found room mid → is.around ≡ mid.around → is.read ≡ mid.read
    → is.faults ≡ mid.faults → LooksOnce receives was found room is
looked_before {S} receives was mid is found room l around read faults = record {
  outcome = l.outcome;
  looked = subst (λ (s : S). receives was.around l.outcome room s) (sym around) l.looked;
  gave = l.gave;
  read = read ∙ l.read;
  faults = faults ∙ l.faults;
}

-- what a network does before a look, and behind it, counts nothing
pub read_behind_others : {S : Type 0} (receives : S → Result (Option (SocketAddrV4 × ℕ)) Fault → List ℕ → S → Type 0) (admission : Admission)
    (was mid next is : Exchange S) (found given : Option (SocketAddrV4 × ℕ)) (between room : List ℕ) → is_some was.network ≡ true
    → mid.read ≡ was.read → mid.faults ≡ was.faults → LooksOnce receives mid found between next → is.read ≡ next.read → is.faults ≡ next.faults
    → CountsReceived receives admission was given room is
read_behind_others receives admission was mid next is found given between room some read faults l read' faults' =
    inr (some, inr (mid, next, found, between, l, read, faults, read', faults'))

-- one that is found is given where it is heard

pub heard_given : (admission : Admission) (found : SocketAddrV4 × ℕ) → is_heard admission found.0 ≡ true → Some found ≡ heard_in admission (Some found)
heard_given admission found may = sym (ap (λ (b : Bool). cond b (Some found) None) may)

pub strange_kept : (admission : Admission) (found : SocketAddrV4 × ℕ) → is_heard admission found.0 ≡ false → None ≡ heard_in admission (Some found)
strange_kept admission found other = sym (ap (λ (b : Bool). cond b (Some found) None) other)

-- a wait that failed counts, and no other one

pub fault_counts : (outcome : Result ⊤ Fault) (faults : Faults) → is_err outcome ≡ true → with_unreceived faults ≡ faults_behind outcome faults
fault_counts (Ok waited) faults failed = absurd cc
fault_counts (Err fault) faults failed = refl

pub nothing_counts : (outcome : Result ⊤ Fault) (faults : Faults) → is_err outcome ≡ false → faults ≡ faults_behind outcome faults
nothing_counts (Ok waited) faults went = refl
nothing_counts (Err fault) faults went = absurd cc
