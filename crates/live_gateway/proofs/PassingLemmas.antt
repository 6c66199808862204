-- What the network before the socket hands out, packet by packet.
use Rattle.std.proofs.Common.{◌≡◌, ◌⊎◌, ℕ, ◌+◌, Bool, true, false, List, [], ◌∷◌, ◌++◌, length, take, Option, Some, None, refl, sym, ◌∙◌, ap, subst, arith}
use Rattle.std.specs.Prelude.{⊤, is_some, Result}
use Rattle.std.specs.Global.{Box}
use Rattle.std.specs.declared.net.socket_addr.SocketAddrV4.{SocketAddrV4}
use Rattle.impairment.specs.declared.packet.Packet.{Packet}
use Rattle.live_io.specs.Around.{Around}
use Rattle.live_io.specs.Sending.{Sent, Traffic}
use Rattle.live_io.specs.declared.surroundings.Fault.{Fault}
use Rattle.live_journal.specs.declared.journal.Journal.{Journal}
use Rattle.live_gateway.specs.declared.admission.Admission.{Admission}
use Rattle.live_gateway.specs.declared.exchange.Exchange.{Exchange}
use Rattle.live_gateway.specs.declared.spoilt_way.SpoiltWay.{SpoiltWay}
use Rattle.live_gateway.specs.Exchanging.{handed_by}
use Rattle.live_gateway.specs.Noting.{NotesReceived, TurnsAway}
use Rattle.live_gateway.specs.Passing.{SendsNext, TurnsNextAway, PassesEach, GoesWhereHeard, GivesWhereHeard, GoesOver, LooksDirectly, LooksOver, LooksBy, Looks}

-- one more of those that were handed out
pub one_longer : (packets : List Packet) (packet : Packet) (count : ℕ) → length packets ≡ count → length (packets ++ packet ∷ []) ≡ count + 1
one_longer [] packet count long = ap (λ (n : ℕ). n + 1) long
one_longer (first ∷ more) packet count long =
    let so_far : length (more ++ packet ∷ []) ≡ length more + 1 = one_longer more packet (length more) refl in omega (arith, so_far, long)

module _ {S : Type 0} (sends : S → SocketAddrV4 → List ℕ → Result ⊤ Fault → S → Type 0) (admission : Admission) where
  pub passed_on : (packets : List Packet) (packet : Packet) (was between is : Exchange S) → PassesEach sends admission packets was between
      → SendsNext sends packet between is ⊎ TurnsNextAway admission packet between is → PassesEach sends admission (packets ++ packet ∷ []) was is
  passed_on [] packet was between is so_far next =
      (is, subst (λ (one : Exchange S). SendsNext sends packet one is ⊎ TurnsNextAway admission packet one is) so_far next, refl)
  passed_on (first ∷ more) packet was between is so_far next =
      (so_far.0, so_far.1, passed_on more packet so_far.0 between is so_far.2 next)

  -- what the socket gave goes over the network where it is heard
  pub heard_goes : (heard : Bool) (source : SocketAddrV4) (bytes : List ℕ) (given : Option (SocketAddrV4 × ℕ)) (room : List ℕ) (was is : Exchange S)
      → heard ≡ true → GoesOver sends admission source bytes given room was is → GoesWhereHeard sends heard admission source bytes given room was is
  heard_goes heard source bytes given room was is may over =
      subst (λ (b : Bool). GoesWhereHeard sends b admission source bytes given room was is) (sym may) over

  pub strange_goes : (heard : Bool) (source : SocketAddrV4) (bytes : List ℕ) (room : List ℕ) (was is : Exchange S)
      → heard ≡ false → TurnsAway was.journal was.now.time source is.journal → is ≡ record was { journal = is.journal }
      → GoesWhereHeard sends heard admission source bytes None room was is
  strange_goes heard source bytes room was is other away rest =
      subst (λ (b : Bool). GoesWhereHeard sends b admission source bytes None room was is) (sym other) (refl, away, rest)

module _ {S : Type 0} where
  -- or is given on, where no network is
  pub heard_gives : (heard : Bool) (found : SocketAddrV4 × ℕ) (room : List ℕ) (was is : Exchange S) → heard ≡ true
      → NotesReceived was.now 0 found.0 (take found.1 room) was.journal is.journal → is ≡ record was { journal = is.journal }
      → GivesWhereHeard heard found (Some found) room was is
  heard_gives heard found room was is may noted rest =
      subst (λ (b : Bool). GivesWhereHeard b found (Some found) room was is) (sym may) (refl, noted, rest)

  pub strange_gives : (heard : Bool) (found : SocketAddrV4 × ℕ) (room : List ℕ) (was is : Exchange S) → heard ≡ false
      → TurnsAway was.journal was.now.time found.0 is.journal → is ≡ record was { journal = is.journal }
      → GivesWhereHeard heard found None room was is
  strange_gives heard found room was is other away rest =
      subst (λ (b : Bool). GivesWhereHeard b found None room was is) (sym other) (refl, away, rest)

  -- one that the network loses is noted
  pub lost_noted : (was : Exchange S) (journal : Journal) → journal ≡ record was.journal { log = journal.log }
      → ◌≡◌ {A = Exchange S} (record was { journal = journal }) (record was { journal = record was.journal { log = journal.log } })
  lost_noted was journal noted = ap (λ (x : Journal). record was { journal = x }) noted

  -- ---- what was handed to it, where only some of it changes

  pub handed_still : (traffic : S → Traffic) (was is : Exchange S) → is.network ≡ was.network → (traffic is.around).sent ≡ (traffic was.around).sent
      → handed_by is.network (traffic is.around).sent ≡ handed_by was.network (traffic was.around).sent
  handed_still traffic was is network sent =
      ap (λ (o : Option (Box SpoiltWay)). handed_by o (traffic is.around).sent) network ∙ ap (λ (o : Option (List Sent)). handed_by was.network o) sent

  pub handed_late : (traffic : S → Traffic) (was mid is : Exchange S) → is.network ≡ mid.network
      → ((sent : Option (List Sent)) → handed_by mid.network sent ≡ handed_by was.network (traffic was.around).sent)
      → handed_by is.network (traffic is.around).sent ≡ handed_by was.network (traffic was.around).sent
  handed_late traffic was mid is network behind =
      ap (λ (o : Option (Box SpoiltWay)). handed_by o (traffic is.around).sent) network ∙ behind (traffic is.around).sent

  -- where no network is, a look is one at the socket
  pub looks_here : (around : Around S) (admission : Admission) (given : Option (SocketAddrV4 × ℕ)) (room : List ℕ)
      (was is : Exchange S) → is_some was.network ≡ false → LooksDirectly around.receives admission given room was is
      → Looks around admission given room was is
  looks_here around admission given room was is none directly =
      subst (λ (b : Bool). LooksBy around b admission given room was is) (sym none) directly

  -- and where one is, it is one at that first
  pub looks_over : (around : Around S) (admission : Admission) (given : Option (SocketAddrV4 × ℕ)) (room : List ℕ)
      (was is : Exchange S) → is_some was.network ≡ true → LooksOver around admission given room was is
      → Looks around admission given room was is
  looks_over around admission given room was is some over =
      subst (λ (b : Bool). LooksBy around b admission given room was is) (sym some) over
