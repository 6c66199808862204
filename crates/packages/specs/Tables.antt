-- The tables of the packages L, G and D (RFC 3660, 2.5, 2.1 and 2.2), as far as this gateway has them. All else that is
-- said of events and signals is looked up here.
use Rattle.std.specs.Prelude.{ℕ, Bool, true, false, codes, List, [], ◌∷◌, Option, Some, None}
use Rattle.mg_bytes.specs.declared.letter.Letter.TheVariants.{Zero, One, Two, Three, Four, Five, Six, Seven, Eight, Nine, Star, Hash, A, B, C, D, Timer}
use Rattle.packages.specs.declared.event.LineEvent.{LineEvent}
use Rattle.packages.specs.declared.event.LineEvent.TheVariants.{OffHook, OnHook, Flash, LineComplete, GenericComplete, Letter}
use Rattle.packages.specs.declared.hook.Hook.{Hook}
use Rattle.packages.specs.declared.hook.Hook.TheVariants as hook
use Rattle.packages.specs.declared.package.Package.{Package}
use Rattle.packages.specs.declared.package.Package.TheVariants.{Line, Generic, Dtmf}
use Rattle.packages.specs.declared.signal.Kind.{Kind}
use Rattle.packages.specs.declared.signal.Kind.TheVariants.{TimeOut, Brief, OnOff}
use Rattle.packages.specs.declared.signal.Signal.{Signal}
use Rattle.packages.specs.declared.signal.Signal.TheVariants.{DialTone, Busy, Reorder, Ringing, RingSplash, MessageWaiting, Ringback, Congestion, Confirm}

-- a row of the table of packages: its name
pub record PackageRow : Type 0 where
  pub value : Package
  pub name : List ℕ

abbrev pub package_row : List ℕ → Package → PackageRow
package_row name value = record { value = value; name = name }

abbrev pub package_rows : List PackageRow
package_rows = package_row (codes "L") Line ∷ package_row (codes "G") Generic ∷ package_row (codes "D") Dtmf ∷ []

-- a row of the table of signals: its name in its package, how it ends, its time in ms (0 is without end), and the one
-- state of the hook in which it can be asked for, if it can't in both
pub record SignalRow : Type 0 where
  pub value : Signal
  pub within : Package
  pub name : List ℕ
  pub kind : Kind
  pub time : ℕ
  pub only : Option Hook

abbrev pub signal_row : Package → List ℕ → Signal → Kind → ℕ → Option Hook → SignalRow
signal_row within name value kind time only =
    record { value = value; within = within; name = name; kind = kind; time = time; only = only }

abbrev pub on_hook : Option Hook
on_hook = Some hook.OnHook

abbrev pub off_hook : Option Hook
off_hook = Some hook.OffHook

abbrev pub always : Option Hook
always = None

abbrev pub signal_rows : List SignalRow
signal_rows =
    signal_row Line (codes "dl") DialTone TimeOut 16000 off_hook
    ∷ signal_row Line (codes "bz") Busy TimeOut 30000 off_hook
    ∷ signal_row Line (codes "ro") Reorder TimeOut 30000 off_hook
    ∷ signal_row Line (codes "rg") Ringing TimeOut 180000 on_hook
    ∷ signal_row Line (codes "rs") RingSplash Brief 500 on_hook
    ∷ signal_row Line (codes "vmwi") MessageWaiting OnOff 0 always
    ∷ signal_row Generic (codes "rt") Ringback TimeOut 180000 off_hook
    ∷ signal_row Generic (codes "cg") Congestion TimeOut 0 off_hook
    ∷ signal_row Generic (codes "cf") Confirm Brief 500 off_hook
    ∷ []

-- a row of the table of events: its name in its package, and whether it is persistent, that is, occurs whether it was
-- asked for or not
pub record EventRow : Type 0 where
  pub value : LineEvent
  pub within : Package
  pub name : List ℕ
  pub persistent : Bool

abbrev pub event_row : Package → List ℕ → LineEvent → Bool → EventRow
event_row within name value persistent = record { value = value; within = within; name = name; persistent = persistent }

abbrev pub event_rows : List EventRow
event_rows =
    event_row Line (codes "hd") OffHook true
    ∷ event_row Line (codes "hu") OnHook true
    ∷ event_row Line (codes "hf") Flash true
    ∷ event_row Line (codes "oc") LineComplete false
    ∷ event_row Generic (codes "oc") GenericComplete false
    ∷ event_row Dtmf (codes "0") (Letter Zero) false
    ∷ event_row Dtmf (codes "1") (Letter One) false
    ∷ event_row Dtmf (codes "2") (Letter Two) false
    ∷ event_row Dtmf (codes "3") (Letter Three) false
    ∷ event_row Dtmf (codes "4") (Letter Four) false
    ∷ event_row Dtmf (codes "5") (Letter Five) false
    ∷ event_row Dtmf (codes "6") (Letter Six) false
    ∷ event_row Dtmf (codes "7") (Letter Seven) false
    ∷ event_row Dtmf (codes "8") (Letter Eight) false
    ∷ event_row Dtmf (codes "9") (Letter Nine) false
    ∷ event_row Dtmf (codes "*") (Letter Star) false
    ∷ event_row Dtmf (codes "#") (Letter Hash) false
    ∷ event_row Dtmf (codes "A") (Letter A) false
    ∷ event_row Dtmf (codes "B") (Letter B) false
    ∷ event_row Dtmf (codes "C") (Letter C) false
    ∷ event_row Dtmf (codes "D") (Letter D) false
    ∷ event_row Dtmf (codes "T") (Letter Timer) false
    ∷ []
