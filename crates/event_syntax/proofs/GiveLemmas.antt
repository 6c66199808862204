-- What is given of entries that are read one after the other.
use Rattle.std.proofs.Common.{◌≡◌, ℕ, List, ◌∷◌, sym}
use Rattle.std.specs.Prelude.{Result, Err}
use Rattle.mg_bytes.specs.declared.code_fault.CodeFault.{CodeFault}
use Rattle.mg_bytes.specs.declared.code_fault.CodeFault.TheVariants.{OutOfMemory, Code}
use Rattle.packages.specs.Faults.{each}
use Rattle.event_syntax.specs.Embedding.{Gives}
use Rattle.packages.proofs.EachLemmas.{put_before, each_stops}

pub fault_stops : {A : Type 0} (read : List ℕ → Result A ℕ) (front : List A) (left texts : List (List ℕ)) (text : List ℕ)
    (fault : CodeFault) (all : Result (List A) ℕ)
    → left ≡ text ∷ texts → Gives (read text) (Err fault) → put_before front (each read left) ≡ all → Gives all (Err fault)
fault_stops read front left texts text OutOfMemory all steps gives whole = tt
fault_stops read front left texts text (Code code) all steps gives whole =
    sym (each_stops read front left texts text code all steps (sym gives) whole)
