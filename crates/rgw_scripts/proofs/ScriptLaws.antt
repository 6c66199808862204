-- How lines after an open `from` are read.
use Rattle.std.proofs.Common.{arith, ◌≡◌, ℕ, ◌+◌, Bool, true, false, ◌||◌, List, [], ◌∷◌, ◌++◌, length, Some, refl, sym, ap, ◌∙◌, append_assoc, append-nil}
use Rattle.std.specs.Prelude.{codes, Err}
use Rattle.std.specs.List.{list_any, flat_map}
use Rattle.std.specs.declared.net.socket_addr.SocketAddrV4.{SocketAddrV4}
use Rattle.mg_bytes.specs.Lines.{ended}
use Rattle.rgw_scripts.specs.declared.step.ScriptStep.{ScriptStep}
use Rattle.rgw_scripts.specs.declared.step.ScriptStep.TheVariants.{Datagram}
use Rattle.rgw_scripts.specs.Script.{Reading, is_end, read_from, steps_after}

neither : (x y : Bool) → (x || y) ≡ false → (x ≡ false) × (y ≡ false)
neither true y none = absurd cc
neither false y none = (refl, none)

abbrev open_from : List ScriptStep → ℕ → SocketAddrV4 → List ℕ → Reading
open_from before line source text = record { steps = before; waiting = Some (record { line = line; source = source; text = text }) }

pub ended_from : (number line : ℕ) (before : List ScriptStep) (source : SocketAddrV4) (text : List ℕ) (lines more : List (List ℕ)) → list_any is_end lines ≡ false
    → read_from number (open_from before line source text) (lines ++ codes "--" ∷ more)
    ≡ steps_after (number + length lines + 1) (before ++ Datagram source (text ++ flat_map ended lines) ∷ []) more
unfolding read_from
ended_from number line before source text [] more none =
    let here : number + 1 ≡ number + 0 + 1 = omega arith in
    ap (λ (t : List ℕ). steps_after (number + 1) (before ++ Datagram source t ∷ []) more) (sym (append-nil text))
    ∙ ap (λ (n : ℕ). steps_after n (before ++ Datagram source (text ++ []) ∷ []) more) here
ended_from number line before source text (l ∷ ls) more none =
    let parts = neither (is_end l) (list_any is_end ls) none in
    let later = ended_from (number + 1) line before source (text ++ ended l) ls more parts.1 in
    let far : number + 1 + length ls + 1 ≡ number + length (l ∷ ls) + 1 = omega arith in
    let whole : (text ++ ended l) ++ flat_map ended ls ≡ text ++ flat_map ended (l ∷ ls) = append_assoc text (ended l) (flat_map ended ls) in
    rw parts.0 (later ∙ ap (λ (n : ℕ). steps_after n (before ++ Datagram source ((text ++ ended l) ++ flat_map ended ls) ∷ []) more) far
    ∙ ap (λ (t : List ℕ). steps_after (number + length (l ∷ ls) + 1) (before ++ Datagram source t ∷ []) more) whole)

pub unended_from : (number line : ℕ) (before : List ScriptStep) (source : SocketAddrV4) (text : List ℕ) (lines : List (List ℕ)) → list_any is_end lines ≡ false
    → read_from number (open_from before line source text) lines ≡ Err line
unfolding read_from
unended_from number line before source text [] none = refl
unended_from number line before source text (l ∷ ls) none =
    let parts = neither (is_end l) (list_any is_end ls) none in
    rw parts.0 (unended_from (number + 1) line before source (text ++ ended l) ls parts.1)
