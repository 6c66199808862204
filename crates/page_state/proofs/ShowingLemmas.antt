-- Lines that are equal show the same.
use Rattle.std.proofs.Common.{◌≡◌, ℕ, refl, sym, ap, List, [], ◌∷◌, map, Bool, true, false, true≢false, Option, Some, None}
use Rattle.std.specs.Prelude.{nat_eq}
use Rattle.std.specs.Bool.{Decides, beq}
use Rattle.std.specs.Option.{option_eq}
use Rattle.std.specs.Cmp.Lexicographic.{pointwise}
use Rattle.std.proofs.lemmas.Bool.Decides.{Decides-and, Decides-like, Decides-eqb}
use Rattle.std.proofs.lemmas.Slice.Eq.{bytes_eq-Decides}
use Rattle.page_state.specs.declared.picture.SignalView.{SignalView}
use Rattle.page_state.specs.declared.picture.ConnectionView.{ConnectionView}
use Rattle.page_state.specs.declared.picture.LineView.{LineView}
use Rattle.page_state.specs.contracts.picture.SignalViewPartialEq.TheImpl as signals
use Rattle.page_state.specs.contracts.picture.ConnectionViewPartialEq.TheImpl as connections
use Rattle.page_state.specs.contracts.picture.LineViewPartialEq.TheImpl as lines
use Rattle.page_state.specs.MetricsShowing.{SignalShown, ConnectionShown, LineShown, signal_shown, connection_shown, line_shown}

cons_same : {B : Type 0} (x y : B) (xs ys : List B) → (x ≡ y) × (xs ≡ ys) → x ∷ xs ≡ y ∷ ys
cons_same x y xs ys h = λ i. h.0 i ∷ h.1 i

cons_parts : {B : Type 0} (x y : B) (xs ys : List B) → x ∷ xs ≡ y ∷ ys → (x ≡ y) × (xs ≡ ys)
cons_parts x y xs ys e = (cc, cc)

-- `==` at two lists says whether they show the same, where it does so at their elements
seen_Decides : {A B : Type 0} (E : A → A → Bool) (f : A → B) → ((a b : A) → Decides (E a b) (f a ≡ f b))
    → (xs ys : List A) → Decides (pointwise E xs ys) (map f xs ≡ map f ys)
seen_Decides E f decides [] [] = (λ e. refl, λ e. refl)
seen_Decides E f decides [] (y ∷ ys) = (λ e. absurd (true≢false (sym e)), λ e. absurd cc)
seen_Decides E f decides (x ∷ xs) [] = (λ e. absurd (true≢false (sym e)), λ e. absurd cc)
seen_Decides E f decides (x ∷ xs) (y ∷ ys) =
    Decides-like _ (cons_same (f x) (f y) (map f xs) (map f ys)) (cons_parts (f x) (f y) (map f xs) (map f ys))
    (Decides-and (E x y) (pointwise E xs ys) (decides x y) (seen_Decides E f decides xs ys))

over_Decides : (a b : Option ℕ) → Decides (option_eq nat_eq a b) (a ≡ b)
over_Decides None None = (λ e. refl, λ e. refl)
over_Decides None (Some y) = (λ e. absurd (true≢false (sym e)), λ e. absurd cc)
over_Decides (Some x) None = (λ e. absurd (true≢false (sym e)), λ e. absurd cc)
over_Decides (Some x) (Some y) = ((λ e. ap Some ((Decides-eqb x y).0 e)), (λ e. (Decides-eqb x y).1 cc))

hook_Decides : (a b : Bool) → Decides (beq a b) (a ≡ b)
hook_Decides true true = (λ e. refl, λ e. refl)
hook_Decides true false = (λ e. absurd (true≢false (sym e)), λ e. absurd (true≢false e))
hook_Decides false true = (λ e. absurd (true≢false (sym e)), λ e. absurd (true≢false (sym e)))
hook_Decides false false = (λ e. refl, λ e. refl)

signal_same : (a b : SignalView) → (a.name.now ≡ b.name.now) × (a.end ≡ b.end) → signal_shown a ≡ signal_shown b
signal_same a b h = λ i. record { name = h.0 i; over = h.1 i }

signal_parts : (a b : SignalView) → signal_shown a ≡ signal_shown b → (a.name.now ≡ b.name.now) × (a.end ≡ b.end)
signal_parts a b e = (ap (λ (s : SignalShown). s.name) e, ap (λ (s : SignalShown). s.over) e)

signal_Decides : (a b : SignalView) → Decides ((signals.ghosts).eq a b) (signal_shown a ≡ signal_shown b)
signal_Decides a b =
    Decides-like _ (signal_same a b) (signal_parts a b)
    (Decides-and _ _ (bytes_eq-Decides a.name.now b.name.now) (over_Decides a.end b.end))

-- `==` at two lists says whether they are the same, where it does so at their elements
same_Decides : {A : Type 0} (E : A → A → Bool) → ((a b : A) → Decides (E a b) (a ≡ b)) → (xs ys : List A)
    → Decides (pointwise E xs ys) (xs ≡ ys)
same_Decides E decides [] [] = (λ e. refl, λ e. refl)
same_Decides E decides [] (y ∷ ys) = (λ e. absurd (true≢false (sym e)), λ e. absurd cc)
same_Decides E decides (x ∷ xs) [] = (λ e. absurd (true≢false (sym e)), λ e. absurd cc)
same_Decides E decides (x ∷ xs) (y ∷ ys) =
    Decides-like _ (cons_same x y xs ys) (cons_parts x y xs ys) (Decides-and (E x y) (pointwise E xs ys) (decides x y) (same_Decides E decides xs ys))

-- what two connections show, part by part
abbrev AlikeConnections : ConnectionShown → ConnectionShown → Type 0
AlikeConnections a b =
    (a.number ≡ b.number) × ((a.mode ≡ b.mode) × ((a.codec ≡ b.codec) × ((a.packet_time ≡ b.packet_time)
    × ((a.local ≡ b.local) × ((a.remote ≡ b.remote) × (a.call ≡ b.call))))))

connection_same : (a b : ConnectionShown) → AlikeConnections a b → a ≡ b
connection_same a b h = λ i. record {
  number = h.0 i;
  mode = h.1.0 i;
  codec = h.1.1.0 i;
  packet_time = h.1.1.1.0 i;
  local = h.1.1.1.1.0 i;
  remote = h.1.1.1.1.1.0 i;
  call = h.1.1.1.1.1.1 i;
}

connection_parts : (a b : ConnectionShown) → a ≡ b → AlikeConnections a b
connection_parts a b e = (
  ap (λ (c : ConnectionShown). c.number) e,
  (
    ap (λ (c : ConnectionShown). c.mode) e,
    (
      ap (λ (c : ConnectionShown). c.codec) e,
      (
        ap (λ (c : ConnectionShown). c.packet_time) e,
        (
          ap (λ (c : ConnectionShown). c.local) e,
          (ap (λ (c : ConnectionShown). c.remote) e, ap (λ (c : ConnectionShown). c.call) e),
        ),
      ),
    ),
  ),
)

connection_Decides : (a b : ConnectionView) → Decides ((connections.ghosts).eq a b) (connection_shown a ≡ connection_shown b)
connection_Decides a b =
    Decides-like _ (connection_same (connection_shown a) (connection_shown b)) (connection_parts (connection_shown a) (connection_shown b))
    (Decides-and _ _ (Decides-eqb a.number b.number)
    (Decides-and _ _ (bytes_eq-Decides a.mode.now b.mode.now)
    (Decides-and _ _ (bytes_eq-Decides a.codec.now b.codec.now)
    (Decides-and _ _ (Decides-eqb a.packet_time b.packet_time)
    (Decides-and _ _ (same_Decides _ Decides-eqb a.local.items b.local.items)
    (Decides-and _ _ (same_Decides _ Decides-eqb a.remote.items b.remote.items)
    (same_Decides _ Decides-eqb a.call.items b.call.items)))))))

-- what two lines show, part by part
abbrev Alike : LineShown → LineShown → Type 0
Alike a b = (a.is_off_hook ≡ b.is_off_hook) × ((a.signals ≡ b.signals) × ((a.connections ≡ b.connections) × (a.lost ≡ b.lost)))

line_same : (a b : LineShown) → Alike a b → a ≡ b
line_same a b h = λ i. record { is_off_hook = h.0 i; signals = h.1.0 i; connections = h.1.1.0 i; lost = h.1.1.1 i }

line_parts : (a b : LineShown) → a ≡ b → Alike a b
line_parts a b e = (
  ap (λ (l : LineShown). l.is_off_hook) e,
  (
    ap (λ (l : LineShown). l.signals) e,
    (ap (λ (l : LineShown). l.connections) e, ap (λ (l : LineShown). l.lost) e),
  ),
)

line_Decides : (a b : LineView) → Decides ((lines.ghosts).eq a b) (line_shown a ≡ line_shown b)
line_Decides a b =
    Decides-like _ (line_same (line_shown a) (line_shown b)) (line_parts (line_shown a) (line_shown b))
    (Decides-and _ _ (hook_Decides a.is_off_hook b.is_off_hook)
    (Decides-and _ _ (seen_Decides _ signal_shown signal_Decides a.signals.items b.signals.items)
    (Decides-and _ _ (seen_Decides _ connection_shown connection_Decides a.connections.items b.connections.items)
    (Decides-eqb a.lost b.lost))))

-- `==` at lines says whether they show the same
pub lines_Decide : (xs ys : List LineView) → Decides (pointwise (lines.ghosts).eq xs ys) (map line_shown xs ≡ map line_shown ys)
lines_Decide xs ys = seen_Decides _ line_shown line_Decides xs ys
