-- Where messages stand in the datagrams that they go out in.
use Rattle.std.proofs.Common.{◌≡◌, ℕ, suc, ◌+◌, ◌-◌, ◌≤◌, Bool, true, false, if◌then◌else◌, List, [], ◌∷◌, refl, ap, arith}
use Rattle.std.specs.Prelude.{nat_le}
use Rattle.std.proofs.lemmas.Bool.{leb-true, le-leb}
use Rattle.gateway_core.specs.declared.sent.SentMessage.{SentMessage}
use Rattle.gateway_core.specs.Outgoing.{dot_line, count_within}

-- where there is no room no message stands
pub none_within : (messages : List SentMessage) → count_within 0 messages ≡ 0
unfolding count_within
none_within [] = refl
none_within (message ∷ more) = by_room (nat_le (message.size + dot_line) 0) refl where
  by_room : (b : Bool) → nat_le (message.size + dot_line) 0 ≡ b
      → (if b then suc (count_within (0 - (message.size + dot_line)) more) else 0) ≡ 0
  by_room true has =
      let all : message.size + dot_line ≤ 0 = leb-true (message.size + dot_line) 0 has in
      absurd (omega (arith, all))
  by_room false has = refl

-- a message and its dot line take their bytes of the room
pub one_within : (message : SentMessage) (more : List SentMessage) (room left : ℕ) → room ≡ message.size + dot_line + left
    → count_within room (message ∷ more) ≡ suc (count_within left more)
unfolding count_within
one_within message more room left is =
    let all : message.size + dot_line ≤ room = omega (arith, is) in
    let rest : room - (message.size + dot_line) ≡ left = omega (arith, is) in
    rw (le-leb (message.size + dot_line) room all) (ap (λ (n : ℕ). suc (count_within n more)) rest)
