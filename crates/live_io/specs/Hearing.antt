-- What becomes of lines that come from who types, and to whom an answer goes.
use Rattle.std.specs.Prelude.{◌≡◌, ◌≤◌, ℕ, Bool, true, false, List, length, take, Option, Some, None}
use Rattle.std.specs.Vec.{vec_capacity}
use Rattle.std.specs.declared.net.socket_addr.SocketAddr.{SocketAddr}
use Rattle.std.specs.declared.net.socket_addr.SocketAddrV4.{SocketAddrV4}
use Rattle.mg_bytes.specs.Lines.{cut}
use Rattle.mg_bytes.specs.Lists.{is_empty}
use Rattle.live_io.specs.declared.lines.Lines.{Lines}
use Rattle.live_io.specs.Around.{Around}
use Rattle.live_io.specs.Requests.{requests_from, is_own}
use Rattle.live_io.specs.Typing.{left_of}

-- so many bytes of a datagram of lines are read; what is longer is cut off
abbrev pub most_typed : ℕ
most_typed = 4096

-- lines are left, from the first on that asks for something, of this sender or of nobody: all of them where there is room for them
pub record Begins (sender : Option SocketAddr) (text : List ℕ) (was is : Lines) : Type 0 where
  pub who : is.sender ≡ sender
  pub left : length text ≤ vec_capacity was.text → left_of is ≡ requests_from (cut text)

-- a datagram of lines has come: they are left, but nothing is made of one that came from the program's own sockets
pub record Takes (sockets : List SocketAddrV4) (source : SocketAddr) (text : List ℕ) (was is : Lines) : Type 0 where
  pub ours : is_own sockets source ≡ true → is ≡ was
  pub theirs : is_own sockets source ≡ false → Begins (Some source) text was is

-- what a look gave is taken; where it gave nothing, nothing is
abbrev pub Looked : List SocketAddrV4 → Option (SocketAddr × ℕ) → List ℕ → Lines → Bool → Lines → Type 0
Looked sockets None room was taken is = (taken ≡ false) × (is ≡ was)
Looked sockets (Some found) room was taken is = (taken ≡ true) × Takes sockets found.0 (take found.1 room) was is

-- Where a line is left, it isn't looked for more. Else it is looked once, with room for so much, and what that gives is taken.
pub record Hears {S : Type 0} (around : Around S) (before : S) (was : Lines) (taken : Bool) (after : S) (is : Lines) : Type 0 where
  pub waits : is_empty (left_of was) ≡ false → (taken ≡ false) × (is ≡ was) × (after ≡ before)
  pub looks : is_empty (left_of was) ≡ true → (found : Option (SocketAddr × ℕ)) × (room : List ℕ) × (length room ≡ most_typed)
      × around.hears before found room after × Looked (around.sockets after) found room was taken is

-- it is answered to who sent the lines; where nobody did, nobody is told
abbrev pub AnswersTo : {S : Type 0} → (S → SocketAddr → List ℕ → S → Type 0) → Option SocketAddr → S → List ℕ → S → Type 0
AnswersTo answers None before text after = after ≡ before
AnswersTo answers (Some sender) before text after = answers before sender text after
