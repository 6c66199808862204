-- Who watches in the worked examples, and what they were told.
use Rattle.std.specs.Prelude.{◌≡◌, ℕ, List, [], ◌∷◌, ◌++◌, Option, Some}
use Rattle.std.specs.declared.net.socket_addr.SocketAddr.{SocketAddr}
use Rattle.std.specs.declared.net.socket_addr.SocketAddr.TheVariants.{V4}
use Rattle.line_changes.specs.declared.watchers.Watcher.{Watcher}
use Rattle.line_changes.specs.Example.{at_port, watcher}

-- what was told so far, and to whom
abbrev pub Heard : Type 0
Heard = List (SocketAddr × List ℕ)

-- who is told something hears that
abbrev pub hears : Heard → SocketAddr → List ℕ → Heard → Type 0
hears before sender text after = after ≡ before ++ ((sender, text) ∷ [])

-- one watches up to moment 5
abbrev pub somebody : List (Option Watcher)
somebody = Some (watcher 1 5) ∷ []

-- and was told this
abbrev pub heard_once : List ℕ → Heard
heard_once text = (V4 (at_port 1 1), text) ∷ []
