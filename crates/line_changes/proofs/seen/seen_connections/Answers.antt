use Rattle.std.proofs.Common.{◌≡◌, ℕ, ◌+◌, ◌<◌, length, get_or, drop, List, ◌++◌, ap, sym, ◌∙◌, append_assoc}
use Rattle.std.specs.Prelude.{Option}
use Rattle.std.specs.declared.net.ipv4_addr.Ipv4Addr.{Ipv4Addr}
use Rattle.std.proofs.lemmas.List.{drop_more}
use Rattle.connections.specs.declared.connection.Connection.{Connection}
use Rattle.line_changes.specs.declared.seen.SeenConnection.{SeenConnection}
use Rattle.line_changes.specs.Seen.{next_port, seen_in_place, seen_from}
use Rattle.line_changes.proofs.seen.seen_connections.Goals as goal

-- what a place holds is put, and what the places behind it hold is left
goes_on : (address : Ipv4Addr) (port : ℕ) (places : List (Option Connection)) (place : ℕ) (held : Option Connection)
    (out next whole : List SeenConnection) → place < length places → held ≡ get_or places place held
    → next ≡ out ++ seen_in_place address port held → out ++ seen_from address port (drop place places) ≡ whole
    → next ++ seen_from address (next_port port) (drop (place + 1) places) ≡ whole
unfolding seen_from
goes_on address port places place held out next whole within is put so_far =
    ap (λ front. front ++ seen_from address (next_port port) (drop (place + 1) places)) put
    ∙ append_assoc out (seen_in_place address port held) (seen_from address (next_port port) (drop (place + 1) places))
    ∙ ap (λ one. out ++ (seen_in_place address port one ++ seen_from address (next_port port) (drop (place + 1) places))) is
    ∙ ap (λ left. out ++ seen_from address port left) (sym (drop_more places place held within))
    ∙ so_far

pub loop-held-preserved : goal.loop-held-preserved
loop-held-preserved c =
    rw (c.next_port-port.ensures)
    (goes_on _ _ _ _ _ _ _ _ c.loop-held-test.true c.held-item.is c.in_ok-put_seen.ensures c.loop-held.invariant)
