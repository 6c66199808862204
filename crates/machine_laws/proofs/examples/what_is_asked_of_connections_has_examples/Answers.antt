use Rattle.std.proofs.Common.{◌≡◌, ℕ, zero, suc, ◌<◌, ◌++◌, codes, Option, Some, None, refl, ap, subst, arith}
use Rattle.std.proofs.lemmas.Option.{none-some}
use Rattle.std.specs.Prelude.{unwrap_or}
use Rattle.connections.specs.declared.connection.Connection.{Connection}
use Rattle.connections.specs.declared.deletion.Deletion.TheVariants as deletions
use Rattle.plain_machine.specs.declared.endpoint.Endpoint.{Endpoint}
use Rattle.plain_machine.specs.Calls.{connection_at}
use Rattle.plain_machine.specs.Example.{two_lines}
use Rattle.plain_machine.specs.Lists.{plain}
use Rattle.plain_machine.specs.Machine.{endpoint_at}
use Rattle.plain_machine.specs.Requesting.{refusal_by}
use Rattle.machine_laws.specs.Example.{deleting, first_called, second_deleted, two_created}
use Rattle.machine_laws.proofs.IsolationComputing.{on_examples}
use Rattle.machine_laws.proofs.examples.what_is_asked_of_connections_has_examples.Goals as goal

-- the number of a connection, if there is one
abbrev number_of : Option Connection → ℕ
number_of None = 0
number_of (Some connection) = connection.number

-- line 1 has its first connection alone
none_more : (place : ℕ) (connection : Connection) → connection_at (plain two_lines (two_created ++ second_deleted)) 1 place ≡ Some connection → connection.number ≡ 2 → ⊥
unfolding on_examples
none_more zero connection here has = absurd (let one : 1 ≡ connection.number = ap number_of here in omega (arith, one, has))
none_more (suc zero) connection here has = absurd (none-some connection here)
none_more (suc (suc zero)) connection here has = absurd (none-some connection here)
none_more (suc (suc (suc zero))) connection here has = absurd (none-some connection here)
none_more (suc (suc (suc (suc place)))) connection here has = absurd (none-some connection here)

-- line 1 has one of that call
none_lower : (other : ℕ) (another : Endpoint) → other < 2 → endpoint_at first_called other ≡ Some another → refusal_by (deleting (deletions.OfCall (codes "1A"))) another ≡ None
unfolding on_examples
none_lower zero another lower at = absurd (none-some another at)
none_lower (suc zero) another lower at = subst (λ (e : Endpoint). refusal_by (deleting (deletions.OfCall (codes "1A"))) e ≡ None) (ap (λ (o : Option Endpoint). unwrap_or o another) at) refl
none_lower (suc (suc other)) another lower at = absurd (omega (arith, lower))

-- all computed at once

pub returns : goal.returns
unfolding on_examples
returns c = record {
  places = refl;
  line = (_, refl);
  port = refl;
  other_port = refl;
  connection = refl;
  named = refl;
  stood = record { place = 1; connection = _; here = refl; has = refl };
  stands_no_more = λ is. none_more is.place is.connection is.here is.has;
  refused = refl;
  refused_command = refl;
  not_refused = refl;
  meant = refl;
  not_meant = refl;
  there = refl;
  other = refl;
  free = refl;
  encoding = refl;
  least_line = refl;
  refuses = refl;
  none_lower = none_lower;
  fine = λ line endpoint at. refl;
  chosen = refl;
  lower = refl;
  no_place = refl;
  full_line = refl;
}
