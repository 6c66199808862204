-- What a command will make of the connections of a line, said before anything changes (RFC 3435, 2.3.5 to 2.3.7, 2.3.9).
use Rattle.std.specs.Prelude.{ℕ, Bool, if◌then◌else◌, List, [], ◌∷◌, Option, None, Result, Ok, Err}
use Rattle.connections.specs.declared.connection.Connection.{Connection}
use Rattle.connections.specs.declared.plan.Plan.{Plan}
use Rattle.connections.specs.declared.plan.Plan.TheVariants.{Stay, Begin, Renew, Empty}
use Rattle.connections.specs.declared.plan.Planned.{Planned}
use Rattle.connections.specs.Standing.{Standing, Left, placed, numbered}

-- what the places hold, once those hold nothing for which it is true
abbrev pub emptied : List Bool → List (Option Connection) → List (Option Connection)
emptied [] places = places
emptied (is ∷ more) [] = []
emptied (is ∷ more) (held ∷ others) = (if is then None else held) ∷ emptied more others

-- what stands once a plan is committed
abbrev pub committed : Plan → Standing → Standing
committed Stay standing = standing
committed (Begin place connection) standing = placed (numbered standing connection.number) place connection
committed (Renew place connection) standing = placed standing place connection
committed (Empty those) standing = record standing { places = emptied those standing.places }

-- what a command leaves and answers that was planned so
abbrev pub planned : {A : Type 0} → Result (Planned A) ℕ → Standing → Result (Left A) ℕ
planned (Ok made) standing = Ok (record { leaves = committed made.plan standing; answer = made.answer })
planned (Err code) standing = Err code

-- what one leaves that answers nothing
abbrev pub planned_alone : Result Plan ℕ → Standing → Result Standing ℕ
planned_alone (Ok plan) standing = Ok (committed plan standing)
planned_alone (Err code) standing = Err code
