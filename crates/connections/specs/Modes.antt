-- The mode of a connection (RFC 3435, 2.3.5 and 3.2.2, as far as this gateway serves it).
use Rattle.std.specs.Prelude.{ℕ, Bool, true, false, if◌then◌else◌, List, codes, Option, Some, None}
use Rattle.mg_bytes.specs.Case.{same_but_case}
use Rattle.connections.specs.declared.mode.Mode.{Mode}
use Rattle.connections.specs.declared.mode.Mode.TheVariants.{SendOnly, ReceiveOnly, SendReceive, Conference, Inactive}

abbrev pub mode_text : Mode → List ℕ
mode_text SendOnly = codes "sendonly"
mode_text ReceiveOnly = codes "recvonly"
mode_text SendReceive = codes "sendrecv"
mode_text Conference = codes "confrnce"
mode_text Inactive = codes "inactive"

-- the mode of this name, in any case
abbrev pub mode_named : List ℕ → Option Mode
mode_named name =
    if same_but_case name (codes "sendonly") then Some SendOnly else
    (if same_but_case name (codes "recvonly") then Some ReceiveOnly else
    (if same_but_case name (codes "sendrecv") then Some SendReceive else
    (if same_but_case name (codes "confrnce") then Some Conference else
    (if same_but_case name (codes "inactive") then Some Inactive else None))))

-- in this mode the gateway sends
abbrev pub sends : Mode → Bool
sends SendOnly = true
sends ReceiveOnly = false
sends SendReceive = true
sends Conference = true
sends Inactive = false
