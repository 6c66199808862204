-- What is told of whether a gateway is well (RFC 9110, 15.3.1 and 15.6.4).
use Rattle.std.specs.Prelude.{ℕ, Bool, codes, if◌then◌else◌, List}

abbrev pub well_status : Bool → ℕ
well_status is_well = if is_well then 200 else 503

-- whether its loop has turned within the last second
abbrev pub alive_text : Bool → List ℕ
alive_text is_alive = if is_alive then codes "ok\n" else codes "the clock is behind\n"

-- whether its announcement was answered
abbrev pub ready_text : Bool → List ℕ
ready_text is_serving = if is_serving then codes "ready\n" else codes "no agent has answered yet\n"
