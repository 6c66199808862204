-- Where the gateway's announcement is answered: it serves from now on (RFC 3435, 2.3.12 and 4.4.1).
use Rattle.std.specs.Prelude.{ℕ}
use Rattle.mg_line.specs.Line.{LineState, LineDone, opening_line}
use Rattle.mg_line.specs.Detecting.{resumed}

-- from now on events occur, those first that are quarantined since the opening
unfoldable pub opened : LineState → ℕ → LineDone
opened line moment = resumed line moment

-- a line of a gateway that serves, to which nothing came before
abbrev pub ready_line : LineState
ready_line = (opened opening_line 0).line
