-- What the worked examples speak of: what is told of a socket.
use Rattle.std.specs.Prelude.{true, false}
use Rattle.live_system.specs.declared.readiness.Visit.{Visit}

abbrev pub readable : Visit
readable = record { is_readable = true; is_writable = false }

abbrev pub writable : Visit
writable = record { is_readable = false; is_writable = true }
