-- What is known of sockets: what was told of a site's, and of any by how a look at it failed.
use Rattle.std.specs.Prelude.{Bool, true, false, ◌||◌, List}
use Rattle.std.specs.List.{list_any}
use Rattle.std.specs.declared.io.ErrorKind.{ErrorKind}
use Rattle.std.specs.declared.io.ErrorKind.TheVariants.{WouldBlock}
use Rattle.live_system.specs.declared.readiness.Visit.{Visit}

-- nothing of one
abbrev pub no_visit : Visit
no_visit = record { is_readable = false; is_writable = false }

abbrev pub is_visit : Visit → Bool
is_visit visit = visit.is_readable || visit.is_writable

-- somebody may have come, or something was told of a visitor's socket
abbrev pub has_visits : Bool → List Visit → Bool
has_visits listener visits = listener || list_any is_visit visits

-- a socket may have something that failed so: only where a look would have waited it is empty
unfoldable pub may_have_more : ErrorKind → Bool
may_have_more WouldBlock = false
may_have_more kind = true
