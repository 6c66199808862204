-- The bounds that are told of the number at a key (this gateway's profile).
use Rattle.std.specs.Prelude.{ℕ, nat_le, Bool, true, ◌&&◌, Option, Some, None}
use Rattle.plain_machine.specs.declared.config.ConfigKey.{ConfigKey}
use Rattle.plain_machine.specs.declared.config.ConfigKey.TheVariants.{Domain, Lines, Names, Agent, RestartWait, DisconnectedWait, MediaAddress, MediaBase}
use Rattle.plain_machine.specs.Setup.{most_lines, shortest_wait, longest_wait, lowest_media_base, highest_media_base}
use Rattle.gateway_config.specs.declared.bounds.Bounds.{Bounds as Told}

abbrev pub from_to : ℕ → ℕ → Told
from_to least most = record { least = least; most = most }

-- those of a key's number
abbrev pub bounds_of : ConfigKey → Option Told
bounds_of Lines = Some (from_to 1 most_lines)
bounds_of RestartWait = Some (from_to shortest_wait longest_wait)
bounds_of DisconnectedWait = Some (from_to shortest_wait longest_wait)
bounds_of MediaBase = Some (from_to lowest_media_base highest_media_base)
bounds_of Domain = None
bounds_of Names = None
bounds_of Agent = None
bounds_of MediaAddress = None

-- a number is within what is told
abbrev pub within : Option Told → ℕ → Bool
within (Some bounds) n = nat_le bounds.least n && nat_le n bounds.most
within None n = true
