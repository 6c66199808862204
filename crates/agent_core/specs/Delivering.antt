-- Which end sent the packet that is to be handed over, or why it can't be.
use Rattle.std.specs.Prelude.{ℕ, ◌-◌, nat_lt, if◌then◌else◌, List, Option, Some, None, Result, Ok, Err, slice_get}
use Rattle.agent_core.specs.declared.packet.End.{End}
use Rattle.agent_core.specs.declared.packet.Posted.{Posted}
use Rattle.agent_core.specs.declared.step.StepRefusal.{StepRefusal}
use Rattle.agent_core.specs.declared.step.StepRefusal.TheVariants.{NoSuchPacket, PacketTooOld}
use Rattle.agent_core.specs.World.{oldest_packet}

abbrev pub sender_of : Option Posted → ℕ → Result End StepRefusal
sender_of None now = Err NoSuchPacket
sender_of (Some post) now = if nat_lt oldest_packet (now - post.packet.moment) then Err PacketTooOld else Ok post.end

abbrev pub sender_at : List Posted → ℕ → ℕ → Result End StepRefusal
sender_at posted number now = sender_of (slice_get posted number) now
