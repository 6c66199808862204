-- How an agent issues a command (RFC 3435, 3.2.1 and 3.5.3).
use Rattle.std.specs.Prelude.{ℕ, ◌+◌, ◌&&◌, nat_lt, codes, decimal, if◌then◌else◌, Bool, List, [], ◌∷◌, ◌++◌, Option, Some, None}
use Rattle.mg_bytes.specs.Bytes.{space}
use Rattle.mgcp_text.specs.Reading.{read_text}
use Rattle.mgcp_text.specs.Packing.{is_joinable}
use Rattle.endpoint_names.specs.declared.route.Route.TheVariants.{One}
use Rattle.retransmission.specs.Flight.{sent_first}
use Rattle.transmission.specs.Texts.{largest_datagram}
use Rattle.retransmission.specs.Issued.{is_command_as}
use Rattle.transmission.specs.Transacting.{message_to}
use Rattle.call_agent.specs.declared.issuing.IssueFault.{IssueFault}
use Rattle.call_agent.specs.declared.issuing.IssueFault.TheVariants as faults
use Rattle.call_agent.specs.declared.setup.AgentSetup.{AgentSetup}
use Rattle.call_agent.specs.Agent.{AgentMachine, AgentEffect}

-- the line `verb id name MGCP 1.0`, and the bytes behind it
abbrev pub command_text : List ℕ → ℕ → List ℕ → List ℕ → List ℕ
command_text verb id name rest = verb ++ ((space ∷ decimal id) ++ ((space ∷ name) ++ (codes " MGCP 1.0\r\n" ++ rest)))

-- a text that can be issued: it ends in a line end, is one message, no longer than a datagram may be, and a command with
-- this id and name
abbrev pub is_good : ℕ → List ℕ → List ℕ → Bool
is_good id name text = is_joinable largest_datagram text && is_command_as id name (read_text text)

-- the greatest transaction id (RFC 3435, 3.2.1.2)
abbrev pub greatest_id : ℕ
greatest_id = 999999999

-- why a command isn't issued
pub data IssueRefusal : Type 0 where
  no_more_ids : IssueRefusal
  bad_command : IssueRefusal

-- under the id that is next
abbrev pub refusal_under : ℕ → List ℕ → List ℕ → List ℕ → Option IssueRefusal
refusal_under next verb name rest =
    if nat_lt greatest_id next then Some no_more_ids else
    (if is_good next name (command_text verb next name rest) then None else Some bad_command)

abbrev pub issue_refusal : AgentMachine → List ℕ → List ℕ → List ℕ → Option IssueRefusal
issue_refusal m verb name rest = refusal_under m.next verb name rest

-- the command goes out at once, and is in flight; the next has the next id
abbrev pub issued : AgentSetup → AgentMachine → List ℕ → AgentEffect
issued setup m text = record {
  machine = record m { next = m.next + 1; flights = m.flights ++ sent_first m.next (One setup.gateway) text m.now ∷ [] };
  sent = message_to setup.gateway m.now text ∷ [];
}

-- a fault's number, from 1
abbrev pub issue_fault_number : IssueFault → ℕ
issue_fault_number faults.OutOfMemory = 1
issue_fault_number faults.NoMoreIds = 2
issue_fault_number faults.BadCommand = 3
