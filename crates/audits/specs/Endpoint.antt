-- What is audited of a line (RFC 3435, 2.3.10 and 2.3.11): the line itself, where its notifications go, its encoding and its
-- connections.
use Rattle.connections.specs.declared.codec.Encoding.{Encoding}
use Rattle.connections.specs.Standing.{Standing}
use Rattle.endpoint_names.specs.declared.entity.Entity.{Entity}
use Rattle.mg_line.specs.Line.{LineState}
use Rattle.audits.specs.declared.endpoint.AuditedEndpoint.{AuditedEndpoint as Borrowed}

pub record AuditedEndpoint : Type 0 where
  pub line : LineState
  -- where notifications go
  pub entity : Entity
  pub encoding : Encoding
  pub connections : Standing

-- what is audited, as the code borrows it
abbrev pub shown : Borrowed → AuditedEndpoint
shown endpoint = record {
  line = endpoint.line.now;
  entity = endpoint.entity.now;
  encoding = endpoint.encoding;
  connections = endpoint.connections.now;
}
