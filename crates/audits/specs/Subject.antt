-- What the code picks from: what is known of a line or of a connection.
use Rattle.std.specs.Prelude.{List}
use Rattle.mgcp_text.specs.declared.message.Param.{Param}
use Rattle.audits.specs.declared.picking.Subject.{Subject}
use Rattle.audits.specs.declared.picking.Subject.TheVariants.{Line, Connection}
use Rattle.audits.specs.Endpoint.{shown}
use Rattle.audits.specs.EndpointReport.{endpoint_params}
use Rattle.audits.specs.ConnectionReport.{connection_params}

unfoldable pub known_of : Subject → List Param
known_of (Line endpoint) = endpoint_params (shown endpoint)
known_of (Connection entity connection) = connection_params entity.now.text connection.now
