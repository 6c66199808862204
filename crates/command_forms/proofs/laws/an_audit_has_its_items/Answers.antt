use Rattle.command_forms.proofs.FormLemmas.{audit_has_items, audit_has_verb, audit_of_endpoint, audit_of_connection, audit_has_digits}
use Rattle.command_forms.proofs.laws.an_audit_has_its_items.Goals as goal

pub returns : goal.returns
returns c = record {
  items = audit_has_items;
  verb = audit_has_verb;
  endpoint = audit_of_endpoint;
  connection = audit_of_connection;
  digits = audit_has_digits;
}
