use Rattle.std.proofs.Common.{◌≡◌, true}
use Rattle.std.specs.List.{list_all}
use Rattle.mg_bytes.specs.Items.{items_of}
use Rattle.mgcp_text.specs.Writing.{is_writable_param}
use Rattle.audits.specs.Picking.{with_items}
use Rattle.audits.specs.Subject.{known_of}
use Rattle.audits.proofs.picking.put_items.Given as goal

abbrev pub invariant-loop-item : goal.invariant-loop-item
invariant-loop-item l = record {
  value : with_items (known_of l.subject) l.report l.items ≡ with_items (known_of l.subject) l.fn.report (items_of l.list);
  writable : list_all is_writable_param l.report ≡ true;
}
