use Rattle.std.proofs.Common.{◌≡◌, ◌++◌}
use Rattle.std.specs.Prelude.{None}
use Rattle.std.specs.List.{flat_map}
use Rattle.log_format.specs.declared.stamp.Way.TheVariants.{Came}
use Rattle.log_format.specs.Lines.{message_line}
use Rattle.mgcp_text.specs.Parts.{parts_of}
use Rattle.told_messages.proofs.spoiling.put_texts.Given as goal

abbrev pub invariant-loop-text : goal.invariant-loop-text
invariant-loop-text l =
    l.out.items ++ flat_map (λ text. message_line l.fn.domain l.fn.from Came text None) l.text-iterator
    ≡ l.fn.out.items ++ flat_map (λ text. message_line l.fn.domain l.fn.from Came text None) (parts_of l.fn.bytes)
