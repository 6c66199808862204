-- What a rule leaves where memory is refused half way.
use Rattle.std.specs.Prelude.{◌≡◌, List}
use Rattle.plain_machine.specs.declared.label.OutMessage.{OutMessage}

-- Nothing goes out. The endpoint or the post that the rule was changing may be changed in part, and its owner undoes that: the
-- store has saved it before the rule began, and puts it back before the step ends, so nobody else sees it (`Store::change` and
-- `Store::rollback` of `endpoints`)
abbrev pub IsUndoneByItsOwner : List OutMessage → List OutMessage → Type 0
IsUndoneByItsOwner were are = are ≡ were
