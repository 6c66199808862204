-- What a rule does.
use Rattle.std.specs.Prelude.{◌≡◌, List, ◌++◌}
use Rattle.plain_machine.specs.declared.label.OutMessage.{OutMessage}
use Rattle.plain_machine.specs.Labelling.{messages_of}
use Rattle.plain_machine.specs.Effect.{Effect}

-- something becomes what the effect says, and the messages grow by what it sends
pub record HasEffect {A : Type 0} (effect : Effect A) (becomes : A) (were are : List OutMessage) : Type 0 where
  pub value : becomes ≡ effect.value
  pub sent : are ≡ were ++ messages_of effect.sent
