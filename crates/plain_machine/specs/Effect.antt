-- What a rule gives: what something becomes, and what is sent because of it. Of a post, of a line's endpoint, of the
-- endpoints and of the whole machine it is one record.
use Rattle.std.specs.Prelude.{List, [], ◌++◌}
use Rattle.plain_machine.specs.Message.{Sent}

pub record Effect (A : Type 0) : Type 0 where
  pub value : A
  pub sent : List Sent

-- nothing is sent
abbrev pub silently : {A : Type 0} → A → Effect A
silently value = record { value = value; sent = [] }

-- what becomes of a part, as this puts it into the whole
abbrev pub effect_map : {A B : Type 0} → (A → B) → Effect A → Effect B
effect_map whole effect = record { value = whole effect.value; sent = effect.sent }

-- these messages go out before its own
abbrev pub behind : {A : Type 0} → List Sent → Effect A → Effect A
behind sent effect = record { value = effect.value; sent = sent ++ effect.sent }

-- one thing, and then what comes after it
abbrev pub afterwards : {A B : Type 0} → Effect A → (A → Effect B) → Effect B
afterwards first next = behind first.sent (next first.value)
