-- What is done at a telephone, as it is named and as the telephones' socket takes it.
use Rattle.std.specs.Prelude.{ℕ, Bool, ◌&&◌, ◌||◌, ◌==◌, nat_le, codes, decimal, if◌then◌else◌, List, [], ◌∷◌, ◌++◌, bytes_eq, Option, Some, None}
use Rattle.page_state.specs.declared.act.PhoneAct.{PhoneAct}
use Rattle.page_state.specs.declared.act.PhoneAct.TheVariants.{Off, On, Flash, Key}
use Rattle.page_state.specs.declared.act.QueuedAct.{QueuedAct}

-- a digit, `*`, `#`, or A to D
abbrev pub is_key : ℕ → Bool
is_key sign = (nat_le 48 sign && nat_le sign 57) || sign == 42 || sign == 35 || (nat_le 65 sign && nat_le sign 68)

abbrev pub key_named : List ℕ → Option PhoneAct
key_named [] = None
key_named (sign ∷ []) = if is_key sign then Some (Key sign) else None
key_named (sign ∷ next ∷ more) = None

-- `off`, `on`, `flash` or a key
abbrev pub act_named : List ℕ → Option PhoneAct
act_named word =
    if bytes_eq word (codes "off") then Some Off
    else if bytes_eq word (codes "on") then Some On
    else if bytes_eq word (codes "flash") then Some Flash
    else key_named word

abbrev pub act_word : PhoneAct → List ℕ
act_word Off = codes "off"
act_word On = codes "on"
act_word Flash = codes "flash"
act_word (Key sign) = sign ∷ []

-- the line of the telephones' socket that does it
abbrev pub act_line : QueuedAct → List ℕ
act_line queued = codes "phone " ++ decimal queued.line ++ codes " " ++ act_word queued.act
