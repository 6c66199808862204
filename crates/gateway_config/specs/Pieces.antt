-- Pieces of what is told of a configuration: what stands there, safe to be shown, and what a domain may be (this gateway's profile).
use Rattle.std.specs.Prelude.{ℕ, suc, ◌==◌, ◌||◌, Bool, true, false, ℤ, pos, unsigned_abs, int_lt, codes, if◌then◌else◌, List, [], ◌++◌, length, Option, Some, None}
use Rattle.toml.specs.Data.{Data, Items, no_items, item, as_array, as_bool, as_integer, as_str, type_name}
use Rattle.log_format.specs.Escaping.{shown}
use Rattle.log_format.specs.Grouping.{number_shown}
use Rattle.endpoint_names.specs.Table.{longest_domain}

-- a quote, where that is asked for, or where nothing would be seen
abbrev pub quote_around : Bool → List ℕ → List ℕ
quote_around quoted text = if quoted || length text == 0 then codes "\"" else []

abbrev pub text_shown : Bool → List ℕ → List ℕ
text_shown quoted text = quote_around quoted text ++ shown text ++ quote_around quoted text

abbrev pub sign_shown : ℤ → List ℕ
sign_shown number = if int_lt number (pos 0) then codes "-" else []

abbrev pub integer_shown : ℤ → List ℕ
integer_shown number = sign_shown number ++ number_shown (unsigned_abs number)

-- how many values a list has
abbrev pub item_count : Items → ℕ
item_count no_items = 0
item_count (item value values) = suc (item_count values)

-- of a list how many it has, else whether it is true or false, or its type
abbrev pub kind_by : Option Items → Option Bool → Data → List ℕ
kind_by (Some values) truth value = codes "a list of " ++ number_shown (item_count values)
kind_by None (Some true) value = codes "true"
kind_by None (Some false) value = codes "false"
kind_by None None value = codes "a " ++ type_name value

abbrev pub kind_shown : Data → List ℕ
kind_shown value = kind_by (as_array value) (as_bool value) value

-- a text, in quotes where another kind is wanted, a number, or of what kind it is
abbrev pub shown_by : Bool → Option (List ℕ) → Option ℤ → Data → List ℕ
shown_by quoted (Some text) number value = text_shown quoted text
shown_by quoted None (Some number) value = integer_shown number
shown_by quoted None None value = kind_shown value

abbrev pub value_shown : Bool → Data → List ℕ
value_shown quoted value = shown_by quoted (as_str value) (as_integer value) value

-- so many, from one on
abbrev pub up_to : ℕ → List ℕ → List ℕ
up_to longest words = codes "1 to " ++ number_shown longest ++ words

-- what a domain may be
abbrev pub domain_wanted : List ℕ
domain_wanted = up_to longest_domain (codes " letters, digits, \"-\" and \".\"")
