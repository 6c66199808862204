-- What F asks for (RFC 3435, 2.3.10 and 2.3.11): items by the codes of their parameters, without case. That they are told in
-- the order of F, and one that is asked for twice once, is this gateway's profile.
use Rattle.std.specs.Prelude.{ℕ, Bool, is_some, if◌then◌else◌, List, [], ◌∷◌, ◌++◌, Option, Some, None}
use Rattle.std.specs.List.{list_any}
use Rattle.mg_bytes.specs.Case.{same_but_case}
use Rattle.mgcp_text.specs.declared.message.Param.{Param}
use Rattle.mgcp_text.specs.Message.{param_at}

-- whether this code is asked for
abbrev pub asks_for : List ℕ → List (List ℕ) → Bool
asks_for code items = list_any (same_but_case code) items

abbrev pub listed : Option Param → List Param
listed None = []
listed (Some param) = param ∷ []

-- a report with one more item, where that is known and isn't in it yet
abbrev pub with_item : List Param → List Param → List ℕ → List Param
with_item known report item = if is_some (param_at item report) then report else report ++ listed (param_at item known)

-- with more items, one after the other
unfoldable pub with_items : List Param → List Param → List (List ℕ) → List Param
with_items known report [] = report
with_items known report (item ∷ items) = with_items known (with_item known report item) items

-- of what is known that which is asked for
abbrev pub picked : List Param → List (List ℕ) → List Param
picked known items = with_items known [] items
