-- What an EndpointConfiguration changes.
use Rattle.std.proofs.Common.{◌≡◌, ℕ, ◌+◌, ◌≤◌, Bool, true, false, ◌||◌, not, List, [], ◌∷◌, ◌++◌, codes, Option, Some, None, Result, Ok, Err, inl, inr, refl, sym, ap, ◌∙◌, arith, ⊎_elim}
use Rattle.std.specs.Prelude.{◌⊎◌, is_some, is_none, nat_lt}
use Rattle.std.specs.Char.{to_ascii_lowercase}
use Rattle.std.specs.Option.{unwrap_or}
use Rattle.std.specs.Str.{str_to_ascii_lowercase}
use Rattle.std.proofs.lemmas.Bool.{cases_Bool}
use Rattle.std.proofs.lemmas.Bool.Decides.{nat_tests}
use Rattle.std.proofs.lemmas.Slice.Eq.{bytes_eq-Decides}
use Rattle.mg_bytes.specs.Case.{same_but_case}
use Rattle.mg_bytes.specs.Checks.{unless, first_fault, checked}
use Rattle.mgcp_text.specs.declared.confirmation.KValue.{KValue}
use Rattle.mgcp_text.specs.declared.message.Param.{Param}
use Rattle.mgcp_text.specs.declared.message.Verb.TheVariants.{Epcf}
use Rattle.mgcp_text.specs.Message.{has_code, param_at}
use Rattle.connections.specs.declared.codec.Encoding.{Encoding}
use Rattle.endpoint_names.specs.declared.entity.Entity.{Entity}
use Rattle.endpoint_names.specs.declared.names.Names.{Names}
use Rattle.endpoint_names.specs.declared.table.Host.{Host}
use Rattle.command_forms.specs.declared.forms.Asks.{Asks}
use Rattle.command_forms.specs.declared.forms.Asks.TheVariants.{Does}
use Rattle.command_forms.specs.declared.forms.ConnectionDeed.{ConnectionDeed}
use Rattle.command_forms.specs.declared.forms.ConnectionDeed.TheVariants.{Keep, Create, Modify, Delete}
use Rattle.command_forms.specs.declared.forms.Deed.{Deed}
use Rattle.events_and_signals.specs.declared.request.Request.{Request}
use Rattle.command_forms.specs.declared.forms.Target.{Target}
use Rattle.command_forms.specs.declared.refused.FaultyPart.{FaultyPart}
use Rattle.command_forms.specs.declared.refused.FaultyPart.TheVariants.{Line}
use Rattle.command_forms.specs.declared.refused.Refused.{Refused}
use Rattle.command_forms.specs.declared.verbs.Connecting.TheVariants.{Keeps}
use Rattle.command_forms.specs.declared.verbs.Meant.{Meant}
use Rattle.command_forms.specs.declared.verbs.Purpose.TheVariants.{ForDeed}
use Rattle.command_forms.specs.declared.verbs.VerbRow.{VerbRow}
use Rattle.command_forms.specs.Codes.{connecting_in}
use Rattle.command_forms.specs.Command.{Command}
use Rattle.command_forms.specs.Meaning.{meant}
use Rattle.command_forms.specs.Order.{asked, form_of}
use Rattle.command_forms.specs.Refusing.{fault_at}
use Rattle.command_forms.specs.Params.{is_critical, is_ignored, is_taken, param_fault, params_fault}
use Rattle.command_forms.specs.Values.{entity_at}
use Rattle.command_forms.specs.Verbs.{row_of}
use Rattle.command_forms.proofs.RefusedLemmas.{coded_ok}
use Rattle.command_forms.proofs.FormLemmas.{name_first, asked_behind, row_is, deed_of_row, deed_has_values}
use Rattle.plain_machine.specs.declared.setup.Setup.{Setup}
use Rattle.plain_machine.specs.declared.endpoint.Endpoint.{Endpoint}
use Rattle.plain_machine.specs.Effect.{silently}
use Rattle.plain_machine.specs.Notifying.{noted}
use Rattle.plain_machine.specs.Connecting.{connected}
use Rattle.plain_machine.specs.Requesting.{refusal_by, deed_on}

-- A code that its row doesn't have stands nowhere

-- the code of one letter, in either case
abbrev IsLetter : ℕ → List ℕ → Type 0
IsLetter upper code = (code ≡ upper ∷ []) ⊎ (code ≡ (upper + 32) ∷ [])

lower_is : (b upper : ℕ) → 65 ≤ upper → upper ≤ 90 → to_ascii_lowercase b ≡ upper + 32 → (b ≡ upper) ⊎ (b ≡ upper + 32)
lower_is b upper low high e = ⊎_elim
    (λ (h : nat_lt b 65 ≡ true). let same : b ≡ upper + 32 = (rw h at e) in inr same)
    (λ (h : nat_lt b 65 ≡ false). ⊎_elim
    (λ (k : nat_lt b 91 ≡ true). let same : b + 32 ≡ upper + 32 = (rw (h, k) at e) in inl (omega arith))
    (λ (k : nat_lt b 91 ≡ false). let same : b ≡ upper + 32 = (rw (h, k) at e) in inr same)
    (cases_Bool (nat_lt b 91)))
    (cases_Bool (nat_lt b 65))

upper_lower : (upper : ℕ) → 65 ≤ upper → upper ≤ 90 → to_ascii_lowercase upper ≡ upper + 32
upper_lower upper low high =
    let one : nat_lt upper 65 ≡ false = grind (arith, nat_tests) in
    let two : nat_lt upper 91 ≡ true = grind (arith, nat_tests) in
    rw (one, two) refl

letter_is : (upper : ℕ) (code : List ℕ) → 65 ≤ upper → upper ≤ 90 → same_but_case code (upper ∷ []) ≡ true → IsLetter upper code
letter_is upper code low high same =
    by_code code ((bytes_eq-Decides (str_to_ascii_lowercase code) (str_to_ascii_lowercase (upper ∷ []))).0 same) where
      by_letter : (b : ℕ) → ((b ≡ upper) ⊎ (b ≡ upper + 32)) → IsLetter upper (b ∷ [])
      by_letter b (inl is) = inl (ap (λ (x : ℕ). x ∷ []) is)
      by_letter b (inr is) = inr (ap (λ (x : ℕ). x ∷ []) is)

      by_code : (code : List ℕ) → str_to_ascii_lowercase code ≡ to_ascii_lowercase upper ∷ [] → IsLetter upper code
      by_code [] e = absurd cc
      by_code (b ∷ []) e =
          let lower : to_ascii_lowercase b ≡ to_ascii_lowercase upper = cc in
          by_letter b (lower_is b upper low high (lower ∙ upper_lower upper low high))
      by_code (b ∷ c ∷ more) e = absurd cc

none_first : {F : Type 0} (fault : Option F) (rest : List (Option F)) → first_fault (fault ∷ rest) ≡ None → (fault ≡ None) × (first_fault rest ≡ None)
none_first None rest e = (refl, e)
none_first (Some found) rest e = absurd cc

taken_by : (critical taken again : Bool) → first_fault {F = ℕ} (unless (not critical) 511 ∷ unless taken 539 ∷ unless again 510 ∷ []) ≡ None → taken ≡ true
taken_by true taken again e = absurd cc
taken_by false true again e = refl
taken_by false false again e = absurd cc

taken_if_fine : (row : VerbRow) (before : List Param) (param : Param) → param_fault row before param ≡ None → (is_ignored param.code || is_taken row param.code) ≡ true
taken_if_fine row before param e =
    taken_by (is_critical param.code) (is_ignored param.code || is_taken row param.code) (is_ignored param.code || is_none (param_at param.code before)) e

-- the row doesn't have the code
abbrev Lacks : VerbRow → List ℕ → Type 0
Lacks row code = (other : List ℕ) → same_but_case other code ≡ true → (is_ignored other || is_taken row other) ≡ false

no_fault : (place : FaultyPart) (fault : Option ℕ) → fault_at place fault ≡ None → fault ≡ None
no_fault place None e = refl
no_fault place (Some code) e = absurd cc

lacking : (row : VerbRow) (code : List ℕ) (number : ℕ) (before params : List Param) → Lacks row code → params_fault row number before params ≡ None → param_at code params ≡ None
unfolding params_fault
lacking row code number before [] lacks e = refl
lacking row code number before (param ∷ params) lacks e =
    let both = none_first (fault_at (Line number) (param_fault row before param)) (params_fault row (number + 1) (before ++ param ∷ []) params ∷ []) e in
    let one = no_fault (Line number) (param_fault row before param) both.0 in
    let fine = none_first (params_fault row (number + 1) (before ++ param ∷ []) params) [] both.1 in
    ⊎_elim
    (λ (h : has_code code param ≡ true). absurd (let no : (is_ignored param.code || is_taken row param.code) ≡ false = lacks param.code h in
    let yes : (is_ignored param.code || is_taken row param.code) ≡ true = taken_if_fine row before param one in cc))
    (λ (h : has_code code param ≡ false). rw h (lacking row code (number + 1) (before ++ param ∷ []) params lacks fine.0))
    (cases_Bool (has_code code param))

abbrev row_in : Option VerbRow → VerbRow → VerbRow
row_in None other = other
row_in (Some row) other = row

-- that of an EndpointConfiguration lacks N and X
module _ (row : VerbRow) (is : row_of Epcf ≡ Some row) where
  same_row : (f : VerbRow → Bool) → f (row_in (row_of Epcf) row) ≡ f row
  same_row f = ap (λ (found : Option VerbRow). f (row_in found row)) is

  lacks_n : Lacks row (codes "N")
  lacks_n other same = by_letter other (letter_is 78 other (omega arith) (omega arith) same) where
    by_letter : (other : List ℕ) → IsLetter 78 other → (is_ignored other || is_taken row other) ≡ false
    by_letter other (inl e) = rw e (sym (same_row (λ (row : VerbRow). is_ignored (78 ∷ []) || is_taken row (78 ∷ []))))
    by_letter other (inr e) = rw e (sym (same_row (λ (row : VerbRow). is_ignored (110 ∷ []) || is_taken row (110 ∷ []))))

  lacks_x : Lacks row (codes "X")
  lacks_x other same = by_letter other (letter_is 88 other (omega arith) (omega arith) same) where
    by_letter : (other : List ℕ) → IsLetter 88 other → (is_ignored other || is_taken row other) ≡ false
    by_letter other (inl e) = rw e (sym (same_row (λ (row : VerbRow). is_ignored (88 ∷ []) || is_taken row (88 ∷ []))))
    by_letter other (inr e) = rw e (sym (same_row (λ (row : VerbRow). is_ignored (120 ∷ []) || is_taken row (120 ∷ []))))

-- What such a command asks for

checks_fine : (fault : Option Refused) (rest : List (Option Refused)) (next : Result Asks Refused) (asks : Asks) → checked (first_fault (fault ∷ rest)) next ≡ Ok asks → fault ≡ None
checks_fine None rest next asks e = refl
checks_fine (Some refused) rest next asks e = absurd cc

params_fine : (found : Meant) (params : List Param) (body : List ℕ) (confirms : KValue) (hosts : List Host) (asks : Asks) → asked found params body confirms hosts ≡ Ok asks
    → params_fault found.row 1 [] params ≡ None
unfolding asked
params_fine found params body confirms hosts asks e = checks_fine (params_fault found.row 1 [] params) _ _ asks e

keeps_is : (connections : ConnectionDeed) → connecting_in connections ≡ Keeps → connections ≡ Keep
keeps_is Keep e = refl
keeps_is (Create creation) e = absurd cc
keeps_is (Modify call id change) e = absurd cc
keeps_is (Delete deletion) e = absurd cc

nothing_there : (request : Option Request) → is_some request ≡ false → request ≡ None
nothing_there None e = refl
nothing_there (Some request) e = absurd cc

no_entity : (hosts : List Host) (found : Option Param) (entity : Option Entity) → found ≡ None → entity_at hosts found ≡ Ok entity → entity ≡ None
no_entity hosts found entity none e = let same : Ok None ≡ Ok entity = (rw none at e) in let it : None ≡ entity = cc in sym it

-- it gives no entity, keeps the connections and requests nothing
record OnlyEncodes (deed : Deed) : Type 0 where
  entity : deed.entity ≡ None
  connections : deed.connections ≡ Keep
  request : deed.request ≡ None

encodes : (command : Command) (confirms : KValue) (names : Names) (target : Target) (deed : Deed) → command.verb ≡ Epcf → form_of command confirms names ≡ Ok (Does target deed)
    → OnlyEncodes deed
encodes command confirms names target deed verb e = by_meant (meant command names) refl where
  by_meant : (said : Result Meant Refused) → meant command names ≡ said → OnlyEncodes deed
  by_meant (Err refused) means = absurd (let no : Err refused.code ≡ Ok (Does target deed) = sym (name_first command confirms names refused means) ∙ e in cc)
  by_meant (Ok found) means =
      let reads : asked found command.params command.body confirms names.table ≡ Ok (Does target deed) =
      coded_ok (asked found command.params command.body confirms names.table) (Does target deed) (sym (asked_behind command confirms names found means) ∙ e) in
      let row : row_of Epcf ≡ Some found.row = ap row_of (sym verb) ∙ row_is command names found means in
      let fine = params_fine found command.params command.body confirms names.table (Does target deed) reads in
      let n : param_at (codes "N") command.params ≡ None = lacking found.row (codes "N") 1 [] command.params (lacks_n found.row row) fine in
      let x : param_at (codes "X") command.params ≡ None = lacking found.row (codes "X") 1 [] command.params (lacks_x found.row row) fine in
      let values = deed_has_values command confirms names target deed e in
      let purpose : found.row.purpose ≡ ForDeed (connecting_in deed.connections) = deed_of_row command names found confirms target deed means reads in
      let keeps : ForDeed Keeps ≡ ForDeed (connecting_in deed.connections) =
      ap (λ (other : Option VerbRow). (row_in other found.row).purpose) row ∙ purpose in
      record {
        entity = no_entity names.table (param_at (codes "N") command.params) deed.entity n values.entity;
        connections = keeps_is deed.connections (let same : connecting_in deed.connections ≡ Keeps = cc in same);
        request = nothing_there deed.request (values.there ∙ ap is_some x);
      }

-- What it does on a line

abbrev only : Option Encoding → Deed
only encoding = record { entity = None; encoding = encoding; connections = Keep; request = None }

only_is : (deed : Deed) → OnlyEncodes deed → deed ≡ only deed.encoding
only_is deed is = by_parts deed.entity deed.connections deed.request is.entity is.connections is.request where
  by_parts : (entity : Option Entity) (connections : ConnectionDeed) (request : Option Request) → entity ≡ None → connections ≡ Keep → request ≡ None
      → (record { entity = entity; encoding = deed.encoding; connections = connections; request = request }) ≡ only deed.encoding
  by_parts entity connections request one two three = rw (one, two, three) refl

only_on : (setup : Setup) (encoding : Option Encoding) (moment line : ℕ) (endpoint : Endpoint)
    → deed_on setup (only encoding) moment line endpoint ≡ silently (record endpoint { encoding = unwrap_or encoding endpoint.encoding })
unfolding deed_on noted connected
only_on setup encoding moment line endpoint = refl

only_refused : (encoding : Option Encoding) (endpoint : Endpoint) → refusal_by (only encoding) endpoint ≡ None
unfolding connected
only_refused encoding endpoint = refl

pub encoding_alone : (setup : Setup) (command : Command) (confirms : KValue) (target : Target) (deed : Deed) (moment line : ℕ) (endpoint : Endpoint) → command.verb ≡ Epcf
    → form_of command confirms setup.names ≡ Ok (Does target deed)
    → deed_on setup deed moment line endpoint ≡ silently (record endpoint { encoding = unwrap_or deed.encoding endpoint.encoding })
encoding_alone setup command confirms target deed moment line endpoint verb e =
    ap (λ (d : Deed). deed_on setup d moment line endpoint) (only_is deed (encodes command confirms setup.names target deed verb e))
    ∙ only_on setup deed.encoding moment line endpoint

pub encoding_taken : (setup : Setup) (command : Command) (confirms : KValue) (target : Target) (deed : Deed) (endpoint : Endpoint) → command.verb ≡ Epcf
    → form_of command confirms setup.names ≡ Ok (Does target deed) → refusal_by deed endpoint ≡ None
encoding_taken setup command confirms target deed endpoint verb e =
    ap (λ (d : Deed). refusal_by d endpoint) (only_is deed (encodes command confirms setup.names target deed verb e)) ∙ only_refused deed.encoding endpoint
