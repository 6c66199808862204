-- What an agent takes of a line is what the commands of that line tell.
use Rattle.std.proofs.Common.{◌≡◌, ℕ, ◌≤◌, Bool, true, false, ◌==◌, if◌then◌else◌, List, [], ◌∷◌, ◌++◌, Result, inl, inr, refl, sym, ap, ◌∙◌, subst, arith, ◌+◌, ◌<◌, length}
use Rattle.std.specs.Prelude.{◌⊎◌, flat_map, filter}
use Rattle.std.proofs.lemmas.Grind.{flat_map-append}
use Rattle.mgcp_text.specs.declared.message.Message.TheVariants as messages
use Rattle.mgcp_text.specs.declared.message.Param.{Param}
use Rattle.mgcp_text.specs.declared.message.Verb.{Verb}
use Rattle.mgcp_text.specs.declared.message.Verb.TheVariants.{Ntfy, Rsip}
use Rattle.mgcp_text.specs.Reading.{Outcome, read_text}
use Rattle.mgcp_text.proofs.RoundLaws.{read_again}
use Rattle.endpoint_names.specs.declared.name.NameFault.{NameFault}
use Rattle.endpoint_names.specs.declared.name.Pattern.{Pattern}
use Rattle.endpoint_names.specs.declared.name.Pattern.TheVariants.{One}
use Rattle.endpoint_names.specs.Name.{name_text}
use Rattle.endpoint_names.proofs.WrittenLemmas.{line_read}
use Rattle.packages.specs.declared.observed.Observed.{Observed}
use Rattle.plain_machine.specs.declared.setup.Setup.{Setup}
use Rattle.plain_machine.specs.Answering.{line_meant}
use Rattle.plain_machine.specs.Message.{Begun, Owner, Said, answer, again, command, resent, acknowledgement, Sent}
use Rattle.plain_machine.specs.Posting.{line_of_id, numbers, id_on}
use Rattle.plain_machine.specs.Setup.{IsSetUp, most_lines}
use Rattle.call_agent.specs.Notified.{observed_with}
use Rattle.machine_laws.specs.Saying.{OneOf, begun_by, begun_at, begun_in}
use Rattle.machine_laws.proofs.EachLemmas.{Each, each_both, one_of_each, one_to}
use Rattle.world_laws.specs.Course.{notified_with}
use Rattle.world_laws.specs.Dialled.{told_along}
use Rattle.call_agent.specs.Taking.{command_of, taken_of, taken_on}
use Rattle.agent_core.specs.World.{agent_of}
use Rattle.world_laws.specs.Reached.{Reached, taken_of_command, taken_with, told_of}
use Rattle.world_laws.specs.Untaken.{told_as}
use Rattle.world_laws.proofs.WellLemmas.{IsNotice, IsOwn, SaysWell, IsWell}
use Rattle.world_laws.proofs.ToldLemmas.{told_by, is_mine}

-- it is a command of the line's own, by its id
abbrev pub is_of_line : ℕ → Reached → Bool
is_of_line line one = line_of_id one.asked.id == line

abbrev pub told_taken : Reached → List Observed
told_taken one = told_as one.outcome

-- a command of the gateway's own that was taken is this one, as it was sent
abbrev pub IsAsSent : Reached → Begun → Type 0
IsAsSent one b = (b.id ≡ one.asked.id) × (one.outcome ≡ read_text b.text)

module _ (setup : Setup) (set_up : IsSetUp setup) (line : ℕ) where
  -- what is taken of the line of a command's text
  abbrev TakenAs : Begun → Type 0
  TakenAs b = flat_map (told_of line) (taken_of_command (command_of (agent_of setup) (read_text b.text))) ≡ (if is_mine line b then told_by b else [])

  notice_taken : (n : ℕ) (params : List Param) → 1 ≤ n → n ≤ setup.names.lines
      → flat_map (told_of line) (taken_of (agent_of setup) Ntfy (name_text (One n) setup.names.domain) params) ≡ (if n == line then told_along (notified_with Ntfy params) else [])
  notice_taken n params some within =
      let lines : setup.names.lines ≤ most_lines = set_up.lines in
      ap (λ (name : Result Pattern NameFault). flat_map (told_of line) (taken_on (line_meant name) params)) (line_read n setup.names.lines setup.names.domain some within (omega (arith, lines)))
      ∙ by_test (n == line) where
        by_test : (b : Bool) → (if b then observed_with params else []) ++ [] ≡ (if b then told_along (notified_with Ntfy params) else [])
        by_test true = refl
        by_test false = refl

  own_taken : (owner : Owner) (verb : Verb) (id : ℕ) (name : List ℕ) (params : List Param) (body : List ℕ) → IsOwn setup owner verb id name params body
      → flat_map (told_of line) (taken_of (agent_of setup) verb name params) ≡ (if line_of_id id == line then told_along (notified_with verb params) else [])
  own_taken owner verb id name params body own = by_kind own.kind where
    none : (b : Bool) → ◌≡◌ {A = List Observed} [] (if b then [] else [])
    none true = refl
    none false = refl

    by_kind : IsNotice setup own.line verb name ⊎ (verb ≡ Rsip)
        → flat_map (told_of line) (taken_of (agent_of setup) verb name params) ≡ (if line_of_id id == line then told_along (notified_with verb params) else [])
    by_kind (inl is) =
        subst (λ (v : Verb). flat_map (told_of line) (taken_of (agent_of setup) v name params) ≡ (if line_of_id id == line then told_along (notified_with v params) else [])) (sym is.verb_is)
        (ap (λ (x : List ℕ). flat_map (told_of line) (taken_of (agent_of setup) Ntfy x params)) is.name_is
        ∙ notice_taken own.line params is.some is.within
        ∙ ap (λ (n : ℕ). if n == line then told_along (notified_with Ntfy params) else []) (sym own.id_of))
    by_kind (inr is) =
        subst (λ (v : Verb). flat_map (told_of line) (taken_of (agent_of setup) v name params) ≡ (if line_of_id id == line then told_along (notified_with v params) else [])) (sym is)
        (none (line_of_id id == line))

  said_taken : (owner : Owner) (moment : ℕ) (said : Said) → SaysWell setup owner said → Each TakenAs (begun_by moment said)
  said_taken owner moment (command (messages.Command verb id name params body)) well = (
    subst (λ (outcome : Outcome). flat_map (told_of line) (taken_of_command (command_of (agent_of setup) outcome)) ≡ (if line_of_id id == line then told_as outcome else []))
        (sym (read_again (messages.Command verb id name params body) well.writable)) (own_taken owner verb id name params body well),
    tt,
  )
  said_taken owner moment (command (messages.Response code id params body)) well = absurd well
  said_taken owner moment (answer response) well = tt
  said_taken owner moment (again id text) well = tt
  said_taken owner moment (resent message) well = tt
  said_taken owner moment (acknowledgement response) well = tt

  begun_taken : (sent : List Sent) → Each (IsWell setup) sent → Each TakenAs (begun_in sent)
  begun_taken [] well = tt
  begun_taken (one ∷ sent) well = each_both TakenAs (begun_at one) (begun_in sent) (said_taken one.owner one.moment one.said well.0) (begun_taken sent well.1)

  all_taken : (own : List Begun) (taken : List Reached) → Each TakenAs own → Each (λ (one : Reached). OneOf (IsAsSent one) own) taken
      → flat_map (told_of line) (flat_map (taken_with (agent_of setup)) taken) ≡ flat_map told_taken (filter (is_of_line line) taken)
  all_taken own [] each sent = refl
  all_taken own (one ∷ taken) each sent =
      flat_map-append (told_of line) (taken_with (agent_of setup) one) (flat_map (taken_with (agent_of setup)) taken)
      ∙ ap (λ (x : List Observed). x ++ flat_map (told_of line) (flat_map (taken_with (agent_of setup)) taken)) first
      ∙ ap (λ (x : List Observed). (if is_of_line line one then told_taken one else []) ++ x) (all_taken own taken each sent.1)
      ∙ by_test (is_of_line line one) where
        from : (b : Begun) → TakenAs b × IsAsSent one b → flat_map (told_of line) (taken_with (agent_of setup) one) ≡ (if is_of_line line one then told_taken one else [])
        from b both =
            ap (λ (outcome : Outcome). flat_map (told_of line) (taken_of_command (command_of (agent_of setup) outcome))) both.1.1 ∙ both.0
            ∙ ap (λ (id : ℕ). if line_of_id id == line then told_by b else []) both.1.0
            ∙ ap (λ (outcome : Outcome). if is_of_line line one then told_as outcome else []) (sym both.1.1)

        first : flat_map (told_of line) (taken_with (agent_of setup) one) ≡ (if is_of_line line one then told_taken one else [])
        first =
            one_to (λ (b : Begun). TakenAs b × IsAsSent one b) (flat_map (told_of line) (taken_with (agent_of setup) one) ≡ (if is_of_line line one then told_taken one else []))
            from own (one_of_each TakenAs (IsAsSent one) own each sent.0)

        by_test : (b : Bool) → (if b then told_taken one else []) ++ flat_map told_taken (filter (is_of_line line) taken)
            ≡ flat_map told_taken (if b then one ∷ filter (is_of_line line) taken else filter (is_of_line line) taken)
        by_test true = refl
        by_test false = refl

  -- what is taken of the line
  pub taken_tells : (sent : List Sent) (taken : List Reached) → Each (IsWell setup) sent → Each (λ (one : Reached). OneOf (IsAsSent one) (begun_in sent)) taken
      → flat_map (told_of line) (flat_map (taken_with (agent_of setup)) taken) ≡ flat_map told_taken (filter (is_of_line line) taken)
  taken_tells sent taken well each = all_taken (begun_in sent) taken (begun_taken sent well) each

-- The ids of a line's commands are numbered in turn: one comes again after almost all numbers.

-- this number is the next: one more, or one of the first two behind the greatest
abbrev pub Follows : ℕ → ℕ → Type 0
Follows number next = (next ≡ number + 1) ⊎ ((number + 1 ≡ numbers) × (next ≤ 1))

-- its id has this number in its line
abbrev pub HasNumber : ℕ → Begun → Type 0
HasNumber number b = (number < numbers) × (b.id ≡ id_on (line_of_id b.id) number)

-- from one number to the next that is free
abbrev pub Numbered : ℕ → List Begun → ℕ → Type 0
Numbered number [] free = number ≡ free
Numbered number (b ∷ begun) free = HasNumber number b × ((next : ℕ) × (Follows number next × Numbered next begun free))

pub numbered_front : (number : ℕ) (some more : List Begun) (free : ℕ) → Numbered number (some ++ more) free → (last : ℕ) × Numbered number some last
numbered_front number [] more free n = (number, refl)
numbered_front number (b ∷ some) more free n =
    let rest = numbered_front n.1.0 some more free n.1.1.1 in
    (rest.0, (n.0, (n.1.0, (n.1.1.0, rest.1))))

pub numbered_back : (number : ℕ) (some more : List Begun) (free : ℕ) → Numbered number (some ++ more) free → (first : ℕ) × Numbered first more free
numbered_back number [] more free n = (number, n)
numbered_back number (b ∷ some) more free n = numbered_back n.1.0 some more free n.1.1.1

-- one more
pub numbered_more : (number : ℕ) (begun : List Begun) (free : ℕ) (b : Begun) (next : ℕ) → Numbered number begun free → HasNumber free b → Follows free next → Numbered number (begun ++ b ∷ []) next
numbered_more number [] free b next n has follows = (subst (λ (x : ℕ). HasNumber x b) (sym n) has, (next, (subst (λ (x : ℕ). Follows x next) (sym n) follows, refl)))
numbered_more number (other ∷ begun) free b next n has follows = (n.0, (n.1.0, (n.1.1.0, numbered_more n.1.0 begun free b next n.1.1.1 has follows)))

-- from one number to another so many come between, or almost all
abbrev Reaches : ℕ → ℕ → ℕ → Type 0
Reaches number count other = (number + count ≡ other) ⊎ (numbers + other ≤ number + count + 1)

reaches : (number : ℕ) (between : List Begun) (b : Begun) (free : ℕ) → Numbered number (between ++ b ∷ []) free → (other : ℕ) × (HasNumber other b × Reaches number (length between) other)
reaches number [] b free n = (number, (n.0, inl (omega arith)))
reaches number (x ∷ between) b free n = on (reaches n.1.0 between b free n.1.1.1) where
  next : ℕ
  next = n.1.0

  by_next : (other : ℕ) → Follows number next → Reaches next (length between) other → Reaches number (length (x ∷ between)) other
  by_next other (inl one) (inl there) = inl (omega (arith, one, there))
  by_next other (inl one) (inr far) = inr (omega (arith, one, far))
  by_next other (inr last) (inl there) = inr (omega (arith, last.0, last.1, there))
  by_next other (inr last) (inr far) = inr (omega (arith, last.0, last.1, far))

  on : (other : ℕ) × (HasNumber other b × Reaches next (length between) other) → (other : ℕ) × (HasNumber other b × Reaches number (length (x ∷ between)) other)
  on rest = (rest.0, (rest.1.0, by_next rest.0 n.1.1.0 rest.1.1))

same_number : (line a b : ℕ) → id_on line a ≡ id_on line b → a ≡ b
same_number line a b is = omega (arith, is)

-- So between two commands with one id almost all numbers are used.
pub far_apart : (number : ℕ) (b : Begun) (between : List Begun) (last : Begun) (free : ℕ) → Numbered number (b ∷ between ++ last ∷ []) free → b.id ≡ last.id → 9999998 ≤ length between
far_apart number b between last free n same = by_next n.1.1.0 r.1.1 where
  next : ℕ
  next = n.1.0

  r : (other : ℕ) × (HasNumber other last × Reaches next (length between) other)
  r = reaches next between last free n.1.1.1

  is : number ≡ r.0
  is = same_number (line_of_id b.id) number r.0 (sym n.0.1 ∙ same ∙ r.1.0.1 ∙ ap (λ (id : ℕ). id_on (line_of_id id) r.0) (sym same))

  low : number < numbers
  low = n.0.0

  by_next : Follows number next → Reaches next (length between) r.0 → 9999998 ≤ length between
  by_next (inl one) (inl there) = absurd (omega (arith, one, there, is))
  by_next (inl one) (inr far) = omega (arith, one, far, is)
  by_next (inr end) (inl there) = omega (arith, end.0, end.1, there, is)
  by_next (inr end) (inr far) = omega (arith, end.0, end.1, far, is)
