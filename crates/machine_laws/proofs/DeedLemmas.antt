-- What a command to a line does to two gateways that are alike in that line, and what one to another line does.
use Rattle.std.proofs.Common.{◌≡◌, ◌≢◌, ℕ, Bool, true, false, ◌==◌, if◌then◌else◌, [], Option, Some, None, Result, Ok, Err, inl, inr, refl, sym, ap, subst, ◌∙◌, arith}
use Rattle.std.specs.Prelude.{◌⊎◌, option_map, option_and_then}
use Rattle.std.proofs.lemmas.Bool.Decides.{Decides-eqb}
use Rattle.mgcp_text.specs.Answer.{AnswerContent, plain_code}
use Rattle.mgcp_text.specs.declared.confirmation.KValue.{KValue}
use Rattle.endpoint_names.specs.Name.{name_of}
use Rattle.command_forms.specs.Codes.{target_for, target_in}
use Rattle.command_forms.specs.Command.{Command}
use Rattle.command_forms.specs.Meaning.{is_for}
use Rattle.command_forms.specs.Order.{form_while}
use Rattle.command_forms.specs.declared.forms.Asks.{Asks}
use Rattle.command_forms.specs.declared.forms.Asks.TheVariants.{Reports, Does}
use Rattle.command_forms.specs.declared.forms.Audit.{Audit}
use Rattle.command_forms.specs.declared.forms.AuditTarget.{AuditTarget}
use Rattle.command_forms.specs.declared.forms.AuditTarget.TheVariants as audits
use Rattle.command_forms.specs.declared.forms.Deed.{Deed}
use Rattle.command_forms.specs.declared.forms.Target.{Target}
use Rattle.command_forms.specs.declared.forms.Target.TheVariants.{One}
use Rattle.retransmission.specs.Restarting.{is_serving}
use Rattle.plain_machine.specs.declared.post.Post.{Post}
use Rattle.plain_machine.specs.declared.setup.Setup.{Setup}
use Rattle.plain_machine.specs.declared.endpoint.Endpoint.{Endpoint}
use Rattle.plain_machine.specs.Effect.{Effect, silently}
use Rattle.plain_machine.specs.Answering.{line_of_name}
use Rattle.plain_machine.specs.Commanding.{audited, answer_by, done_by, commanded}
use Rattle.plain_machine.specs.Done.{Done, only_answer}
use Rattle.plain_machine.specs.Machine.{Endpoints, serves, endpoint_at}
use Rattle.plain_machine.specs.Reporting.{line_report}
use Rattle.plain_machine.specs.Requesting.{refusal_by, refusal_on, deed_on, shown_on, shown_of, answer_with, deed_done}
use Rattle.machine_laws.specs.Refusals.{refusal_at, IsRefused, NoneRefuses}
use Rattle.machine_laws.proofs.DeedLaws.{refused_deed, refused_or_not, done_answer, done_endpoint, done_sent}
use Rattle.machine_laws.proofs.AnnouncementLaws.{deed_own as own_alone, AreAlike, ToldAlike, nothing_told, turn_alike}
use Rattle.machine_laws.proofs.OwningLemmas.{sent_from_each, all_there, turn_if, LineTurns, silent_stays, silent_sends, on_many_lines, deed_owned}
use Rattle.machine_laws.specs.Apart.{is_single}
use Rattle.machine_laws.specs.Belonging.{of_line}
use Rattle.machine_laws.proofs.TargetLemmas.{for_the_line, for_no_line}

-- both do the same to the line, and answer the same
pub record DoneAlike (line : ℕ) (one other : Done) : Type 0 where
  pub told : ToldAlike line one.told other.told
  pub answer : other.answer ≡ one.answer

pub only_alike : (line : ℕ) (one other : Endpoints) (a b : AnswerContent) → AreAlike line one other → b ≡ a → DoneAlike line (only_answer one a) (only_answer other b)
only_alike line one other a b alike same = record { told = nothing_told line one other alike; answer = same }

if_turned : (b : Bool) (turn : Endpoint → Effect Endpoint) (found : Option Endpoint)
    → option_map (λ (s : Endpoint). if b then (turn s).value else s) found ≡ option_map (λ (s : Endpoint). (turn_if b turn s).value) found
if_turned true turn found = refl
if_turned false turn found = refl

-- where none refuses it, a deed is each line's turn that it is for
done_turns : (setup : Setup) (endpoints : Endpoints) (target : Target) (deed : Deed) (moment line : ℕ) → NoneRefuses endpoints target deed
    → LineTurns line endpoints (turn_if (is_for target line) (deed_on setup deed moment line)) (deed_done setup endpoints target [] deed moment).told
done_turns setup endpoints target deed moment line none = record {
  endpoint = done_endpoint setup endpoints target [] deed moment line none
      ∙ if_turned (is_for target line) (deed_on setup deed moment line) (endpoint_at endpoints line);
  sent = ap (of_line line) (done_sent setup endpoints target [] deed moment none
      ∙ sym (sent_from_each (is_for target) 1 endpoints.list endpoints (deed_on setup deed moment) (all_there endpoints)))
      ∙ (on_many_lines (is_for target) (deed_on setup deed moment) (deed_owned setup deed moment) endpoints line).sent;
}

-- One line

apart_from : (line other : ℕ) → other ≢ line → (line == other) ≡ false
apart_from line other apart = by_test (line == other) refl where
  by_test : (b : Bool) → (line == other) ≡ b → b ≡ false
  by_test false e = refl
  by_test true e = absurd (apart (sym ((Decides-eqb line other).0 e)))

not_meant : (endpoints : Endpoints) (deed : Deed) (line other : ℕ) → other ≢ line → refusal_at endpoints (One line) deed other ≡ None
not_meant endpoints deed line other apart = by_endpoint (endpoint_at endpoints other) where
  by_endpoint : (found : Option Endpoint) → option_and_then (λ (s : Endpoint). refusal_on (One line) deed (other, s)) found ≡ None
  by_endpoint None = refl
  by_endpoint (Some endpoint) = ap (λ (b : Bool). if b then refusal_by deed endpoint else None) (apart_from line other apart)

abbrev one_refused : (endpoints : Endpoints) (deed : Deed) (line code : ℕ) → refusal_at endpoints (One line) deed line ≡ Some code → IsRefused endpoints (One line) deed
one_refused endpoints deed line code is = record {
  line = line;
  code = code;
  refuses = is;
  least = λ other less. not_meant endpoints deed line other (λ same. omega (arith, same, less));
}

none_refuses : (endpoints : Endpoints) (deed : Deed) (line : ℕ) → refusal_at endpoints (One line) deed line ≡ None → NoneRefuses endpoints (One line) deed
none_refuses endpoints deed line none other = by_test (other == line) refl where
  by_test : (b : Bool) → (other == line) ≡ b → refusal_at endpoints (One line) deed other ≡ None
  by_test true e = ap (refusal_at endpoints (One line) deed) ((Decides-eqb other line).0 e) ∙ none
  by_test false e = not_meant endpoints deed line other (λ same. (let t : (other == line) ≡ true = (Decides-eqb other line).1 same in absurd cc))

audit_of_one : (target : AuditTarget) (line : ℕ) → target_for target ≡ One line → target ≡ audits.One line
audit_of_one (audits.One n) line e = let same : n ≡ line = cc in ap audits.One same
audit_of_one audits.All line e = absurd cc

module _ (setup : Setup) (line : ℕ) (one other : Endpoints) (alike : AreAlike line one other) where
  -- a deed on the line
  deed_alike : (deed : Deed) (moment : ℕ)
      → DoneAlike line (deed_done setup one (One line) [] deed moment) (deed_done setup other (One line) [] deed moment)
  unfolding shown_of
  deed_alike deed moment = by_refusal (refusal_at one (One line) deed line) refl same where
    same : refusal_at other (One line) deed line ≡ refusal_at one (One line) deed line
    same = ap (λ (found : Option Endpoint). option_and_then (λ (s : Endpoint). refusal_on (One line) deed (line, s)) found) alike.endpoint

    by_refusal : (found : Option ℕ) → refusal_at one (One line) deed line ≡ found → refusal_at other (One line) deed line ≡ refusal_at one (One line) deed line
        → DoneAlike line (deed_done setup one (One line) [] deed moment) (deed_done setup other (One line) [] deed moment)
    by_refusal (Some code) is equal =
        let here = refused_deed setup one (One line) [] deed moment (one_refused one deed line code is) in
        let there = refused_deed setup other (One line) [] deed moment (one_refused other deed line code (equal ∙ is)) in
        subst (λ (d : Done). DoneAlike line d (deed_done setup other (One line) [] deed moment)) (sym here)
        (subst (λ (d : Done). DoneAlike line (only_answer one (plain_code code)) d) (sym there)
        (only_alike line one other (plain_code code) (plain_code code) alike refl))
    by_refusal None is equal =
        let here = none_refuses one deed line is in
        let there = none_refuses other deed line (equal ∙ is) in
        record {
          told = turn_alike line one other (turn_if (is_for (One line) line) (deed_on setup deed moment line)) _ _ alike
              (done_turns setup one (One line) deed moment line here) (done_turns setup other (One line) deed moment line there)
              (own_alone setup one (One line) [] deed moment) (own_alone setup other (One line) [] deed moment);
          answer = done_answer setup other (One line) [] deed moment there
              ∙ ap (λ (found : Option Endpoint). answer_with [] deed (shown_on found deed)) alike.endpoint
              ∙ sym (done_answer setup one (One line) [] deed moment here);
        }

  -- a report on the line
  report_alike : (id : ℕ) (audit : Audit)
      → DoneAlike line (only_answer one (answer_by (audited setup one id (audits.One line) audit))) (only_answer other (answer_by (audited setup other id (audits.One line) audit)))
  unfolding audited
  report_alike id audit =
      only_alike line one other _ _ alike (ap (λ (found : Option Endpoint). answer_by (line_report found id audit)) alike.endpoint)

  asks_alike : (asks : Result Asks ℕ) (moment id : ℕ) → ((target : AuditTarget) (audit : Audit) → asks ≡ Ok (Reports target audit) → target_for target ≡ One line)
      → ((target : Target) (deed : Deed) → asks ≡ Ok (Does target deed) → target ≡ One line)
      → DoneAlike line (done_by asks setup one moment id) (done_by asks setup other moment id)
  asks_alike (Err code) moment id reports does = only_alike line one other _ _ alike refl
  asks_alike (Ok (Reports target audit)) moment id reports does =
      subst (λ (t : AuditTarget). DoneAlike line (done_by (Ok (Reports t audit)) setup one moment id) (done_by (Ok (Reports t audit)) setup other moment id))
      (sym (audit_of_one target line (reports target audit refl))) (report_alike id audit)
  asks_alike (Ok (Does target deed)) moment id reports does =
      subst (λ (t : Target). DoneAlike line (done_by (Ok (Does t deed)) setup one moment id) (done_by (Ok (Does t deed)) setup other moment id))
      (sym (does target deed refl)) (deed_alike deed moment)

  -- a command whose name is of no line asks for nothing, and one whose name is of the line asks for it
  pub command_alike : (moment id : ℕ) (command : Command) (confirms : KValue)
      → is_single (name_of command.name setup.names.domain setup.names.lines) ≡ true
      → (named : Option ℕ) → line_of_name setup command.name ≡ named → ((n : ℕ) → named ≡ Some n → n ≡ line)
      → DoneAlike line (commanded setup one moment id command confirms) (commanded setup other moment id command confirms)
  command_alike moment id command confirms single named is own =
      subst (λ (b : Bool). DoneAlike line (commanded setup one moment id command confirms) (done_by (form_while b command confirms setup.names) setup other moment id))
      (sym serving) (asks_alike (form_while (serves one) command confirms setup.names) moment id
      (λ target audit e. by_name named is own (Reports target audit) e) (λ target deed e. by_name named is own (Does target deed) e)) where
        serving : serves other ≡ serves one
        serving = ap (λ (o : Post). is_serving o.restart) alike.own

        by_name : (named : Option ℕ) → line_of_name setup command.name ≡ named → ((n : ℕ) → named ≡ Some n → n ≡ line) → (asks : Asks)
            → form_while (serves one) command confirms setup.names ≡ Ok asks → target_in asks ≡ One line
        by_name None is own asks e = absurd (for_no_line setup (serves one) command confirms asks e single is)
        by_name (Some n) is own asks e = for_the_line setup (serves one) command confirms asks n e is ∙ ap One (own n refl)

-- Another line

module _ (setup : Setup) (line n : ℕ) (apart : (n == line) ≡ false) (one other : Endpoints) (alike : AreAlike line one other) where
  deed_elsewhere : (deed : Deed) (moment : ℕ) → ToldAlike line (deed_done setup one (One n) [] deed moment).told (silently other)
  deed_elsewhere deed moment = by_refusal (refused_or_not one (One n) deed) where
    by_refusal : IsRefused one (One n) deed ⊎ NoneRefuses one (One n) deed → ToldAlike line (deed_done setup one (One n) [] deed moment).told (silently other)
    by_refusal (inl refused) =
        subst (λ (d : Done). ToldAlike line d.told (silently other)) (sym (refused_deed setup one (One n) [] deed moment refused)) (nothing_told line one other alike)
    by_refusal (inr none) =
        let turns : LineTurns line one silently (deed_done setup one (One n) [] deed moment).told =
        subst (λ (b : Bool). LineTurns line one (turn_if b (deed_on setup deed moment line)) (deed_done setup one (One n) [] deed moment).told) apart
        (done_turns setup one (One n) deed moment line none) in
        turn_alike line one other silently (deed_done setup one (One n) [] deed moment).told (silently other) alike turns
        (record { endpoint = silent_stays (endpoint_at other line); sent = sym (silent_sends (endpoint_at other line)) })
        (own_alone setup one (One n) [] deed moment) refl

  asks_elsewhere : (asks : Result Asks ℕ) (moment id : ℕ) → ((target : Target) (deed : Deed) → asks ≡ Ok (Does target deed) → target ≡ One n)
      → ToldAlike line (done_by asks setup one moment id).told (silently other)
  asks_elsewhere (Err code) moment id does = nothing_told line one other alike
  asks_elsewhere (Ok (Reports target audit)) moment id does = nothing_told line one other alike
  asks_elsewhere (Ok (Does target deed)) moment id does =
      subst (λ (t : Target). ToldAlike line (done_by (Ok (Does t deed)) setup one moment id).told (silently other))
      (sym (does target deed refl)) (deed_elsewhere deed moment)

  pub command_elsewhere : (moment id : ℕ) (command : Command) (confirms : KValue) → line_of_name setup command.name ≡ Some n
      → ToldAlike line (commanded setup one moment id command confirms).told (silently other)
  command_elsewhere moment id command confirms named =
      asks_elsewhere (form_while (serves one) command confirms setup.names) moment id
      (λ target deed e. for_the_line setup (serves one) command confirms (Does target deed) n e named)
