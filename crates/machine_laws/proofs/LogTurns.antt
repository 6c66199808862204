-- What holds of each endpoint and of the gateway itself beside the commands that began so far, and of all that they send: what
-- does at each turn.
use Rattle.std.proofs.Common.{◌≡◌, ℕ, List, ◌++◌, sym, subst, append-nil, ◌≢◌, zero, suc, ◌+◌, ◌-◌, ◌≤◌, Bool, true, false, ◌==◌, if◌then◌else◌, [], ◌∷◌, Option, Some, None, Result, Ok, Err, inl, inr, refl, ap, ◌∙◌, arith, append_assoc}
use Rattle.plain_machine.specs.Message.{Begun, Sent}
use Rattle.plain_machine.specs.Effect.{Effect, silently, effect_map, behind}
use Rattle.plain_machine.specs.Posting.{line_of_id}
use Rattle.machine_laws.specs.Saying.{begun_in, begun_at}
use Rattle.machine_laws.proofs.EachLemmas.{Each, each_both, each_weaker}
use Rattle.std.specs.Prelude.{◌⊎◌, slice_get, slice_set}
use Rattle.std.proofs.lemmas.Bool.Decides.{Decides-eqb, nat_tests}
use Rattle.std.proofs.lemmas.Grind.{flat_map-append}
use Rattle.std.proofs.lemmas.Option.{none-some}
use Rattle.endpoint_names.specs.declared.entity.Entity.{Entity}
use Rattle.mgcp_text.specs.declared.confirmation.KValue.{KValue}
use Rattle.mgcp_text.specs.declared.message.Param.{Param}
use Rattle.command_forms.specs.declared.forms.Asks.{Asks}
use Rattle.command_forms.specs.declared.forms.Asks.TheVariants.{Reports, Does}
use Rattle.command_forms.specs.declared.forms.Deed.{Deed}
use Rattle.command_forms.specs.declared.forms.Target.{Target}
use Rattle.command_forms.specs.declared.forms.Target.TheVariants.{One, All as AllLines, Any as AnyLine}
use Rattle.command_forms.specs.Command.{Command}
use Rattle.command_forms.specs.Order.{form_of, form_while}
use Rattle.command_forms.proofs.RestartLemmas.{while_taken, while_none}
use Rattle.mg_line.specs.declared.phone.Act.{Act}
use Rattle.retransmission.specs.declared.heard.Heard.{Heard}
use Rattle.retransmission.specs.declared.heard.Heard.TheVariants.{Nothing, PutOff, Redirected, Answered}
use Rattle.timers.specs.declared.due_item.DueItem.{DueItem}
use Rattle.plain_machine.specs.declared.post.Post.{Post}
use Rattle.plain_machine.specs.declared.response.Response.{Response}
use Rattle.plain_machine.specs.declared.setup.Setup.{Setup}
use Rattle.plain_machine.specs.declared.endpoint.Endpoint.{Endpoint}
use Rattle.plain_machine.specs.Announcing.{heard_on, replied_on}
use Rattle.plain_machine.specs.Machine.{Endpoints, serves, endpoint_at, with_turn, turned_at, on_line, on_own, on_lines}
use Rattle.plain_machine.specs.Acting.{acted_on, acted}
use Rattle.plain_machine.specs.Falling.{due_on, post_due, first_due, due_by, happened_under, happened_on, happened, go_on, passed, room, pass}
use Rattle.plain_machine.specs.Done.{Done}
use Rattle.plain_machine.specs.Requesting.{refused_by, deed_on, lines_meant, unless_refused, deed_done, line_with_place, done_there, done_for}
use Rattle.plain_machine.specs.Commanding.{done_by, commanded}
use Rattle.plain_machine.specs.Responding.{responded_on, redirected_on, opened_on, lines_told, own_heard, responded}
use Rattle.machine_laws.proofs.AllLemmas.{OnAll}
use Rattle.machine_laws.proofs.TurnLemmas.{of_line}
use Rattle.plain_machine.proofs.FirstLemmas.{IsDueOn, first_on, by_moment, endpoint_is, post_line, endpoint_line}

-- What an effect keeps, beside the commands that began.

-- P of what it is of, Q of what is sent, and L of all that began; what begins with it is under ids of this line
pub record EffectKeeps {A : Type 0} (P : List Begun → A → Type 0) (Q : List Begun → Sent → Type 0) (L : List Begun → Type 0) (log : List Begun) (line : ℕ) (effect : Effect A) : Type 0 where
  pub log_holds : L (log ++ begun_in effect.sent)
  pub of : Each (λ (b : Begun). line_of_id b.id ≡ line) (begun_in effect.sent)
  pub holds : P (log ++ begun_in effect.sent) effect.value
  pub sent_holds : Each (Q (log ++ begun_in effect.sent)) effect.sent

-- nothing is sent
pub silent_keeps : {A : Type 0} (P : List Begun → A → Type 0) (Q : List Begun → Sent → Type 0) (L : List Begun → Type 0) (log : List Begun) (line : ℕ) (value : A)
    → L log → P log value → EffectKeeps P Q L log line (silently value)
silent_keeps P Q L log line value logged holds = record {
  log_holds = subst L (sym (append-nil log)) logged;
  of = tt;
  holds = subst (λ (x : List Begun). P x value) (sym (append-nil log)) holds;
  sent_holds = tt;
}

-- so is the whole, where it is so by what becomes of its part
pub whole_keeps : {A B : Type 0} (P : List Begun → A → Type 0) (R : List Begun → B → Type 0) (Q : List Begun → Sent → Type 0) (L : List Begun → Type 0) (log : List Begun) (line : ℕ)
    (whole : A → B) (effect : Effect A) → (P (log ++ begun_in effect.sent) effect.value → R (log ++ begun_in effect.sent) (whole effect.value)) → EffectKeeps P Q L log line effect
    → EffectKeeps R Q L log line (effect_map whole effect)
whole_keeps P R Q L log line whole effect becomes keeps =
    record { log_holds = keeps.log_holds; of = keeps.of; holds = becomes keeps.holds; sent_holds = keeps.sent_holds }

-- Of all endpoints from this line on

pub on_later : (P P' : ℕ → Endpoint → Type 0) (n : ℕ) (list : List Endpoint) → ((i : ℕ) (endpoint : Endpoint) → n ≤ i → P i endpoint → P' i endpoint) → OnAll P n list → OnAll P' n list
on_later P P' n [] step all = tt
on_later P P' n (endpoint ∷ list) step all =
    (step n endpoint (omega arith) all.0, on_later P P' (n + 1) list (λ i st low is. step i st (omega (arith, low)) is) all.1)

on_turned : (P P' : ℕ → Endpoint → Type 0) (n : ℕ) (list : List Endpoint) (place : ℕ) (endpoint : Endpoint)
    → ((i : ℕ) (other : Endpoint) → i ≢ n + place → P i other → P' i other) → P' (n + place) endpoint → OnAll P n list → OnAll P' n (slice_set list place endpoint)
on_turned P P' n [] place endpoint step is all = tt
on_turned P P' n (first ∷ list) zero endpoint step is all = (
  subst (λ (i : ℕ). P' i endpoint) (let e : n + zero ≡ n = omega arith in e) is,
  on_later P P' (n + 1) list (λ i st low holds. step i st (λ same. absurd (omega (arith, same, low))) holds) all.1,
)
on_turned P P' n (first ∷ list) (suc place) endpoint step is all =
    let here : n + suc place ≡ n + 1 + place = omega arith in (
      step n first (λ same. absurd (omega (arith, same))) all.0,
      on_turned P P' (n + 1) list place endpoint (λ i st other holds. step i st (λ same. other (same ∙ here)) holds) (subst (λ (i : ℕ). P' i endpoint) here is) all.1,
    )

-- What began with some messages, and with more

pub log_both : (log : List Begun) (some more : List Sent) → log ++ begun_in (some ++ more) ≡ (log ++ begun_in some) ++ begun_in more
log_both log some more =
    ap (λ (x : List Begun). log ++ x) (flat_map-append begun_at some more) ∙ sym (append_assoc log (begun_in some) (begun_in more))

-- What a turn keeps: P of a line, R of the gateway itself, Q of what is sent, and L of all that began

abbrev pub Good : (List Begun → ℕ → Endpoint → Type 0) → (List Begun → Sent → Type 0) → (List Begun → Type 0) → List Begun → ℕ → Effect Endpoint → Type 0
Good P Q L log line turn = EffectKeeps (λ (x : List Begun). P x line) Q L log line turn

abbrev pub OwnGood : (List Begun → Post → Type 0) → (List Begun → Sent → Type 0) → (List Begun → Type 0) → List Begun → Effect Post → Type 0
OwnGood R Q L log turn = EffectKeeps R Q L log 0 turn

-- each turn by this moment keeps what holds
pub record LogTurns (setup : Setup) (until : ℕ) (P : List Begun → ℕ → Endpoint → Type 0) (R : List Begun → Post → Type 0) (Q : List Begun → Sent → Type 0) (L : List Begun → Type 0) : Type 0 where
  pub act : (log : List Begun) (line : ℕ) (act : Act) (endpoint : Endpoint) → L log → P log line endpoint → Good P Q L log line (acted_on setup line until act endpoint)
  pub deed : (command : Command) (confirms : KValue) (target : Target) (deed : Deed) → form_of command confirms setup.names ≡ Ok (Does target deed)
      → (log : List Begun) (line : ℕ) (endpoint : Endpoint) → L log → P log line endpoint → Good P Q L log line (deed_on setup deed until line endpoint)
  pub response : (log : List Begun) (line : ℕ) (response : Response) (endpoint : Endpoint) → L log → P log line endpoint → Good P Q L log line (responded_on setup line until response endpoint)
  pub happening : (log : List Begun) (line : ℕ) (item : DueItem) (endpoint : Endpoint) → L log → P log line endpoint → due_on (line, endpoint) ≡ Some item → item.moment ≤ until
      → Good P Q L log line (happened_on item.kind setup line item.moment endpoint)
  pub redirecting : (log : List Begun) (agent : Entity) (line : ℕ) (endpoint : Endpoint) → L log → P log line endpoint → Good P Q L log line (redirected_on agent line endpoint)
  pub opening : (log : List Begun) (agent : Option Entity) (line : ℕ) (endpoint : Endpoint) → L log → P log line endpoint → Good P Q L log line (opened_on agent setup until line endpoint)
  pub own_response : (log : List Begun) (response : Response) (own : Post) → L log → R log own → OwnGood R Q L log (replied_on setup 0 until response own)
  pub own_happening : (log : List Begun) (item : DueItem) (own : Post) → L log → R log own → post_due 0 own ≡ Some item → item.moment ≤ until
      → OwnGood R Q L log (happened_under item.kind setup 0 item.moment own)
  -- what others begin changes nothing of it
  pub others : (log new : List Begun) (line : ℕ) (endpoint : Endpoint) → Each (λ (b : Begun). line_of_id b.id ≢ line) new → P log line endpoint → P (log ++ new) line endpoint
  pub own_others : (log new : List Begun) (own : Post) → Each (λ (b : Begun). line_of_id b.id ≢ 0) new → R log own → R (log ++ new) own
  pub more : (log new : List Begun) (sent : Sent) → Q log sent → Q (log ++ new) sent

module _ (setup : Setup) (until : ℕ) (P : List Begun → ℕ → Endpoint → Type 0) (R : List Begun → Post → Type 0) (Q : List Begun → Sent → Type 0) (L : List Begun → Type 0)
    (turns : LogTurns setup until P R Q L) where
  pub record Stands (log : List Begun) (endpoints : Endpoints) : Type 0 where
    pub log_holds : L log
    pub list : OnAll (P log) 1 endpoints.list
    pub own : R log endpoints.own

  pub record Goes (log : List Begun) (is : Effect Endpoints) : Type 0 where
    pub stands : Stands (log ++ begun_in is.sent) is.value
    pub sent : Each (Q (log ++ begun_in is.sent)) is.sent

  stays : (log : List Begun) (endpoints : Endpoints) → Stands log endpoints → Goes log (silently endpoints)
  stays log endpoints s = record { stands = subst (λ (x : List Begun). Stands x endpoints) (sym (append-nil log)) s; sent = tt }

  -- one thing, and then what comes after it
  both_go : (log : List Begun) (first next : Effect Endpoints) → Goes log first → Goes (log ++ begun_in first.sent) next → Goes log (behind first.sent next)
  both_go log first next one two =
      let is = sym (log_both log first.sent next.sent) in
      record {
        stands = subst (λ (x : List Begun). Stands x next.value) is two.stands;
        sent = subst (λ (x : List Begun). Each (Q x) (first.sent ++ next.sent)) is
            (each_both (Q ((log ++ begun_in first.sent) ++ begun_in next.sent)) first.sent next.sent
            (each_weaker (Q (log ++ begun_in first.sent)) (Q ((log ++ begun_in first.sent) ++ begun_in next.sent))
            (λ sent is. turns.more (log ++ begun_in first.sent) (begun_in next.sent) sent is) first.sent one.sent)
            two.sent);
      }

  turned : (log : List Begun) (endpoints : Endpoints) (line : ℕ) (endpoint : Endpoint) (turn : Effect Endpoint) → Stands log endpoints → endpoint_at endpoints line ≡ Some endpoint
      → Good P Q L log line turn → Goes log (with_turn endpoints line turn)
  turned log endpoints line endpoint turn s at good = by_zero (line == 0) refl at where
    one_more : (line == 0) ≡ false → line ≡ 1 + (line - 1)
    one_more some = grind (arith, nat_tests)

    by_zero : (b : Bool) → (line == 0) ≡ b → (if b then None else slice_get endpoints.list (line - 1)) ≡ Some endpoint → Goes log (with_turn endpoints line turn)
    by_zero true e at = absurd (none-some endpoint at)
    by_zero false e at = record {
      stands = record {
        log_holds = good.log_holds;
        list = on_turned (P log) (P (log ++ begun_in turn.sent)) 1 endpoints.list (line - 1) turn.value
            (λ i other apart holds. turns.others log (begun_in turn.sent) i other
            (each_weaker (λ (b : Begun). line_of_id b.id ≡ line) (λ (b : Begun). line_of_id b.id ≢ i) (λ b of. λ same. apart (sym same ∙ of ∙ one_more e)) (begun_in turn.sent) good.of) holds)
            (subst (λ (i : ℕ). P (log ++ begun_in turn.sent) i turn.value) (one_more e) good.holds) s.list;
        own = turns.own_others log (begun_in turn.sent) endpoints.own
            (each_weaker (λ (b : Begun). line_of_id b.id ≡ line) (λ (b : Begun). line_of_id b.id ≢ 0)
            (λ b of. λ none. absurd (let some : line ≡ 1 + (line - 1) = one_more e in omega (arith, of, none, some))) (begun_in turn.sent) good.of)
            s.own;
      };
      sent = good.sent_holds;
    }

  abbrev LineGoes : List Begun → ℕ → (Endpoint → Effect Endpoint) → Type 0
  LineGoes log line turn = (endpoint : Endpoint) → L log → P log line endpoint → Good P Q L log line (turn endpoint)

  turned_goes : (log : List Begun) (endpoints : Endpoints) (line : ℕ) (turn : Endpoint → Effect Endpoint) → Stands log endpoints → LineGoes log line turn → Goes log (on_line endpoints line turn)
  unfolding on_line
  turned_goes log endpoints line turn s good = by_endpoint (endpoint_at endpoints line) refl where
    by_endpoint : (found : Option Endpoint) → endpoint_at endpoints line ≡ found → Goes log (turned_at found endpoints line turn)
    by_endpoint None e = stays log endpoints s
    by_endpoint (Some endpoint) e = turned log endpoints line endpoint _ s e (good endpoint s.log_holds (of_line (P log) endpoints line endpoint s.list e))

  -- the gateway itself has its turn
  own_turned : (log : List Begun) (endpoints : Endpoints) (turn : Post → Effect Post) → Stands log endpoints → OwnGood R Q L log (turn endpoints.own) → Goes log (on_own endpoints turn)
  own_turned log endpoints turn s good = record {
    stands = record {
      log_holds = good.log_holds;
      list = on_later (P log) (P (log ++ begun_in (turn endpoints.own).sent)) 1 endpoints.list
          (λ i endpoint low holds. turns.others log (begun_in (turn endpoints.own).sent) i endpoint
          (each_weaker (λ (b : Begun). line_of_id b.id ≡ 0) (λ (b : Begun). line_of_id b.id ≢ i) (λ b of. λ same. absurd (omega (arith, of, same, low))) (begun_in (turn endpoints.own).sent) good.of) holds)
          s.list;
      own = good.holds;
    };
    sent = good.sent_holds;
  }

  -- several lines have theirs
  several_go : (lines : List ℕ) (log : List Begun) (endpoints : Endpoints) (turn : ℕ → Endpoint → Effect Endpoint) → Stands log endpoints → ((log : List Begun) (line : ℕ) → LineGoes log line (turn line))
      → Goes log (on_lines lines endpoints turn)
  unfolding on_lines
  several_go [] log endpoints turn s good = stays log endpoints s
  several_go (line ∷ lines) log endpoints turn s good =
      let first = turned_goes log endpoints line (turn line) s (good log line) in
      let here = on_line endpoints line (turn line) in
      both_go log here (on_lines lines here.value turn) first (several_go lines (log ++ begun_in here.sent) here.value turn first.stands good)

  pub acted_goes : (log : List Begun) (endpoints : Endpoints) (line : ℕ) (act : Act) → Stands log endpoints → Goes log (acted setup endpoints line until act)
  acted_goes log endpoints line act s = turned_goes log endpoints line (acted_on setup line until act) s (λ endpoint holds has. turns.act log line act endpoint holds has)

  -- A response

  lines_go : (heard : Heard) (log : List Begun) (endpoints : Endpoints) → Stands log endpoints → Goes log (lines_told heard setup until endpoints)
  lines_go Nothing log endpoints s = stays log endpoints s
  lines_go PutOff log endpoints s = stays log endpoints s
  lines_go (Redirected agent) log endpoints s =
      several_go (lines_meant endpoints AllLines) log endpoints (redirected_on agent) s (λ log line endpoint holds has. turns.redirecting log agent line endpoint holds has)
  lines_go (Answered agent) log endpoints s =
      several_go (lines_meant endpoints AllLines) log endpoints (opened_on agent setup until) s (λ log line endpoint holds has. turns.opening log agent line endpoint holds has)

  own_heard_goes : (log : List Begun) (endpoints : Endpoints) (response : Response) → Stands log endpoints → Goes log (own_heard setup endpoints until response)
  own_heard_goes log endpoints response s =
      let first = own_turned log endpoints (replied_on setup 0 until response) s (turns.own_response log response endpoints.own s.log_holds s.own) in
      let here = on_own endpoints (replied_on setup 0 until response) in
      both_go log here (lines_told (heard_on endpoints.own response) setup until here.value) first
      (lines_go (heard_on endpoints.own response) (log ++ begun_in here.sent) here.value first.stands)

  pub responded_goes : (log : List Begun) (endpoints : Endpoints) (response : Response) → Stands log endpoints → Goes log (responded setup endpoints until response)
  responded_goes log endpoints response s = by_test (line_of_id response.id == 0) where
    by_test : (b : Bool) → Goes log (if b then own_heard setup endpoints until response
        else on_line endpoints (line_of_id response.id) (responded_on setup (line_of_id response.id) until response))
    by_test true = own_heard_goes log endpoints response s
    by_test false = turned_goes log endpoints (line_of_id response.id) (responded_on setup (line_of_id response.id) until response) s
        (λ endpoint holds has. turns.response log (line_of_id response.id) response endpoint holds has)

  -- What falls due

  happened_goes : (log : List Begun) (endpoints : Endpoints) (item : DueItem) → due_by endpoints until ≡ Some item → Stands log endpoints → Goes log (happened setup endpoints item)
  unfolding on_line
  happened_goes log endpoints item due s = by_case (first_on endpoints item by.0) where
    by : (first_due endpoints ≡ Some item) × (item.moment ≤ until)
    by = by_moment endpoints until item due

    Happens : Bool → Type 0
    Happens b = Goes log (if b then on_own endpoints (happened_under item.kind setup 0 item.moment) else on_line endpoints item.line (happened_on item.kind setup item.line item.moment))

    at_endpoint : (on : IsDueOn 1 endpoints.list item) → Goes log (on_line endpoints item.line (happened_on item.kind setup item.line item.moment))
    at_endpoint on =
        let at = endpoint_is endpoints item on in
        subst (λ (found : Option Endpoint). Goes log (turned_at found endpoints item.line (happened_on item.kind setup item.line item.moment))) (sym at)
        (turned log endpoints item.line on.endpoint _ s at
        (turns.happening log item.line item on.endpoint s.log_holds (of_line (P log) endpoints item.line on.endpoint s.list at) on.due by.1))

    by_case : (post_due 0 endpoints.own ≡ Some item) ⊎ IsDueOn 1 endpoints.list item → Happens (item.line == 0)
    by_case (inl is) = subst Happens (sym ((Decides-eqb item.line 0).1 (post_line 0 endpoints.own item is)))
        (own_turned log endpoints (happened_under item.kind setup 0 item.moment) s (turns.own_happening log item endpoints.own s.log_holds s.own is by.1))
    by_case (inr on) = subst Happens (sym (endpoint_line endpoints item on)) (at_endpoint on)

  passed_goes : (n : ℕ) (log : List Begun) (endpoints : Endpoints) → Stands log endpoints → Goes log (passed n setup endpoints until)
  unfolding passed
  passed_goes zero log endpoints s = stays log endpoints s
  passed_goes (suc n) log endpoints s = by_due (due_by endpoints until) refl
      (λ item goes. passed_goes n (log ++ begun_in (happened setup endpoints item).sent) (happened setup endpoints item).value goes.stands) where
        by_due : (found : Option DueItem) → due_by endpoints until ≡ found
            → ((item : DueItem) → (goes : Goes log (happened setup endpoints item)) → Goes (log ++ begun_in (happened setup endpoints item).sent) (passed n setup (happened setup endpoints item).value until))
            → Goes log (go_on found setup endpoints (λ next. passed n setup next until))
        by_due None e rest = stays log endpoints s
        by_due (Some item) e rest =
            let first = happened_goes log endpoints item e s in
            both_go log (happened setup endpoints item) (passed n setup (happened setup endpoints item).value until) first (rest item first)

  pub pass_goes : (log : List Begun) (endpoints : Endpoints) → Stands log endpoints → Goes log (pass setup endpoints until)
  unfolding pass
  pass_goes log endpoints s = passed_goes (room endpoints until) log endpoints s

  -- A command

  unless_goes : (log : List Begun) (refusal : Option ℕ) (endpoints : Endpoints) (done : Done) → Stands log endpoints → Goes log done.told → Goes log (unless_refused refusal endpoints done).told
  unless_goes log None endpoints done s goes = goes
  unless_goes log (Some code) endpoints done s goes = stays log endpoints s

  abbrev DeedGoes : Deed → Type 0
  DeedGoes deed = (log : List Begun) (line : ℕ) → LineGoes log line (deed_on setup deed until line)

  deed_goes : (log : List Begun) (endpoints : Endpoints) (lines : Target) (more : List Param) (deed : Deed) → Stands log endpoints → DeedGoes deed
      → Goes log (deed_done setup endpoints lines more deed until).told
  deed_goes log endpoints lines more deed s good =
      unless_goes log (refused_by endpoints lines deed) endpoints _ s (several_go (lines_meant endpoints lines) log endpoints (deed_on setup deed until) s good)

  target_goes : (log : List Begun) (endpoints : Endpoints) (target : Target) (deed : Deed) → Stands log endpoints → DeedGoes deed → Goes log (done_for setup endpoints target deed until).told
  target_goes log endpoints (One line) deed s good = deed_goes log endpoints (One line) [] deed s good
  target_goes log endpoints AllLines deed s good = deed_goes log endpoints AllLines [] deed s good
  target_goes log endpoints AnyLine deed s good = by_line (line_with_place endpoints) where
    by_line : (found : Option ℕ) → Goes log (done_there found setup endpoints deed until).told
    by_line None = stays log endpoints s
    by_line (Some line) = deed_goes log endpoints (One line) _ deed s good

  form_goes : (serving : Bool) (command : Command) (confirms : KValue) (asks : Result Asks ℕ) → form_while serving command confirms setup.names ≡ asks
      → (log : List Begun) (endpoints : Endpoints) (id : ℕ) → Stands log endpoints → Goes log (done_by asks setup endpoints until id).told
  form_goes serving command confirms (Err code) is log endpoints id s = stays log endpoints s
  form_goes serving command confirms (Ok (Reports target audit)) is log endpoints id s = stays log endpoints s
  form_goes false command confirms (Ok (Does target deed)) is log endpoints id s = absurd (while_none command confirms setup.names target deed is)
  form_goes true command confirms (Ok (Does target deed)) is log endpoints id s =
      target_goes log endpoints target deed s
      (λ log line endpoint holds has. turns.deed command confirms target deed (while_taken true command confirms setup.names (Does target deed) is) log line endpoint holds has)

  pub command_goes : (command : Command) (confirms : KValue) (log : List Begun) (endpoints : Endpoints) (id : ℕ) → Stands log endpoints
      → Goes log (commanded setup endpoints until id command confirms).told
  command_goes command confirms log endpoints id s =
      form_goes (serves endpoints) command confirms (form_while (serves endpoints) command confirms setup.names) refl log endpoints id s
