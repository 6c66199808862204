-- Two machines that agree on a line agree on it after each text that is the line's own, and after those that aren't.
use Rattle.std.proofs.Common.{◌≡◌, ◌≢◌, ℕ, Bool, true, false, ◌==◌, if◌then◌else◌, List, [], ◌∷◌, ◌++◌, Option, Some, None, refl, sym, ap, subst, ◌∙◌}
use Rattle.std.specs.Prelude.{not}
use Rattle.std.proofs.lemmas.Bool.Decides.{Decides-eqb}
use Rattle.std.specs.declared.net.socket_addr.SocketAddrV4.{SocketAddrV4}
use Rattle.mgcp_text.specs.Answer.{AnswerContent, plain_code, response_of}
use Rattle.mgcp_text.specs.Confirmation.{k_of}
use Rattle.mgcp_text.specs.declared.message.Message.TheVariants as messages
use Rattle.mgcp_text.specs.Reading.{Outcome, message, no_header, bad_version, bad_body}
use Rattle.mgcp_text.specs.Writing.{written}
use Rattle.transmission.specs.declared.span.IdSpan.{IdSpan}
use Rattle.transmission.specs.declared.entry.Entry.{Entry}
use Rattle.transmission.specs.declared.entry.Entry.TheVariants.{First, Confirmation}
use Rattle.transmission.specs.Span.{is_named}
use Rattle.transmission.specs.Memory.{most_firsts}
use Rattle.transmission.specs.Looking.{Looked, new, repeat, confirmed, full, look_of}
use Rattle.transmission.specs.Confirming.{spans_of}
use Rattle.command_forms.specs.Command.{Command}
use Rattle.plain_machine.specs.declared.setup.Setup.{Setup}
use Rattle.plain_machine.specs.Effect.{Effect, silently}
use Rattle.plain_machine.specs.Message.{answer_of, answer, again, Sent}
use Rattle.plain_machine.specs.Machine.{Machine, told_in, Endpoints}
use Rattle.plain_machine.specs.Done.{Done, only_answer}
use Rattle.plain_machine.specs.Commanding.{commanded}
use Rattle.plain_machine.specs.Responding.{heard_from}
use Rattle.plain_machine.specs.Answering.{line_of_name, reply, transaction, executed, transacted_by, handled}
use Rattle.machine_laws.specs.Belonging.{is_of, of_line}
use Rattle.machine_laws.specs.OwnEvents.{is_another, line_read}
use Rattle.machine_laws.proofs.ThinningLemmas.{Thins, thins_both, thins_left, told_same}
use Rattle.machine_laws.proofs.AnnouncementLaws.{ToldAlike, heard_alike}
use Rattle.machine_laws.proofs.DeedLemmas.{DoneAlike, only_alike, command_alike, command_elsewhere}
use Rattle.machine_laws.proofs.FittingWords.{Agree, Matches, Fits, FindsRoom}

module _ (setup : Setup) (keep : ℕ → Bool) (line : ℕ) where
  -- A command of this line, or of none

  own_transacted : (looked : Looked) (m alone : Machine) (source : SocketAddrV4) (id : ℕ) (who : Option ℕ) (confirms : List IdSpan) (done other : Done)
      → Agree keep line m alone → DoneAlike line done other → looked ≢ full
      → Matches keep line (transacted_by looked m source (transaction id who confirms done)) (transacted_by looked alone source (transaction id who confirms other))
  unfolding executed
  own_transacted new m alone source id who confirms done other agree alike has =
      let first : ℕ → AnswerContent → List Entry → List Entry =
      λ now answer entries. (entries ++ Confirmation confirms ∷ []) ++ First (record { id = id; moment = now; answer = written (response_of id answer) }) ∷ [] in
      let kept : first alone.now other.answer alone.history ≡ first m.now done.answer alone.history =
      ap (λ (n : ℕ). first n other.answer alone.history) agree.now ∙ ap (λ (a : AnswerContent). first m.now a alone.history) alike.answer in
      let out : ℕ → AnswerContent → Sent = λ now said. record { to = source; moment = now; owner = answer_of who; said = answer (response_of id said) } in
      let same : out alone.now other.answer ≡ out m.now done.answer = ap (λ (n : ℕ). out n other.answer) agree.now ∙ ap (out m.now) alike.answer in
      let put : Sent → List Sent → List Sent = λ one rest. if is_of line one.owner then one ∷ rest else rest in
      record {
        machines = record {
          now = agree.now;
          endpoints = alike.told.endpoints;
          history = subst (Thins keep (first m.now done.answer m.history)) (sym kept)
              (thins_both keep _ _ _ (thins_both keep m.history alone.history (Confirmation confirms ∷ []) agree.history));
        };
        sent = ap (put (out m.now done.answer)) alike.told.sent ∙ ap (λ (one : Sent). put one (of_line line other.told.sent)) (sym same);
      }
  own_transacted (repeat text) m alone source id who confirms done other agree alike has = record {
    machines = agree;
    sent = ap (λ (n : ℕ). of_line line ((record { to = source; moment = n; owner = answer_of who; said = again id text }) ∷ [])) (sym agree.now);
  }
  own_transacted confirmed m alone source id who confirms done other agree alike has = record { machines = agree; sent = refl }
  own_transacted full m alone source id who confirms done other agree alike has = absurd (has refl)

  -- a look at both histories
  own_looked : (m alone : Machine) (id : ℕ) → Agree keep line m alone → keep id ≡ true → look_of most_firsts m.history id m.now ≢ full
      → look_of most_firsts alone.history id alone.now ≡ look_of most_firsts m.history id m.now
  own_looked m alone id agree is has =
      ap (look_of most_firsts alone.history id) agree.now ∙ told_same keep most_firsts m.history alone.history id m.now is agree.history has

  own_command : (m alone : Machine) (source : SocketAddrV4) (id : ℕ) (who : Option ℕ) (confirms : List IdSpan) (done other : Done)
      → Agree keep line m alone → DoneAlike line done other → keep id ≡ true → look_of most_firsts m.history id m.now ≢ full
      → Matches keep line (transacted_by (look_of most_firsts m.history id m.now) m source (transaction id who confirms done))
      (transacted_by (look_of most_firsts alone.history id alone.now) alone source (transaction id who confirms other))
  own_command m alone source id who confirms done other agree alike is has =
      subst (λ (looked : Looked). Matches keep line (transacted_by (look_of most_firsts m.history id m.now) m source (transaction id who confirms done))
      (transacted_by looked alone source (transaction id who confirms other))) (sym (own_looked m alone id agree is has))
      (own_transacted (look_of most_firsts m.history id m.now) m alone source id who confirms done other agree alike has)

  refused_alike : (m alone : Machine) (code : ℕ) → Agree keep line m alone
      → DoneAlike line (only_answer m.endpoints (plain_code code)) (only_answer alone.endpoints (plain_code code))
  refused_alike m alone code agree = only_alike line m.endpoints alone.endpoints (plain_code code) (plain_code code) agree.endpoints refl

  -- A command of another line

  other_transacted : (looked : Looked) (m alone : Machine) (source : SocketAddrV4) (id other : ℕ) (confirms : List IdSpan) (done : Done)
      → Agree keep line m alone → ToldAlike line done.told (silently alone.endpoints) → (other == line) ≡ false → keep id ≡ false
      → ((i : ℕ) → keep i ≡ true → is_named i confirms ≡ false)
      → Matches keep line (transacted_by looked m source (transaction id (Some other) confirms done)) (silently alone)
  unfolding executed
  other_transacted new m alone source id other confirms done agree there apart foreign unnamed = record {
    machines = record {
      now = agree.now;
      endpoints = there.endpoints;
      history = thins_left keep _ alone.history _ foreign (thins_left keep m.history alone.history (Confirmation confirms) unnamed agree.history);
    };
    sent = ap (λ (b : Bool). if b then reply m source (Some other) (answer (response_of id done.answer)) ∷ of_line line done.told.sent else of_line line done.told.sent) apart
        ∙ there.sent;
  }
  other_transacted (repeat text) m alone source id other confirms done agree there apart foreign unnamed = record {
    machines = agree;
    sent = ap (λ (b : Bool). if b then reply m source (Some other) (again id text) ∷ [] else []) apart;
  }
  other_transacted confirmed m alone source id other confirms done agree there apart foreign unnamed = record { machines = agree; sent = refl }
  other_transacted full m alone source id other confirms done agree there apart foreign unnamed = record { machines = agree; sent = refl }

  -- A text

  pub in_machine : (m alone : Machine) (is was : Effect Endpoints) → Agree keep line m alone → ToldAlike line is was → Matches keep line (told_in m is) (told_in alone was)
  in_machine m alone is was agree h = record { machines = record { now = agree.now; endpoints = h.endpoints; history = agree.history }; sent = h.sent }

  own_is : (n : ℕ) → is_another line (Some n) ≡ false → n ≡ line
  own_is n e = by_test (n == line) refl e where
    by_test : (b : Bool) → (n == line) ≡ b → not b ≡ false → n ≡ line
    by_test true is e = (Decides-eqb n line).0 is
    by_test false is e = absurd cc

  not_this : (b : Bool) → not b ≡ true → b ≡ false
  not_this true e = absurd cc
  not_this false e = refl

  own_done : (m alone : Machine) (id : ℕ) (command : Command) → Agree keep line m alone → Fits setup keep line (message (messages.Command command.verb id command.name command.params command.body))
      → is_another line (line_of_name setup command.name) ≡ false
      → DoneAlike line (commanded setup m.endpoints m.now id command (k_of command.params)) (commanded setup alone.endpoints alone.now id command (k_of command.params))
  own_done m alone id command agree fits own =
      subst (λ (now : ℕ). DoneAlike line (commanded setup m.endpoints m.now id command (k_of command.params)) (commanded setup alone.endpoints now id command (k_of command.params)))
      (sym agree.now)
      (command_alike setup line m.endpoints alone.endpoints agree.endpoints m.now id command (k_of command.params) fits.0 (line_of_name setup command.name) refl
      (λ n is. own_is n (ap (is_another line) (sym is) ∙ own)))

  -- a text that is kept
  pub own_handled : (m alone : Machine) (source : SocketAddrV4) (outcome : Outcome) → Agree keep line m alone → Fits setup keep line outcome → FindsRoom setup m outcome
      → is_another line (line_read setup outcome) ≡ false → Matches keep line (handled setup m source outcome) (handled setup alone source outcome)
  unfolding handled
  own_handled m alone source no_header agree fits room own =
      record { machines = record { now = agree.now; endpoints = agree.endpoints; history = agree.history }; sent = refl }
  own_handled m alone source (bad_version id) agree fits room own =
      own_command m alone source id None [] _ _ agree (refused_alike m alone 528 agree) fits room
  own_handled m alone source (bad_body id) agree fits room own =
      own_command m alone source id None [] _ _ agree (refused_alike m alone 510 agree) fits room
  own_handled m alone source (message (messages.Command verb id name params body)) agree fits room own =
      own_command m alone source id (line_of_name setup name) (spans_of (k_of params)) _ _ agree
      (own_done m alone id (record { verb = verb; name = name; params = params; body = body }) agree fits own) (fits.1.kept own) room
  own_handled m alone source (message (messages.Response code id params body)) agree fits room own =
      subst (λ (now : ℕ). Matches keep line (told_in m (heard_from setup m.endpoints m.now source code id params)) (told_in alone (heard_from setup alone.endpoints now source code id params)))
      (sym agree.now) (in_machine m alone _ _ agree (heard_alike setup line m.endpoints alone.endpoints m.now source code id params agree.endpoints))

  -- a text that isn't
  pub other_handled : (m alone : Machine) (source : SocketAddrV4) (outcome : Outcome) → Agree keep line m alone → Fits setup keep line outcome
      → is_another line (line_read setup outcome) ≡ true → Matches keep line (handled setup m source outcome) (silently alone)
  unfolding handled
  other_handled m alone source no_header agree fits other = absurd cc
  other_handled m alone source (bad_version id) agree fits other = absurd cc
  other_handled m alone source (bad_body id) agree fits other = absurd cc
  other_handled m alone source (message (messages.Response code id params body)) agree fits other = absurd cc
  other_handled m alone source (message (messages.Command verb id name params body)) agree fits other = by_who (line_of_name setup name) refl other where
    command : Command
    command = record { verb = verb; name = name; params = params; body = body }

    by_who : (who : Option ℕ) → line_of_name setup name ≡ who → is_another line who ≡ true
        → Matches keep line (transacted_by (look_of most_firsts m.history id m.now) m source (transaction id who (spans_of (k_of params))
        (commanded setup m.endpoints m.now id command (k_of params)))) (silently alone)
    by_who None named is = absurd cc
    by_who (Some n) named is =
        let apart = not_this (n == line) is in
        other_transacted (look_of most_firsts m.history id m.now) m alone source id n (spans_of (k_of params)) _ agree
        (command_elsewhere setup line n apart m.endpoints alone.endpoints agree.endpoints m.now id command (k_of params) named)
        apart (fits.1.foreign other) (fits.1.unnamed other)
