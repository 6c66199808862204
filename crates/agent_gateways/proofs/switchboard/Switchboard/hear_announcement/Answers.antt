use Rattle.std.proofs.Common.{◌≡◌, true, false, refl, sym, arith, rules}
use Rattle.std.proofs.lemmas.Grind.{common_steps, elements}
use Rattle.std.specs.Prelude.{codes, slice_get}
use Rattle.std.specs.Vec.{with_item}
use Rattle.mgcp_text.specs.Message.{param_at}
use Rattle.agent_gateways.specs.Hearing.{is_new_to, method_of, AnnouncesWith, NotesAt}
use Rattle.agent_gateways.proofs.HearingLemmas.{heard_announcement}
use Rattle.agent_gateways.proofs.switchboard.Switchboard.hear_announcement.Goals as goal

pub returns-in_default-clause-hears : goal.returns-in_default-clause-hears
returns-in_default-clause-hears c =
    let again : is_new_to c.args.id (slice_get c.args.self.now.gateways.items c.args.place) ≡ false = first_of (search rules, grind (arith, common_steps), grind (arith, elements)) in
    let notes : NotesAt c.args.place c.args.id c.args.self.now c.args.self.now = first_of (search rules, grind (arith, common_steps), grind (arith, elements)) in
    heard_announcement c.args.place c.args.id c.args.name.now (method_of (param_at (codes "RM") c.args.params.now)) c.args.params.now false
    c.args.self.now c.args.self.now c.args.self.now (sym again) refl notes refl refl

pub returns-then-not-announces-clause-hears : goal.returns-then-not-announces-clause-hears
returns-then-not-announces-clause-hears c =
    let noted = record c.args.self.now { gateways = with_item c.args.self.now.gateways c.args.place c.announces.new.self } in
    let notes : NotesAt c.args.place c.args.id c.args.self.now noted = first_of (search rules, grind (arith, common_steps), grind (arith, elements)) in
    let again : is_new_to c.args.id (slice_get c.args.self.now.gateways.items c.args.place) ≡ false = first_of (search rules, grind (arith, common_steps), grind (arith, elements)) in
    heard_announcement c.args.place c.args.id c.args.name.now (method_of (param_at (codes "RM") c.args.params.now)) c.args.params.now false
    c.args.self.now noted noted (sym again) refl notes refl refl

pub returns-then-same_no_case-clause-hears : goal.returns-then-same_no_case-clause-hears
returns-then-same_no_case-clause-hears c =
    let noted = record c.args.self.now { gateways = with_item c.args.self.now.gateways c.args.place c.announces.new.self } in
    let notes : NotesAt c.args.place c.args.id c.args.self.now noted = first_of (search rules, grind (arith, common_steps), grind (arith, elements)) in
    let new : is_new_to c.args.id (slice_get c.args.self.now.gateways.items c.args.place) ≡ true = first_of (search rules, grind (arith, common_steps), grind (arith, elements)) in
    let announces : AnnouncesWith c.method_of-method.result.now c.args.name.now (slice_get noted.gateways.items c.args.place)
    noted.office c.announce.new.self.office = first_of (search rules, grind (arith, common_steps), grind (arith, elements)) in
    heard_announcement c.args.place c.args.id c.args.name.now c.method_of-method.result.now c.args.params.now true c.args.self.now
    noted c.announce.new.self (sym new) c.method_of-method.ensures notes announces c.announce.ensures.rest

pub returns-then-not-same_no_case-clause-hears : goal.returns-then-not-same_no_case-clause-hears
returns-then-not-same_no_case-clause-hears c =
    let noted = record c.args.self.now { gateways = with_item c.args.self.now.gateways c.args.place c.announces.new.self } in
    let notes : NotesAt c.args.place c.args.id c.args.self.now noted = first_of (search rules, grind (arith, common_steps), grind (arith, elements)) in
    let new : is_new_to c.args.id (slice_get c.args.self.now.gateways.items c.args.place) ≡ true = first_of (search rules, grind (arith, common_steps), grind (arith, elements)) in
    let announces : AnnouncesWith c.method_of-method.result.now c.args.name.now (slice_get noted.gateways.items c.args.place)
    noted.office noted.office = first_of (search rules, grind (arith, common_steps), grind (arith, elements)) in
    heard_announcement c.args.place c.args.id c.args.name.now c.method_of-method.result.now c.args.params.now true c.args.self.now
    noted noted (sym new) c.method_of-method.ensures notes announces refl

pub returns-clause-hears : goal.returns-clause-hears
returns-clause-hears c =
    let noted = record c.args.self.now { gateways = with_item c.args.self.now.gateways c.args.place c.announces.new.self } in
    let notes : NotesAt c.args.place c.args.id c.args.self.now noted = first_of (search rules, grind (arith, common_steps), grind (arith, elements)) in
    let new : is_new_to c.args.id (slice_get c.args.self.now.gateways.items c.args.place) ≡ true = first_of (search rules, grind (arith, common_steps), grind (arith, elements)) in
    let announces : AnnouncesWith c.method_of-method.result.now c.args.name.now (slice_get noted.gateways.items c.args.place)
    noted.office c.announce-2.new.self.office = first_of (search rules, grind (arith, common_steps), grind (arith, elements)) in
    heard_announcement c.args.place c.args.id c.args.name.now c.method_of-method.result.now c.args.params.now true c.args.self.now
    noted c.announce-2.new.self (sym new) c.method_of-method.ensures notes announces c.announce-2.ensures.rest
