-- What a line tells can be written.
use Rattle.std.proofs.Common.{◌≡◌, ℕ, ◌<◌, ◌≤◌, ◌^◌, ◌==◌, Bool, if◌then◌else◌, true, false, ◌&&◌, List, [], refl, arith}
use Rattle.std.specs.Prelude.{nat_le, IsTrue}
use Rattle.std.specs.List.{list_all}
use Rattle.std.proofs.lemmas.Bool.Decides.{nat_tests}
use Rattle.mgcp_text.specs.declared.message.Param.{Param}
use Rattle.mgcp_text.specs.declared.message.Message.TheVariants as messages
use Rattle.mgcp_text.specs.declared.message.Verb.TheVariants.{Ntfy, Rsip}
use Rattle.mg_bytes.specs.Lists.{is_empty}
use Rattle.mgcp_text.specs.Writing.{is_id, is_writable_param, is_writable_body, is_writable}
use Rattle.endpoint_names.specs.declared.name.Pattern.TheVariants.{One, All}
use Rattle.endpoint_names.specs.Name.{name_text}
use Rattle.endpoint_names.specs.Table.{is_domain}
use Rattle.plain_machine.specs.declared.setup.Setup.{Setup}
use Rattle.plain_machine.specs.Announcing.{announced_lines}
use Rattle.plain_machine.proofs.NameLemmas.{name_is_word, all_is_word}

name_some : (domain : List ℕ) (line : ℕ) → is_empty (name_text (One line) domain) ≡ false
unfolding name_text
name_some domain line = refl

-- a notification can be written
pub notification_writable : (setup : Setup) (id line : ℕ) (name : List ℕ) (params : List Param) → 1 ≤ id → id ≤ 999999999 → is_domain setup.names.domain ≡ true → line < 2 ^ 64
    → name ≡ name_text (One line) setup.names.domain → list_all is_writable_param params ≡ true → IsTrue (is_writable (messages.Command Ntfy id name params []))
unfolding is_writable is_id is_writable_body
notification_writable setup id line name params some short is small named all =
    let word = name_is_word setup line is small in
    let numbered : (nat_le 1 id && nat_le id 999999999) ≡ true = grind (arith, nat_tests, some, short) in
    rw (named, numbered, name_some setup.names.domain line, word.blankless, word.one_line, all) refl

-- An announcement can be written

all_some : (domain : List ℕ) → is_empty (name_text All domain) ≡ false
unfolding name_text
all_some domain = refl

pub announcement_writable : (setup : Setup) (id line : ℕ) (name : List ℕ) (params : List Param) → 1 ≤ id → id ≤ 999999999 → is_domain setup.names.domain ≡ true → line < 2 ^ 64
    → name ≡ name_text (announced_lines line) setup.names.domain → list_all is_writable_param params ≡ true → IsTrue (is_writable (messages.Command Rsip id name params []))
unfolding is_writable is_id is_writable_body
announcement_writable setup id line name params some short is small named all = by_line (line == 0) named where
  numbered : (nat_le 1 id && nat_le id 999999999) ≡ true
  numbered = grind (arith, nat_tests, some, short)

  by_line : (b : Bool) → name ≡ name_text (if b then All else One line) setup.names.domain → IsTrue (is_writable (messages.Command Rsip id name params []))
  by_line true named =
      let word = all_is_word setup is in
      rw (named, numbered, all_some setup.names.domain, word.blankless, word.one_line, all) refl
  by_line false named =
      let word = name_is_word setup line is small in
      rw (named, numbered, name_some setup.names.domain line, word.blankless, word.one_line, all) refl
