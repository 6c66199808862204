-- What the flaw of a text is, as far as it is UTF-8 and TOML; and what a text without a flaw is.
use Rattle.std.proofs.Common.{◌≡◌, ℕ, Bool, true, false, List, length, Option, Some, None, refl, sym, ap, ◌∙◌, ⊎_elim, IsUtf8}
use Rattle.std.specs.Prelude.{nat_lt, if◌then◌else◌, is_some}
use Rattle.std.specs.Str.{is_utf8}
use Rattle.std.proofs.lemmas.Bool.{cases_Bool}
use Rattle.std.proofs.lemmas.Option.{none-some}
use Rattle.std.proofs.lemmas.Str.{IsUtf8-from_is_utf8, is_utf8-from_IsUtf8}
use Rattle.std.specs.declared.net.ipv4_addr.Ipv4Addr.{Ipv4Addr}
use Rattle.toml.specs.Data.{Members}
use Rattle.toml.specs.Parse.{parse_document}
use Rattle.mg_bytes.specs.Option.{◌>>=◌}
use Rattle.plain_machine.specs.declared.config.Config.{Config}
use Rattle.plain_machine.specs.declared.config.ConfigKey.{ConfigKey}
use Rattle.plain_machine.specs.Setup.{key_at_fault}
use Rattle.rgw_scripts.specs.Configuration.{config_in, config_of}
use Rattle.rgw_scripts.specs.Play.{largest_input}
use Rattle.gateway_config.specs.declared.flaw.Flaw.{Flaw}
use Rattle.gateway_config.specs.declared.flaw.Flaw.TheVariants as flaws
use Rattle.gateway_config.specs.Flaws.{unread_flaw, address_flaw, value_by, flaw_by, flaw_in, document_flaw, text_flaw, flaw_of}

not_utf8 : (text : List ℕ) → is_utf8 text ≡ false → text_flaw text ≡ Some flaws.NoUtf8
unfolding text_flaw
not_utf8 text not = rw not refl

pub text-other : (text : List ℕ) → ¬ IsUtf8 text → text_flaw text ≡ Some flaws.NoUtf8
text-other text other =
    ⊎_elim (λ (h : is_utf8 text ≡ true). absurd (other (IsUtf8-from_is_utf8 text h))) (λ (h : is_utf8 text ≡ false). not_utf8 text h) (cases_Bool (is_utf8 text))

pub text-document : (text : List ℕ) (document : Members) → IsUtf8 text → parse_document text ≡ Some document → text_flaw text ≡ flaw_in document
unfolding text_flaw
text-document text document utf8 read = rw (is_utf8-from_IsUtf8 text utf8, read) refl

pub not_toml : (text : List ℕ) → IsUtf8 text → parse_document text ≡ None → text_flaw text ≡ Some flaws.NoToml
unfolding text_flaw
not_toml text utf8 none = rw (is_utf8-from_IsUtf8 text utf8, none) refl

-- A text without a flaw

-- what a text says, by what is known of it
abbrev said : Bool → Option Members → Option Config
said utf8 document = if utf8 then document >>= config_of else None

abbrev flawed : Bool → Bool → Option Members → Option Flaw
flawed long utf8 document = if long then Some flaws.TooLong else (if utf8 then document_flaw document else Some flaws.NoUtf8)

read_found : (found : Option Config) (members : Members) → flaw_by found members ≡ None → is_some found ≡ true
read_found None document e = absurd (none-some (unread_flaw document) (sym e))
read_found (Some config) document e = refl

read_by : (long utf8 : Bool) (document : Option Members) → flawed long utf8 document ≡ None → is_some (said utf8 document) ≡ true
unfolding flaw_in
read_by true utf8 document e = absurd (none-some flaws.TooLong (sym e))
read_by false false document e = absurd (none-some flaws.NoUtf8 (sym e))
read_by false true None e = absurd (none-some flaws.NoToml (sym e))
read_by false true (Some members) e = read_found (config_of members) members e

pub read : (text : List ℕ) → flaw_of text ≡ None → is_some (config_in text) ≡ true
unfolding text_flaw config_in
read text e = read_by (nat_lt largest_input (length text)) (is_utf8 text) (parse_document text) e

right_by : (key : Option ConfigKey) (address : Ipv4Addr) → value_by key address ≡ None → key ≡ None
right_by None address e = refl
right_by (Some key) address e = absurd (none-some (flaws.BadValue key) (sym e))

right_found : (found : Option Config) (members : Members) (config : Config) → flaw_by found members ≡ None → found ≡ Some config → key_at_fault config ≡ None
right_found found document config e is =
    right_by (key_at_fault config) config.media_address (sym (ap (λ (f : Option Config). flaw_by f document) is) ∙ e)

right_of : (long utf8 : Bool) (document : Option Members) (config : Config) → flawed long utf8 document ≡ None → said utf8 document ≡ Some config → key_at_fault config ≡ None
unfolding flaw_in
right_of true utf8 document config e is = absurd (none-some flaws.TooLong (sym e))
right_of false false document config e is = absurd (none-some config is)
right_of false true None config e is = absurd (none-some config is)
right_of false true (Some members) config e is = right_found (config_of members) members config e is

pub right : (text : List ℕ) (config : Config) → flaw_of text ≡ None → config_in text ≡ Some config → key_at_fault config ≡ None
unfolding text_flaw config_in
right text config e is = right_of (nat_lt largest_input (length text)) (is_utf8 text) (parse_document text) config e is

taken_by : (key : Option ConfigKey) (address : Ipv4Addr) → key ≡ None → address_flaw address ≡ None → value_by key address ≡ None
taken_by key address right reached = ap (λ (k : Option ConfigKey). value_by k address) right ∙ reached

taken_found : (found : Option Config) (members : Members) (config : Config) → found ≡ Some config → key_at_fault config ≡ None → address_flaw config.media_address ≡ None
    → flaw_by found members ≡ None
taken_found found document config is right reached =
    ap (λ (f : Option Config). flaw_by f document) is ∙ taken_by (key_at_fault config) config.media_address right reached

taken_of : (utf8 : Bool) (document : Option Members) (config : Config) → said utf8 document ≡ Some config → key_at_fault config ≡ None → address_flaw config.media_address ≡ None
    → flawed false utf8 document ≡ None
unfolding flaw_in
taken_of false document config is right reached = absurd (none-some config is)
taken_of true None config is right reached = absurd (none-some config is)
taken_of true (Some members) config is right reached = taken_found (config_of members) members config is right reached

pub taken : (text : List ℕ) (config : Config) → nat_lt largest_input (length text) ≡ false → config_in text ≡ Some config → key_at_fault config ≡ None
    → address_flaw config.media_address ≡ None → flaw_of text ≡ None
unfolding text_flaw config_in
taken text config short is right reached = rw short (taken_of (is_utf8 text) (parse_document text) config is right reached)
