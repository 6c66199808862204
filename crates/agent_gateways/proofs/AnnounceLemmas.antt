-- One line more of a gateway is announced; and of a name that means one line, that one alone.
use Rattle.std.proofs.Common.{◌≡◌, ℕ, zero, suc, ◌+◌, ◌<◌, ◌≤◌, Bool, true, false, List, refl, sym, ap, ◌∙◌, arith}
use Rattle.std.specs.Prelude.{◌-◌, ◌==◌, ◌&&◌, nat_le}
use Rattle.std.proofs.lemmas.Bool.{leb-true, leb-false, eqb-true, eqb-false, ne_eqb}
use Rattle.endpoint_names.specs.declared.name.Pattern.{Pattern}
use Rattle.endpoint_names.specs.declared.name.Pattern.TheVariants.{One}
use Rattle.call_processing.specs.Exchange.{ExchangeState}
use Rattle.line_control.specs.declared.care.Care.{Care}
use Rattle.agent_gateways.specs.Steps.{cares_announced, cares_if, exchange_announced, exchange_if, has_line, is_meant, line_behind, Announces}

exchange_by : (is_restart : Bool) (pattern : Pattern) (first before next : ℕ) (exchange : ExchangeState) → next ≡ suc before
    → exchange_announced is_restart pattern first next exchange
    ≡ exchange_if (is_meant pattern before) is_restart (line_behind first before) (exchange_announced is_restart pattern first before exchange)
unfolding exchange_announced
exchange_by is_restart pattern first before next exchange is =
    ap (λ (count : ℕ). exchange_announced is_restart pattern first count exchange) is

exchange_next : (is_restart : Bool) (pattern : Pattern) (first before : ℕ) (exchange : ExchangeState)
    → exchange_announced is_restart pattern first (before + 1) exchange
    ≡ exchange_if (is_meant pattern before) is_restart (line_behind first before) (exchange_announced is_restart pattern first before exchange)
exchange_next is_restart pattern first before exchange =
    exchange_by is_restart pattern first before (before + 1) exchange (omega arith)

cares_by : (is_restart : Bool) (pattern : Pattern) (first before next : ℕ) (cares : List Care) → next ≡ suc before
    → cares_announced is_restart pattern first next cares
    ≡ cares_if (is_meant pattern before) is_restart (line_behind first before) (cares_announced is_restart pattern first before cares)
unfolding cares_announced
cares_by is_restart pattern first before next cares is =
    ap (λ (count : ℕ). cares_announced is_restart pattern first count cares) is

cares_next : (is_restart : Bool) (pattern : Pattern) (first before : ℕ) (cares : List Care)
    → cares_announced is_restart pattern first (before + 1) cares
    ≡ cares_if (is_meant pattern before) is_restart (line_behind first before) (cares_announced is_restart pattern first before cares)
cares_next is_restart pattern first before cares =
    cares_by is_restart pattern first before (before + 1) cares (omega arith)

-- the lines before this one are announced, and it is, if it is meant
pub exchange_more : (is_restart : Bool) (pattern : Pattern) (first before line : ℕ) (named : Bool) (was mid is : ExchangeState)
    → mid ≡ exchange_announced is_restart pattern first before was → named ≡ is_meant pattern before → line ≡ line_behind first before
    → is ≡ exchange_if named is_restart line mid → is ≡ exchange_announced is_restart pattern first (before + 1) was
exchange_more is_restart pattern first before line named was mid is done named_so line_so next =
    next
    ∙ ap (λ (b : Bool). exchange_if b is_restart line mid) named_so
    ∙ ap (λ (place : ℕ). exchange_if (is_meant pattern before) is_restart place mid) line_so
    ∙ ap (λ (exchange : ExchangeState). exchange_if (is_meant pattern before) is_restart (line_behind first before) exchange) done
    ∙ sym (exchange_next is_restart pattern first before was)

pub cares_more : (is_restart : Bool) (pattern : Pattern) (first before line : ℕ) (named : Bool) (was mid is : List Care)
    → mid ≡ cares_announced is_restart pattern first before was → named ≡ is_meant pattern before → line ≡ line_behind first before
    → is ≡ cares_if named is_restart line mid → is ≡ cares_announced is_restart pattern first (before + 1) was
cares_more is_restart pattern first before line named was mid is done named_so line_so next =
    next
    ∙ ap (λ (b : Bool). cares_if b is_restart line mid) named_so
    ∙ ap (λ (place : ℕ). cares_if (is_meant pattern before) is_restart place mid) line_so
    ∙ ap (λ (cares : List Care). cares_if (is_meant pattern before) is_restart (line_behind first before) cares) done
    ∙ sym (cares_next is_restart pattern first before was)

-- before the first none is
pub exchange_none : (is_restart : Bool) (pattern : Pattern) (first : ℕ) (exchange : ExchangeState)
    → exchange ≡ exchange_announced is_restart pattern first 0 exchange
unfolding exchange_announced
exchange_none is_restart pattern first exchange = refl

pub cares_none : (is_restart : Bool) (pattern : Pattern) (first : ℕ) (cares : List Care)
    → cares ≡ cares_announced is_restart pattern first 0 cares
unfolding cares_announced
cares_none is_restart pattern first cares = refl

-- One line alone

exchange_test : (is_restart : Bool) (line first before : ℕ) (exchange : ExchangeState) (named : Bool) → (line == before + 1) ≡ named
    → exchange_announced is_restart (One line) first (suc before) exchange
    ≡ exchange_if named is_restart (line_behind first before) (exchange_announced is_restart (One line) first before exchange)
exchange_test is_restart line first before exchange named is =
    exchange_by is_restart (One line) first before (suc before) exchange refl
    ∙ ap (λ (meant : Bool). exchange_if meant is_restart (line_behind first before) (exchange_announced is_restart (One line) first before exchange)) is

-- none of those before it is
pub exchange_before : (is_restart : Bool) (line first count : ℕ) (exchange : ExchangeState) → (1 ≤ line → count < line)
    → exchange_announced is_restart (One line) first count exchange ≡ exchange
exchange_before is_restart line first zero exchange below = sym (exchange_none is_restart (One line) first exchange)
exchange_before is_restart line first (suc before) exchange below =
    exchange_test is_restart line first before exchange false
    (ne_eqb line (before + 1) (λ (same : line ≡ before + 1).
    let is : suc before < line = below (omega (arith, same)) in omega (arith, same, is)))
    ∙ exchange_before is_restart line first before exchange (λ (some : 1 ≤ line).
    let is : suc before < line = below some in omega (arith, is))

-- it is, and no other one
exchange_step : (is_restart : Bool) (line first before : ℕ) (exchange : ExchangeState) (named : Bool) → (line == before + 1) ≡ named → 1 ≤ line
    → line ≤ suc before
    → (line ≤ before → exchange_announced is_restart (One line) first before exchange ≡ exchange_if true is_restart (line_behind first (line - 1)) exchange)
    → exchange_announced is_restart (One line) first (suc before) exchange ≡ exchange_if true is_restart (line_behind first (line - 1)) exchange
exchange_step is_restart line first before exchange true is some least so_far =
    let last : line ≡ before + 1 = eqb-true line (before + 1) is in
    let place : before ≡ line - 1 = omega (arith, last) in
    exchange_test is_restart line first before exchange true is
    ∙ ap (λ (kept : ExchangeState). exchange_if true is_restart (line_behind first before) kept)
    (exchange_before is_restart line first before exchange (λ (one : 1 ≤ line). omega (arith, last)))
    ∙ ap (λ (there : ℕ). exchange_if true is_restart (line_behind first there) exchange) place
exchange_step is_restart line first before exchange false is some least so_far =
    let earlier : line ≤ before = omega (arith, eqb-false line (before + 1) is, least) in
    exchange_test is_restart line first before exchange false is ∙ so_far earlier

exchange_at : (is_restart : Bool) (line first count : ℕ) (exchange : ExchangeState) → 1 ≤ line → line ≤ count
    → exchange_announced is_restart (One line) first count exchange ≡ exchange_if true is_restart (line_behind first (line - 1)) exchange
exchange_at is_restart line first zero exchange some least = absurd (omega (arith, some, least))
exchange_at is_restart line first (suc before) exchange some least =
    exchange_step is_restart line first before exchange (line == before + 1) refl some least
    (λ (earlier : line ≤ before). exchange_at is_restart line first before exchange some earlier)

exchange_tested : (is_restart : Bool) (line first lines : ℕ) (exchange : ExchangeState) (some inside : Bool) → nat_le 1 line ≡ some
    → nat_le line lines ≡ inside
    → exchange_announced is_restart (One line) first lines exchange ≡ exchange_if (some && inside) is_restart (line_behind first (line - 1)) exchange
exchange_tested is_restart line first lines exchange true true some inside =
    exchange_at is_restart line first lines exchange (leb-true 1 line some) (leb-true line lines inside)
exchange_tested is_restart line first lines exchange true false some inside =
    exchange_before is_restart line first lines exchange (λ (one : 1 ≤ line). leb-false line lines inside)
exchange_tested is_restart line first lines exchange false within some inside =
    exchange_before is_restart line first lines exchange (λ (one : 1 ≤ line). absurd (omega (arith, one, leb-false 1 line some)))

-- so it is with what is kept of them

cares_test : (is_restart : Bool) (line first before : ℕ) (cares : List Care) (named : Bool) → (line == before + 1) ≡ named
    → cares_announced is_restart (One line) first (suc before) cares
    ≡ cares_if named is_restart (line_behind first before) (cares_announced is_restart (One line) first before cares)
cares_test is_restart line first before cares named is =
    cares_by is_restart (One line) first before (suc before) cares refl
    ∙ ap (λ (meant : Bool). cares_if meant is_restart (line_behind first before) (cares_announced is_restart (One line) first before cares)) is

cares_before : (is_restart : Bool) (line first count : ℕ) (cares : List Care) → (1 ≤ line → count < line)
    → cares_announced is_restart (One line) first count cares ≡ cares
cares_before is_restart line first zero cares below = sym (cares_none is_restart (One line) first cares)
cares_before is_restart line first (suc before) cares below =
    cares_test is_restart line first before cares false
    (ne_eqb line (before + 1) (λ (same : line ≡ before + 1).
    let is : suc before < line = below (omega (arith, same)) in omega (arith, same, is)))
    ∙ cares_before is_restart line first before cares (λ (some : 1 ≤ line).
    let is : suc before < line = below some in omega (arith, is))

cares_step : (is_restart : Bool) (line first before : ℕ) (cares : List Care) (named : Bool) → (line == before + 1) ≡ named → 1 ≤ line
    → line ≤ suc before
    → (line ≤ before → cares_announced is_restart (One line) first before cares ≡ cares_if true is_restart (line_behind first (line - 1)) cares)
    → cares_announced is_restart (One line) first (suc before) cares ≡ cares_if true is_restart (line_behind first (line - 1)) cares
cares_step is_restart line first before cares true is some least so_far =
    let last : line ≡ before + 1 = eqb-true line (before + 1) is in
    let place : before ≡ line - 1 = omega (arith, last) in
    cares_test is_restart line first before cares true is
    ∙ ap (λ (kept : List Care). cares_if true is_restart (line_behind first before) kept)
    (cares_before is_restart line first before cares (λ (one : 1 ≤ line). omega (arith, last)))
    ∙ ap (λ (there : ℕ). cares_if true is_restart (line_behind first there) cares) place
cares_step is_restart line first before cares false is some least so_far =
    let earlier : line ≤ before = omega (arith, eqb-false line (before + 1) is, least) in
    cares_test is_restart line first before cares false is ∙ so_far earlier

cares_at : (is_restart : Bool) (line first count : ℕ) (cares : List Care) → 1 ≤ line → line ≤ count
    → cares_announced is_restart (One line) first count cares ≡ cares_if true is_restart (line_behind first (line - 1)) cares
cares_at is_restart line first zero cares some least = absurd (omega (arith, some, least))
cares_at is_restart line first (suc before) cares some least =
    cares_step is_restart line first before cares (line == before + 1) refl some least
    (λ (earlier : line ≤ before). cares_at is_restart line first before cares some earlier)

cares_tested : (is_restart : Bool) (line first lines : ℕ) (cares : List Care) (some inside : Bool) → nat_le 1 line ≡ some
    → nat_le line lines ≡ inside
    → cares_announced is_restart (One line) first lines cares ≡ cares_if (some && inside) is_restart (line_behind first (line - 1)) cares
cares_tested is_restart line first lines cares true true some inside =
    cares_at is_restart line first lines cares (leb-true 1 line some) (leb-true line lines inside)
cares_tested is_restart line first lines cares true false some inside =
    cares_before is_restart line first lines cares (λ (one : 1 ≤ line). leb-false line lines inside)
cares_tested is_restart line first lines cares false within some inside =
    cares_before is_restart line first lines cares (λ (one : 1 ≤ line). absurd (omega (arith, one, leb-false 1 line some)))

-- so a gateway's line is announced that a name means, if the gateway has it
pub one_announced : (is_restart named : Bool) (line first lines place : ℕ) (was is : ExchangeState) (cares kept : List Care)
    → named ≡ has_line line lines → place ≡ line_behind first (line - 1) → is ≡ exchange_if named is_restart place was
    → kept ≡ cares_if named is_restart place cares → Announces is_restart (One line) first lines was cares is kept
one_announced is_restart named line first lines place was is cares kept named_so place_so next kept_so = (
  next
      ∙ ap (λ (b : Bool). exchange_if b is_restart place was) named_so
      ∙ ap (λ (there : ℕ). exchange_if (has_line line lines) is_restart there was) place_so
      ∙ sym (exchange_tested is_restart line first lines was (nat_le 1 line) (nat_le line lines) refl refl),
  kept_so
      ∙ ap (λ (b : Bool). cares_if b is_restart place cares) named_so
      ∙ ap (λ (there : ℕ). cares_if (has_line line lines) is_restart there cares) place_so
      ∙ sym (cares_tested is_restart line first lines cares (nat_le 1 line) (nat_le line lines) refl refl),
)
