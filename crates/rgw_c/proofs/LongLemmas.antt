-- A datagram that is too long does nothing.
use Rattle.std.proofs.Common.{◌≡◌, ℕ, zero, suc, ◌≤◌, Bool, true, List, [], ◌∷◌, ◌++◌, length, Option, Some, None, refl, sym, ap, ◌∙◌, subst, arith}
use Rattle.std.specs.Prelude.{nat_lt, IsSomeAnd}
use Rattle.std.specs.declared.net.socket_addr.SocketAddrV4.{SocketAddrV4}
use Rattle.std.proofs.lemmas.Option.{none-some}
use Rattle.transmission.specs.Texts.{largest_datagram, texts_of}
use Rattle.machine_rules.specs.declared.refusal.Refusal.{Refusal}
use Rattle.plain_machine.specs.declared.setup.Setup.{Setup}
use Rattle.plain_machine.specs.Answering.{took_all}
use Rattle.plain_machine.specs.Effect.{Effect, silently}
use Rattle.plain_machine.specs.Event.{GatewayEvent, datagram}
use Rattle.plain_machine.specs.Happening.{effect}
use Rattle.plain_machine.specs.Lists.{machine_after, outputs_from, plain}
use Rattle.plain_machine.specs.Machine.{Machine, opening}
use Rattle.plain_machine.specs.Packing.{put_out}
use Rattle.plain_machine.specs.Refusing.{refusal_of, ends, Ends}
use Rattle.plain_machine.proofs.ListLaws.{machine_on}
use Rattle.gateway_core.specs.Alike.{Alike}
use Rattle.gateway_core.specs.Stands.{Stands}
use Rattle.rgw_c.specs.declared.instance.Instance.{Instance}
use Rattle.rgw_c.specs.declared.numbers.TheConstants.{OK}
use Rattle.rgw_c.specs.Numbers.{refusal_in}
use Rattle.rgw_c.specs.Stepping.{TookIn, EndsIn, PassesOver}

-- none of the five refusals
well : (number : ℕ) → number ≤ 5 → refusal_in number ≡ None → number ≡ OK
well zero few none = refl
well (suc zero) few none = absurd (none-some _ (sym none))
well (suc (suc zero)) few none = absurd (none-some _ (sym none))
well (suc (suc (suc zero))) few none = absurd (none-some _ (sym none))
well (suc (suc (suc (suc zero)))) few none = absurd (none-some _ (sym none))
well (suc (suc (suc (suc (suc zero))))) few none = absurd (none-some _ (sym none))
well (suc (suc (suc (suc (suc (suc n)))))) few none = absurd (omega (arith, few))

module _ (setup : Setup) (m : Machine) (source : SocketAddrV4) (bytes : List ℕ) (long : nat_lt largest_datagram (length bytes) ≡ true) where
  no_effect : effect setup m (datagram source bytes) ≡ silently m
  unfolding effect texts_of took_all
  no_effect = rw long refl

  nothing_sent : outputs_from setup m (datagram source bytes ∷ []) ≡ []
  unfolding outputs_from
  nothing_sent = ap (λ (e : Effect Machine). put_out e.sent ++ []) no_effect

  same_machine : machine_after setup m (datagram source bytes ∷ []) ≡ m
  unfolding machine_after
  same_machine = ap (λ (e : Effect Machine). e.value) no_effect

  not_refused : (given : Option Refusal) → Ends m (datagram source bytes) given → given ≡ None
  unfolding refusal_of
  not_refused given as_it_must = subst (λ (free : Bool). ends None free given) long as_it_must

took_none : (was : Instance) (now : Option Instance) (source : SocketAddrV4) (bytes : List ℕ) → nat_lt largest_datagram (length bytes) ≡ true
    → TookIn (Some was) (datagram source bytes) now → (before : List GatewayEvent) → Stands was.gateway before
    → IsSomeAnd now (λ is. (is.outputs ≡ []) × Alike is.gateway.machine (plain was.gateway.setup before))
took_none was None source bytes long took before stands = absurd took
took_none was (Some is) source bytes long took before stands =
    let setup = was.gateway.setup in let event = datagram source bytes in
    let same : plain is.gateway.setup (before ++ event ∷ []) ≡ plain setup before =
    ap (λ (s : Setup). plain s (before ++ event ∷ [])) took.setup ∙ machine_on setup (opening setup) before (event ∷ [])
    ∙ same_machine setup (plain setup before) source bytes long in (
      took.sent before stands ∙ nothing_sent setup (plain setup before) source bytes long,
      subst (λ (m : Machine). Alike is.gateway.machine m) same (took.stands before stands).alike,
    )

pub passed : (was now : Option Instance) (source : SocketAddrV4) (bytes : List ℕ) (number : ℕ)
    → (number ≡ OK → TookIn was (datagram source bytes) now) → EndsIn was (datagram source bytes) number
    → nat_lt largest_datagram (length bytes) ≡ true → PassesOver was number now
passed None now source bytes number took as_it_must long = as_it_must
passed (Some was) now source bytes number took as_it_must long = λ before stands.
    let right : number ≡ OK = well number as_it_must.0
    (not_refused was.gateway.setup (plain was.gateway.setup before) source bytes long (refusal_in number) (as_it_must.1 before stands)) in
    (right, took_none was now source bytes long (took right) before stands)
