use Rattle.std.proofs.Common.{◌∙◌, sym, refl}
use Rattle.events_and_signals.proofs.RequestLemmas.{after_none, after_some}
use Rattle.events_and_signals.proofs.signal_request.after_entries.Goals as goal

pub returns-then-is_named : goal.returns-then-is_named
returns-then-is_named c =
    c.by_entries.ensures
    ∙ sym (after_some c.args.hook c.args.moment c.args.signal c.args.was c.args.requests.now (sym c.is_named.ensures ∙ c.if-is_named.true))

pub returns-then-is_time_out : goal.returns-then-is_time_out
returns-then-is_time_out c =
    sym (after_none c.args.hook c.args.moment c.args.signal c.args.was c.args.requests.now (sym c.is_named.ensures ∙ c.if-is_named.false)
    ∙ rw (sym c.is_time_out.ensures ∙ c.if-is_time_out.true) refl)

pub returns-else-is_time_out : goal.returns-else-is_time_out
returns-else-is_time_out c =
    sym (after_none c.args.hook c.args.moment c.args.signal c.args.was c.args.requests.now (sym c.is_named.ensures ∙ c.if-is_named.false)
    ∙ rw (sym c.is_time_out.ensures ∙ c.if-is_time_out.false) refl)
