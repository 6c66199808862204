use Rattle.std.proofs.Common.{◌≡◌, Bool, inl, inr, refl, sym, ap, ◌∙◌}
use Rattle.agent_log.specs.declared.journal.Journal.{Journal}
use Rattle.live_system.specs.Ending.{served_ending}
use Rattle.output_queues.specs.Written.{faults_in}
use Rattle.live_agent.specs.Ending.{counted_in, ending_of, is_record_refused}
use Rattle.live_agent.proofs.serving.serve_to_end.Goals as goal

pub returns-in_default : goal.returns-in_default
returns-in_default g c = record {
  served = c.serve-served.result;
  now = c.serve-served.new.board;
  done = c.serve-served.new.wire;
  does = c.serve-served.ensures;
  time = c.time-time.result;
  left = c.serve-served.new.recorder;
  ends_so = (c.write.new.self, rw (c.deref_mut.ensures.value) at c.write.ensures.wrote, inl (refl, refl));
  counts = rw (c.deref_mut.ensures.value) at c.write.ensures.kept;
  rest = refl;
}

pub returns-then-is_err : goal.returns-then-is_err
returns-then-is_err g c =
    let counted : c.as_slice.result.now ≡ counted_in c.write.new.journal
    = c.as_slice.ensures.value ∙ c.in-Ok.ensures ∙ ap (λ (journal : Journal). counted_in journal) c.deref.ensures in
    record {
      served = c.serve-served.result;
      now = c.serve-served.new.board;
      done = c.serve-served.new.wire;
      does = c.serve-served.ensures;
      time = c.time-time.result;
      left = c.serve-served.new.recorder;
      ends_so = (
        c.write.new.self,
        rw (c.deref_mut.ensures.value) at c.write.ensures.wrote,
        inr (
          c.end_with-written.result,
          rw counted at c.end_with-written.ensures.ended,
          sym (ap (λ (failed : Bool). ending_of failed (is_record_refused c.write.new.journal) (faults_in c.end_with-written.result))
              (sym c.is_err.ensures.value ∙ c.if-is_err.true)),
        ),
      );
      counts = rw (c.deref_mut.ensures.value) at c.write.ensures.kept;
      rest = refl;
    }

pub returns : goal.returns
returns g c =
    let counted : c.as_slice.result.now ≡ counted_in c.write.new.journal
    = c.as_slice.ensures.value ∙ c.in-Ok.ensures ∙ ap (λ (journal : Journal). counted_in journal) c.deref.ensures in
    let refused : c.is_record_refused.result ≡ is_record_refused c.write.new.journal
    = c.is_record_refused.ensures ∙ ap (λ (journal : Journal). is_record_refused journal) c.deref-2.ensures in
    record {
      served = c.serve-served.result;
      now = c.serve-served.new.board;
      done = c.serve-served.new.wire;
      does = c.serve-served.ensures;
      time = c.time-time.result;
      left = c.serve-served.new.recorder;
      ends_so = (
        c.write.new.self,
        rw (c.deref_mut.ensures.value) at c.write.ensures.wrote,
        inr (
          c.end_with-written.result,
          rw counted at c.end_with-written.ensures.ended,
          c.of_records.ensures
              ∙ ap (λ (is_refused : Bool). served_ending is_refused (faults_in c.end_with-written.result)) refused
              ∙ sym (ap (λ (failed : Bool). ending_of failed (is_record_refused c.write.new.journal) (faults_in c.end_with-written.result))
              (sym c.is_err.ensures.value ∙ c.if-is_err.false)),
        ),
      );
      counts = rw (c.deref_mut.ensures.value) at c.write.ensures.kept;
      rest = refl;
    }
