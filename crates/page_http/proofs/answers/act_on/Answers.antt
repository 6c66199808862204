use Rattle.std.proofs.Common.{refl, rules}
use Rattle.page_http.proofs.answers.act_on.Goals as goal

pub returns-then-branch-clause-outcome : goal.returns-then-branch-clause-outcome
returns-then-branch-clause-outcome c = record {
  taken = λ same. (c.in-Some.queued, rw c.in-Some.is at c.in_ok-queued.ensures.some, c.in_ok-queue.ensures.waits c.if-branch.true);
  refused = λ other. absurd (other refl);
  free = λ same. c.in_ok-queue.ensures.free c.if-branch.true;
  no_room = λ same. absurd (cc same);
  full = λ same. absurd (cc same);
  unreadable = λ same. absurd (cc same);
}

pub returns-else-branch-clause-outcome : goal.returns-else-branch-clause-outcome
returns-else-branch-clause-outcome c =
    let asked = rw c.in-Some.is at c.in_ok-queued.ensures.some in
    record {
      taken = λ same. absurd (cc same);
      refused = λ other. c.in_ok-queue.ensures.refused c.if-branch.false;
      free = λ same. absurd (cc same);
      no_room = λ same. rw asked (search rules);
      full = λ same. c.in_ok-queue.ensures.full c.if-branch.false;
      unreadable = λ same. absurd (cc same);
    }
