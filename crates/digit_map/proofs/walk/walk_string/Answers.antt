use Rattle.std.proofs.Common.{◌≡◌, true, false, sym, ◌∙◌}
use Rattle.digit_map.specs.Cuts.{positions_of}
use Rattle.digit_map.specs.Words.{spells}
use Rattle.digit_map.proofs.WordLaws.{or_right}
use Rattle.digit_map.proofs.RowLaws.{row_start, begun_start, spelled_moves, begun_moves, last_of, last_get, row_end, known_begun}
use Rattle.digit_map.proofs.walk.walk_string.Goals as goal

pub loop-position-init : goal.loop-position-init
loop-position-init c =
    let same : c.into_iter-position-iterator.result ≡ positions_of c.args.string.now = cc in
    let len = c.begin.ensures.len ∙ c.requires in
    record {
      len = len;
      spelled = rw same (row_start (spells false (positions_of c.args.string.now)) c.begin.new.row c.args.letters.now len c.begin.ensures.first c.begin.ensures.others);
      begun = rw same (begun_start (positions_of c.args.string.now) c.begin.new.row c.args.letters.now len c.begin.ensures.first c.begin.ensures.others);
      last = λ h. h;
    }

pub loop-position-preserved : goal.loop-position-preserved
loop-position-preserved c =
    let position = c.in-Some.position.now in
    let rest = c.next.new.self in
    let row = c.loop-position.row in
    let word = c.args.letters.now in
    let len = c.loop-position.invariant.len in
    let was : last_of row word ≡ true → c.loop-position.begun ≡ true = λ h. c.loop-position.invariant.last (last_get row word ∙ h) in
    record {
      len = c.walk_position.ensures.len;
      spelled = rw c.walk_position.ensures.row (spelled_moves position rest row word len ∙ (rw c.in-Some.ensures.steps at c.loop-position.invariant.spelled));
      begun = rw (c.either-begun.ensures, c.walk_position.ensures.row, last_get) (begun_moves position rest row word c.loop-position.begun len was ∙ (rw c.in-Some.ensures.steps at c.loop-position.invariant.begun));
      last = λ h. rw c.either-begun.ensures (or_right c.loop-position.begun _ h);
    }

pub returns-clause-spelled : goal.returns-clause-spelled
returns-clause-spelled c =
    last_get c.loop-position.row c.args.letters.now ∙ sym (row_end false c.loop-position.row c.args.letters.now)
    ∙ (rw c.in-None.ensures.steps.0 at c.loop-position.invariant.spelled)

pub returns-clause-begun : goal.returns-clause-begun
returns-clause-begun c =
    known_begun c.loop-position.begun _ (λ h. c.loop-position.invariant.last (last_get c.loop-position.row c.args.letters.now ∙ (sym (row_end true c.loop-position.row c.args.letters.now) ∙ h)))
    ∙ (rw c.in-None.ensures.steps.0 at c.loop-position.invariant.begun)
