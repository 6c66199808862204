use Rattle.std.proofs.Common.{◌≡◌, ◌≤◌, false, ◌++◌, length, codes, Some}
use Rattle.std.specs.Prelude.{slice_get}
use Rattle.std.specs.List.{flat_map, list_any}
use Rattle.mg_bytes.specs.Lines.{cut, lines_of, is_dot_line}
use Rattle.sdp_subset.specs.Spelling.{Reads}
use Rattle.sdp_subset.specs.Writing.{as_read}
use Rattle.sdp_subset.proofs.WrittenLaws.{reads_again, ok_written}
use Rattle.sdp_subset.proofs.WholeLemmas.{whole_written, first_written, dotless_written, own_written}
use Rattle.sdp_subset.proofs.writing.write_sdp.Goals as goal

pub returns-clause-reads : goal.returns-clause-reads
returns-clause-reads c =
    let session = c.args.session.now in
    ok_written (λ text. Reads text (Some (as_read session))) session c.session_text.result (reads_again session c.bounds_of.ensures.is) c.session_text.ensures

pub returns-clause-whole : goal.returns-clause-whole
returns-clause-whole c =
    let session = c.args.session.now in
    ok_written (λ text. flat_map (λ line. line ++ codes "\r\n") (lines_of text) ≡ text) session c.session_text.result (whole_written session c.bounds_of.ensures.is) c.session_text.ensures

pub returns-clause-first : goal.returns-clause-first
returns-clause-first c =
    let session = c.args.session.now in
    ok_written (λ text. slice_get (lines_of text) 0 ≡ Some (codes "v=0")) session c.session_text.result (first_written session c.bounds_of.ensures.is) c.session_text.ensures

pub returns-clause-no_dots : goal.returns-clause-no_dots
returns-clause-no_dots c =
    let session = c.args.session.now in
    ok_written (λ text. list_any is_dot_line (cut text) ≡ false) session c.session_text.result (dotless_written session c.bounds_of.ensures.is) c.session_text.ensures

pub returns-clause-short : goal.returns-clause-short
returns-clause-short c =
    let session = c.args.session.now in
    ok_written (λ text. length text ≤ 300) session c.session_text.result (own_written session c.bounds_of.ensures.is c.bounds_of.ensures.numbers c.bounds_of.ensures.time) c.session_text.ensures
