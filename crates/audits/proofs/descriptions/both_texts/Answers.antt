use Rattle.std.proofs.Common.{append_assoc}
use Rattle.audits.proofs.BodyLemmas.{both_writable}
use Rattle.audits.proofs.descriptions.both_texts.Goals as goal

pub returns-clause-writable : goal.returns-clause-writable
returns-clause-writable c =
    rw (c.of.ensures, c.in_ok-extend_from_slice-2.ensures.items, c.in_ok-extend_from_slice.ensures.items, c.into_bytes-out.ensures, c.as_bytes.ensures, append_assoc)
    (both_writable _ _ c.in_ok-local.ensures.whole c.in_ok-remote.ensures.whole)
