use Rattle.std.proofs.Common.{◌≡◌, []}
use Rattle.digit_map_bits.specs.Places.{places_of}
use Rattle.digit_map_bits.specs.Blocks.{blocks_of, count_of, words_after}
use Rattle.digit_map_bits.proofs.CompiledLaws.{started_blocks, started_words, started_len}
use Rattle.digit_map_bits.proofs.plan.Plan.new.Goals as goal

pub returns : goal.returns
returns c =
    let blocks : c.in_ok-blocks.blocks.items ≡ blocks_of (count_of (places_of c.in_ok-copy.copy)) (places_of c.in_ok-copy.copy) =
    started_blocks _ _ _ _ _ c.deref.ensures.value c.in_ok-drafts.ensures c.as_bytes.ensures.value c.in_ok-blocks.ensures in
    let begun : c.in_ok-begun.begun.items ≡ words_after c.in_ok-copy.copy [] =
    started_words _ _ _ _ _ c.deref-2.ensures.value c.in_ok-drafts.ensures c.as_bytes.ensures.value c.in_ok-begun.ensures in (
      c.in_ok-copy.ensures,
      record {
        spelled = rw c.as_bytes.ensures.value at c.as_bytes.ensures.spelled;
        blocks_are = blocks;
        begun_are = begun;
        begun_len = started_len _ _ _ begun blocks;
        words_len = started_len _ _ _ begun blocks;
      },
    )
