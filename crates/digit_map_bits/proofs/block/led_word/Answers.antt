use Rattle.std.proofs.Common.{refl}
use Rattle.digit_map_bits.proofs.block.led_word.Goals as goal

pub returns-clause-word : goal.returns-clause-word
returns-clause-word c = rw (c.from-reached.ensures, c.from.ensures, c.from-2.ensures, c.from-3.ensures) refl

pub returns-clause-carried : goal.returns-clause-carried
returns-clause-carried c = rw (c.from-reached.ensures, c.from.ensures, c.from-2.ensures, c.from-3.ensures) refl
