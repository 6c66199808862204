-- What is drawn for a packet: four words of its way's generator, a Pcg32, always as many, whatever they are used for.
use Rattle.std.specs.Prelude.{ℕ}
use Rattle.rand_core.specs.Pcg32Seed.{pcg32_seed}
use Rattle.rand_pcg.specs.Lcg.{Lcg}
use Rattle.rand_pcg.specs.Pcg.{pcg32, pcg32_of_seed}
use Rattle.impairment.specs.declared.draws.Draws.{Draws}
use Rattle.impairment.specs.declared.draws.Generators.{Generators}
use Rattle.impairment.specs.declared.packet.Way.{Way}
use Rattle.impairment.specs.declared.packet.Way.TheVariants.{In, Out}
use Rattle.impairment.specs.declared.spoiling.Spoiling.{Spoiling}
use Rattle.impairment.specs.Naming.{mixed_with}

-- a word of the generator, and the generator after it
unfoldable pub word_of : Lcg → ℕ
word_of generator = (pcg32 generator).0

unfoldable pub after_word : Lcg → Lcg
after_word generator = (pcg32 generator).1

-- the generator that a seed begins
unfoldable pub seeded : ℕ → Lcg
seeded seed = pcg32_of_seed (pcg32_seed 16 seed)

abbrev pub draws_of : Lcg → Draws
draws_of generator = record {
  lost = word_of generator;
  copied = word_of (after_word generator);
  first = word_of (after_word (after_word generator));
  second = word_of (after_word (after_word (after_word generator)));
}

abbrev pub after_draws : Lcg → Lcg
after_draws generator = after_word (after_word (after_word (after_word generator)))

-- the letters of the ways, `i` and `o`
abbrev pub letter_of : Way → ℕ
letter_of In = 105
letter_of Out = 111

-- each way's generator begins by its seed, mixed with its letter
abbrev pub generators_of : Spoiling → Generators
generators_of spoiling = record {
  incoming = seeded (mixed_with spoiling.incoming.seed (letter_of In));
  outgoing = seeded (mixed_with spoiling.outgoing.seed (letter_of Out));
}

-- a way's generator
abbrev pub generator_on : Way → Generators → Lcg
generator_on In generators = generators.incoming
generator_on Out generators = generators.outgoing

-- what is drawn for the next packet that goes a way; the other way's generator stays
abbrev pub draws_on : Way → Generators → Draws
draws_on way generators = draws_of (generator_on way generators)

abbrev pub after_draws_on : Way → Generators → Generators
after_draws_on In generators = record generators { incoming = after_draws generators.incoming }
after_draws_on Out generators = record generators { outgoing = after_draws generators.outgoing }
