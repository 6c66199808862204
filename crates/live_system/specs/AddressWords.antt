-- Behind what an address stands, as it is told.
use Rattle.std.specs.Prelude.{ℕ, codes, List}
use Rattle.live_system.specs.declared.address_words.AddressWord.{AddressWord}
use Rattle.live_system.specs.declared.address_words.AddressWord.TheVariants.{Listen, Phones, Http, Tell, Control, OwnKey}

-- a word of a command line, or the key `own` of a configuration
unfoldable pub word_text : AddressWord → List ℕ
word_text Listen = codes "--listen"
word_text Phones = codes "--phones"
word_text Http = codes "--http"
word_text Tell = codes "--tell"
word_text Control = codes "--control"
word_text OwnKey = codes "own"
