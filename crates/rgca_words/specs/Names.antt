-- What an ending says of the program, and which files it names.
use Rattle.std.specs.Prelude.{◌≡◌, ℕ, List, map}
use Rattle.live_system.specs.Files.{HasNames}
use Rattle.live_system.specs.declared.ending.About.{About}
use Rattle.live_system.specs.declared.ending.FileNames.{FileNames}
use Rattle.live_system.specs.Wording.{piece_text}
use Rattle.rgca_words.specs.declared.ending.Ending.{Ending}
use Rattle.rgca_words.specs.declared.help.TheConstants.{USAGE, HELP, VERSIONS}
use Rattle.rgca_words.specs.Texts.{ending_text}

-- how the program is used, and its version, in pieces
abbrev pub help_pieces : List (List ℕ)
help_pieces = map (λ piece. piece.now) HELP

abbrev pub version_pieces : List (List ℕ)
version_pieces = map (λ piece. piece.now) VERSIONS

-- this is what the program says of itself: how it is used, in a line and at length, and its version
abbrev pub IsOwn : About → Type 0
IsOwn about =
    (about.usage.now ≡ USAGE.now) × (map piece_text about.help.now ≡ help_pieces) × (map piece_text about.version.now ≡ version_pieces)

-- this is what an ending of the program says where its files have these names
abbrev pub Says : List ℕ → List ℕ → Ending → List ℕ → Type 0
Says read written ending text =
    (about : About) × (files : FileNames) × HasNames read written files × (text ≡ ending_text about files ending) × IsOwn about
