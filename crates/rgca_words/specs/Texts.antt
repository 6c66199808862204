-- What is said at an end.
use Rattle.std.specs.Prelude.{ℕ, codes, List, [], ◌∷◌, ◌++◌}
use Rattle.live_system.specs.Wording.{joined}
use Rattle.live_system.specs.declared.ending.About.{About}
use Rattle.live_system.specs.declared.ending.FileNames.{FileNames}
use Rattle.live_system.specs.Ending.{ending_text as common_text}
use Rattle.rgca_words.specs.declared.ending.Moved.{Moved as Part}
use Rattle.rgca_words.specs.declared.ending.Moved.TheVariants.{Check, Phones, Load}
use Rattle.rgca_words.specs.declared.ending.Ending.{Ending}
use Rattle.rgca_words.specs.declared.ending.Ending.TheVariants.{Common, Moved, Config}

-- where a part of the program went
abbrev pub moved_text : Part → List ℕ
moved_text Check = codes "rgca check is now the program rgw-check\n"
moved_text Phones = codes "rgca phones is now the Python module rgw_bench.phones, for tests with pytest\n"
moved_text Load = codes "rgca load is now the program rgw-load\n"

-- it is a line, or those of a configuration's faults
unfoldable pub ending_text : About → FileNames → Ending → List ℕ
ending_text about files (Common ending) = common_text about files ending
ending_text about files (Moved what) = joined (moved_text what ∷ [])
ending_text about files (Config line) = files.read_from.now ++ (codes ": " ++ (line.items ++ codes "\n"))
