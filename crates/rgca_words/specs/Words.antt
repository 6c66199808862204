-- What words of the command line say.
use Rattle.std.specs.Prelude.{ℕ, bytes_eq, codes, if◌then◌else◌, List, Option, None, Some}
use Rattle.std.specs.Result.{result_ok}
use Rattle.impairment.specs.Parts.{spoiling_of}
use Rattle.impairment.specs.declared.spoiling.Spoiling.{Spoiling}
use Rattle.rgca_words.specs.declared.ending.Moved.{Moved}
use Rattle.rgca_words.specs.declared.ending.Moved.TheVariants.{Check, Phones, Load}

-- a word asks for what another program does now
abbrev pub moved_by : List ℕ → Option Moved
moved_by word =
    if bytes_eq word (codes "check") then Some Check
    else (if bytes_eq word (codes "phones") then Some Phones else (if bytes_eq word (codes "load") then Some Load else None))

-- how a network spoils datagrams, as a text says it, if it does
abbrev pub spoiling_read : List ℕ → Option Spoiling
spoiling_read text = result_ok (spoiling_of text)
