-- What words say of the files of a capture.
use Rattle.std.specs.Prelude.{ℕ, ◌*◌, Bool, ◌&&◌, nat_le, if◌then◌else◌, List, Option, Some, None, Result, Ok, Err}
use Rattle.mg_bytes.specs.Steps.{◌>>=◌}
use Rattle.mg_bytes.specs.Numbers.{decimal_of}
use Rattle.live_system.specs.declared.parting.Parting.{Parting}
use Rattle.rgwd_words.specs.declared.ending.Ending.{Ending}
use Rattle.rgwd_words.specs.declared.ending.Ending.TheVariants.{BadSize, BadFiles}

-- so many bytes are a MB
abbrev pub megabyte : ℕ
megabyte = 1000000

-- so large a file may be at most, in MB, and so many there may be; and so many are kept where nothing is said
abbrev pub most_megabytes : ℕ
most_megabytes = 100000

abbrev pub most_files : ℕ
most_files = 10000

abbrev pub usual_files : ℕ
usual_files = 10

-- a number, if it is one from 1 to this one
abbrev pub number_within : ℕ → Option ℕ → Option ℕ
number_within most None = None
number_within most (Some number) = if nat_le 1 number && nat_le number most then Some number else None

abbrev pub files_of : Option (List ℕ) → Option ℕ
files_of None = Some usual_files
files_of (Some text) = number_within most_files (decimal_of text)

-- a number that is wanted there, or a fault
abbrev pub wanted : Ending → Option ℕ → Result ℕ Ending
wanted fault None = Err fault
wanted fault (Some number) = Ok number

abbrev pub parted : ℕ → ℕ → Parting
parted megabytes files = record { size = megabytes * megabyte; files = files }

abbrev pub parted_of : List ℕ → Option (List ℕ) → Result (Option Parting) Ending
parted_of size files =
    wanted BadSize (number_within most_megabytes (decimal_of size)) >>= λ megabytes.
    wanted BadFiles (files_of files) >>= λ number. Ok (Some (parted megabytes number))

-- without a size a number of files says nothing
abbrev pub sizeless : Option (List ℕ) → Result (Option Parting) Ending
sizeless None = Ok None
sizeless (Some files) = Err BadFiles

-- how a capture is parted, where there is one: by a size, and a number of files
abbrev pub parting_of : Bool → Option (List ℕ) → Option (List ℕ) → Result (Option Parting) Ending
parting_of has_capture None files = sizeless files
parting_of has_capture (Some size) files = if has_capture then parted_of size files else Err BadSize
