-- How a program ends, as far as programs have that in common.
use Rattle.std.specs.Prelude.{ℕ, nat_lt, Bool, true, false, if◌then◌else◌, codes, List, [], ◌∷◌}
use Rattle.std.specs.List.{flat_map}
use Rattle.std.specs.Net.Text.{socket_v4_text}
use Rattle.std.specs.declared.net.socket_addr.SocketAddrV4.{SocketAddrV4}
use Rattle.impairment.specs.declared.spoiling.SpoilingFault.{SpoilingFault}
use Rattle.live_system.specs.declared.address_words.AddressWord.{AddressWord}
use Rattle.live_system.specs.declared.ending.About.{About}
use Rattle.live_system.specs.declared.ending.FileNames.{FileNames}
use Rattle.live_system.specs.declared.ending.CommonEnding.{CommonEnding}
use Rattle.live_system.specs.declared.ending.CommonEnding.TheVariants.{Served, Help, Version, Usage, Told, BadAddress, BadNetwork}
use Rattle.live_system.specs.declared.ending.CommonEnding.TheVariants.{Unreadable, Unwritable, Unbound, Clock, Write, OutOfMemory}
use Rattle.live_system.specs.AddressWords.{word_text}
use Rattle.live_system.specs.NetworkFaults.{wanted_by}
use Rattle.output_queues.specs.Reasons.{reason_of}
use Rattle.live_system.specs.Wording.{piece_text, joined}

-- The exit status: 0: it did what was asked; 2: words, or a configuration, are refused; 3: memory, a file, a socket, a stream or the
-- clock failed
abbrev pub status_of : CommonEnding → ℕ
status_of Served = 0
status_of Help = 0
status_of Version = 0
status_of Usage = 2
status_of Told = 2
status_of (BadAddress word) = 2
status_of (BadNetwork fault) = 2
status_of (Unreadable kind) = 3
status_of (Unwritable kind) = 3
status_of (Unbound word address kind) = 3
status_of Clock = 3
status_of Write = 3
status_of OutOfMemory = 3

-- So it ends that served: memory was refused for something that is recorded; or a record couldn't be written; or all is written
abbrev pub served_ending : Bool → ℕ → CommonEnding
served_ending is_refused faults = if is_refused then OutOfMemory else (if nat_lt 0 faults then Write else Served)

-- What is said

-- it is what the words ask for
abbrev pub is_asked : CommonEnding → Bool
is_asked Served = false
is_asked Help = true
is_asked Version = true
is_asked Usage = false
is_asked Told = false
is_asked (BadAddress word) = false
is_asked (BadNetwork fault) = false
is_asked (Unreadable kind) = false
is_asked (Unwritable kind) = false
is_asked (Unbound word address kind) = false
is_asked Clock = false
is_asked Write = false
is_asked OutOfMemory = false

abbrev pub bad_address_text : AddressWord → List ℕ
bad_address_text word = joined (word_text word ∷ codes ": no address a.b.c.d:port\n" ∷ [])

abbrev pub bad_network_text : SpoilingFault → List ℕ
bad_network_text fault = joined (codes "--network: " ∷ wanted_by fault ∷ codes "\n" ∷ [])

-- where the system refuses a file, for a reason
abbrev pub refused_text : List ℕ → List ℕ → List ℕ → List ℕ
refused_text name fault reason = joined (name ∷ fault ∷ reason ∷ codes "\n" ∷ [])

abbrev pub unbound_text : List ℕ → SocketAddrV4 → List ℕ → List ℕ
unbound_text word address reason =
    joined (word ∷ codes " " ∷ socket_v4_text address ∷ codes ": no socket" ∷ reason ∷ codes "\n" ∷ [])

-- it is a line, or what the words ask for; nothing where the program served, or where all was said
unfoldable pub ending_text : About → FileNames → CommonEnding → List ℕ
ending_text about files Served = []
ending_text about files Help = flat_map piece_text about.help.now
ending_text about files Version = flat_map piece_text about.version.now
ending_text about files Usage = joined (codes "usage: " ∷ about.usage.now ∷ codes "\n" ∷ [])
ending_text about files Told = []
ending_text about files (BadAddress word) = bad_address_text word
ending_text about files (BadNetwork fault) = bad_network_text fault
ending_text about files (Unreadable kind) = refused_text files.read_from.now (codes ": read fault") (reason_of kind)
ending_text about files (Unwritable kind) = refused_text files.written_to.now (codes ": write fault") (reason_of kind)
ending_text about files (Unbound word address kind) = unbound_text (word_text word) address (reason_of kind)
ending_text about files Clock = joined (codes "clock fault\n" ∷ [])
ending_text about files Write = []
ending_text about files OutOfMemory = joined (codes "out of memory\n" ∷ [])
