-- What is said at an end.
use Rattle.std.specs.Prelude.{ℕ, codes, decimal, List, [], ◌∷◌, ◌++◌}
use Rattle.std.specs.Net.Text.{socket_v4_text}
use Rattle.std.specs.declared.net.socket_addr.SocketAddrV4.{SocketAddrV4}
use Rattle.traces.specs.Words.{longest_spread}
use Rattle.live_system.specs.Wording.{joined}
use Rattle.live_system.specs.declared.ending.About.{About}
use Rattle.live_system.specs.declared.ending.FileNames.{FileNames}
use Rattle.live_system.specs.Ending.{ending_text as common_text}
use Rattle.rgwd_words.specs.declared.ending.TheConstants.{LAST_FIRST}
use Rattle.rgwd_words.specs.declared.ending.Ending.{Ending}
use Rattle.rgwd_words.specs.declared.ending.Ending.TheVariants.{Common, Checked, BadAgents, BadHosts, BadSize, BadFiles, AnyAddress, BadFirst, BadSpread, NoTimeOfDay, Replayed, Differs, NoTrace, Answered, Refused, NoAnswer}
use Rattle.rgwd_words.specs.Parting.{most_megabytes, most_files}

abbrev pub unanswered_text : SocketAddrV4 → List ℕ
unanswered_text address =
    joined (socket_v4_text address ∷ codes ": no answer; does a gateway run, with its telephones (--phones) at this address?\n" ∷ [])

-- it is a line; nothing where what was asked for is printed, or where all was said
unfoldable pub ending_text : About → FileNames → Ending → List ℕ
ending_text about files (Common ending) = common_text about files ending
ending_text about files Checked = []
ending_text about files BadAgents =
    joined (codes "--agents: wanted any, or addresses, as 10.0.0.7,10.1.0.0/16, of which the first 16 bits count\n" ∷ [])
ending_text about files BadHosts = joined (codes "--http-host: wanted names, as rgw.example.net,10.0.0.5, without a port\n" ∷ [])
ending_text about files BadSize = codes "--capture-size: wanted 1 to " ++ decimal most_megabytes ++ codes " MB, beside --capture\n"
ending_text about files BadFiles = codes "--capture-files: wanted 1 to " ++ decimal most_files ++ codes ", beside --capture-size\n"
ending_text about files AnyAddress =
    joined (codes "--http: the page answers those who name its address, and nobody names 0.0.0.0: write one of this machine's, as 127.0.0.1:8080, or a name behind --http-host\n" ∷ [])
ending_text about files BadFirst = codes "--first: wanted a number, 0 to " ++ decimal LAST_FIRST ++ codes "\n"
ending_text about files BadSpread = codes "--spread: wanted 0 to " ++ decimal longest_spread ++ codes " ms\n"
ending_text about files NoTimeOfDay =
    joined (codes "this machine has no time of day: --first N says with which number ids begin, another at each start\n" ∷ [])
ending_text about files Replayed = []
ending_text about files Differs = []
ending_text about files NoTrace = []
ending_text about files Answered = []
ending_text about files Refused = []
ending_text about files (NoAnswer address) = unanswered_text address
