-- What is told of what wasn't recorded.
use Rattle.std.specs.Prelude.{ℕ, nat_lt, codes, decimal, if◌then◌else◌, List, [], ◌++◌, Option, Some, None}
use Rattle.log_format.specs.Escaping.{shown}
use Rattle.output_queues.specs.declared.written.Written.{Written}
use Rattle.output_queues.specs.Backlog.{sum_within}

-- where that failed its name stands, behind a blank
unfoldable pub name_text : ℕ → List ℕ → List ℕ
name_text faults name = if nat_lt 0 faults then codes " " ++ shown name else []

-- how many write faults there were
abbrev pub faults_in : Written → ℕ
faults_in written = sum_within (sum_within written.output written.error) written.capture

abbrev pub numbers_text : ℕ → ℕ → List ℕ
numbers_text dropped faults = codes "records dropped " ++ decimal dropped ++ codes " write faults " ++ decimal faults

abbrev pub names_text : Written → List ℕ → List ℕ
names_text written capture =
    name_text written.output (codes "standard output") ++ name_text written.error (codes "standard error")
    ++ name_text written.capture capture

-- as `records dropped 12 write faults 1 calls.pcap`, where the capture's file has this name
unfoldable pub written_line : Written → List ℕ → List ℕ
written_line written capture =
    numbers_text written.dropped (faults_in written) ++ names_text written capture ++ codes "\n"
