-- How the program ends by what a replay finds.
use Rattle.rgwd_words.specs.declared.ending.Ending.{Ending}
use Rattle.rgwd_words.specs.declared.ending.Ending.TheVariants.{Replayed, Differs, NoTrace}
use Rattle.traces.specs.declared.verdict.Verdict.{Verdict}
use Rattle.traces.specs.declared.verdict.Verdict.TheVariants as verdicts

-- by a trace: each line that went out is as told, or one differs, or it is none
abbrev pub replayed_by : Verdict → Ending
replayed_by (verdicts.AsTold lines) = Replayed
replayed_by (verdicts.Differs line told sent) = Differs
replayed_by (verdicts.Broken line) = NoTrace
