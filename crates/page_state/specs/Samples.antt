-- The samples of a metric as the table of metrics has it.
use Rattle.std.specs.Prelude.{ℕ, List, ◌++◌}
use Rattle.std.specs.List.{flat_map}
use Rattle.std.specs.Borrow.{Bor}
use Rattle.page_state.specs.declared.families.Metric.{Metric}
use Rattle.page_state.specs.Metrics.{single, family_head, labelled_sample}

-- a metric of one sample
abbrev pub single_of : Metric × ℕ → List ℕ
single_of sample = single sample.0.name.now sample.0.kind.now sample.0.help.now sample.1

-- a sample of one that has several
abbrev pub labelled_of : Metric → Bor (List ℕ) × ℕ → List ℕ
labelled_of metric sample = labelled_sample metric.name.now metric.label.now sample.0.now sample.1

-- a metric that has several
abbrev pub family_of : Metric → List (Bor (List ℕ) × ℕ) → List ℕ
family_of metric samples = family_head metric.name.now metric.kind.now metric.help.now ++ flat_map (labelled_of metric) samples
