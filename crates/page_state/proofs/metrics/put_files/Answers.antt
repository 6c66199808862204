use Rattle.std.proofs.Common.{◌≡◌, ℕ, ◌+◌, ◌<◌, length, get_or, drop, List, ◌++◌, ap, sym, ◌∙◌, append_assoc}
use Rattle.std.proofs.lemmas.List.{drop_more}
use Rattle.page_state.specs.declared.counts.FileCount.{FileCount}
use Rattle.page_state.specs.Metrics.{file_sample, file_samples}
use Rattle.page_state.proofs.metrics.put_files.Goals as goal

-- a sample is put of the count at a place, and those behind it are left
goes_on : (counts : List FileCount) (place : ℕ) (count : FileCount) (out next whole : List ℕ) → place < length counts
    → count ≡ get_or counts place count → next ≡ out ++ file_sample count
    → out ++ file_samples (drop place counts) ≡ whole → next ++ file_samples (drop (place + 1) counts) ≡ whole
goes_on counts place count out next whole within is put so_far =
    ap (λ front. front ++ file_samples (drop (place + 1) counts)) put
    ∙ append_assoc out (file_sample count) (file_samples (drop (place + 1) counts))
    ∙ ap (λ one. out ++ (file_sample one ++ file_samples (drop (place + 1) counts))) is
    ∙ ap (λ left. out ++ file_samples left) (sym (drop_more counts place count within))
    ∙ so_far

pub loop-count-preserved : goal.loop-count-preserved
loop-count-preserved c =
    goes_on _ _ _ _ _ _ c.loop-count-test.true c.count-item.is c.put_file.ensures c.loop-count.invariant
