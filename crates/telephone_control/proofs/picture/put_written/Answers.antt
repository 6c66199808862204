use Rattle.std.proofs.Common.{ℕ, List, ◌++◌, [], ◌∷◌, ap, ◌∙◌, append_assoc, codes}
use Rattle.telephone_control.specs.Picturing.{by_name, capture_written}
use Rattle.telephone_control.proofs.picture.put_written.Goals as goal

pub returns : goal.returns
returns c kept =
    let last = c.put_capture.ensures kept in
    let second = c.put_file-2.ensures last.0 in
    let first = c.put_file.ensures second.0 in
    let written = c.args.journal.now.written in
    let before = by_name c.args.views.now.items in
    let capture = capture_written c.as_bytes.result.now written.capture in
    let output : List ℕ × ℕ = (codes "standard output", written.output) in
    let error : List ℕ × ℕ = (codes "standard error", written.error) in (
      first.0,
      last.1
          ∙ ap (λ l. l ++ capture) (second.1 ∙ ap (λ l. l ++ (error ∷ [])) first.1)
          ∙ append_assoc (before ++ (output ∷ [])) (error ∷ []) capture
          ∙ append_assoc before (output ∷ []) (error ∷ capture)
          ∙ ap (λ name. before ++ (output ∷ error ∷ capture_written name written.capture))
          (c.as_bytes.ensures ∙ ap (λ held. held.name) c.deref.ensures),
    )
