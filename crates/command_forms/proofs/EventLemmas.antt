-- What is asked for about events.
use Rattle.std.proofs.Common.{◌≡◌, ℕ, List, codes, [], refl, ap, ◌∙◌, Ok, Err}
use Rattle.std.specs.Prelude.{Result}
use Rattle.mg_bytes.specs.declared.code_fault.CodeFault.{CodeFault}
use Rattle.mg_bytes.specs.declared.code_fault.CodeFault.TheVariants.{OutOfMemory, Code}
use Rattle.mg_bytes.specs.CodeFault.{AnswersAs}
use Rattle.mgcp_text.specs.declared.message.Param.{Param}
use Rattle.event_syntax.specs.declared.request.RequestedEvent.{RequestedEvent}
use Rattle.event_syntax.specs.Requested.{requested_of}
use Rattle.event_syntax.specs.Detect.{detected_of}
use Rattle.event_syntax.proofs.Computing.{on_examples as syntax_examples}
use Rattle.command_forms.specs.declared.refused.FaultyPart.{FaultyPart}
use Rattle.command_forms.specs.Refusing.{stopped}
use Rattle.command_forms.specs.Params.{value_at}
use Rattle.command_forms.specs.Deeds.{events_of}

-- an empty T asks for nothing
nothing_detected : detected_of [] ≡ Ok []
unfolding syntax_examples
nothing_detected = refl

-- so where T is absent or empty, what R asks for is all
pub nothing_meanwhile : (params : List Param) (requested : List RequestedEvent) → requested_of (value_at (codes "R") params) ≡ Ok requested
    → value_at (codes "T") params ≡ [] → events_of params ≡ Ok (record { requested = requested; detected = [] })
unfolding events_of
nothing_meanwhile params requested r t =
    let none : detected_of (value_at (codes "T") params) ≡ Ok [] = ap detected_of t ∙ nothing_detected in
    rw (r, none) refl

-- what was read at a place is what the definition says
pub read_there : {A : Type 0} (place : FaultyPart) (said : Result A ℕ) (read : Result A CodeFault) (value : A) → AnswersAs said read
    → Ok value ≡ stopped place read → said ≡ Ok value
read_there place said (Ok x) value answers e = let same : x ≡ value = cc in answers ∙ ap Ok same
read_there place said (Err (Code code)) value answers e = absurd cc
read_there place said (Err OutOfMemory) value answers e = absurd cc
