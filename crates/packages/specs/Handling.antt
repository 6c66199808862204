-- The value of Q (RFC 3435, 2.3.3 and 4.4.1): whether quarantined events are processed, and whether notifications follow
-- one another without a request between them. Any other value is 508 (unsupported quarantine handling).
use Rattle.std.specs.Prelude.{ℕ, if◌then◌else◌, List, [], ◌∷◌, ◌++◌, codes, Result, Ok, Err}
use Rattle.mg_bytes.specs.Bytes.{comma}
use Rattle.mg_bytes.specs.Case.{same_but_case}
use Rattle.mg_bytes.specs.Items.{items_of}
use Rattle.packages.specs.declared.handling.Notifying.{Notifying}
use Rattle.packages.specs.declared.handling.Notifying.TheVariants.{Step, Loop}
use Rattle.packages.specs.declared.handling.Quarantined.{Quarantined}
use Rattle.packages.specs.declared.handling.Quarantined.TheVariants.{Process, Discard}
use Rattle.packages.specs.declared.handling.Handling.{Handling}
use Rattle.packages.specs.declared.handling.Word.{Word}
use Rattle.packages.specs.declared.handling.Word.TheVariants.{OfNotifying, OfQuarantined, Other}

-- a word, in any case
abbrev pub word_of : List ℕ → Word
word_of text =
    if same_but_case text (codes "step") then OfNotifying Step else
    (if same_but_case text (codes "loop") then OfNotifying Loop else
    (if same_but_case text (codes "process") then OfQuarantined Process else
    (if same_but_case text (codes "discard") then OfQuarantined Discard else Other)))

-- what isn't said is `step` and `process`
abbrev pub by_one : Word → Result Handling ℕ
by_one (OfNotifying notifying) = Ok (record { notifying = notifying; quarantined = Process })
by_one (OfQuarantined quarantined) = Ok (record { notifying = Step; quarantined = quarantined })
by_one Other = Err 508

-- one word of each kind, in either order
abbrev pub by_two : Word → Word → Result Handling ℕ
by_two (OfNotifying notifying) (OfQuarantined quarantined) =
    Ok (record { notifying = notifying; quarantined = quarantined })
by_two (OfQuarantined quarantined) (OfNotifying notifying) =
    Ok (record { notifying = notifying; quarantined = quarantined })
by_two _ _ = Err 508

abbrev pub handling_from : List (List ℕ) → Result Handling ℕ
handling_from (word ∷ []) = by_one (word_of word)
handling_from (first ∷ second ∷ []) = by_two (word_of first) (word_of second)
handling_from _ = Err 508

-- the value
unfoldable pub handling_of : List ℕ → Result Handling ℕ
handling_of value = handling_from (items_of value)

-- The written value: both words

abbrev pub notifying_text : Notifying → List ℕ
notifying_text Step = codes "step"
notifying_text Loop = codes "loop"

abbrev pub quarantined_text : Quarantined → List ℕ
quarantined_text Process = codes "process"
quarantined_text Discard = codes "discard"

unfoldable pub handling_text : Handling → List ℕ
handling_text handling = notifying_text handling.notifying ++ comma ∷ quarantined_text handling.quarantined
