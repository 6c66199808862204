-- The return codes by which a command is refused, and whether what it is refused for may pass (RFC 3435, 2.4).
use Rattle.std.specs.Prelude.{ℕ, ◌==◌, ◌&&◌, nat_le, nat_lt, if◌then◌else◌, Bool, true, false, codes, List, [], ◌∷◌, Option, Some, None}

-- a row of the table: the code, whether its cause may pass, and what the standard says of it, as a phrase
pub record CodeRow : Type 0 where
  pub code : ℕ
  pub may_pass : Bool
  pub words : List ℕ

abbrev pub passing : ℕ → List ℕ → CodeRow
passing code words = record { code = code; may_pass = true; words = words }

abbrev pub lasting : ℕ → List ℕ → CodeRow
lasting code words = record { code = code; may_pass = false; words = words }

-- The transient errors pass, but for the two that tell the hook: those say how the telephone is, and what they mean for a request is said
-- of that alone (`passes`). The permanent ones last, but for two: an endpoint that isn't ready may be so later (501; this exchange's
-- reading), and for one that restarts 405 is to be used in most cases, which is transient (520). Where bandwidth lacks for a while, 404 is
-- to be used, and not 526.
abbrev pub code_rows : List CodeRow
code_rows =
    passing 400 (codes "unspecified transient error")
    ∷ lasting 401 (codes "the phone is already off hook")
    ∷ lasting 402 (codes "the phone is already on hook")
    ∷ passing 403 (codes "insufficient resources at this time")
    ∷ passing 404 (codes "insufficient bandwidth at this time")
    ∷ passing 405 (codes "the endpoint is restarting")
    ∷ passing 406 (codes "transaction time-out")
    ∷ passing 407 (codes "transaction aborted")
    ∷ passing 409 (codes "internal overload")
    ∷ passing 410 (codes "no endpoint available")
    ∷ lasting 500 (codes "the endpoint is unknown")
    ∷ passing 501 (codes "the endpoint is not ready")
    ∷ lasting 502 (codes "insufficient resources")
    ∷ lasting 503 (codes "wildcard too complicated")
    ∷ lasting 504 (codes "unknown or unsupported command")
    ∷ lasting 505 (codes "unsupported remote connection descriptor")
    ∷ lasting 506 (codes "unable to satisfy both local connection options and remote connection descriptor")
    ∷ lasting 507 (codes "unsupported functionality")
    ∷ lasting 508 (codes "unknown or unsupported quarantine handling")
    ∷ lasting 509 (codes "error in remote connection descriptor")
    ∷ lasting 510 (codes "protocol error")
    ∷ lasting 511 (codes "unrecognized extension")
    ∷ lasting 512 (codes "not equipped to detect a requested event")
    ∷ lasting 513 (codes "not equipped to generate a requested signal")
    ∷ lasting 514 (codes "cannot send the specified announcement")
    ∷ lasting 515 (codes "incorrect connection-id")
    ∷ lasting 516 (codes "unknown or incorrect call-id")
    ∷ lasting 517 (codes "unsupported or invalid mode")
    ∷ lasting 518 (codes "unsupported or unknown package")
    ∷ lasting 519 (codes "no digit map")
    ∷ passing 520 (codes "the endpoint is restarting")
    ∷ lasting 521 (codes "redirected to another call agent")
    ∷ lasting 522 (codes "no such event or signal")
    ∷ lasting 523 (codes "unknown action or illegal combination of actions")
    ∷ lasting 524 (codes "internal inconsistency in local connection options")
    ∷ lasting 525 (codes "unknown extension in local connection options")
    ∷ lasting 526 (codes "insufficient bandwidth")
    ∷ lasting 527 (codes "missing remote connection descriptor")
    ∷ lasting 528 (codes "incompatible protocol version")
    ∷ lasting 529 (codes "internal hardware failure")
    ∷ lasting 530 (codes "CAS signaling protocol error")
    ∷ lasting 531 (codes "failure of a grouping of trunks")
    ∷ lasting 532 (codes "unsupported values in local connection options")
    ∷ lasting 533 (codes "response too large")
    ∷ lasting 534 (codes "codec negotiation failure")
    ∷ lasting 535 (codes "packetization period not supported")
    ∷ lasting 536 (codes "unknown or unsupported restart method")
    ∷ lasting 537 (codes "unknown or unsupported digit map extension")
    ∷ lasting 538 (codes "event or signal parameter error")
    ∷ lasting 539 (codes "invalid or unsupported command parameter")
    ∷ lasting 540 (codes "per endpoint connection limit exceeded")
    ∷ lasting 541 (codes "invalid or unsupported local connection options")
    ∷ []

-- the row of a code, if it has one
unfoldable pub row_in : List CodeRow → ℕ → Option CodeRow
row_in [] code = None
row_in (row ∷ rows) code = if row.code == code then Some row else row_in rows code

-- a code without a row says it by its class: 400 to 499 are transient errors, 500 to 599 permanent ones
abbrev pub is_transient : ℕ → Bool
is_transient code = nat_le 400 code && nat_lt code 500

abbrev pub passes_by : ℕ → Option CodeRow → Bool
passes_by code None = is_transient code
passes_by code (Some row) = row.may_pass
