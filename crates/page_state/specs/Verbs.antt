-- The words of the verbs (RFC 3435, 3.2.1.1).
use Rattle.std.specs.Prelude.{ℕ, ◌==◌, codes, if◌then◌else◌, List}

-- the word of the verb at a place
unfoldable pub verb_word : ℕ → List ℕ
verb_word place =
    if place == 0 then codes "EPCF"
    else if place == 1 then codes "RQNT"
    else if place == 2 then codes "NTFY"
    else if place == 3 then codes "CRCX"
    else if place == 4 then codes "MDCX"
    else if place == 5 then codes "DLCX"
    else if place == 6 then codes "AUEP"
    else if place == 7 then codes "AUCX"
    else if place == 8 then codes "RSIP"
    else codes "other"
