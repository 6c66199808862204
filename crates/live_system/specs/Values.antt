-- What stands behind words of a command line.
use Rattle.std.specs.Prelude.{◌≡◌, ◌<◌, ◌^◌, ℕ, Bool, true, false, codes, List, Option, None, Some, IsSome, IfSome}
use Rattle.std.specs.Str.Parse.{IsNumeral, digits_value, without_leading_plus}
use Rattle.std.specs.declared.net.socket_addr.SocketAddrV4.{SocketAddrV4}
use Rattle.live_system.specs.Addresses.{IsAddress}

-- the address that a text behind a word says; none where nothing stands there
abbrev pub IsBehind : Option (List ℕ) → Option SocketAddrV4 → Type 0
IsBehind said None = said ≡ None
IsBehind said (Some address) = (text : List ℕ) × (said ≡ Some text) × IsAddress text address

-- what is read so of a text behind a word, which says something; nothing where none stands there
abbrev pub IsRead : {A : Type 0} → (List ℕ → Option A) → Option (List ℕ) → Option A → Type 0
IsRead reads None found = found ≡ None
IsRead reads (Some text) found = (reads text ≡ found) × IsSome found

-- the number of 64 bits that a text behind a word is, if it is one; none where none stands there
abbrev pub IsMoment : Option (List ℕ) → Option ℕ → Type 0
IsMoment None moment = moment ≡ None
IsMoment (Some text) moment =
    IfSome moment (λ ms. ms ≡ digits_value 10 (without_leading_plus text))
    × (IsNumeral 10 (without_leading_plus text) × (digits_value 10 (without_leading_plus text) < 2 ^ 64) → IsSome moment)

-- a word that stands there or doesn't
abbrev pub SaysFlag : Option (List ℕ) → Bool → Type 0
SaysFlag said flag =
    (said ≡ None → flag ≡ false) × (said ≡ Some (codes "true") → flag ≡ true) × (said ≡ Some (codes "false") → flag ≡ false)
