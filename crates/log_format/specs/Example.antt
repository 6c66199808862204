-- What the worked examples speak of.
use Rattle.std.specs.Prelude.{ℕ, codes, List, [], ◌∷◌}
use Rattle.log_format.specs.declared.stamp.Stamp.{Stamp}

-- something at this moment, with 10.0.0.7, port 2727
abbrev pub stamp_at : ℕ → Stamp
stamp_at moment = record { moment = moment; peer = record { ip = record { octets = 10 ∷ 0 ∷ 0 ∷ 7 ∷ [] }; port = 2727 } }

-- 12:03:07.123456 on the second day of 1970: 86,400 + 43,387 seconds
abbrev pub noon : ℕ
noon = 129787123456

-- the domain of the gateway
abbrev pub own : List ℕ
own = codes "rgw.example.net"
