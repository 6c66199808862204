-- What the worked examples speak of.
use Rattle.std.specs.Prelude.{[], ◌∷◌, codes}
use Rattle.endpoint_names.specs.declared.route.Route.TheVariants.{Two}
use Rattle.endpoint_names.specs.declared.entity.Entity.{Entity}

-- a call agent at other addresses than the one that is configured
abbrev pub other_agent : Entity
other_agent = record {
  text = codes "ca2.example.net:2728";
  route = Two (record { ip = record { octets = 127 ∷ 0 ∷ 0 ∷ 2 ∷ [] }; port = 2728 })
      (record { ip = record { octets = 127 ∷ 0 ∷ 0 ∷ 3 ∷ [] }; port = 2728 });
}
