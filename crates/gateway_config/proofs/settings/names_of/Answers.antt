use Rattle.std.proofs.Common.{◌≡◌, ◌∙◌, ◌++◌, ◌∷◌, [], ℕ, List, Option, Some, None, sym, ap, refl, append_assoc}
use Rattle.std.specs.Prelude.{option_map}
use Rattle.std.specs.declared.net.ipv4_addr.Ipv4Addr.{Ipv4Addr}
use Rattle.mg_bytes.specs.Option.{◌>>=◌}
use Rattle.toml.specs.Data.{Data, Members, member}
use Rattle.toml.specs.View.{view, members_view}
use Rattle.endpoint_names.specs.declared.route.Route.{Route}
use Rattle.plain_machine.specs.declared.config.NamedRoute.{NamedRoute}
use Rattle.rgw_scripts.specs.Configuration.{route_in, names_from}
use Rattle.gateway_config.proofs.settings.names_of.Goals as goal

-- one name more is read
name_more : (names : List NamedRoute) (name : List ℕ) (value : Data) (route : Route Ipv4Addr) (members : Members) → Some route ≡ route_in value
    → option_map (λ others. (names ++ (record { name = name; route = route }) ∷ []) ++ others) (names_from members) ≡ option_map (λ others. names ++ others) (names_from (member name value members))
unfolding names_from
name_more names name value route members is = rw (← is) (by_others (names_from members)) where
  more : NamedRoute
  more = record { name = name; route = route }

  by_others : (others : Option (List NamedRoute)) → option_map (λ os. (names ++ more ∷ []) ++ os) others ≡ option_map (λ os. names ++ os) (others >>= (λ os. Some (more ∷ os)))
  by_others None = refl
  by_others (Some others) = ap Some (append_assoc names (more ∷ []) others)

pub loop-name-preserved : goal.loop-name-preserved
loop-name-preserved c = (
  c.loop-name.invariant.0,
  c.loop-name.invariant.1,
  ap (λ names. option_map (λ others. names ++ others) (names_from (members_view c.next.new.self))) c.in_ok-push.ensures.ok
      ∙ name_more c.loop-name.names c.in_ok-name.name (view c.in-Some.value.now) c.in-Some-route_in.route (members_view c.next.new.self) c.in-Some-route_in.ensures
      ∙ ap (λ name. option_map (λ others. c.loop-name.names ++ others) (names_from (member name (view c.in-Some.value.now) (members_view c.next.new.self)))) (c.in_ok-name.ensures ∙ c.as_str.ensures.value)
      ∙ ap (λ entries. option_map (λ others. c.loop-name.names ++ others) (names_from (members_view entries))) (sym c.in-Some.ensures.steps)
      ∙ c.loop-name.invariant.2,
)
