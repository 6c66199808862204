use Rattle.std.proofs.lemmas.Bool.{and_parts}
use Rattle.page_http.specs.Access.{is_known_host, is_origin_at}
use Rattle.page_http.proofs.access_laws.a_strange_host_has_no_origin_here.Goals as goal

pub returns : goal.returns
returns c = λ site host origin is. and_parts (is_known_host site host) (is_origin_at host origin) is
