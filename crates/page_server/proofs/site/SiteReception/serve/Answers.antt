use Rattle.std.proofs.Common.{◌∙◌, ap}
use Rattle.page_http.specs.declared.host_names.HostNames.{HostNames}
use Rattle.page_http.specs.Naming.{names_of}
use Rattle.page_server.proofs.site.SiteReception.serve.Goals as goal

pub returns : goal.returns
returns g c = record {
  closed = c.close_late.new.self;
  late = c.close_late.ensures.places;
  waiting = c.close_late.ensures.accepting;
  again = c.close_late.ensures.again;
  looked = c.look.new.self;
  put_off = c.look.ensures.again;
  noted = c.look.ensures.noted;
  accepting = c.look.ensures.accepting;
  came = c.accept.result;
  lets = c.accept.ensures.lets;
  there = c.accept.new.self;
  address = c.accept.ensures.address ∙ c.look.ensures.address ∙ c.close_late.ensures.address;
  names = c.accept.ensures.names ∙ c.look.ensures.names ∙ ap (λ (n : HostNames). names_of n) c.close_late.ensures.names;
  last = c.accept.ensures.last ∙ c.look.ensures.last ∙ c.close_late.ensures.last;
  forgotten = c.look.ensures.forgotten;
  next = c.turn.ensures;
}
