use Rattle.std.proofs.Common.{List, ◌-◌, ◌∙◌, ap, arith, refl, sym}
use Rattle.std.specs.Prelude.{slice_index_or}
use Rattle.plain_machine.specs.declared.endpoint.Endpoint.{Endpoint}
use Rattle.endpoints.specs.StoreState.{StoreState}
use Rattle.endpoints.proofs.StoreLemmas.{stands_there}
use Rattle.endpoints.proofs.ChangeLemmas.{line_changed}
use Rattle.endpoints.proofs.store.Store.change.Goals as goal

pub returns-clause-ok : goal.returns-clause-ok
returns-clause-ok g c =
    let changes = c.change.ensures in
    record {
      endpoint = changes.endpoint;
      becomes = changes.becomes;
      here = stands_there c.args.self.now.endpoints c.args.line c.from-place.result (c.from-place.result - 1) changes.endpoint c.requires.line c.requires.within c.from-place.ensures refl
          (changes.here ∙ ap (λ (f : StoreState). slice_index_or f.endpoints.list (c.from-place.result - 1) changes.endpoint) c.self.view_is);
      leaves = changes.leaves;
      store = line_changed _ _ c.self.inside.own_saved c.self.inside.endpoints c.change.new.self (c.from-place.result - 1) c.args.line c.index-list-place.result changes.becomes _ _ c.args.self.now
          (sym c.self.view_is) (omega (arith, c.from-place.ensures)) (c.index-list-place.is ∙ ap (λ (l : List Endpoint). slice_index_or l (c.from-place.result - 1) c.index-list-place.result) c.list.ensures.value) c.in_ok-save.ensures.ok changes.endpoints;
    }
