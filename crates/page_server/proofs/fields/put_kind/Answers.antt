use Rattle.std.proofs.Common.{◌≡◌, List, ◌++◌, ◌∙◌, ap, subst, append_assoc}
use Rattle.std.specs.Prelude.{codes, OnOk}
use Rattle.http1.specs.Fields.{Header}
use Rattle.http_server.specs.Response.{fields_of}
use Rattle.page_server.specs.Fields.{kind_of, policy, kept_fields, guard_fields}
use Rattle.page_server.proofs.FieldLemmas.{three_more}
use Rattle.page_server.proofs.fields.put_kind.Goals as goal

pub returns-clause-fields : goal.returns-clause-fields
returns-clause-fields c =
    let kept : fields_of c.add_header-3.new.self ≡ fields_of c.args.response.now ++ kept_fields c.args.content =
    (rw c.from_static-2.ensures at c.in_ok-add_header-3.ensures.headers)
    ∙ three_more (fields_of c.args.response.now) _ _ (codes "content-type", kind_of c.args.content)
    (codes "cache-control", codes "no-store") (codes "x-content-type-options", codes "nosniff")
    (rw c.kind_of.ensures at c.in_ok-add_header.ensures.headers)
    (rw c.from_static.ensures at c.in_ok-add_header-2.ensures.headers) in
    subst (λ (fields : List Header). OnOk c.add_header-6.result (fields_of c.add_header-6.new.self ≡ fields))
    (three_more (fields_of c.add_header-3.new.self) _ _ (codes "x-frame-options", codes "DENY")
    (codes "referrer-policy", codes "no-referrer") (codes "content-security-policy", policy)
    (rw c.from_static-3.ensures at c.in_ok-add_header-4.ensures.headers)
    (rw c.from_static-4.ensures at c.in_ok-add_header-5.ensures.headers)
    ∙ ap (λ (front : List Header). front ++ guard_fields) kept
    ∙ append_assoc (fields_of c.args.response.now) (kept_fields c.args.content) guard_fields)
    (rw c.policy.ensures at c.add_header-6.ensures.headers)
