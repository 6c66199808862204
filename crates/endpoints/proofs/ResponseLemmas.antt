-- What the answer to its command in flight does to an endpoint.
use Rattle.std.proofs.Common.{◌≡◌, ℕ, List, Option, Result, Ok, Err, ◌∙◌, subst, append-nil}
use Rattle.std.specs.Prelude.{OnOk, OnErr}
use Rattle.endpoint_names.specs.declared.entity.Entity.{Entity}
use Rattle.mg_line.specs.Answering.{answered}
use Rattle.retransmission.specs.declared.heard.Heard.{Heard}
use Rattle.retransmission.specs.declared.heard.Heard.TheVariants.{Answered}
use Rattle.plain_machine.specs.declared.label.OutMessage.{OutMessage}
use Rattle.plain_machine.specs.declared.post.Post.{Post}
use Rattle.plain_machine.specs.declared.response.Response.{Response}
use Rattle.plain_machine.specs.declared.setup.Setup.{Setup}
use Rattle.plain_machine.specs.declared.endpoint.Endpoint.{Endpoint}
use Rattle.plain_machine.specs.Announcing.{heard_on, replied}
use Rattle.plain_machine.specs.Notifying.{noted}
use Rattle.plain_machine.specs.Responding.{responded_as, responded_on}
use Rattle.endpoints.specs.Effects.{HasEffect}

heard_so : (setup : Setup) (line moment : ℕ) (response : Response) (endpoint becomes : Endpoint) (heard : Heard) (were are : List OutMessage) → heard ≡ heard_on endpoint.post response
    → HasEffect (responded_as heard setup line moment response endpoint) becomes were are → HasEffect (responded_on setup line moment response endpoint) becomes were are
unfolding responded_on
heard_so setup line moment response endpoint becomes heard were are is has =
    subst (λ (h : Heard). HasEffect (responded_as h setup line moment response endpoint) becomes were are) is has

-- the answer sends nothing by itself
answer_silent : (agent : Option Entity) (setup : Setup) (line moment : ℕ) (response : Response) (endpoint : Endpoint) (post : Post) (were mid : List OutMessage)
    → HasEffect (replied (Answered agent) setup line moment response endpoint.post) post were mid → mid ≡ were
unfolding replied
answer_silent agent setup line moment response endpoint post were mid has = has.sent ∙ append-nil were

pub is_answered : (setup : Setup) (line moment : ℕ) (response : Response) (endpoint becomes : Endpoint) (agent : Option Entity) (post : Post) (were mid are : List OutMessage)
    → Answered agent ≡ heard_on endpoint.post response → HasEffect (replied (Answered agent) setup line moment response endpoint.post) post were mid
    → HasEffect (noted setup line moment (record endpoint { post = post }) (answered endpoint.line moment)) becomes mid are
    → HasEffect (responded_on setup line moment response endpoint) becomes were are
is_answered setup line moment response endpoint becomes agent post were mid are is has goes =
    let first : Post = (replied (Answered agent) setup line moment response endpoint.post).value in
    let same : mid ≡ were = answer_silent agent setup line moment response endpoint post were mid has in
    heard_so setup line moment response endpoint becomes (Answered agent) were are is
    (subst (λ (p : Post). HasEffect (noted setup line moment (record endpoint { post = p }) (answered endpoint.line moment)) becomes were are) has.value
    (subst (λ (x : List OutMessage). HasEffect (noted setup line moment (record endpoint { post = post }) (answered endpoint.line moment)) becomes x are) same goes))

-- where it ends well
pub on_ok : {A E : Type 0} {P Q : Type 0} (result : Result A E) → (P → Q) → OnOk result P → OnOk result Q
on_ok (Ok value) then has = then has
on_ok (Err fault) then has = has

-- where what comes behind it fails, nothing went out
pub nothing_sent : {A E : Type 0} (result : Result A E) (agent : Option Entity) (post : Post) (setup : Setup) (line moment : ℕ) (response : Response) (endpoint : Endpoint)
    (were mid are : List OutMessage) → HasEffect (replied (Answered agent) setup line moment response endpoint.post) post were mid
    → OnErr result (are ≡ mid) → OnErr result (are ≡ were)
nothing_sent (Ok value) agent post setup line moment response endpoint were mid are has same = same
nothing_sent (Err fault) agent post setup line moment response endpoint were mid are has same =
    same ∙ answer_silent agent setup line moment response endpoint post were mid has
