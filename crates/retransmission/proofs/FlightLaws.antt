-- What responses and due moments do to a message in flight.
use Rattle.std.proofs.Common.{◌≡◌, ◌+◌, ℕ, Bool, true, false, List, [], refl, ap, ◌∙◌}
use Rattle.std.specs.Prelude.{Result, Ok, Err, IfOk}
use Rattle.std.specs.declared.net.socket_addr.SocketAddrV4.{SocketAddrV4}
use Rattle.endpoint_names.specs.declared.route.Route.{Route}
use Rattle.endpoint_names.specs.Route.{at}
use Rattle.retransmission.specs.declared.repeat.Repeat.{Repeat}
use Rattle.retransmission.specs.declared.reply.Reply.{Reply}
use Rattle.retransmission.specs.declared.reply.Reply.TheVariants.{Answered, Provisional, Stranger}
use Rattle.retransmission.specs.Sends.{Sends, repeats_in, wait_after, due_of, may_repeat, repeat_at, after_repeat, after_reply}
use Rattle.retransmission.specs.Flight.{InFlight, Follows, sent_to, sent_first, repeat_of, repeated, reply_of, heard}

-- what is sent again goes on to follow its sends
repeat_follows : (message : InFlight) (sends : Sends) (moment : ℕ) (b : Bool) → may_repeat message.first message.repeats moment ≡ b → Follows message sends
    → Follows (repeated message moment) (after_repeat (repeat_of message moment) moment sends)
unfolding repeated due_of repeats_in
repeat_follows message sends moment true may f = rw may (record { begins = f.begins; count = ap (λ (n : ℕ). n + 1) f.count; next = ap (λ (n : ℕ). moment + wait_after (n + 1)) f.count })
repeat_follows message sends moment false may f = rw may f

pub repeat_goes_on : (message : InFlight) (sends : Sends) (moment : ℕ) → Follows message sends
    → (repeat_of message moment ≡ repeat_at moment sends) × Follows (repeated message moment) (after_repeat (repeat_of message moment) moment sends)
repeat_goes_on message sends moment f =
    (rw (f.begins, f.count) refl, repeat_follows message sends moment (may_repeat message.first message.repeats moment) refl f)

reply_follows : (message : InFlight) (sends : Sends) (id code moment : ℕ) (reply : Reply) → reply_of message id code ≡ reply → Follows message sends
    → Follows (heard message id code moment) (after_reply (reply_of message id code) moment sends)
unfolding heard due_of repeats_in
reply_follows message sends id code moment Answered is f = rw is f
reply_follows message sends id code moment Provisional is f = rw is (record { begins = f.begins; count = f.count; next = refl })
reply_follows message sends id code moment Stranger is f = rw is f

pub reply_goes_on : (message : InFlight) (sends : Sends) (id code moment : ℕ) → Follows message sends
    → Follows (heard message id code moment) (after_reply (reply_of message id code) moment sends)
reply_goes_on message sends id code moment f = reply_follows message sends id code moment (reply_of message id code) refl f

-- The same of what a call answers and leaves

begun_follows : (id : ℕ) (route : Route SocketAddrV4) (text : List ℕ) (moment : ℕ) → Follows (sent_first id route text moment) (record { first = moment; since = [] })
unfolding due_of repeats_in
begun_follows id route text moment = record { begins = refl; count = refl; next = refl }

pub started_follows : {E : Type 0} (id : ℕ) (route : Route SocketAddrV4) (text : List ℕ) (moment : ℕ) (given : Result InFlight E) → IfOk given (λ pending. pending ≡ sent_first id route text moment)
    → IfOk given (λ pending. Follows pending (record { first = moment; since = [] }))
started_follows id route text moment (Ok pending) is = rw is (begun_follows id route text moment)
started_follows id route text moment (Err fault) is = tt

pub follows_to : (message : InFlight) (to : SocketAddrV4) → to ≡ sent_to message → (sends : Sends) → Follows message sends → to ≡ at message.route (repeats_in sends.since)
follows_to message to is sends f = is ∙ ap (at message.route) f.count

pub follows_due : (message : InFlight) (due : ℕ) → due ≡ message.due → (sends : Sends) → Follows message sends → due ≡ due_of sends
follows_due message due is sends f = is ∙ f.next

pub repeat_leaves : (was is : InFlight) (done : Repeat) (moment : ℕ) → done ≡ repeat_of was moment → is ≡ repeated was moment
    → (sends : Sends) → Follows was sends → (done ≡ repeat_at moment sends) × Follows is (after_repeat done moment sends)
repeat_leaves was is done moment d i sends f = rw (d, i) (repeat_goes_on was sends moment f)

pub reply_leaves : (was is : InFlight) (reply : Reply) (id code moment : ℕ) → reply ≡ reply_of was id code → is ≡ heard was id code moment
    → (sends : Sends) → Follows was sends → Follows is (after_reply reply moment sends)
reply_leaves was is reply id code moment r i sends f = rw (r, i) (reply_goes_on was sends id code moment f)
