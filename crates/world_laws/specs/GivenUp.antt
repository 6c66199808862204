-- Whether a line gave a command up: who gets no answer for so long announces itself after a wait (RFC 3435, 4.3 and 4.4.7).
use Rattle.std.specs.Prelude.{◌||◌, not, Bool, true, false, List}
use Rattle.std.specs.List.{list_any}
use Rattle.mgcp_text.specs.declared.message.Message.TheVariants as messages
use Rattle.mgcp_text.specs.declared.message.Verb.{Verb}
use Rattle.mgcp_text.specs.declared.message.Verb.TheVariants.{Epcf, Rqnt, Ntfy, Crcx, Mdcx, Dlcx, Auep, Aucx, Rsip, Other}
use Rattle.retransmission.specs.Restarting.{is_serving}
use Rattle.plain_machine.specs.declared.post.Post.{Post}
use Rattle.plain_machine.specs.Message.{Said, answer, again, command, resent, acknowledgement, Sent}

-- What announces: RestartInProgress

abbrev pub is_restart : Verb → Bool
is_restart Rsip = true
is_restart Epcf = false
is_restart Rqnt = false
is_restart Ntfy = false
is_restart Crcx = false
is_restart Mdcx = false
is_restart Dlcx = false
is_restart Auep = false
is_restart Aucx = false
is_restart Other = false

abbrev pub announces : Said → Bool
announces (command (messages.Command verb id name params body)) = is_restart verb
announces (command (messages.Response code id params body)) = false
announces (answer response) = false
announces (again id text) = false
announces (resent message) = false
announces (acknowledgement response) = false

-- by what a line sent and by its post: it announced itself, or is to do so
abbrev pub has_given_up : List Sent → Post → Bool
has_given_up sent post = list_any (λ one. announces one.said) sent || not (is_serving post.restart)
