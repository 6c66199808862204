-- What it is to a board that a text came, part by part.
use Rattle.std.proofs.Common.{◌≡◌, ℕ, Bool, List, Option, Some, subst}
use Rattle.std.specs.Prelude.{codes, slice_get}
use Rattle.mgcp_text.specs.declared.message.Param.{Param}
use Rattle.mgcp_text.specs.declared.message.Verb.{Verb}
use Rattle.mgcp_text.specs.Message.{param_at}
use Rattle.agent_gateways.specs.declared.flight.Flight.{Flight}
use Rattle.agent_gateways.specs.declared.switchboard.Switchboard.{Switchboard}
use Rattle.agent_gateways.specs.GivingUp.{ended_in, EndsAt}
use Rattle.agent_gateways.specs.Hearing.{is_new_to, method_of, AnnouncesNew, AnswersFlight, HearsAnnouncement, HearsCommand, HearsResponse, NotesAt}

-- the command that a response answers is over, if there is one, and was answered so
pub heard_response : (place id code : ℕ) (text : List ℕ) (was ended is : Switchboard) (found : Option Flight)
    → found ≡ ended_in (Some (id, code)) (slice_get was.gateways.items place) → EndsAt place (Some (id, code)) was ended
    → AnswersFlight place found code text ended is → HearsResponse place id code text was is
heard_response place id code text was ended is found found_is ends answers =
    (ended, ends, subst (λ (flight : Option Flight). AnswersFlight place flight code text ended is) found_is answers)

-- an announcement was noted, and told where it was new
pub heard_announcement : (place id : ℕ) (name method : List ℕ) (params : List Param) (is_new : Bool) (was noted is : Switchboard)
    → is_new ≡ is_new_to id (slice_get was.gateways.items place) → method ≡ method_of (param_at (codes "RM") params)
    → NotesAt place id was noted
    → AnnouncesNew is_new method name (slice_get noted.gateways.items place) noted.office is.office
    → is ≡ record noted { office = is.office } → HearsAnnouncement place id name params was is
heard_announcement place id name method params is_new was noted is new_is method_is notes announces rest = (
  noted,
  notes,
  subst
      (λ (new : Bool). AnnouncesNew new (method_of (param_at (codes "RM") params)) name (slice_get noted.gateways.items place) noted.office is.office)
      new_is
      (subst (λ (word : List ℕ). AnnouncesNew is_new word name (slice_get noted.gateways.items place) noted.office is.office) method_is announces),
  rest,
)

-- a command was heard, by its name and its parameters
pub heard_command : (verb : Verb) (place id : ℕ) (given name : List ℕ) (shown params : List Param) (was is : Switchboard) → given ≡ name
    → shown ≡ params → HearsCommand verb place id given shown was is → HearsCommand verb place id name params was is
heard_command verb place id given name shown params was is name_is params_are hears =
    subst (λ (list : List Param). HearsCommand verb place id name list was is) params_are
    (subst (λ (text : List ℕ). HearsCommand verb place id text shown was is) name_is hears)
