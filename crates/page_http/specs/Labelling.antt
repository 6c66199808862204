-- What is told as JSON of a message.
use Rattle.std.specs.Prelude.{ℕ, codes, List, [], ◌∷◌, map}
use Rattle.serde_json.specs.Data.{Data, string, array, object, Members, no_members, put}
use Rattle.serde_json.specs.View.{items_of}
use Rattle.page_state.specs.declared.label.MessageKind.{MessageKind}
use Rattle.page_state.specs.declared.label.MessageKind.TheVariants as kinds
use Rattle.page_state.specs.declared.label.MessageLabel.{MessageLabel}
use Rattle.page_http.specs.Texts.{number_data}

unfoldable pub message_word : MessageKind → List ℕ
message_word kinds.Unreadable = codes "unreadable"
message_word kinds.New = codes "new"
message_word kinds.Repeat = codes "repeat"
message_word kinds.Confirmed = codes "confirmed"
message_word kinds.Lost = codes "lost"
message_word kinds.Response = codes "response"
message_word kinds.Answer = codes "answer"
message_word kinds.Again = codes "again"
message_word kinds.Command = codes "command"
message_word kinds.Resent = codes "resent"
message_word kinds.Acknowledgement = codes "acknowledgement"
message_word kinds.GivenUp = codes "given up"

-- what it is, whose, its transaction id, its return code, and which send of it this is: null where it has none
abbrev pub label_data : MessageLabel → Data
label_data label =
    object (put (codes "send") (number_data label.send) (put (codes "code") (number_data label.code)
    (put (codes "id") (number_data label.id) (put (codes "line") (number_data label.line)
    (put (codes "what") (string (message_word label.kind)) no_members)))))

-- what is told of messages, where something is
abbrev pub with_said : List MessageLabel → Members → Members
with_said [] members = members
with_said (label ∷ labels) members = put (codes "said") (array (items_of (map label_data (label ∷ labels)))) members
