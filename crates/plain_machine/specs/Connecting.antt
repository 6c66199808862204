-- What a deed does to the connections of a line, and what its answer tells of them (RFC 3435, 2.3.5 to 2.3.7, 2.3.9).
use Rattle.std.specs.Prelude.{ℕ, codes, List, [], ◌∷◌, Option, Some, None, Result, Ok, Err}
use Rattle.mgcp_text.specs.declared.message.Param.{Param}
use Rattle.sdp_subset.specs.declared.session.Session.{Session}
use Rattle.sdp_subset.specs.Writing.{session_text}
use Rattle.connections.specs.declared.answer.Created.{Created}
use Rattle.connections.specs.declared.codec.Encoding.{Encoding}
use Rattle.connections.specs.declared.deletion.Deletion.{Deletion}
use Rattle.connections.specs.declared.deletion.Deletion.TheVariants.{All, OfCall, One}
use Rattle.connections.specs.Numbers.{number_text}
use Rattle.connections.specs.Standing.{Standing, Left, created, modified, deleted}
use Rattle.command_forms.specs.declared.forms.ConnectionDeed.{ConnectionDeed}
use Rattle.command_forms.specs.declared.forms.ConnectionDeed.TheVariants.{Keep, Create, Modify, Delete}

-- What an answer tells

-- parameters, and a description
pub record Shown : Type 0 where
  pub params : List Param
  pub body : List ℕ

abbrev pub nothing_shown : Shown
nothing_shown = record { params = []; body = [] }

-- of a connection that is created its identifier and its local description (2.3.5)
abbrev pub id_param : ℕ → Param
id_param number = record { code = codes "I"; value = number_text number }

abbrev pub created_shown : Created → Shown
created_shown created = record { params = id_param created.number ∷ []; body = session_text created.description }

-- of one that is modified its local description, where that has changed (2.3.6)
abbrev pub modified_shown : Option Session → Shown
modified_shown None = nothing_shown
modified_shown (Some description) = record { params = []; body = session_text description }

-- of one that is deleted by its identifier the counts of its packets, all 0, since this gateway has no media (2.3.7 and
-- 3.2.2: ConnectionParameters)
abbrev pub counts_param : Param
counts_param = record { code = codes "P"; value = codes "PS=0, OS=0, PR=0, OR=0, PL=0, JI=0, LA=0" }

abbrev pub deleted_shown : Deletion → Shown
deleted_shown All = nothing_shown
deleted_shown (OfCall call) = nothing_shown
deleted_shown (One call id) = record { params = counts_param ∷ []; body = [] }

-- the return code of a deed that is done (2.4)
abbrev pub done_code : ConnectionDeed → ℕ
done_code Keep = 200
done_code (Create creation) = 200
done_code (Modify call id change) = 200
done_code (Delete deletion) = 250

-- What is done

abbrev pub showing : {A : Type 0} → (A → Shown) → Result (Left A) ℕ → Result (Left Shown) ℕ
showing shown (Ok done) = Ok (record { leaves = done.leaves; answer = shown done.answer })
showing shown (Err code) = Err code

abbrev pub showing_what : Shown → Result Standing ℕ → Result (Left Shown) ℕ
showing_what shown (Ok leaves) = Ok (record { leaves = leaves; answer = shown })
showing_what shown (Err code) = Err code

-- the connections of a line with this encoding after a deed, and what is told of them, or the code with which they refuse it
unfoldable pub connected : ConnectionDeed → Encoding → Standing → Result (Left Shown) ℕ
connected Keep encoding standing = Ok (record { leaves = standing; answer = nothing_shown })
connected (Create creation) encoding standing = showing created_shown (created encoding creation standing)
connected (Modify call id change) encoding standing = showing modified_shown (modified encoding call id change standing)
connected (Delete deletion) encoding standing = showing_what (deleted_shown deletion) (deleted deletion standing)
