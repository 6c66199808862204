-- What a text is read as (RFC 3435, 3.1 to 3.3 and appendix A): each text has one outcome.
use Rattle.std.specs.Prelude.{◌≡◌, ◌⊎◌, ◌<◌, ℕ, true, false, List, [], ◌∷◌, ◌++◌, length, map, filter_map, Some, None}
use Rattle.std.specs.List.{AllByRecursion}
use Rattle.mg_bytes.specs.Lines.{cut, line_of}
use Rattle.mg_bytes.specs.Words.{words}
use Rattle.mgcp_text.specs.declared.message.Verb.{Verb}
use Rattle.mgcp_text.specs.declared.message.Param.{Param}
use Rattle.mgcp_text.specs.declared.message.Message.{Message}
use Rattle.mgcp_text.specs.declared.message.Message.TheVariants.{Command, Response}
use Rattle.mgcp_text.specs.declared.header.Start.TheVariants as starts
use Rattle.mgcp_text.specs.declared.header.Header.{Header}
use Rattle.mgcp_text.specs.Header.{header_of, is_version}
use Rattle.mgcp_text.specs.Parameter.{param_of}
use Rattle.mgcp_text.specs.Reading.{Outcome, message, no_header, bad_version, bad_body, is_empty_line, description_of}

-- a line that is empty, and one that isn't
abbrev pub IsEmptyLine : List ℕ → Type 0
IsEmptyLine piece = is_empty_line piece ≡ true

abbrev pub IsFullLine : List ℕ → Type 0
IsFullLine piece = is_empty_line piece ≡ false

-- the first line of the text that isn't empty, and the pieces following it
pub record BeginsWith (text line : List ℕ) (following : List (List ℕ)) : Type 0 where
  pub front : List (List ℕ)
  pub piece : List ℕ
  pub pieces : cut text ≡ front ++ (piece ∷ following)
  pub skipped : AllByRecursion IsEmptyLine front
  pub full : IsFullLine piece
  pub is_line : line ≡ line_of piece

-- the text begins with a header, whose first word, id and further words are h's
pub record HasHeader (text : List ℕ) (h : Header) (following : List (List ℕ)) : Type 0 where
  pub line : List ℕ
  pub first : BeginsWith text line following
  pub header : header_of (words line) ≡ Some h

-- these lines are these parameters, one each
abbrev pub AreParams : List (List ℕ) → List Param → Type 0
AreParams pieces params = map (λ piece. param_of (line_of piece)) pieces ≡ map Some params

-- nothing follows the parameters, or an empty line and then the rest
abbrev pub EndsParams : List (List ℕ) → List (List ℕ) → Type 0
EndsParams [] rest = rest ≡ []
EndsParams (piece ∷ pieces) rest = IsEmptyLine piece × (rest ≡ pieces)

-- the lines are the parameters, up to the first empty line or the end, and then the rest
pub record HasParams (pieces : List (List ℕ)) (params : List Param) (rest : List (List ℕ)) : Type 0 where
  pub lines : List (List ℕ)
  pub after : List (List ℕ)
  pub parts : pieces ≡ lines ++ after
  pub each : AreParams lines params
  pub ends : EndsParams after rest

-- the parameters are those of the lines up to the first empty line or the end that are one, and then comes the rest
pub record HasSomeParams (pieces : List (List ℕ)) (params : List Param) (rest : List (List ℕ)) : Type 0 where
  pub lines : List (List ℕ)
  pub after : List (List ℕ)
  pub parts : pieces ≡ lines ++ after
  pub full : AllByRecursion IsFullLine lines
  pub each : params ≡ filter_map (λ piece. param_of (line_of piece)) lines
  pub ends : EndsParams after rest

-- among the lines up to the first empty one stands one that is no parameter
pub record HasStray (pieces : List (List ℕ)) : Type 0 where
  pub lines : List (List ℕ)
  pub params : List Param
  pub stray : List ℕ
  pub after : List (List ℕ)
  pub parts : pieces ≡ lines ++ (stray ∷ after)
  pub each : AreParams lines params
  pub full : IsFullLine stray
  pub no_param : param_of (line_of stray) ≡ None

-- the further words of a header are the name, the protocol in this version, and perhaps more
pub record HasName (rest : List (List ℕ)) (name : List ℕ) : Type 0 where
  pub protocol : List ℕ
  pub version : List ℕ
  pub more : List (List ℕ)
  pub parts : rest ≡ name ∷ protocol ∷ version ∷ more
  pub spoken : is_version protocol version ≡ true

-- they are a name, a protocol and a version, but others
pub record HasOtherVersion (rest : List (List ℕ)) : Type 0 where
  pub name : List ℕ
  pub protocol : List ℕ
  pub version : List ℕ
  pub more : List (List ℕ)
  pub parts : rest ≡ name ∷ protocol ∷ version ∷ more
  pub other : is_version protocol version ≡ false

-- the text begins with the header of a command: its verb, id and further words
abbrev pub HasCommand : List ℕ → Verb → ℕ → List (List ℕ) → List (List ℕ) → Type 0
HasCommand text verb id rest following = HasHeader text (record { start = starts.Command verb; id = id; rest = rest }) following

-- the text spells this command
pub record SpellsCommand (text : List ℕ) (verb : Verb) (id : ℕ) (name : List ℕ) (params : List Param)
    (body : List ℕ) : Type 0 where
  pub rest : List (List ℕ)
  pub following : List (List ℕ)
  pub after : List (List ℕ)
  pub header : HasCommand text verb id rest following
  pub named : HasName rest name
  pub lines : HasParams following params after
  pub description : body ≡ description_of after

-- the text spells this response, whatever further words its header has
pub record SpellsResponse (text : List ℕ) (code id : ℕ) (params : List Param) (body : List ℕ) : Type 0 where
  pub rest : List (List ℕ)
  pub following : List (List ℕ)
  pub after : List (List ℕ)
  pub header : HasHeader text (record { start = starts.Response code; id = id; rest = rest }) following
  pub lines : HasSomeParams following params after
  pub description : body ≡ description_of after

-- the text spells this message
abbrev pub Spells : List ℕ → Message → Type 0
Spells text (Command verb id name params body) = SpellsCommand text verb id name params body
Spells text (Response code id params body) = SpellsResponse text code id params body

-- a command's header with this id, and fewer than three words following it, or a line that is no parameter
abbrev pub IsBadBody : List ℕ → ℕ → Type 0
IsBadBody text id =
    (verb : Verb) × (rest following : List (List ℕ)) × HasCommand text verb id rest following
    × ((length rest < 3) ⊎ ((name : List ℕ) × HasName rest name × HasStray following))

-- a command's header with this id, of another protocol or version
abbrev pub IsBadVersion : List ℕ → ℕ → Type 0
IsBadVersion text id =
    (verb : Verb) × (rest following : List (List ℕ)) × HasCommand text verb id rest following × HasOtherVersion rest

-- a text is read as this outcome
abbrev pub Reads : List ℕ → Outcome → Type 0
Reads text (message m) = Spells text m
Reads text no_header = (h : Header) (following : List (List ℕ)) → HasHeader text h following → ⊥
Reads text (bad_version id) = IsBadVersion text id
Reads text (bad_body id) = IsBadBody text id
