-- Where reading takes memory.
use Rattle.std.proofs.Common.{◌≡◌, ℕ, Bool, true, false, ◌==◌, ◌&&◌, List, [], ◌∷◌, ◌++◌, length, refl, sym, ap, ◌∙◌, append_assoc, Option, Some, None}
use Rattle.std.specs.Prelude.{not, is_some, option_map}
use Rattle.mg_bytes.specs.Lists.{is_empty}
use Rattle.mg_bytes.specs.Lines.{line_of}
use Rattle.mgcp_text.specs.declared.message.Verb.{Verb}
use Rattle.mgcp_text.specs.declared.message.Param.{Param}
use Rattle.mgcp_text.specs.Header.{is_version}
use Rattle.mgcp_text.specs.Parameter.{param_of}
use Rattle.mgcp_text.specs.Reading.{is_empty_line, put_front, params_of, command_from, has_params, takes_memory}

-- something stands in a line of some length
is_full : (line : List ℕ) → (length line == 0) ≡ false → is_empty line ≡ false
is_full [] some = absurd cc
is_full (b ∷ bs) some = refl

put_on : (front : List Param) (param : Param) (read : Option (List Param × List (List ℕ)))
    → option_map (put_front (front ++ param ∷ [])) read ≡ option_map (put_front front) (option_map (put_front (param ∷ [])) read)
put_on front param None = refl
put_on front param (Some read) = ap (λ params. Some (params, read.1)) (append_assoc front (param ∷ []) read.0)

opened : (front : List Param) (left rest : List (List ℕ)) (piece line : List ℕ) (param : Param)
    → left ≡ piece ∷ rest → line ≡ line_of piece → (length line == 0) ≡ false → Some param ≡ param_of line
    → option_map (put_front front) (params_of left) ≡ option_map (put_front front) (option_map (put_front (param ∷ [])) (params_of rest))
unfolding params_of
opened front left rest piece line param steps is some read = rw steps (rw (← is) (rw (is_full line some) (rw (← read) refl)))

-- one step of a loop over the lines that are left
pub params_on : (front next : List Param) (left rest : List (List ℕ)) (piece line : List ℕ) (param : Param)
    (all : Option (List Param × List (List ℕ)))
    → next ≡ front ++ param ∷ [] → left ≡ piece ∷ rest → line ≡ line_of piece → (length line == 0) ≡ false
    → Some param ≡ param_of line → option_map (put_front front) (params_of left) ≡ all
    → option_map (put_front next) (params_of rest) ≡ all
params_on front next left rest piece line param all pushed steps is some read whole =
    rw pushed (put_on front param (params_of rest) ∙ sym (opened front left rest piece line param steps is some read) ∙ whole)

-- where a parameter was read, the first piece is one
pub taken_on : (left rest : List (List ℕ)) (piece line : List ℕ) (param : Param) (all : Bool)
    → left ≡ piece ∷ rest → line ≡ line_of piece → (length line == 0) ≡ false → Some param ≡ param_of line
    → (has_params left ≡ true → all ≡ true) → all ≡ true
taken_on left rest piece line param all steps is some read on =
    on (rw steps (rw (← is) (rw (is_full line some) (rw (← read) refl))))

-- a command whose first line is a parameter takes memory, whether the lines after it can be read or not
pub command_takes : (verb : Verb) (id : ℕ) (rest second third more pieces : List (List ℕ)) (name protocol version : List ℕ)
    → rest ≡ name ∷ second → second ≡ protocol ∷ third → third ≡ version ∷ more → is_version protocol version ≡ true
    → has_params pieces ≡ true → takes_memory (command_from verb id rest pieces) ≡ true
unfolding command_from params_of
command_takes verb id rest second third more [] name protocol version named spoken versioned is has = absurd cc
command_takes verb id rest second third more (piece ∷ pieces) name protocol version named spoken versioned is has =
    by_line (is_empty_line piece) (param_of (line_of piece)) (params_of pieces) refl refl refl has where
      by_line : (empty : Bool) (first : Option Param) (read : Option (List Param × List (List ℕ)))
          → is_empty_line piece ≡ empty → param_of (line_of piece) ≡ first → params_of pieces ≡ read
          → (not empty && is_some first) ≡ true → takes_memory (command_from verb id rest (piece ∷ pieces)) ≡ true
      by_line true first read line param after has = absurd cc
      by_line false None read line param after has = absurd cc
      by_line false (Some first) None line param after has = rw (named, spoken, versioned, is, line, param, after) refl
      by_line false (Some first) (Some read) line param after has = rw (named, spoken, versioned, is, line, param, after) refl
