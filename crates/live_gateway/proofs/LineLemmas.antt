-- A line that is taken of a text has no line feed.
use Rattle.std.proofs.Common.{◌≡◌, ◌⊎◌, inl, inr, ℕ, zero, suc, ◌-◌, Bool, true, false, List, [], ◌∷◌, length, take, get_or, refl, sym, subst, arith}
use Rattle.std.specs.Prelude.{◌==◌, if◌then◌else◌}
use Rattle.std.specs.List.{onto_first, suffix_len}
use Rattle.std.specs.Str.Lines.{strip_carriage_return}
use Rattle.mg_bytes.specs.Blanks.{is_blank, trimmed_start, trimmed_end, trimmed}
use Rattle.mg_bytes.specs.Lines.{is_line_feed, cut, without_end, line_of}
use Rattle.mg_bytes.proofs.CutLemmas.{IsEnded}
use Rattle.live_play.specs.Readable.{Never}

-- ---- pieces

-- no byte is a line feed, or the last one alone
abbrev IsPiece : List ℕ → Type 0
IsPiece piece = Never is_line_feed piece ⊎ IsEnded piece

longer : (b : ℕ) (piece : List ℕ) → is_line_feed b ≡ false → IsPiece piece → IsPiece (b ∷ piece)
longer b piece other (inl free) = inl (other, free)
longer b piece other (inr ends) = inr (inr (other, ends))

front_piece : (b : ℕ) (pieces : List (List ℕ)) (piece : List ℕ) (rest : List (List ℕ)) → is_line_feed b ≡ false
    → ((first : List ℕ) (more : List (List ℕ)) → pieces ≡ first ∷ more → IsPiece first) → onto_first b pieces ≡ piece ∷ rest → IsPiece piece
front_piece b [] piece rest other are e =
    let same : (b ∷ []) ≡ piece = cc in
    subst IsPiece same (inl (other, tt))
front_piece b (first ∷ more) piece rest other are e =
    let same : (b ∷ first) ≡ piece = cc in
    subst IsPiece same (longer b first other (are first more refl))

by_feed : (b : ℕ) (bs : List ℕ) (feed : Bool) (piece : List ℕ) (rest : List (List ℕ)) → is_line_feed b ≡ feed
    → ((first : List ℕ) (more : List (List ℕ)) → cut bs ≡ first ∷ more → IsPiece first)
    → (if feed then (b ∷ []) ∷ cut bs else onto_first b (cut bs)) ≡ piece ∷ rest → IsPiece piece
by_feed b bs true piece rest is are e =
    let same : (b ∷ []) ≡ piece = cc in
    subst IsPiece same (inr (inl (is, refl)))
by_feed b bs false piece rest is are e = front_piece b (cut bs) piece rest is are e

first_is_piece : (text piece : List ℕ) (rest : List (List ℕ)) → cut text ≡ piece ∷ rest → IsPiece piece
unfolding cut
first_is_piece [] piece rest e = absurd cc
first_is_piece (b ∷ bs) piece rest e =
    by_feed b bs (is_line_feed b) piece rest refl (λ first more same. first_is_piece bs first more same) e

-- ---- parts of a line

never_take : (p : ℕ → Bool) (n : ℕ) (text : List ℕ) → Never p text → Never p (take n text)
never_take p zero [] free = tt
never_take p zero (b ∷ bs) free = tt
never_take p (suc n) [] free = tt
never_take p (suc n) (b ∷ bs) free = (free.0, never_take p n bs free.1)

never_either : (p : ℕ → Bool) (test : Bool) (one other : List ℕ) → Never p one → Never p other → Never p (if test then one else other)
never_either p true one other a b = a
never_either p false one other a b = b

never_start : (p : ℕ → Bool) (text : List ℕ) → Never p text → Never p (trimmed_start text)
never_start p [] free = tt
never_start p (b ∷ bs) free = never_either p (is_blank b) (trimmed_start bs) (b ∷ bs) (never_start p bs free.1) free

never_trimmed : (p : ℕ → Bool) (text : List ℕ) → Never p text → Never p (trimmed text)
unfolding trimmed trimmed_end
never_trimmed p text free =
    never_take p (length (trimmed_start text) - suffix_len is_blank (trimmed_start text)) (trimmed_start text) (never_start p text free)

never_stripped : (p : ℕ → Bool) (text : List ℕ) → Never p text → Never p (strip_carriage_return text)
never_stripped p text free =
    never_either p (get_or text (length text - 1) 0 == 13) (take (length text - 1) text) text (never_take p (length text - 1) text free) free

-- ---- the end of a piece

ends_last : (piece : List ℕ) → IsEnded piece
    → (is_line_feed (get_or piece (length piece - 1) 0) ≡ true) × Never is_line_feed (take (length piece - 1) piece)
ends_last [] ends = absurd ends
ends_last (b ∷ []) (inl one) = (one.0, tt)
ends_last (b ∷ []) (inr more) = absurd more.1
ends_last (b ∷ c ∷ bs) (inl one) = absurd cc
ends_last (b ∷ c ∷ bs) (inr more) =
    let others = ends_last (c ∷ bs) more.1 in
    let here : length (b ∷ c ∷ bs) - 1 ≡ suc (length bs) = omega arith in
    let there : length (c ∷ bs) - 1 ≡ length bs = omega arith in
    let last : is_line_feed (get_or (c ∷ bs) (length bs) 0) ≡ true = rw there at others.0 in
    let free : Never is_line_feed (take (length bs) (c ∷ bs)) = rw there at others.1 in
    rw here (last, (more.0, free))

without_end_free : (piece : List ℕ) → IsPiece piece → Never is_line_feed (without_end piece)
without_end_free piece (inl free) =
    never_either is_line_feed (is_line_feed (get_or piece (length piece - 1) 0)) (strip_carriage_return (take (length piece - 1) piece)) piece
    (never_stripped is_line_feed (take (length piece - 1) piece) (never_take is_line_feed (length piece - 1) piece free)) free
without_end_free piece (inr ends) =
    let last = ends_last piece ends in
    let so : without_end piece ≡ strip_carriage_return (take (length piece - 1) piece) = rw (last.0) refl in
    rw so (never_stripped is_line_feed (take (length piece - 1) piece) last.1)

line_free : (piece : List ℕ) → IsPiece piece → Never is_line_feed (line_of piece)
line_free piece is = never_trimmed is_line_feed (without_end piece) (without_end_free piece is)

-- a line that is taken of a text has none
pub taken_free : (text line : List ℕ) (left : List (List ℕ)) → ((piece : List ℕ) × (cut text ≡ piece ∷ left) × (line ≡ line_of piece))
    → Never is_line_feed line
taken_free text line left taken =
    subst (Never is_line_feed) (sym taken.2) (line_free taken.0 (first_is_piece text taken.0 left taken.1))
