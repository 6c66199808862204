-- What is answered to visitors, from what a connection says of its calls.
use Rattle.std.proofs.Common.{◌≡◌, ℕ, Bool, true, false, not, List, [], ◌∷◌, ◌++◌, Bor, refl, sym, ◌∙◌, ap, subst, append_assoc, append-nil, inl, inr, ⊎_elim, ◌↔◌, ◌⊎◌, true≢false}
use Rattle.std.specs.Prelude.{IsTrue}
use Rattle.std.specs.declared.net.socket_addr.SocketAddrV4.{SocketAddrV4}
use Rattle.http.specs.declared.request.Request.{Request}
use Rattle.http_server.specs.declared.response.Response.{Response}
use Rattle.http_server.specs.Exchange.{Call, Chain}
use Rattle.page_state.specs.BoardShowing.{BoardState}
use Rattle.page_server.specs.declared.desk.Desk.{Desk}
use Rattle.page_http.specs.declared.host_names.HostNames.{HostNames}
use Rattle.page_server.specs.declared.visitor.Visitor.{Visitor}
use Rattle.page_server.specs.Answering.{Answers}
use Rattle.page_http.specs.Naming.{names_of}
use Rattle.page_server.specs.Visiting.{calls_of, AnsweredAt, AnswersAll, AnswersBy, AnswersVisitor}

-- calls behind others are calls of both
pub chain_on : {S : Type 0} (answers : S → Request (List ℕ) → Response → S → Type 0) (first second : List Call) (a b c : S)
    → Chain answers a first b → Chain answers b second c → Chain answers a (first ++ second) c
chain_on {S} answers [] second a b c x y = subst (λ (s : S). Chain answers s second c) x y
chain_on answers (call ∷ first) second a b c x y = (x.0, x.1, chain_on answers first second x.0 b c x.2 y)

-- what a desk answers its board does, where the page is
pub worked : (was : Desk) (calls : List Call) (is : Desk) → Chain (λ old request response new. Answers old request response new) was calls is
    → (is.site ≡ was.site) × (names_of is.names.now ≡ names_of was.names.now) × (is.board.ghost_name ≡ was.board.ghost_name)
    × Chain (AnsweredAt was.site (names_of was.names.now)) was.board.now calls is.board.now
worked was [] is same = (
  ap (λ (d : Desk). d.site) same,
  ap (λ (d : Desk). names_of d.names.now) same,
  ap (λ (d : Desk). d.board.ghost_name) same,
  ap (λ (d : Desk). d.board.now) same,
)
worked was (call ∷ calls) is more =
    let rest = worked more.0 calls is more.2 in
    let named : names_of more.0.names.now ≡ names_of was.names.now = ap (λ (n : Bor HostNames). names_of n.now) more.1.names in (
      rest.0 ∙ more.1.site,
      rest.1 ∙ named,
      rest.2 ∙ more.1.same,
      (
        more.0.board.now,
        more.1.answered,
        subst (λ (site : SocketAddrV4). Chain (AnsweredAt site (names_of was.names.now)) more.0.board.now calls is.board.now) more.1.site
            (subst (λ (names : List (List ℕ)). Chain (AnsweredAt more.0.site names) more.0.board.now calls is.board.now) named rest.3),
      ),
    )

-- nothing was asked
pub none_asked : (site : SocketAddrV4) (names : List (List ℕ)) (board : BoardState) → AnswersBy site names board board
none_asked site names board = ([], refl)

-- nothing was answered
pub none_answered : (site : SocketAddrV4) (names : List (List ℕ)) (was is : Visitor) (board : BoardState) → calls_of is ≡ calls_of was
    → AnswersVisitor site names was board is board
none_answered site names was is board same = ([], same ∙ sym (append-nil (calls_of was)), refl)

-- what was answered before something else is done
pub answered_before : (site : SocketAddrV4) (names : List (List ℕ)) (was mid is : Visitor) (board shown : BoardState)
    → AnswersVisitor site names was board mid shown → calls_of is ≡ calls_of mid → AnswersVisitor site names was board is shown
answered_before site names was mid is board shown answers same = (answers.0, same ∙ answers.1, answers.2)

-- what was answered behind that
pub answered_behind : (site : SocketAddrV4) (names : List (List ℕ)) (was mid is : Visitor) (board shown : BoardState) → calls_of mid ≡ calls_of was
    → AnswersVisitor site names mid board is shown → AnswersVisitor site names was board is shown
answered_behind site names was mid is board shown same answers =
    (answers.0, answers.1 ∙ ap (λ (calls : List Call). calls ++ answers.0) same, answers.2)

-- what was answered in two parts
pub answered_both : (site there : SocketAddrV4) (names others : List (List ℕ)) (was mid is : Visitor) (board between shown : BoardState)
    → AnswersVisitor site names was board mid between → there ≡ site → others ≡ names → AnswersVisitor there others mid between is shown
    → AnswersVisitor site names was board is shown
answered_both site there names others was mid is board between shown first same called second =
    let next : Chain (AnsweredAt site names) between second.0 shown =
    subst (λ (s : SocketAddrV4). Chain (AnsweredAt s names) between second.0 shown) same
    (subst (λ (n : List (List ℕ)). Chain (AnsweredAt there n) between second.0 shown) called second.2) in (
      first.0 ++ second.0,
      second.1 ∙ ap (λ (calls : List Call). calls ++ second.0) first.1 ∙ append_assoc (calls_of was) first.0 second.0,
      chain_on (AnsweredAt site names) first.0 second.0 board between shown first.2 next,
    )

-- what is answered at one desk is answered at the same
pub answers_there : (site there : SocketAddrV4) (names others : List (List ℕ)) (was is : Visitor) (board shown : BoardState)
    → there ≡ site → others ≡ names → AnswersAll there others was board is shown → AnswersAll site names was board is shown
answers_there site there names others was is board shown same called answers =
    subst (λ (s : SocketAddrV4). AnswersAll s names was board is shown) same
    (subst (λ (n : List (List ℕ)). AnswersAll there n was board is shown) called answers)

-- what isn't so is so
pub so_behind : (is : Bool) → not is ≡ false → is ≡ true
so_behind true none = refl
so_behind false none = absurd cc

-- who can be read has more to do
pub more_to_read : {Reads Writes : Type 0} (any can : Bool) → any ≡ true → can ≡ true → (IsTrue can ↔ Reads) → (IsTrue any ↔ (Reads ⊎ Writes))
more_to_read any can so reads same = ((λ _. inl (same.0 reads)), (λ _. so))

-- who can't has where they can be written to
pub more_to_write : {Reads Writes : Type 0} (any reads writes : Bool) → any ≡ writes → reads ≡ false → (IsTrue reads ↔ Reads)
    → (IsTrue writes ↔ Writes) → (IsTrue any ↔ (Reads ⊎ Writes))
more_to_write any reads writes so none read written = (
  (λ more. inr (written.0 (sym so ∙ more))),
  ⊎_elim (λ r. absurd (true≢false (sym (read.1 r) ∙ none))) (λ w. so ∙ written.1 w),
)
