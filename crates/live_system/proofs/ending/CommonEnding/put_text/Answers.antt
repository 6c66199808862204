use Rattle.std.proofs.Common.{◌≡◌, ℕ, codes, List, [], ◌∷◌, ◌++◌, subst}
use Rattle.std.specs.Prelude.{OnOk}
use Rattle.live_system.specs.Ending.{ending_text}
use Rattle.live_system.specs.Wording.{joined}
use Rattle.live_system.proofs.ending.CommonEnding.put_text.Goals as goal

pub returns-in-Unreadable : goal.returns-in-Unreadable
unfolding ending_text
returns-in-Unreadable c = rw (c.in-Unreadable.is) (rw (c.reason_of.ensures) at c.put_refused.ensures)

pub returns-in-Unwritable : goal.returns-in-Unwritable
unfolding ending_text
returns-in-Unwritable c = rw (c.in-Unwritable.is) (rw (c.reason_of-in-Unwritable.ensures) at c.put_refused-in-Unwritable.ensures)

pub returns-in-Unbound : goal.returns-in-Unbound
unfolding ending_text
returns-in-Unbound c = rw (c.in-Unbound.is) c.put_unbound.ensures

pub returns-in-Help : goal.returns-in-Help
unfolding ending_text
returns-in-Help c = rw (c.in-Help.is) c.put_pieces.ensures

pub returns-in-Version : goal.returns-in-Version
unfolding ending_text
returns-in-Version c = rw (c.in-Version.is) c.put_pieces-in-Version.ensures

pub returns-in-Usage : goal.returns-in-Usage
unfolding ending_text
returns-in-Usage c = rw (c.in-Usage.is) c.put_pieces-in-Usage.ensures

pub returns-in-BadAddress : goal.returns-in-BadAddress
unfolding ending_text
returns-in-BadAddress c =
    rw (c.in-BadAddress.is)
    (subst
    (λ (word : List ℕ). OnOk c.put_pieces-in-BadAddress.result (c.put_pieces-in-BadAddress.new.out.items ≡ c.args.out.now.items
    ++ joined (word ∷ codes ": no address a.b.c.d:port\n" ∷ [])))
    c.text.ensures c.put_pieces-in-BadAddress.ensures)

pub returns-in-BadNetwork : goal.returns-in-BadNetwork
unfolding ending_text
returns-in-BadNetwork c =
    rw (c.in-BadNetwork.is)
    (subst
    (λ (wanted : List ℕ). OnOk c.put_pieces-in-BadNetwork.result (c.put_pieces-in-BadNetwork.new.out.items ≡ c.args.out.now.items
    ++ joined (codes "--network: " ∷ wanted ∷ codes "\n" ∷ [])))
    c.wanted_by.ensures c.put_pieces-in-BadNetwork.ensures)

pub returns-in-Clock : goal.returns-in-Clock
unfolding ending_text
returns-in-Clock c = rw (c.in-Clock.is) c.put_pieces-in-Clock.ensures

pub returns-in-OutOfMemory : goal.returns-in-OutOfMemory
unfolding ending_text
returns-in-OutOfMemory c = rw (c.in-OutOfMemory.is) c.put_pieces-in-OutOfMemory.ensures
