-- A deed on the lines that it is for, which one of them refuses, or none.
use Rattle.std.proofs.Common.{◌≡◌, ℕ, Option, Some, None, List, refl, sym, subst, append-nil}
use Rattle.std.specs.Prelude.{Result, Ok, Err}
use Rattle.std.specs.declared.alloc.AllocError.{AllocError}
use Rattle.mgcp_text.specs.declared.message.Param.{Param}
use Rattle.command_forms.specs.declared.forms.Deed.{Deed}
use Rattle.command_forms.specs.declared.forms.Target.{Target}
use Rattle.plain_machine.specs.declared.setup.Setup.{Setup}
use Rattle.plain_machine.specs.declared.label.OutMessage.{OutMessage}
use Rattle.plain_machine.specs.Requesting.{refused_by, unless_refused, deed_on_all, deed_done, answer_with, shown_of}
use Rattle.endpoints.specs.StoreState.{StoreState}
use Rattle.endpoints.specs.Tells.{Goes, Tells}

-- one that a line refuses changes nothing
pub deed_refused : (setup : Setup) (store : StoreState) (lines : Target) (more : List Param) (deed : Deed) (moment code : ℕ) (sent : List OutMessage)
    → Some code ≡ refused_by store.endpoints lines deed → Goes (deed_done setup store.endpoints lines more deed moment).told store store sent sent
deed_refused setup store lines more deed moment code sent is =
    subst (λ (refused : Option ℕ). Goes (unless_refused refused store.endpoints (record { told = deed_on_all setup store.endpoints lines deed moment; answer = answer_with more deed (shown_of store.endpoints lines deed) })).told store store sent sent)
    is (record { endpoints = refl; found = refl; sent = sym (append-nil sent) })

-- one that none refuses is done on each, whether or not memory is left for its answer
pub deed_goes : {A : Type 0} (result : Result A AllocError) (setup : Setup) (was is : StoreState) (lines : Target) (more : List Param) (deed : Deed) (moment : ℕ) (were are : List OutMessage)
    → None ≡ refused_by was.endpoints lines deed → Goes (deed_on_all setup was.endpoints lines deed moment) was is were are
    → Tells result (deed_done setup was.endpoints lines more deed moment).told was is were are
deed_goes (Ok x) setup was is lines more deed moment were are none goes =
    subst (λ (refused : Option ℕ). Goes (unless_refused refused was.endpoints (record { told = deed_on_all setup was.endpoints lines deed moment; answer = answer_with more deed (shown_of was.endpoints lines deed) })).told was is were are)
    none goes
deed_goes (Err fault) setup was is lines more deed moment were are none goes = goes.found
