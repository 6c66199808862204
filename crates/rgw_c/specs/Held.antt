-- What a handle owns.
use Rattle.std.specs.Prelude.{Option, Some, None}
use base.Fml.{Fml, feq}
use denote.RawPtr.{Ptr, null_ptr}
use Rattle.std.specs.declared.alloc.Global.{Global}
use Rattle.std.specs.contracts.impls.GlobalAllocator.TheImpl.{ghosts}
use Rattle.std_alloc.specs.Box.Ownership.{box_owns}
use Rattle.rgw_c.specs.declared.instance.Instance.{Instance}
use Rattle.rgw_c.specs.contracts.instance.Instance.{the_row}

-- the heap of the C library
abbrev pub heap : Global
heap = record { memory = record { seal = tt } }

-- where it is closed, it is null; else it points to an instance, in a block of the heap
abbrev pub held_at : Ptr → Option Instance → Fml
held_at p None = feq Ptr p null_ptr
held_at p (Some x) = box_owns (ghosts.dealloc_token heap) the_row p x
