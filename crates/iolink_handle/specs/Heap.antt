-- The C library's heap: what lets a block go back is the same for each of its handles.
use mir.Syntax.{Ty}
use base.Fml.{Fml}
use denote.RawPtr.{Ptr}
use denote.RattleType.{RattleType}
use base.Fml.{ftrue}
use Rattle.std.specs.Prelude.{Bool, true, false}
use Rattle.std.specs.Box.Ownership.{box_owns}
use Rattle.std.specs.declared.alloc.Global.{Global}
use Rattle.std.specs.contracts.impls.GlobalAllocator.TheImpl.{ghosts}

-- a handle
abbrev pub heap : Global
heap = record { memory = record { seal = tt } }

-- the right to free a block
abbrev pub block : Ty → Ptr → Fml
block = ghosts.dealloc_token heap

-- what a handle owns: the box, where it is open
abbrev pub handle_owns : (R : RattleType) → Bool → Ptr → R.Denot → Fml
handle_owns R true at value = box_owns block R at value
handle_owns R false at value = ftrue
