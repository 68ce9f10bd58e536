-- The resources that a handle owns: none if it holds nothing, and else those that a box of its content owns.
use base.Fml.{Fml, feq}
use base.Stored.{Coded}
use denote.RawPtr.{Ptr, null_ptr}
use Rattle.std.specs.{Prelude.{Option, None, Some}, Coded.coded_option, Box.Ownership.box_owns, Global.Global}
use Rattle.std.specs.contracts.impls.GlobalAllocator.TheImpl.{ghosts}
use Rattle.tn_c.specs.contracts.held.Held.{the_row}

-- the resources that a handle owns, by the pointer in it and its content
abbrev pub handle_owns : Global → Ptr → Option the_row.Denot → Fml
handle_owns alloc at None = feq Ptr at null_ptr
handle_owns alloc at (Some x) = box_owns (ghosts.dealloc_token alloc) the_row at x

-- the content of a handle, as the prover codes it
abbrev pub held_coded : Coded (Option the_row.Denot)
held_coded = coded_option the_row.coded
