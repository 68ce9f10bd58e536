-- The resources that a handle owns are the same for every thread.
use mathlib.Core.List.{[]}
use base.Shift.{Keyless}
use denote.Exit.{Exit, unchanged, leaves, hidden, under}
use denote.RawPtr.{Ptr}
use denote.Struct.Struct.{exits_of}
use denote.Struct.Owning.{shape, fields, to}
use denote.Param.Send.{IsSend, AllSend, Quiet, owning_send, struct_send, sendable}
use Rattle.std.specs.{Prelude.{Option, Some, None}, Global.Global}
use Rattle.std.proofs.Crossing as heap
use Rattle.std.proofs.alloc.Global.TheSendSync as allocator
use Rattle.tn_c.specs.{Owning.handle_owns, contracts.handle.Handle.{the_row, the_type}}
use Rattle.tn_c.specs.contracts.held.Held as Held
use Rattle.tn_c.proofs.held.Held.TheSendSync.{the_send as held}

quiet : {D X : Type 0} (to : D → X) (e : Exit X) → Quiet e → Quiet (hidden (under to e))
quiet to unchanged q = λ x w. tt
quiet to (leaves L l S s r₀) q = λ d. q (to d)

-- a handle owns resources as a box of what it holds does
owns_keyless : (alloc : Global) (p : Ptr) (o : Option Held.the_row.Denot) → Keyless (handle_owns alloc p o)
owns_keyless alloc p None = tt
owns_keyless alloc p (Some x) = ((heap.Box-send Held.the_row held).owned (record { ptr = p; alloc = alloc; value = x }) []).1

pub send : IsSend the_row
send =
    let all : AllSend (fields the_type) = (search sendable, (allocator.the_field_send, tt)) in
    owning_send the_type all (λ h. owns_keyless h.alloc h.at h.held)
    (λ k. quiet (to the_type) (exits_of k (fields the_type)) ((struct_send (shape the_type) all).leaving k))
