-- A box of what is held, an unboxed one, and a handle that holds it own the same.
use mir.Syntax.{impl, tnil, dnil}
use mathlib.Core.Path.{refl}
use mathlib.Core.List.{List, []}
use seplogic.Ra.Ura.{Ura}
use types.Logic.{Logic}
use types.Kit.{Item, Goal, Seq}
use Rattle.std.specs.{Prelude.{◌≡◌, Option, None, Some}, contracts.impls.GlobalAllocator.TheImpl.{ghosts, dict}}
use denote.Signature.{Slot, plain}
use Rattle.std.proofs.BoxSteps.Form.{Bx}
use Rattle.std.specs.contracts.alloc.Global as Heap
use Rattle.std.proofs.alloc.Global.TheLaws as heap
use Rattle.tn_c.specs.contracts.held.Held as State
use Rattle.tn_c.proofs.held.Held.TheLaws as inner
use Rattle.tn_c.specs.contracts.unboxed.Unboxed as Unboxed
use Rattle.tn_c.specs.contracts.handle.Handle as Handle

abbrev pub E : Bx
E = record {
  row = State.the_row;
  laws = inner.the_row_laws;
  al = record {
    row = Heap.the_row;
    laws = heap.the_row_laws;
    g = ghosts;
    d = dict;
    drops = impl [] tnil dnil;
  };
}

abbrev pub FromUnboxed : Slot 0
FromUnboxed = plain (λ _. Unboxed.the_row State.the_row Heap.the_row ghosts)

abbrev pub FromHeap : Slot 0
FromHeap = plain (λ _. Heap.the_row)

abbrev pub FromHandle : Slot 0
FromHandle = plain (λ _. Handle.the_row)

module _ {X : Type 0} {M : Type 1} {𝓤 : Ura M} {𝓛 : Logic 𝓤} {K : Type 0} {Γ : List (Item 𝓤)} {G : Goal 𝓤 𝓛.H} where
  pub opt_cases : K → (o : Option X) → (o ≡ None → Seq K 𝓛 Γ G) → ((x : X) → o ≡ Some x → Seq K 𝓛 Γ G) → Seq K 𝓛 Γ G
  opt_cases t None n k = n refl
  opt_cases t (Some x) n k = k x refl
