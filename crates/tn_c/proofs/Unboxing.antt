-- The parts of a box own what the box owned: both are one machine value, an address next to a handle of the
-- allocator.
use Prim.Native.Nat.{ℕ}
use mathlib.Core.List.{[], ◌∷◌}
use mir.Syntax.{Args, Dict, a_type, dcons, dnil}
use denote.RattleType.{RattleType}
use denote.Param.{bounded}
use denote.RawPtr.{block_ptr}
use Rattle.std.proofs.BoxSteps.Form.{Bx, X, D, R, P}
use Rattle.tn_c.specs.contracts.unboxed.Unboxed as unboxed

module _ (E : Bx) where
  -- the parts of a box as a row
  abbrev pub Parts : RattleType
  Parts = unboxed.the_row (R E) (P E) E.al.g

  -- a box of this value at this place
  abbrev pub boxed : ℕ → ℕ → E.al.row.Denot → X E → D E
  boxed b o handle value = record { ptr = block_ptr b o; alloc = handle; value = value }

  -- the parts of a box of this value at this place
  abbrev pub parted : ℕ → ℕ → E.al.row.Denot → X E → Parts.Denot
  parted b o handle value = record { at = block_ptr b o; alloc = handle; value = value }

  -- the arguments of a call for the box's parameters, and for the drop of the boxed value
  abbrev pub dropping : Dict → Args
  dropping glue = bounded (a_type ∷ a_type ∷ []) (E.row, (E.al.row, tt)) (dcons E.al.d (dcons E.al.drops (dcons glue dnil)))
