-- The numbers of what calls answer.
use Rattle.std.specs.Prelude.{◌≡◌, ℕ}
use Rattle.tn_c.specs.declared.parts.codes.Code.{Code}
use Rattle.tn_c.specs.declared.parts.codes.Code.TheVariants as code

-- the number of a code, as `tn.h` has it
abbrev pub code_number : Code → ℕ
code_number code.Done = 0
code_number code.Memory = 1
code_number code.Failed = 2
code_number code.NotStarted = 3
code_number code.Started = 4
code_number code.OtherKind = 5
code_number code.NoLimit = 6
code_number code.TooFarAhead = 7
code_number code.Closed = 8
code_number code.NoFunction = 9
code_number code.NotSettable = 10
code_number code.Reserved = 11
code_number code.Taken = 12
code_number code.NotOn = 13
code_number code.TooLong = 14
code_number code.NoCommand = 15
code_number code.NotOwned = 16
code_number code.TooLate = 17
code_number code.ItemsWait = 18

-- A call answered by this number, which is that of a code, of which this is so.
pub record Answers (number : ℕ) (F : Code → Type 0) : Type 0 where
  pub answer : Code
  pub numbers : number ≡ code_number answer
  pub so : F answer
