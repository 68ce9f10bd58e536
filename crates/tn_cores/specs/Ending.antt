-- The message by which a run ends, and which ends are no fault.
use Rattle.std.specs.{Prelude.{◌≡◌, ◌⊎◌, List, ◌∷◌, ◌++◌}, List.FoldsTo}
use Rattle.tn_cores.specs.declared.faults.Ended.{Ended, TheVariants.{HangUp, Done}}

-- the run ended without a fault
abbrev pub EndsWhole : Ended → Type 0
EndsWhole ended = (ended ≡ HangUp) ⊎ (ended ≡ Done)

-- one of these messages, and the state of the run when it came: it is why the run ended so
pub record IsEndedAt {S M : Type 0} (Steps : S → M → S → Type 0) (EndsBy : S → M → Ended → Type 0) (c : S)
    (all : List M) (ended : Ended) : Type 0 where
  pub before : List M
  pub last : M
  pub after : List M
  pub whole : all ≡ before ++ last ∷ after
  pub mid : S
  pub runs : FoldsTo Steps c before mid
  pub ends : EndsBy mid last ended
