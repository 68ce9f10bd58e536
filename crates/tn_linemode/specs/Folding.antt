-- A machine that goes by steps: its state after some events, one after another, and what it sends at them.
use Rattle.std.specs.Prelude.{List, [], ◌∷◌, ◌++◌}

module _ {S E : Type 0} (step : S → E → S) where
  abbrev pub after_all : S → List E → S
  after_all s [] = s
  after_all s (e ∷ es) = after_all (step s e) es

module _ {S E W : Type 0} (step : S → E → S) (says : S → E → List W) where
  abbrev pub said_all : S → List E → List W
  said_all s [] = []
  said_all s (e ∷ es) = says s e ++ said_all (step s e) es
