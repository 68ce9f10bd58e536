-- Parameters that stand in no list.
use Rattle.std.specs.Prelude.{ℕ, List}
use Rattle.tn_codes.specs.declared.payloads.Payload.{Payload, TheVariants.{Naws, Mode, ForwardOn, ForwardOff}}
use Rattle.tn_codes.specs.declared.payloads.Payload.TheVariants.{ForwardYes, ForwardNo, Slc}
use Rattle.tn_codes.specs.declared.writing.Few.{Few, TheVariants.{Two, Four}}

-- these parameters as a list
abbrev pub listed : Few → List ℕ
listed (Two parameters) = parameters
listed (Four parameters) = parameters

-- a payload that has as many parameters as its mask or its list asks for
abbrev pub HasMany : Payload → Type 0
HasMany (Naws width height) = ⊥
HasMany (Mode mask) = ⊥
HasMany (ForwardOn mask) = Unit {0}
HasMany ForwardOff = ⊥
HasMany ForwardYes = ⊥
HasMany ForwardNo = ⊥
HasMany (Slc triples) = Unit {0}
