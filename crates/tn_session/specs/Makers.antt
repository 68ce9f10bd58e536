-- The jobs that a maker makes, as it reports how many are to come.
use Rattle.std.specs.Prelude.{◌≡◌, ◌≢◌, ℕ, ◌+◌, min, Option, Some, None, Result, Ok, Err, List, [], ◌∷◌}
use Rattle.std.specs.{Prelude.length, List.FoldsTo}
use Rattle.tn_cores.specs.declared.faults.SessionFault.{SessionFault, TheVariants.{Memory, Start}}

-- this number of jobs was made; a maker that reports nothing goes on to report nothing
abbrev pub HasMade : ℕ → Option ℕ → Option ℕ → Type 0
HasMade made None new = new ≡ None
HasMade made (Some old) new = (left : ℕ) × (old ≡ made + left) × (new ≡ Some left)

-- if it is reported: no job is to come
abbrev pub MayBeDone : Option ℕ → Type 0
MayBeDone None = Unit {0}
MayBeDone (Some left) = left ≡ 0

-- if it is reported: a job is to come
abbrev pub MayGoOn : Option ℕ → Type 0
MayGoOn None = Unit {0}
MayGoOn (Some left) = left ≢ 0

-- the answer of a maker: a job as long as one is to come, and out of memory only then
abbrev pub MakesJob : {J E : Type 0} → Option ℕ → Option ℕ → Result (Option J) E → Type 0
MakesJob None new answer = new ≡ None
MakesJob (Some old) new (Ok (Some job)) = HasMade 1 (Some old) new
MakesJob (Some old) new (Ok None) = old ≡ 0
MakesJob (Some old) new (Err e) = old ≢ 0

-- the first job and these others are all that were to come, up to sixteen
abbrev pub AreAll : Option ℕ → List ℕ → Type 0
AreAll None others = Unit {0}
AreAll (Some left) others = length others + 1 ≡ min left 16

-- why a session has no jobs: there is no first one; or memory runs out for one
abbrev pub IsMakerFault : Option ℕ → SessionFault → Type 0
IsMakerFault left Start = MayBeDone left
IsMakerFault left Memory = MayGoOn left
IsMakerFault left _ = ⊥

-- each of these jobs has done nothing yet
abbrev pub AreFresh : {J : Type 0} → (J → Type 0) → List J → Type 0
AreFresh fresh [] = Unit {0}
AreFresh fresh (job ∷ jobs) = fresh job × AreFresh fresh jobs

-- the maker gives these jobs, one after another
abbrev pub GivesJobs : {M J : Type 0} → (M → J → M → Type 0) → M → List J → Type 0
GivesJobs {M} gives maker jobs = (later : M) × FoldsTo gives maker jobs later

-- these jobs are those that the maker gives, in order, and none has done anything yet
abbrev pub begins : {M J : Type 0} → (J → Type 0) → (M → J → M → Type 0) → M → List J → Type 0
begins fresh gives maker jobs = AreFresh fresh jobs × GivesJobs gives maker jobs
