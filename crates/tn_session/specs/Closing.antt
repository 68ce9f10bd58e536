-- The moment at which the writer is finished, since no more comes from this end.
use Rattle.std.specs.Prelude.{◌≡◌, Bool, true, IsTrue, false, IsFalse, Option}
use Rattle.tn_cores.specs.streams.Sending.{Sending, finished_on}

-- it is finished once: at this call, if that is due and it was not finished before; the answer is whether it
-- was finished
abbrev pub Closes : Bool → Bool → Bool → Option Sending → Option Sending → Type 0
Closes closes true told old new = IsTrue told × (new ≡ old)
Closes true false told old new = IsTrue told × (new ≡ finished_on old)
Closes false false told old new = IsFalse told × (new ≡ old)
