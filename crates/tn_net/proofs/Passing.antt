-- The bytes that a reader passes on.
use Rattle.std.proofs.Common.{ℕ, List, [], Option, Some, None, Result, Ok, Err, refl, sym, ◌∙◌}
use Rattle.std.specs.Io.KnownBytes.{Consumes, Keeps, ReadConsumes}
use Rattle.tn_net.specs.Passing.{HandsOn}

pub keeps_same : (a : Option (List ℕ)) → Keeps a a
keeps_same None = tt
keeps_same (Some x) = refl

pub keeps_on : (a b d : Option (List ℕ)) → Keeps a b → Keeps b d → Keeps a d
keeps_on None b d one two = tt
keeps_on (Some x) None d one two = absurd one
keeps_on (Some x) (Some y) None one two = absurd two
keeps_on (Some x) (Some y) (Some z) one two = two ∙ one

pub consumes_none : (a b : Option (List ℕ)) → Keeps a b → Consumes a b []
consumes_none None b kept = tt
consumes_none (Some x) None kept = absurd kept
consumes_none (Some x) (Some y) kept = sym kept

pub hands_on : {E : Type 0} (a b : Option (List ℕ)) (r : Result ℕ E) (buf : List ℕ) → ReadConsumes a b r buf → HandsOn a b r buf
hands_on a b (Ok n) buf h = h.0
hands_on a b (Err e) buf h = h

-- nothing is known beforehand
pub unforeseen : {E : Type 0} (r : Result ℕ E) (buf : List ℕ) → ReadConsumes None None r buf
unforeseen (Ok n) buf = (tt, λ none room. tt)
unforeseen (Err e) buf = tt
