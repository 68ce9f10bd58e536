-- The bytes that a thread that reads took from its reader.
use Rattle.std.proofs.Common.{◌≡◌, ℕ, ◌+◌, List, [], ◌∷◌, ◌++◌, Option, Some, None, sym, ap, ◌∙◌, append_assoc, append-nil, length, length-append, arith}
use Rattle.std.proofs.lemmas.List.Folds.{concat-append}
use Rattle.std.specs.{List.concat, Io.KnownBytes.{Consumes, Keeps}}
use Rattle.tn_session.specs.workers.Reading.{IsReadCause, max_reads}
use Rattle.tn_cores.proofs.lemmas.streams.Foretelling.{come_on, come_will}
use Rattle.tn_cores.specs.{streams.Foretelling.{Failures, HasCome}, declared.messages.Message.Message}
use Rattle.tn_cores.specs.declared.messages.Message.TheVariants.{Piece, HangUp, ReadFailed, Take, Said, Refused, Left, Resized, Asked}

pub consumes_more : (a b c : Option (List ℕ)) (xs ys : List ℕ) → Consumes a b xs → Consumes b c ys → Consumes a c (xs ++ ys)
consumes_more None b c xs ys one two = tt
consumes_more (Some x) None c xs ys one two = absurd one
consumes_more (Some x) (Some y) None xs ys one two = absurd two
consumes_more (Some x) (Some y) (Some z) xs ys one two = one ∙ ap (λ (l : List ℕ). xs ++ l) two ∙ sym (append_assoc xs ys z)

pub consumes_none : (a b : Option (List ℕ)) → Keeps a b → Consumes a b []
consumes_none None b keeps = tt
consumes_none (Some x) None keeps = absurd keeps
consumes_none (Some x) (Some y) keeps = sym keeps

pub consumes_piece : (a b c : Option (List ℕ)) (pieces : List (List ℕ)) (p : List ℕ) → Consumes a b (concat pieces) → Consumes b c p
    → Consumes a c (concat (pieces ++ p ∷ []))
consumes_piece a b c pieces p one two = rw (concat-append pieces (p ∷ [])) (consumes_more a b c (concat pieces) (concat (p ∷ [])) one (rw (append-nil p) two))

pub consumes_end : (a b c : Option (List ℕ)) (xs : List ℕ) → Consumes a b xs → Consumes b c [] → Consumes a c xs
consumes_end a b c xs one two = let h = consumes_more a b c xs [] one two in rw (append-nil xs) at h

-- WHAT WAS FORETOLD

pub come_piece : (calls : ℕ) (pieces : List (List ℕ)) (p : List ℕ) (a b c : Option Failures) → HasCome calls (length pieces) a b → HasCome 1 1 b c
    → HasCome (calls + 1) (length (pieces ++ p ∷ [])) a c
come_piece calls pieces p a b c one two = rw (length-append pieces (p ∷ [])) (come_on calls (length pieces) 1 1 a b c one two)

pub come_interrupted : (calls : ℕ) (pieces : List (List ℕ)) (a b c : Option Failures) → HasCome calls (length pieces) a b → HasCome 1 0 b c
    → HasCome (calls + 1) (length pieces) a c
come_interrupted calls pieces a b c one two =
    let none : length pieces + 0 ≡ length pieces = omega arith in
    rw none at (come_on calls (length pieces) 1 0 a b c one two)

pub cause_on : (calls : ℕ) (pieces : List (List ℕ)) (last : Message) (a b : Option Failures) → HasCome calls (length pieces) a b → IsReadCause b 0 last
    → IsReadCause a (length pieces) last
cause_on calls pieces ReadFailed a b one cause = come_will max_reads calls (length pieces) a b one cause
cause_on calls pieces (Piece piece) a b one cause = tt
cause_on calls pieces HangUp a b one cause = tt
cause_on calls pieces Take a b one cause = tt
cause_on calls pieces (Said job text after) a b one cause = tt
cause_on calls pieces Refused a b one cause = tt
cause_on calls pieces Left a b one cause = tt
cause_on calls pieces (Resized s) a b one cause = tt
cause_on calls pieces (Asked control) a b one cause = tt
