-- A queue into which symbols are put that may not fit.
use Rattle.std.proofs.Common.{◌≡◌, ℕ, zero, suc, ◌+◌, ◌-◌, ◌<◌, ◌≤◌, min, nat_le, Bool, true, false, List, [], ◌∷◌, ◌++◌, length, map, take, get_or, refl, sym}
use Rattle.std.proofs.{Common.{ap, ◌∙◌, if◌then◌else◌, arith, append-nil, append_assoc, length-append}, lemmas.List.{take_more, take_min, take-map, map-append}}
use Rattle.tn_discipline.specs.declared.echo.Symbol.{Symbol, TheVariants.Byte}
use Rattle.tn_pty.specs.{Terminal.{queue_with, queue_with_each}, Runs.shown_byte}
use Rattle.tn_pty.proofs.Marked.{shown_plain}

le_true : (a b : ℕ) → a ≤ b → nat_le a b ≡ true
le_true a b h = grind arith

le_false : (a b : ℕ) → (a ≤ b → ⊥) → nat_le a b ≡ false
le_false a b h = grind arith

-- a symbol that fits, and one that does not
pub one_fits : (queue : List Symbol) (x : Symbol) → length queue < 4096 → queue_with queue (x ∷ []) ≡ queue ++ x ∷ []
one_fits queue x room = ap (λ (b : Bool). if b then queue ++ x ∷ [] else queue) (le_true (length queue + 1) 4096 (omega (arith, room)))

pub none_fits : (queue : List Symbol) (x : Symbol) → 4096 ≤ length queue → queue_with queue (x ∷ []) ≡ queue
none_fits queue x full = ap (λ (b : Bool). if b then queue ++ x ∷ [] else queue) (le_false (length queue + 1) 4096 (λ le. absurd (omega (arith, le, full))))

each_push : (queue xs : List Symbol) (x : Symbol) → queue_with_each queue (xs ++ x ∷ []) ≡ queue_with (queue_with_each queue xs) (x ∷ [])
each_push queue [] x = refl
each_push queue (y ∷ xs) x = each_push (queue_with queue (y ∷ [])) xs x

-- a step of a loop over bytes, each of which is shown
pub each_more : (f : ℕ → Symbol) (start : List Symbol) (bytes : List ℕ) (i : ℕ) (queue new : List Symbol) → i < length bytes
    → queue ≡ queue_with_each start (map f (take i bytes)) → new ≡ queue_with queue (f (get_or bytes i 0) ∷ [])
    → new ≡ queue_with_each start (map f (take (i + 1) bytes))
each_more f start bytes i queue new within before is =
    let byte = get_or bytes i 0 in
    is
    ∙ ap (λ (q : List Symbol). queue_with q (f byte ∷ [])) before
    ∙ sym (each_push start (map f (take i bytes)) (f byte))
    ∙ ap (queue_with_each start) (sym (map-append f (take i bytes) (byte ∷ [])) ∙ ap (map f) (sym (take_more bytes i 0 within)))

-- the first of the symbols that are put one after another fit, as many as there is room for
each_fits : (xs : List Symbol) (queue : List Symbol) (room : ℕ) → length queue + room ≡ 4096 → queue_with_each queue xs ≡ queue ++ take room xs
each_fits [] queue zero e = sym (append-nil queue)
each_fits [] queue (suc room) e = sym (append-nil queue)
each_fits (x ∷ xs) queue zero e = ap (λ q. queue_with_each q xs) (none_fits queue x (omega (arith, e))) ∙ each_fits xs queue zero e
each_fits (x ∷ xs) queue (suc room) e =
    ap (λ q. queue_with_each q xs) (one_fits queue x (omega (arith, e)))
    ∙ each_fits xs (queue ++ x ∷ []) room (omega (arith, e, length-append queue (x ∷ [])))
    ∙ append_assoc queue (x ∷ []) (take room xs)

-- bytes that are shown as they are, as many as fit
pub run_fits : (queue : List Symbol) (bytes : List ℕ) → length queue ≤ 4096
    → queue ++ map (shown_byte false) (take (min (length bytes) (4096 - length queue)) bytes) ≡ queue_with_each queue (map Byte bytes)
run_fits queue bytes within =
    let room = 4096 - length queue in
    let count : min (length bytes) room ≡ min room (length bytes) = omega arith in
    ap (λ n. queue ++ map (shown_byte false) (take n bytes)) count
    ∙ ap (λ xs. queue ++ map (shown_byte false) xs) (take_min room bytes)
    ∙ ap (λ xs. queue ++ xs) (shown_plain (take room bytes) ∙ sym (take-map Byte room bytes))
    ∙ sym (each_fits (map Byte bytes) queue room (omega (arith, within)))
