-- If each sender's list ends in its one Left, and all Lefts were handled, nothing is left over.
use Rattle.std.proofs.Common.{◌≡◌, ◌+◌, ◌≤◌, ◌<◌, ℕ, Bool, true, false, List, [], ◌∷◌, ◌++◌, refl, sym, ap, ◌∙◌, subst, arith}
use Rattle.tn_session.specs.{declared.workers.mail.{Sender.{Sender, TheVariants.{Net, Desk, Back, Keys}}, Mail.Mail}, Turns.{left_one, lefts_of}}
use Rattle.tn_session.specs.workers.Mailbox.{same, from, four, Interleaves}
use Rattle.tn_session.proofs.Mailbox.{from-append}

pub lefts-append : (a b : List Mail) → lefts_of (a ++ b) ≡ lefts_of a + lefts_of b
lefts-append [] b = omega arith
lefts-append (x ∷ xs) b = let ih = lefts-append xs b in omega arith

-- the Lefts of all are those of each sender
one_each : (f : Sender) (n a b c d : ℕ) (na nb nc nd : ℕ) → (same f Net ≡ true → na ≡ n + a) → (same f Net ≡ false → na ≡ a) → (same f Desk ≡ true → nb ≡ n + b)
    → (same f Desk ≡ false → nb ≡ b)
    → (same f Back ≡ true → nc ≡ n + c) → (same f Back ≡ false → nc ≡ c) → (same f Keys ≡ true → nd ≡ n + d) → (same f Keys ≡ false → nd ≡ d)
    → na + nb + nc + nd ≡ n + (a + b + c + d)
one_each Net n a b c d na nb nc nd a1 a0 b1 b0 c1 c0 d1 d0 = let x = a1 refl in let y = b0 refl in let z = c0 refl in let w = d0 refl in omega arith
one_each Desk n a b c d na nb nc nd a1 a0 b1 b0 c1 c0 d1 d0 = let x = a0 refl in let y = b1 refl in let z = c0 refl in let w = d0 refl in omega arith
one_each Back n a b c d na nb nc nd a1 a0 b1 b0 c1 c0 d1 d0 = let x = a0 refl in let y = b0 refl in let z = c1 refl in let w = d0 refl in omega arith
one_each Keys n a b c d na nb nc nd a1 a0 b1 b0 c1 c0 d1 d0 = let x = a0 refl in let y = b0 refl in let z = c0 refl in let w = d1 refl in omega arith

pub lefts_here : (s : Sender) (x : Mail) (xs : List Mail) → same x.from s ≡ true → lefts_of (from s (x ∷ xs)) ≡ left_one x.message + lefts_of (from s xs)
lefts_here s x xs is = rw is refl

pub lefts_else : (s : Sender) (x : Mail) (xs : List Mail) → same x.from s ≡ false → lefts_of (from s (x ∷ xs)) ≡ lefts_of (from s xs)
lefts_else s x xs is = rw is refl

pub lefts_each : (xs : List Mail) → lefts_of (from Net xs) + lefts_of (from Desk xs) + lefts_of (from Back xs) + lefts_of (from Keys xs) ≡ lefts_of xs
lefts_each [] = omega arith
lefts_each (x ∷ xs) = one_each x.from (left_one x.message) (lefts_of (from Net xs)) (lefts_of (from Desk xs)) (lefts_of (from Back xs))
    (lefts_of (from Keys xs)) _ _ _ _
    (lefts_here Net x xs) (lefts_else Net x xs) (lefts_here Desk x xs) (lefts_else Desk x xs) (lefts_here Back x xs) (lefts_else Back x xs)
    (lefts_here Keys x xs) (lefts_else Keys x xs)
    ∙ ap (λ (n : ℕ). left_one x.message + n) (lefts_each xs)

-- a list that is empty, or ends in its one Left
abbrev pub EndsLeft : List Mail → Type 0
EndsLeft [] = Unit {0}
EndsLeft (x ∷ []) = left_one x.message ≡ 1
EndsLeft (x ∷ y ∷ ys) = EndsLeft (y ∷ ys)

-- the part after some front holds a Left, if it holds anything
pub tail_left : (a : List Mail) (x : Mail) (b : List Mail) → EndsLeft (a ++ x ∷ b) → 0 < lefts_of (x ∷ b)
tail_left [] x [] ends = omega (arith, ends)
tail_left [] x (y ∷ ys) ends = let ih = tail_left [] y ys ends in omega arith
tail_left (z ∷ []) x b ends = tail_left [] x b ends
tail_left (z ∷ w ∷ ws) x b ends = tail_left (w ∷ ws) x b ends

from_here : (x : Mail) (xs : List Mail) → same x.from x.from ≡ true → from x.from (x ∷ xs) ≡ x ∷ from x.from xs
from_here x xs is = rw is refl

pub same_self : (s : Sender) → same s s ≡ true
same_self Net = refl
same_self Desk = refl
same_self Back = refl
same_self Keys = refl

part_of : (s : Sender) (xs : List Mail) → lefts_of (from s xs) ≤ lefts_of xs
part_of s [] = omega arith
part_of s (x ∷ xs) = at_test (part_of s xs) (same x.from s) refl
  where
    at_test : lefts_of (from s xs) ≤ lefts_of xs → (t : Bool) → same x.from s ≡ t → lefts_of (from s (x ∷ xs)) ≤ lefts_of (x ∷ xs)
    at_test ih true is = let e = lefts_here s x xs is in omega arith
    at_test ih false is = let e = lefts_else s x xs is in omega arith

-- if as many Lefts were handled as were sent in all, the mailbox is empty
nothing_left : (h items : List Mail) (sent : Sender → List Mail) → Interleaves (h ++ items) sent → ((s : Sender) → EndsLeft (sent s))
    → lefts_of (sent Net) + lefts_of (sent Desk) + lefts_of (sent Back) + lefts_of (sent Keys) ≤ lefts_of h → items ≡ []
nothing_left h [] sent woven ends count = refl
nothing_left h (x ∷ xs) sent woven ends count =
    let s : Sender = x.from in
    let split : from s (h ++ x ∷ xs) ≡ from s h ++ x ∷ from s xs =
    from-append s h (x ∷ xs) ∙ ap (λ (l : List Mail). from s h ++ l) (from_here x xs (same_self s)) in
    let here : 0 < lefts_of (x ∷ from s xs) = tail_left (from s h) x (from s xs) (subst EndsLeft (sym (woven s) ∙ split) (ends s)) in
    let part : lefts_of (from s xs) ≤ lefts_of xs = part_of s xs in
    let all : lefts_of (sent Net) + lefts_of (sent Desk) + lefts_of (sent Back) + lefts_of (sent Keys) ≡ lefts_of (h ++ x ∷ xs) =
    (λ i. lefts_of (sym (woven Net) i) + lefts_of (sym (woven Desk) i) + lefts_of (sym (woven Back) i) + lefts_of (sym (woven Keys) i))
    ∙ lefts_each (h ++ x ∷ xs) in
    absurd (omega (arith, lefts-append h (x ∷ xs), all, count, here, part))

pub none_over : (h items a b c d : List Mail) → Interleaves (h ++ items) (four a b c d) → EndsLeft a → EndsLeft b → EndsLeft c → EndsLeft d
    → lefts_of a + lefts_of b + lefts_of c + lefts_of d ≤ lefts_of h → items ≡ []
none_over h items a b c d woven ea eb ec ed enough = nothing_left h items (four a b c d) woven ends enough
  where
    ends : (s : Sender) → EndsLeft (four a b c d s)
    ends Net = ea
    ends Desk = eb
    ends Back = ec
    ends Keys = ed
