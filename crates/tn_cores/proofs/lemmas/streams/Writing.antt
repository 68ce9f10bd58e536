-- One write after another.
use Rattle.std.proofs.Common.{◌≡◌, ℕ, ◌≤◌, ◌<◌, ◌==◌, nat_eq, Bool, true, false, List, [], ◌∷◌, ◌++◌, Option, Some, None, Result, Ok, zero, suc, refl, sym, ap, ◌∙◌, subst}
use Rattle.std.proofs.Common.{append_assoc, append-nil, take-append-drop, arith, length, take, drop}
use Rattle.std.specs.Io.KnownBytes.{Appends, Keeps, WriteAppends}
use Rattle.tn_cores.proofs.lemmas.streams.Telling.{accounts_both}
use Rattle.tn_cores.specs.streams.{Sending.{Sending, written_on, StaysOpen}, Telling.Calls, Writing.{Writes, Tells, max_writes}}

pub appends_more : (a b c : Option (List ℕ)) (xs ys : List ℕ) → Appends a b xs → Appends b c ys → Appends a c (xs ++ ys)
appends_more None b c xs ys one two = tt
appends_more (Some x) None c xs ys one two = absurd one
appends_more (Some x) (Some y) None xs ys one two = absurd two
appends_more (Some x) (Some y) (Some z) xs ys one two = two ∙ ap (λ (l : List ℕ). l ++ ys) one ∙ append_assoc x xs ys

pub appends_kept : (a b c : Option (List ℕ)) (xs : List ℕ) → Appends a b xs → Keeps b c → Appends a c xs
appends_kept None b c xs one two = tt
appends_kept (Some x) None c xs one two = absurd one
appends_kept (Some x) (Some y) None xs one two = absurd two
appends_kept (Some x) (Some y) (Some z) xs one two = two ∙ one

pub appends_none : (a : Option (List ℕ)) → Appends a a []
appends_none None = tt
appends_none (Some x) = sym (append-nil x)

pub keeps_on : (a b c : Option (List ℕ)) → Keeps a b → Keeps b c → Keeps a c
keeps_on None b c one two = tt
keeps_on (Some x) None c one two = absurd one
keeps_on (Some x) (Some y) None one two = absurd two
keeps_on (Some x) (Some y) (Some z) one two = two ∙ one

pub keeps_same : (a : Option (List ℕ)) → Keeps a a
keeps_same None = tt
keeps_same (Some x) = refl

pub kept_appends : (a b : Option (List ℕ)) → Keeps a b → Appends a b []
kept_appends None b kept = tt
kept_appends (Some x) None kept = absurd kept
kept_appends (Some x) (Some y) kept = kept ∙ sym (append-nil x)

pub take_all : (n : ℕ) (l : List ℕ) → length l ≤ n → take n l ≡ l
take_all zero [] h = refl
take_all (suc n) [] h = refl
take_all zero (x ∷ xs) h = absurd (omega arith)
take_all (suc n) (x ∷ xs) h = ap (λ (k : List ℕ). x ∷ k) (take_all n xs (omega arith))

-- in no bytes nothing stands at any place
pub not_below : (bytes : List ℕ) (at : ℕ) → bytes ≡ [] → at < length bytes → ⊥
not_below bytes at none e = let zero : length bytes ≡ 0 = ap length none in omega (arith, zero, e)

pub all_taken : (n k : ℕ) → n ≤ k → k ≤ n → (n == k) ≡ true
all_taken n k a b = grind arith

pub ok_writes : {E : Type 0} (old new : Option (List ℕ)) (r : Result ℕ E) (n : ℕ) (buf : List ℕ) → r ≡ Ok n → WriteAppends old new r buf
    → Appends old new (take n buf)
ok_writes {E} old new r n buf e h = let P : Result ℕ E → Type 0 = λ u. WriteAppends old new u buf in subst P e h

-- if nothing more was taken
pub stays_at : (a b c : Option (List ℕ)) (n k : ℕ) (bytes rest : List ℕ) → k ≡ 0 → Appends a b (take n bytes) → Appends b c (take k rest)
    → Appends a c (take n bytes)
stays_at a b c n k bytes rest e one two =
    let P : ℕ → Type 0 = λ m. Appends b c (take m rest) in
    let Q : List ℕ → Type 0 = λ zs. Appends a c zs in
    subst Q (append-nil (take n bytes)) (appends_more a b c (take n bytes) [] one (subst P e two))

pub open_more : (a b c : Option Sending) → StaysOpen a b → c ≡ written_on b → StaysOpen a c
open_more a b c more is e = is ∙ ap written_on (more e)

-- this number of the bytes was written
pub writes_so_many : (w : Bool) (x y : Option (List ℕ)) (n : ℕ) (bytes : List ℕ) → nat_eq n (length bytes) ≡ w → Appends x y (take n bytes) → Writes w x y bytes
writes_so_many true x y n bytes e h = let all : length bytes ≤ n = grind arith in rw (take_all n bytes all) at h
writes_so_many false x y n bytes e h = (take n bytes, drop n bytes, sym (take-append-drop n bytes), h)

-- ONE LINE AFTER ANOTHER

pub writes_more : (well : Bool) (a b c : Option (List ℕ)) (xs ys : List ℕ) → Appends a b xs → Writes well b c ys → Writes well a c (xs ++ ys)
writes_more true a b c xs ys one two = appends_more a b c xs ys one two
writes_more false a b c xs ys one (front, rest, is, two) = (
  xs ++ front,
  rest,
  ap (λ (l : List ℕ). xs ++ l) is ∙ sym (append_assoc xs front rest),
  appends_more a b c xs front one two,
)

pub stops_more : (a b c : Option (List ℕ)) (xs ys : List ℕ) → Writes false a b xs → Keeps b c → Writes false a c (xs ++ ys)
stops_more a b c xs ys (front, rest, is, one) kept = (
  front,
  rest ++ ys,
  ap (λ (l : List ℕ). l ++ ys) is ∙ append_assoc front rest ys,
  appends_kept a b c front one kept,
)

pub tells_more : (well : Bool) (a b c : Option Calls) → Tells true a b → Tells well b c → Tells well a c
tells_more well a b c one two = accounts_both max_writes true well a b c one two
