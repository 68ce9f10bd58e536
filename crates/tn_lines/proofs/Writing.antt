-- One read or write after another.
use Rattle.std.proofs.Common.{◌≡◌, ℕ, List, [], ◌++◌, Option, Some, None, Result, Ok, subst, refl, sym, ap, ◌∙◌, append_assoc, append-nil, take}
use Rattle.std.specs.Io.KnownBytes.{Appends, Consumes, Keeps, ReadConsumes}

pub consumes_more : (a b c : Option (List ℕ)) (xs ys : List ℕ) → Consumes a b xs → Consumes b c ys → Consumes a c (xs ++ ys)
consumes_more None b c xs ys one two = tt
consumes_more (Some x) None c xs ys one two = absurd one
consumes_more (Some x) (Some y) None xs ys one two = absurd two
consumes_more (Some x) (Some y) (Some z) xs ys one two = one ∙ ap (λ (l : List ℕ). xs ++ l) two ∙ sym (append_assoc xs ys z)

pub consumes_kept : (a b c : Option (List ℕ)) (xs : List ℕ) → Consumes a b xs → Keeps b c → Consumes a c xs
consumes_kept None b c xs one two = tt
consumes_kept (Some x) None c xs one two = absurd one
consumes_kept (Some x) (Some y) None xs one two = absurd two
consumes_kept (Some x) (Some y) (Some z) xs one two = one ∙ ap (λ (l : List ℕ). xs ++ l) (sym two)

pub consumes_none : (a : Option (List ℕ)) → Consumes a a []
consumes_none None = tt
consumes_none (Some x) = refl

pub consumed_nothing : (a b : Option (List ℕ)) → Consumes a b [] → Keeps a b
consumed_nothing None b none = tt
consumed_nothing (Some x) None none = absurd none
consumed_nothing (Some x) (Some y) none = sym none

-- none of the bytes
nothing_appended : (a b : Option (List ℕ)) → Appends a b [] → Keeps a b
nothing_appended None b none = tt
nothing_appended (Some x) None none = absurd none
nothing_appended (Some x) (Some y) none = none ∙ append-nil x

pub appends_zero : (a b : Option (List ℕ)) (n : ℕ) (bytes : List ℕ) → n ≡ 0 → Appends a b (take n bytes) → Keeps a b
appends_zero a b n bytes none h = let P : ℕ → Type 0 = λ m. Appends a b (take m bytes) in nothing_appended a b (subst P none h)

pub reads_zero : {E : Type 0} (a b : Option (List ℕ)) (r : Result ℕ E) (n : ℕ) (bytes : List ℕ) → r ≡ Ok n → n ≡ 0 → ReadConsumes a b r bytes → Keeps a b
reads_zero {E} a b r n bytes is none h =
    let P : Result ℕ E → Type 0 = λ u. ReadConsumes a b u bytes in
    let Q : ℕ → Type 0 = λ m. Consumes a b (take m bytes) in
    consumed_nothing a b (subst Q none (subst P is h).0)
