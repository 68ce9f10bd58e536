-- The facts that hold all along a run of messages, and what it takes of what they bring.
use Rattle.std.proofs.Common.{◌≡◌, Bool, true, false, List, [], ◌∷◌, ◌++◌, map, refl, sym, ap, ◌∙◌, subst, append_assoc}
use Rattle.std.specs.List.{FoldsTo, flat_map}
use Rattle.tn_cores.specs.Pieces.{TakesFront}

true_false : true ≡ false → ⊥
true_false e = cc

-- a fact that each step keeps
pub run_keeps : {S M : Type 0} (Steps : S → M → S → Type 0) (Holds : S → Type 0) → ((c new : S) (m : M) → Steps c m new → Holds c → Holds new)
    → (all : List M) (c new : S) → FoldsTo Steps c all new → Holds c → Holds new
run_keeps Steps Holds one [] c new f h = subst Holds f h
run_keeps Steps Holds one (m ∷ all) c new f h = run_keeps Steps Holds one all f.0 new f.2 (one c f.0 m f.1 h)

-- a step takes what its message brings, until nothing has any effect
pub record TakesEach {S M N A : Type 0} (Steps : S → M → S → Type 0) (over : S → Bool) (Holds : S → Type 0) (taken : S → List A) (message : M → N)
    (brings : N → List A) : Type 0 where
  pub on : (c new : S) (m : M) → over c ≡ false → Steps c m new → Holds c → (taken new ≡ taken c ++ brings (message m)) × Holds new
  pub off : (c new : S) (m : M) → over c ≡ true → Steps c m new → Holds c → (over new ≡ true) × (taken new ≡ taken c) × Holds new

pub run_takes : {S M N A : Type 0} (Steps : S → M → S → Type 0) (over : S → Bool) (Holds : S → Type 0) (taken : S → List A) (message : M → N)
    (brings : N → List A) → TakesEach Steps over Holds taken message brings → (all : List M) (c new : S) → FoldsTo Steps c all new → Holds c
    → TakesFront (over new) (taken c ++ flat_map brings (map message all)) (taken new) × Holds new
run_takes {S} Steps over Holds taken message brings each [] c new f h = (
  record {
    rest = [];
    front = ap (λ (s : S). taken s ++ []) f;
    whole = λ on. refl;
  },
  subst Holds f h,
)
run_takes {S} {M} {N} {A} Steps over Holds taken message brings each (m ∷ all) c new f h =
    by_test (over c) refl (λ k. run_takes Steps over Holds taken message brings each all f.0 new f.2 k)
  where
    all_brought : List A
    all_brought = flat_map brings (map message (m ∷ all))

    Later : Type 0
    Later = Holds f.0 → TakesFront (over new) (taken f.0 ++ flat_map brings (map message all)) (taken new) × Holds new

    by_test : (b : Bool) → over c ≡ b → Later → TakesFront (over new) (taken c ++ all_brought) (taken new) × Holds new
    by_test true off go_on =
        let kept = run_keeps Steps (λ (s : S). (over s ≡ true) × (taken s ≡ taken c) × Holds s)
        (λ p q x step k. let o = each.off p q x k.0 step k.2 in (o.0, o.1 ∙ k.1, o.2)) (m ∷ all) c new f (off, refl, h) in (
          record {
            rest = all_brought;
            front = ap (λ (xs : List A). xs ++ all_brought) (sym kept.1);
            whole = λ on. absurd (true_false (sym kept.0 ∙ on));
          },
          kept.2,
        )
    by_test false on go_on =
        let one = each.on c f.0 m on f.1 h in
        let later = go_on one.1 in (
          record {
            rest = later.0.rest;
            front = sym (append_assoc (taken c) (brings (message m)) (flat_map brings (map message all)))
                ∙ ap (λ (xs : List A). xs ++ flat_map brings (map message all)) (sym one.0) ∙ later.0.front;
            whole = later.0.whole;
          },
          later.1,
        )
