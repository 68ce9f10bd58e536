-- The items that plain bytes complete.
use Rattle.std.proofs.{Common.{◌≢◌, ℕ, ◌<◌, List, [], ◌∷◌, All, zero, suc, length, take, get_or, map, arith}, lemmas.List.Elements.{All-head, All-tail}}
use Rattle.tn_nvt.specs.{declared.items.Item.TheVariants.Byte, Machine.{Outside, AfterCr, StepAdvances}, Sinks.IsPlain}
use Rattle.tn_nvt.proofs.Steps.{StepAdvances-none, StepAdvances-append, plain, cr_plain}

pub plain_run : (bytes : List ℕ) → All IsPlain bytes → StepAdvances Outside bytes (map Byte bytes) Outside
plain_run [] p = StepAdvances-none Outside
plain_run (b ∷ bs) p =
    let h = All-head IsPlain b bs p in
    StepAdvances-append Outside Outside Outside (b ∷ []) bs (Byte b ∷ []) (map Byte bs) (plain b h.0 h.1) (plain_run bs (All-tail IsPlain b bs p))

run_after_cr : (b : ℕ) (bs : List ℕ) → b ≢ 10 → b ≢ 0 → All IsPlain (b ∷ bs) → StepAdvances AfterCr (b ∷ bs) (Byte 13 ∷ Byte b ∷ map Byte bs) Outside
run_after_cr b bs h k p =
    let q = All-head IsPlain b bs p in
    StepAdvances-append AfterCr Outside Outside (b ∷ []) bs (Byte 13 ∷ Byte b ∷ []) (map Byte bs) (cr_plain b h k q.0 q.1)
    (plain_run bs (All-tail IsPlain b bs p))

none_below : 0 < 0 → ⊥
none_below h = omega arith

-- the front of a prefix of the rest
pub front_after_cr : (rest : List ℕ) (n : ℕ) → 0 < n → 0 < length rest → get_or rest 0 0 ≢ 10 → get_or rest 0 0 ≢ 0 → All IsPlain (take n rest)
    → StepAdvances AfterCr (take n rest) (Byte 13 ∷ map Byte (take n rest)) Outside
front_after_cr [] n some full h k p = absurd (none_below full)
front_after_cr (b ∷ bs) zero some full h k p = absurd (none_below some)
front_after_cr (b ∷ bs) (suc n) some full h k p = run_after_cr b (take n bs) h k p
