use Rattle.std.proofs.{Common.{◌≡◌, ◌<◌, ℕ, zero, suc, ◌-◌, length, drop, refl, arith}, lemmas.List.{length-drop, length-take}}
use Rattle.tn_cli.proofs.{Items.types_nothing, Keys.types_front}
use Rattle.tn_cli.proofs.typing.Typing.fill.Goals as goal

some_of : (n : ℕ) → (n ≡ 0 → ⊥) → 0 < n
some_of zero none = absurd (none refl)
some_of (suc n) none = omega arith

pub loop-typed-init : goal.loop-typed-init
loop-typed-init c = record { within = omega arith; first = λ e. c.requires.empty; types = types_nothing c.args.self.now; capacity = omega arith }

pub loop-typed-preserved : goal.loop-typed-preserved
loop-typed-preserved c =
    let keys = c.args.keys.now in
    let i = c.loop-typed.typed in
    let front = c.front-typed.ensures in
    record {
      within = omega (arith, front.within, length-take (length keys - i) (drop i keys), length-drop i keys, c.loop-typed.invariant.within);
      first = λ e. absurd (omega (arith, e, front.some));
      types = types_front c.args.self.now c.loop-typed.self c.front-typed.new.self keys i c.front-typed.result c.loop-typed.invariant.types front.types;
      capacity = omega (arith, front.capacity, c.loop-typed.invariant.capacity);
    }

pub returns-then-len-clause-some : goal.returns-then-len-clause-some
returns-then-len-clause-some c there = some_of c.loop-typed.typed (λ e. omega (arith, c.loop-typed.invariant.first e, c.len.ensures, c.if-len.true))
