-- Calls one after another, and what was foretold of them.
use Rattle.std.proofs.Common.{◌≡◌, ◌≢◌, ℕ, ◌+◌, Option, Some, None, Ok, Err, inl, inr, ⊎_elim, refl, ap, arith}
use Rattle.std.specs.{IoError.error_kind, declared.io.{Error.Error, ErrorKind.TheVariants.Interrupted}}
use Rattle.tn_cores.specs.streams.Foretelling.{Failures, ForetellsCall, HasCome, WillFail}

pub come_none : (f : Option Failures) → HasCome 0 0 f f
come_none None = refl
come_none (Some f) = (refl, refl)

-- one call more, which gave something
pub come_more : (n calls gave : ℕ) (old mid new : Option Failures) → HasCome calls gave old mid → ForetellsCall (Ok n) mid new
    → HasCome (calls + 1) (gave + 1) old new
come_more n calls gave None None new had call = call
come_more n calls gave None (Some mid) new had call = absurd (let e = had in cc)
come_more n calls gave (Some old) None new had call = absurd had
come_more n calls gave (Some old) (Some mid) None had call = absurd call
come_more n calls gave (Some old) (Some mid) (Some new) had call =
    let failing : new.failing ≡ mid.failing = ap (λ (f : Failures). f.failing) call in
    let interrupted : new.interrupted ≡ mid.interrupted = ap (λ (f : Failures). f.interrupted) call in
    (omega (arith, had.0, failing), omega (arith, had.1, interrupted))

-- one call more, which was interrupted
pub come_again : (e : Error) (calls gave : ℕ) (old mid new : Option Failures) → error_kind e ≡ Interrupted → HasCome calls gave old mid
    → ForetellsCall (Err e) mid new → HasCome (calls + 1) gave old new
come_again e calls gave None None new kind had call = call
come_again e calls gave None (Some mid) new kind had call = absurd (let e = had in cc)
come_again e calls gave (Some old) None new kind had call = absurd had
come_again e calls gave (Some old) (Some mid) None kind had call = absurd call
come_again e calls gave (Some old) (Some mid) (Some new) kind had call =
    let c = call.0 kind in
    (omega (arith, had.0, c.0), omega (arith, had.1, c.1))

-- one call more, which failed
pub come_failed : (e : Error) (most calls gave : ℕ) (old mid new : Option Failures) → error_kind e ≢ Interrupted → HasCome calls gave old mid
    → ForetellsCall (Err e) mid new → WillFail most gave old
come_failed e most calls gave None mid new kind had call = tt
come_failed e most calls gave (Some old) None new kind had call = absurd had
come_failed e most calls gave (Some old) (Some mid) None kind had call = absurd call
come_failed e most calls gave (Some old) (Some mid) (Some new) kind had call =
    let c = call.1 kind in
    inl (omega (arith, had.0, c.0))

-- as many calls as may be made
pub come_passed : (most gave : ℕ) (old new : Option Failures) → HasCome most gave old new → WillFail most gave old
come_passed most gave None new had = tt
come_passed most gave (Some old) None had = absurd had
come_passed most gave (Some old) (Some new) had = inr (omega (arith, had.1))

-- some calls, and then others
pub come_on : (a b c d : ℕ) (old mid new : Option Failures) → HasCome a b old mid → HasCome c d mid new → HasCome (a + c) (b + d) old new
come_on a b c d None None new one two = two
come_on a b c d None (Some mid) new one two = absurd (let e = one in cc)
come_on a b c d (Some old) None new one two = absurd one
come_on a b c d (Some old) (Some mid) None one two = absurd two
come_on a b c d (Some old) (Some mid) (Some new) one two = (omega (arith, one.0, two.0), omega (arith, one.1, two.1))

pub come_will : (most a b : ℕ) (old mid : Option Failures) → HasCome a b old mid → WillFail most 0 mid → WillFail most b old
come_will most a b None mid one will = tt
come_will most a b (Some old) None one will = absurd one
come_will most a b (Some old) (Some mid) one will = ⊎_elim (λ f. inl (omega (arith, f, one.0))) (λ f. inr (omega (arith, f, one.1))) will
