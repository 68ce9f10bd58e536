-- Calls one after another, and what is known of them.
use Rattle.std.proofs.Common.{◌≡◌, ◌≢◌, ℕ, ◌+◌, ◌<◌, Bool, true, false, ◌&&◌, List, length, Option, Some, None, Ok, Err, inl, inr, ⊎_elim, ◌⊎◌, refl, ap}
use Rattle.std.proofs.Common.{◌∙◌, arith}
use Rattle.std.specs.{IoError.error_kind, declared.io.{Error.Error, ErrorKind.TheVariants.Interrupted}}
use Rattle.tn_cores.specs.streams.Telling.{Calls, TellsCall, CountsRead, CountsWrite, HasMade, HasFailed, AccountsFor, SomeFailed}

pub made_none : (told : Option Calls) → HasMade 0 told told
made_none None = refl
made_none (Some calls) = (omega arith, refl)

-- one more call, and how many failed stays
pub made_more : (counts : ℕ → ℕ → Type 0) (count : ℕ) (old mid new : Option Calls) → ((x y : ℕ) → counts x y → y ≡ x) → HasMade count old mid
    → TellsCall counts mid new → HasMade (count + 1) old new
made_more counts count None None new stays had told = told
made_more counts count None (Some mid) new stays had told = absurd (let e = had in cc)
made_more counts count (Some old) None None stays had told = tt
made_more counts count (Some old) None (Some new) stays had told = absurd (let e = told in cc)
made_more counts count (Some old) (Some mid) None stays had told = tt
made_more counts count (Some old) (Some mid) (Some new) stays had told = (omega (arith, had.0, told.0), stays mid.failed new.failed told.1 ∙ had.1)

-- one more call, which failed
pub failed_at : (counts : ℕ → ℕ → Type 0) (most count : ℕ) (old mid new : Option Calls) → ((x y : ℕ) → counts x y → y ≡ x + 1) → HasMade count old mid
    → TellsCall counts mid new → HasFailed most old new
failed_at counts most count None mid new fails had told = tt
failed_at counts most count (Some old) None None fails had told = tt
failed_at counts most count (Some old) None (Some new) fails had told = absurd (let e = told in cc)
failed_at counts most count (Some old) (Some mid) None fails had told = tt
failed_at counts most count (Some old) (Some mid) (Some new) fails had told = inl (fails mid.failed new.failed told.1 ∙ ap (λ n. n + 1) had.1)

pub passed : (most : ℕ) (old new : Option Calls) → HasMade most old new → HasFailed most old new
passed most None new had = tt
passed most (Some old) None had = tt
passed most (Some old) (Some new) had = inr had.0

-- a read that gave bytes, or was interrupted, has not failed
pub read_stays : (count : ℕ) (x y : ℕ) → CountsRead (Ok count) x y → y ≡ x
read_stays count x y c = c

pub read_again : (e : Error) → error_kind e ≡ Interrupted → (x y : ℕ) → CountsRead (Err e) x y → y ≡ x
read_again e kind x y c = c.0 kind

pub read_fails : (e : Error) → error_kind e ≢ Interrupted → (x y : ℕ) → CountsRead (Err e) x y → y ≡ x + 1
read_fails e kind x y c = c.1 kind

pub write_stays : (bytes : List ℕ) (count : ℕ) → count ≢ 0 → (x y : ℕ) → CountsWrite bytes (Ok count) x y → y ≡ x
write_stays bytes count some x y c = c.0 some

pub write_takes_none : (bytes : List ℕ) (count : ℕ) → count ≡ 0 → 0 < length bytes → (x y : ℕ) → CountsWrite bytes (Ok count) x y → y ≡ x + 1
write_takes_none bytes count none some x y c = c.1 none some

pub write_again : (bytes : List ℕ) (e : Error) → error_kind e ≡ Interrupted → (x y : ℕ) → CountsWrite bytes (Err e) x y → y ≡ x
write_again bytes e kind x y c = c.0 kind

pub write_fails : (bytes : List ℕ) (e : Error) → error_kind e ≢ Interrupted → (x y : ℕ) → CountsWrite bytes (Err e) x y → y ≡ x + 1
write_fails bytes e kind x y c = c.1 kind

true_false : true ≡ false → ⊥
true_false e = cc

-- CALLS THAT ARE ACCOUNTED FOR

pub accounts_none : (most : ℕ) (told : Option Calls) → AccountsFor most true told told
accounts_none most None = refl
accounts_none most (Some calls) = (omega arith, omega arith, λ e. absurd (true_false e))

-- this number of calls was made, and none failed
pub accounts_made : (most count : ℕ) (old new : Option Calls) → HasMade count old new → AccountsFor most true old new
accounts_made most count None new had = had
accounts_made most count (Some old) None had = tt
accounts_made most count (Some old) (Some new) had = (omega (arith, had.0), omega (arith, had.1), λ e. absurd (true_false e))

-- one more, which failed
pub accounts_failed : (counts : ℕ → ℕ → Type 0) (most count : ℕ) (well : Bool) (old mid new : Option Calls) → ((x y : ℕ) → counts x y → y ≡ x + 1)
    → HasMade count old mid → TellsCall counts mid new → AccountsFor most well old new
accounts_failed counts most count well None None new fails had told = told
accounts_failed counts most count well None (Some mid) new fails had told = absurd (let e = had in cc)
accounts_failed counts most count well (Some old) None None fails had told = tt
accounts_failed counts most count well (Some old) None (Some new) fails had told = absurd (let e = told in cc)
accounts_failed counts most count well (Some old) (Some mid) None fails had told = tt
accounts_failed counts most count well (Some old) (Some mid) (Some new) fails had told =
    let more = fails mid.failed new.failed told.1 in
    (omega (arith, had.0, told.0), omega (arith, had.1, more), λ e. inl (omega (arith, had.1, more)))

-- as many calls as may be made
pub accounts_passed : (most : ℕ) (well : Bool) (old new : Option Calls) → HasMade most old new → AccountsFor most well old new
accounts_passed most well None new had = had
accounts_passed most well (Some old) None had = tt
accounts_passed most well (Some old) (Some new) had = (omega (arith, had.0), omega (arith, had.1), λ e. inr (omega (arith, had.0)))

-- whatever went wrong, no call is forgotten
pub accounts_well : (most : ℕ) (well : Bool) (old new : Option Calls) → AccountsFor most well old new → AccountsFor most true old new
accounts_well most well None new a = a
accounts_well most well (Some old) None a = tt
accounts_well most well (Some old) (Some new) a = (a.0, a.1, λ e. absurd (true_false e))

and_false : (a b : Bool) → (a && b) ≡ false → (a ≡ false) ⊎ (b ≡ false)
and_false true b e = inr e
and_false false b e = inl refl

pub accounts_both : (most : ℕ) (one two : Bool) (old mid new : Option Calls) → AccountsFor most one old mid → AccountsFor most two mid new
    → AccountsFor most (one && two) old new
accounts_both most one two None None new a b = b
accounts_both most one two None (Some mid) new a b = absurd (let e = a in cc)
accounts_both most one two (Some old) None None a b = tt
accounts_both most one two (Some old) None (Some new) a b = absurd (let e = b in cc)
accounts_both most one two (Some old) (Some mid) None a b = tt
accounts_both most one two (Some old) (Some mid) (Some new) a b = (
  omega (arith, a.0, b.0),
  omega (arith, a.1, b.1),
  λ e. ⊎_elim
      (λ f. ⊎_elim (λ g. inl (omega (arith, g, b.1))) (λ g. inr (omega (arith, g, b.0))) (a.2 f))
      (λ f. ⊎_elim (λ g. inl (omega (arith, g, a.1))) (λ g. inr (omega (arith, g, a.0))) (b.2 f))
      (and_false one two e),
)

pub some_failed : (most : ℕ) (well : Bool) (old new : Option Calls) → AccountsFor most well old new → well ≡ false → SomeFailed most old new
some_failed most well None new a e = tt
some_failed most well (Some old) None a e = tt
some_failed most well (Some old) (Some new) a e = a.2 e
