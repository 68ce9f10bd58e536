-- The text that one step of the job in the background shows.
use Rattle.std.proofs.Common.{◌≡◌, ◌≢◌, ◌⊎◌, inr, ℕ, ◌<◌, ◌≤◌, Bool, false, List, [], ◌∷◌, ◌++◌, Option, Some, None, Result, Ok, Err, length, take, refl, sym}
use Rattle.std.proofs.Common.{ap, ap₂, ◌∙◌, subst, append-nil, arith, length-take-le}
use Rattle.std.specs.{Io.KnownBytes.{Consumes, IsAtEnd, Keeps, ReadConsumes}, IoError.error_kind, declared.io.{Error.Error, ErrorKind.TheVariants.Interrupted}}
use Rattle.tn_serve.proofs.of_services.{NewLines.{all, ends_more, waits_alone}, Shown.failed}
use Rattle.tn_serve.specs.services.{NewLines.{ends_by_return, new_lines, settled, waiting}, Showing.{IsToFail, Shows, ShowsGiven, giving}}
use Rattle.tn_jobs.specs.declared.verdicts.After.{After, TheVariants.{Stay, Done}}
use Rattle.tn_cores.proofs.lemmas.streams.Foretelling.{come_none, come_more, come_again}
use Rattle.tn_cores.specs.streams.{Foretelling.{ForetellsCall, HasCome}, Known.KnownReader}

kept_consumes : (a b : Option (List ℕ)) → Keeps a b → Consumes a b []
kept_consumes None b keeps = tt
kept_consumes (Some x) None keeps = absurd keeps
kept_consumes (Some x) (Some y) keeps = sym keeps

giving_one : (given : List ℕ) → 0 < length given → giving given ≡ 1
giving_one [] some = absurd (omega (arith, some))
giving_one (byte ∷ bytes) some = refl

ends_behind : (front given : List ℕ) → 0 < length given → ends_by_return (front ++ given) ≡ ends_by_return given
ends_behind front [] some = absurd (omega (arith, some))
ends_behind front (byte ∷ bytes) some = ends_more front byte bytes

-- the bytes that were given are shown after those that waited
given_shows : (waited : Bool) (given text : List ℕ) (waits : Bool) → 0 < length given → text ≡ settled (waiting waited ++ given)
    → waits ≡ ends_by_return (waiting waited ++ given)
    → ShowsGiven waited given text waits
given_shows waited given text waits some is holds = record {
  shown = ap₂ (λ (t : List ℕ) (w : Bool). t ++ waiting w) is holds ∙ all (waiting waited ++ given);
  last = holds ∙ ends_behind (waiting waited) given some;
}

-- nothing was given, and what waited is shown
none_shows : (waited : Bool) (text : List ℕ) (waits : Bool) → text ≡ waiting waited → waits ≡ false → ShowsGiven waited [] text waits
unfolding ends_by_return
none_shows waited text waits is holds = record {
  shown =
      ap₂ (λ (t : List ℕ) (w : Bool). t ++ waiting w) is holds ∙ append-nil (waiting waited) ∙ sym (waits_alone waited)
      ∙ ap new_lines (sym (append-nil (waiting waited)));
  last = holds;
}

-- a read that gave nothing is at the end
pub ends : (old new : Option (List ℕ)) (r : Result ℕ Error) (n : ℕ) (buf : List ℕ) → r ≡ Ok n → n ≡ 0 → 0 < length buf → ReadConsumes old new r buf
    → Consumes old new [] × IsAtEnd new
ends old new r n buf is none some read =
    let zero : r ≡ Ok 0 = is ∙ ap (λ (k : ℕ). Ok k) none in
    let P : Result ℕ Error → Type 0 = λ x. ReadConsumes old new x buf in
    let at = subst P zero read in
    (at.0, at.1 refl some)

module _ (waited : Bool) (text : List ℕ) (after : After) (waits : Bool) (old new : KnownReader) where
  pub shows_bytes : (buf : List ℕ) (n : ℕ) → text ≡ settled (waiting waited ++ take n buf) → after ≡ Stay
      → waits ≡ ends_by_return (waiting waited ++ take n buf) → n ≢ 0 → n ≤ length buf → length buf ≤ 1024
      → Consumes old.bytes new.bytes (take n buf) → ForetellsCall (Ok n) old.failures new.failures → Shows waited text after waits old new
  shows_bytes buf n is stays holds some within few consumes call =
      let long : length (take n buf) ≡ n = length-take-le n buf within in
      let Q : ℕ → Type 0 = λ k. HasCome 1 k old.failures new.failures in
      let one : giving (take n buf) ≡ 1 = giving_one (take n buf) (omega (arith, long, some)) in
      subst (λ (a : After). Shows waited text a waits old new) (sym stays) (record {
        given = take n buf;
        came = consumes;
        few = omega (arith, long, within, few);
        read = subst Q (sym one) (come_more n 0 0 old.failures old.failures new.failures (come_none old.failures) call);
        shows = given_shows waited (take n buf) text waits (omega (arith, long, some)) is holds;
      })

  pub shows_again : (e : Error) → text ≡ waiting waited → after ≡ Stay → waits ≡ false → Keeps old.bytes new.bytes → error_kind e ≡ Interrupted
      → ForetellsCall (Err e) old.failures new.failures
      → Shows waited text after waits old new
  shows_again e is stays holds keeps kind call =
      subst (λ (a : After). Shows waited text a waits old new) (sym stays) (record {
        given = [];
        came = kept_consumes old.bytes new.bytes keeps;
        few = omega arith;
        read = come_again e 0 0 old.failures old.failures new.failures kind (come_none old.failures) call;
        shows = none_shows waited text waits is holds;
      })

  pub shows_no_more : text ≡ waiting waited → after ≡ Done → waits ≡ false → Consumes old.bytes new.bytes [] → IsAtEnd new.bytes ⊎ IsToFail old.failures
      → Shows waited text after waits old new
  shows_no_more is ends holds left why =
      subst (λ (a : After). Shows waited text a waits old new) (sym ends) (record {
        left = left;
        shows = none_shows waited text waits is holds;
        why = why;
      })

  pub shows_failed : (e : Error) → text ≡ waiting waited → after ≡ Done → waits ≡ false → Keeps old.bytes new.bytes → error_kind e ≢ Interrupted
      → ForetellsCall (Err e) old.failures new.failures
      → Shows waited text after waits old new
  shows_failed e is ends holds keeps kind call =
      shows_no_more is ends holds (kept_consumes old.bytes new.bytes keeps) (inr (failed e old.failures new.failures kind call))
