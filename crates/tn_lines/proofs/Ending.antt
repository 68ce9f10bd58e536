-- The ends of a talk.
use Rattle.std.proofs.Common.{◌≡◌, ◌⊎◌, ℕ, Bool, true, false, List, Option, Some, None, not, sym, ap, ◌∙◌, subst, arith, inl, inr, ⊎_elim}
use Rattle.std.specs.{Io.KnownBytes.IsAtEnd}
use Rattle.tn_lines.specs.{Ending.{ClosesAt, Ends, ReadsFail, WritesFail, broken_unless, has_broken}, declared.talk.Over.{Over, TheVariants.{Closed, Broken}}}
use Rattle.tn_cores.specs.streams.{Foretelling.Failures, Telling.Calls}

-- READS

pub reads_none : (a : Option Failures) → ReadsFail false a a
reads_none None = tt
reads_none (Some x) = omega arith

pub reads_well : (f : Bool) (a b : Option Failures) → ReadsFail f a b → ReadsFail false a b
reads_well f None b h = tt
reads_well f (Some x) None h = absurd h
reads_well false (Some x) (Some y) h = h
reads_well true (Some x) (Some y) h = omega (arith, h)

pub reads_on : (f : Bool) (a b c : Option Failures) → ReadsFail false a b → ReadsFail f b c → ReadsFail f a c
reads_on f None b c one two = tt
reads_on f (Some x) None c one two = absurd one
reads_on f (Some x) (Some y) None one two = absurd two
reads_on false (Some x) (Some y) (Some z) one two = omega (arith, one, two)
reads_on true (Some x) (Some y) (Some z) one two = omega (arith, one, two)

-- WRITES

pub writes_none : (a b : Option Calls) → b ≡ a → WritesFail false a b
writes_none None b same = same
writes_none (Some x) None same = tt
writes_none (Some x) (Some y) same = let none : y.failed ≡ x.failed = let e = same in cc in omega (arith, none)

pub writes_well : (f : Bool) (a b : Option Calls) → WritesFail f a b → WritesFail false a b
writes_well f None b h = h
writes_well f (Some x) None h = tt
writes_well false (Some x) (Some y) h = h
writes_well true (Some x) (Some y) h = omega (arith, h)

pub writes_on : (f : Bool) (a b c : Option Calls) → WritesFail false a b → WritesFail f b c → WritesFail f a c
writes_on f None None c one two = two
writes_on f None (Some y) c one two = absurd (let e = one in cc)
writes_on f (Some x) None None one two = tt
writes_on f (Some x) None (Some z) one two = absurd (let e = two in cc)
writes_on f (Some x) (Some y) None one two = tt
writes_on false (Some x) (Some y) (Some z) one two = omega (arith, one, two)
writes_on true (Some x) (Some y) (Some z) one two = omega (arith, one, two)

-- ONE TURN

module _ (rest : Option (List ℕ)) (a : Option Failures) (c d : Option Calls) where
  pub goes_on : WritesFail false c d → Ends None rest a a c d
  goes_on wrote = record {
    read_failed = false;
    write_failed = false;
    closes = tt;
    reads = reads_none a;
    writes = wrote;
    breaks = λ is. absurd (let e = is in cc);
  }

  pub by_bytes : (b : Option Failures) (over : Option Over) → ClosesAt over rest → ReadsFail (has_broken over) a b → d ≡ c → Ends over rest a b c d
  by_bytes b over closes reads told = record {
    read_failed = has_broken over;
    write_failed = false;
    closes = closes;
    reads = reads;
    writes = writes_none c d told;
    breaks = λ is. inl is;
  }

  pub by_room : (stands : Bool) (over : Option Over) → over ≡ broken_unless stands → WritesFail (not stands) c d → Ends over rest a a c d
  by_room true over is wrote = subst (λ o. Ends o rest a a c d) (sym is) (goes_on wrote)
  by_room false over is wrote =
      subst (λ o. Ends o rest a a c d) (sym is) (record {
        read_failed = false;
        write_failed = true;
        closes = tt;
        reads = reads_none a;
        writes = wrote;
        breaks = λ is. inr is;
      })

-- ALL TURNS

module _ (ended : Option Over) (rest : Option (List ℕ)) (first a b : Option Failures) (begun c d : Option Calls)
    (one : Ends ended rest a b c d) where
  pub at_end : (over : Over) → ended ≡ Some over → over ≡ Closed → IsAtEnd rest
  at_end over is closed = subst (λ o. ClosesAt o rest) (is ∙ ap Some closed) one.closes

  module _ (reads : ReadsFail false first a) (writes : WritesFail false begun c) where
    pub failed : (over : Over) → ended ≡ Some over → over ≡ Broken → ReadsFail true first b ⊎ WritesFail true begun d
    failed over is broken =
        ⊎_elim
        (λ yes. inl (reads_on true first a b reads (subst (λ f. ReadsFail f a b) yes one.reads)))
        (λ yes. inr (writes_on true begun c d writes (subst (λ f. WritesFail f c d) yes one.writes)))
        (one.breaks (ap has_broken (is ∙ ap Some broken)))

    pub reads_more : ReadsFail false first b
    reads_more = reads_on false first a b reads (reads_well one.read_failed a b one.reads)

    pub writes_more : WritesFail false begun d
    writes_more = writes_on false begun c d writes (writes_well one.write_failed c d one.writes)
