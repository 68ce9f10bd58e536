-- The text that was shown, one step after another.
use Rattle.std.proofs.Common.{◌≡◌, ◌≢◌, ◌⊎◌, inl, inr, ⊎_elim, ℕ, Bool, false, List, [], ◌∷◌, ◌++◌, length, Option, Some, None, Err, refl, sym, ap, ap₂, ◌∙◌}
use Rattle.std.proofs.{Common.{subst, append_assoc, append-nil, arith}, lemmas.List.append_cancel_right}
use Rattle.std.specs.{Io.KnownBytes.{Consumes, IsAtEnd}, IoError.error_kind, List.{FoldsTo, concat}, declared.io.Error.Error}
use Rattle.std.specs.declared.io.ErrorKind.TheVariants.{Interrupted}
use Rattle.tn_serve.proofs.of_services.NewLines.{all, ends_more, settles, waits_alone}
use Rattle.tn_serve.specs.services.{Joining.Steps, NewLines.{ends_by_return, new_lines, settled, shown_of, waiting}, Talks.{EndsAtLast, ShowsTalk, texts_of}}
use Rattle.tn_serve.specs.{services.Showing.{IsToFail, Shows, ShowsGiven, giving}, declared.services.{joining.Gateway.Gateway, showing.Showing.Showing}}
use Rattle.tn_serve.specs.declared.services.joining.Gateway.TheVariants as side
use Rattle.tn_jobs.specs.declared.{reactions.Reaction.Reaction, verdicts.After.{After, TheVariants.{Stay, Done}}}
use Rattle.tn_cores.specs.streams.{Foretelling.{Failures, ForetellsCall, HasCome}, Known.{KnownReader, known_reader}}
use Rattle.tn_cores.specs.declared.streams.window.WindowSize.{WindowSize}

pub consumes_more : (a b c : Option (List ℕ)) (xs ys : List ℕ) → Consumes a b xs → Consumes b c ys → Consumes a c (xs ++ ys)
consumes_more None b c xs ys one two = tt
consumes_more (Some x) None c xs ys one two = absurd one
consumes_more (Some x) (Some y) None xs ys one two = absurd two
consumes_more (Some x) (Some y) (Some z) xs ys one two = one ∙ ap (λ (l : List ℕ). xs ++ l) two ∙ sym (append_assoc xs ys z)

pub consumes_none : (a : Option (List ℕ)) → Consumes a a []
consumes_none None = tt
consumes_none (Some x) = refl

-- a read that failed was to fail
pub failed : (e : Error) (old new : Option Failures) → error_kind e ≢ Interrupted → ForetellsCall (Err e) old new → IsToFail old
failed e None new kind call = tt
failed e (Some old) None kind call = absurd call
failed e (Some old) (Some new) kind call = let more = (call.1 kind).0 in omega (arith, more)

-- a read that fails after others that did not was to fail before them
still_to_fail : (calls gave : ℕ) (old new : Option Failures) → HasCome calls gave old new → IsToFail new → IsToFail old
still_to_fail calls gave None new come fails = tt
still_to_fail calls gave (Some old) None come fails = absurd come
still_to_fail calls gave (Some old) (Some new) come fails = let same = come.0 in let some = fails in omega (arith, same, some)

-- ONE STEP

-- the bytes that were given at a step that showed this
pub record Gave (waited : Bool) (text : List ℕ) (waits : Bool) (old new : KnownReader) : Type 0 where
  pub given : List ℕ
  pub came : Consumes old.bytes new.bytes given
  pub shows : ShowsGiven waited given text waits

gave : (waited : Bool) (text : List ℕ) (after : After) (waits : Bool) (old new : KnownReader) → Shows waited text after waits old new
    → Gave waited text waits old new
gave waited text Stay waits old new shows = record { given = shows.given; came = shows.came; shows = shows.shows }
gave waited text Done waits old new shows = record { given = []; came = shows.left; shows = shows.shows }
gave waited text _ waits old new shows = absurd shows

last_step : (waited : Bool) (text : List ℕ) (after : After) (waits : Bool) (old new : KnownReader) → after ≡ Done → Shows waited text after waits old new
    → IsAtEnd new.bytes ⊎ IsToFail old.failures
last_step waited text Done waits old new is shows = shows.why
last_step waited text Stay waits old new is shows = absurd (let bad = is in cc)
last_step waited text _ waits old new is shows = absurd shows

-- after the last one nothing waits
last_waits : (waited : Bool) (text : List ℕ) (after : After) (waits : Bool) (old new : KnownReader) → after ≡ Done → Shows waited text after waits old new
    → waits ≡ false
unfolding ends_by_return
last_waits waited text Done waits old new is shows = shows.shows.last
last_waits waited text Stay waits old new is shows = absurd (let bad = is in cc)
last_waits waited text _ waits old new is shows = absurd shows

-- a failure that is to come after a step that goes on was to come before it
fails_before : (waited : Bool) (text : List ℕ) (after : After) (waits : Bool) (old new : KnownReader) → after ≡ Stay → Shows waited text after waits old new
    → IsToFail new.failures → IsToFail old.failures
fails_before waited text Stay waits old new is shows fails = still_to_fail 1 (giving shows.given) old.failures new.failures shows.read fails
fails_before waited text Done waits old new is shows fails = absurd (let bad = is in cc)
fails_before waited text _ waits old new is shows fails = absurd shows

-- a step that was given something showed the settled part of it
is_settled : (front given text : List ℕ) (waits : Bool) → text ++ waiting waits ≡ new_lines (front ++ given) → waits ≡ ends_by_return (front ++ given)
    → text ≡ settled (front ++ given)
is_settled front given text waits shown holds =
    append_cancel_right text (settled (front ++ given)) (waiting waits)
    (shown ∙ sym (all (front ++ given)) ∙ ap (λ (w : Bool). settled (front ++ given) ++ waiting w) (sym holds))

-- one read before others
one_read : (waited : Bool) (given text : List ℕ) (waits : Bool) (reads : List (List ℕ)) (texts : List ℕ) → ShowsGiven waited given text waits
    → texts ≡ shown_of (waiting waits) reads → text ++ texts ≡ shown_of (waiting waited) (given ∷ reads)
unfolding shown_of ends_by_return
one_read waited [] text waits reads texts shows rest =
    let front : text ≡ new_lines (waiting waited) =
    sym (append-nil text) ∙ ap (λ (w : Bool). text ++ waiting w) (sym shows.last) ∙ shows.shown ∙ ap new_lines (append-nil (waiting waited)) in
    ap₂ (λ (a b : List ℕ). a ++ b) front (rest ∙ ap (λ (w : Bool). shown_of (waiting w) reads) shows.last)
one_read waited (byte ∷ bytes) text waits reads texts shows rest =
    let whole = waiting waited ++ byte ∷ bytes in
    let holds : waits ≡ ends_by_return whole = shows.last ∙ sym (ends_more (waiting waited) byte bytes) in
    ap₂ (λ (a b : List ℕ). a ++ b) (is_settled (waiting waited) (byte ∷ bytes) text waits shows.shown holds)
    (rest ∙ ap (λ (w : Bool). shown_of (waiting w) reads) holds)
    ∙ sym (settles whole reads)

-- ONE STEP AFTER ANOTHER

-- steps one after another, as they are known
abbrev pub ShowOn : Bool → KnownReader → List Reaction → Bool → KnownReader → Type 0
ShowOn waited old [] waits new = (waits ≡ waited) × (new ≡ old)
ShowOn waited old (r ∷ reactions) waits new =
    (held : Bool) × (between : KnownReader) × Shows waited r.text r.after held old between × ShowOn held between reactions waits new

-- the bytes that their reads gave
pub record Came (waited : Bool) (old : KnownReader) (reactions : List Reaction) (waits : Bool) (new : KnownReader) : Type 0 where
  pub reads : List (List ℕ)
  pub each : length reads ≡ length reactions
  pub came : Consumes old.bytes new.bytes (concat reads)
  pub shown : texts_of reactions ++ waiting waits ≡ shown_of (waiting waited) reads

nothing_came : (waited : Bool) (old : KnownReader) → Came waited old [] waited old
unfolding shown_of
nothing_came waited old = record { reads = []; each = refl; came = consumes_none old.bytes; shown = sym (waits_alone waited) }

came_more : (waited held : Bool) (old between : KnownReader) (r : Reaction) (reactions : List Reaction) (waits : Bool) (new : KnownReader)
    → Gave waited r.text held old between → Came held between reactions waits new
    → Came waited old (r ∷ reactions) waits new
came_more waited held old between r reactions waits new one rest = record {
  reads = one.given ∷ rest.reads;
  each = let same = rest.each in omega (arith, same);
  came = consumes_more old.bytes between.bytes new.bytes one.given (concat rest.reads) one.came rest.came;
  shown =
      append_assoc r.text (texts_of reactions) (waiting waits)
      ∙ one_read waited one.given r.text held rest.reads (texts_of reactions ++ waiting waits) one.shows rest.shown;
}

shown : (waited : Bool) (old : KnownReader) (reactions : List Reaction) (waits : Bool) (new : KnownReader) → ShowOn waited old reactions waits new
    → Came waited old reactions waits new
shown waited old [] waits new (holds, is) =
    subst (λ (w : Bool). Came waited old [] w new) (sym holds) (subst (λ (k : KnownReader). Came waited old [] waited k) (sym is) (nothing_came waited old))
shown waited old (r ∷ reactions) waits new (held, between, one, rest) =
    came_more waited held old between r reactions waits new (gave waited r.text r.after held old between one) (shown held between reactions waits new rest)

all_shown : (waited : Bool) (old : KnownReader) (reactions : List Reaction) (waits : Bool) (new : KnownReader) → ShowOn waited old reactions waits new
    → EndsAtLast reactions → IsAtEnd new.bytes ⊎ IsToFail old.failures
all_shown waited old [] waits new is ends = absurd ends
all_shown waited old (r ∷ []) waits new (held, between, one, rest) ends =
    let P : KnownReader → Type 0 = λ k. IsAtEnd k.bytes ⊎ IsToFail old.failures in
    subst P (sym rest.1) (last_step waited r.text r.after held old between ends one)
all_shown waited old (r ∷ next ∷ reactions) waits new (held, between, one, rest) (goes_on, ends) =
    ⊎_elim (λ at. inl at) (λ fails. inr (fails_before waited r.text r.after held old between goes_on one fails))
    (all_shown held between (next ∷ reactions) waits new rest ends)

none_waits : (waited : Bool) (old : KnownReader) (reactions : List Reaction) (waits : Bool) (new : KnownReader) → ShowOn waited old reactions waits new
    → EndsAtLast reactions → waits ≡ false
none_waits waited old [] waits new is ends = absurd ends
none_waits waited old (r ∷ []) waits new (held, between, one, rest) ends = rest.0 ∙ last_waits waited r.text r.after held old between ends one
none_waits waited old (r ∷ next ∷ reactions) waits new (held, between, one, rest) (goes_on, ends) =
    none_waits held between (next ∷ reactions) waits new rest ends

-- THE STEPS OF THE JOB

module _ {R W : Type 0} (remaining : R → Option (List ℕ)) (foretold : R → Option Failures) (sizes : R → Option (List WindowSize))
    (words : R → List (List ℕ)) where
  abbrev pub Through : Showing R → List Reaction → Gateway R W → Type 0
  Through first reactions (side.Shows last) = ShowOn first.waits (known_reader remaining foretold sizes words first.reader) reactions last.waits
      (known_reader remaining foretold sizes words last.reader)
  Through first reactions (side.Sends last) = ⊥

  one_more : (first mid : Showing R) (r : Reaction) (reactions : List Reaction) (last : Gateway R W)
      → Shows first.waits r.text r.after mid.waits (known_reader remaining foretold sizes words first.reader)
      (known_reader remaining foretold sizes words mid.reader)
      → Through mid reactions last → Through first (r ∷ reactions) last
  one_more first mid r reactions (side.Shows last) one rest = (mid.waits, known_reader remaining foretold sizes words mid.reader, one, rest)
  one_more first mid r reactions (side.Sends last) one rest = absurd rest

  through : (first : Showing R) (reactions : List Reaction) (last : Gateway R W)
      → FoldsTo (Steps {W = W} remaining foretold sizes words) (side.Shows first) reactions last → Through first reactions last
  through first [] last is = let P : Gateway R W → Type 0 = λ g. Through first [] g in subst P is (refl, refl)
  through first (r ∷ reactions) last (side.Shows mid, one, rest) =
      one_more first mid r reactions last one (through mid reactions last rest)
  through first (r ∷ reactions) last (side.Sends mid, one, rest) = absurd one

  talk : (first : Showing R) (reactions : List Reaction) (last : Gateway R W) → Through first reactions last
      → ShowsTalk {W = W} remaining foretold sizes words first reactions last
  talk first reactions (side.Shows last) steps =
      let came = shown first.waits (known_reader remaining foretold sizes words first.reader) reactions last.waits
      (known_reader remaining foretold sizes words last.reader) steps in
      record {
        reads = came.reads;
        each = came.each;
        came = came.came;
        shown = came.shown;
        none_waits = none_waits first.waits (known_reader remaining foretold sizes words first.reader) reactions last.waits
            (known_reader remaining foretold sizes words last.reader) steps;
        all = all_shown first.waits (known_reader remaining foretold sizes words first.reader) reactions last.waits
            (known_reader remaining foretold sizes words last.reader) steps;
      }
  talk first reactions (side.Sends last) steps = absurd steps

  pub in_order : (first : Showing R) (reactions : List Reaction) (last : Gateway R W)
      → FoldsTo (Steps {W = W} remaining foretold sizes words) (side.Shows first) reactions last →
      ShowsTalk {W = W} remaining foretold sizes words first reactions last
  in_order first reactions last steps = talk first reactions last (through first reactions last steps)
