-- The end reads what came without the items of owned options, which are queued.
use Rattle.std.proofs.Common.{◌≡◌, ◌≢◌, inl, inr, ℕ, ◌+◌, ◌<◌, ◌≤◌, Bool, List, [], ◌++◌, length, length-append, refl, sym, ap, ◌∙◌, arith}
use Rattle.std.proofs.lemmas.{Bool.Decides.leb_tells, List.{Elements.filter-append, Filters.length-filter_both}}
use Rattle.std.specs.Prelude.{All, not}
use Rattle.tn_nvt.specs.{Feeding.LeadsTo, Spelling.spells, declared.items.Item.Item}
use Rattle.tn_nvt.proofs.lemmas.Reading.{spells-append}
use Rattle.tn_server.proofs.lemmas.Room.{completes_few}
use Rattle.tn_c.specs.{parts.OwnOptions.{is_own, own_items, other_items, Comes, HasCome, SiftCall}, declared.parts.owned.Owned.Owned}
use Rattle.tn_c.specs.declared.parts.codes.Code.TheVariants as code

-- at either end, what it takes of a piece passes to it
pub passes : {Takes : List ℕ → Type 0} {Rests : Type 0} (came passed piece : List ℕ) (before after : Owned) (has_failed : Bool) → HasCome came passed before
    → Comes piece code.Done before after has_failed Takes Rests → (taken : List ℕ) × HasCome (came ++ piece) (passed ++ taken) after × Takes taken
passes came passed piece before after has_failed has (inl whole) = (
  piece,
  record {
    whole = λ _. ap (λ (l : List ℕ). l ++ piece) (has.whole whole.none);
    sifted = λ some. absurd (some (ap (λ (o : Owned). o.sieve.options.items) whole.owned ∙ whole.none));
  },
  whole.takes,
)
passes came passed piece before after has_failed has (inr (inl held)) = absurd (held.refused refl)
passes came passed piece before after has_failed has (inr (inr rest)) =
    let options : List ℕ = before.sieve.options.items in
    let left : List ℕ = after.sieve.rest.items in
    let read = has.sifted rest.owns in
    let s = rest.sifts.ok refl in (
      left,
      record {
        whole = λ none. absurd (rest.owns (sym rest.sifts.options ∙ none));
        sifted = λ _. (
          read.0 ++ s.items,
          s.adds came read.0 read.1,
          ap (λ (l : List ℕ). l ++ left) read.2
              ∙ ap (λ (l : List ℕ). spells (other_items options read.0) ++ l) s.rest
              ∙ sym (spells-append (other_items options read.0) (other_items options s.items))
              ∙ ap (λ (l : List Item). spells l) (sym (filter-append (λ item. not (is_own options item)) read.0 s.items))
              ∙ ap (λ (o : List ℕ). spells (other_items o (read.0 ++ s.items))) (sym rest.sifts.options),
        );
      },
      rest.takes,
    )

pub are_queued : (came piece : List ℕ) (read : List Item) (before after : Owned) → LeadsTo came read before.decoder → SiftCall piece code.Done before after
    → (more : List Item) × LeadsTo (came ++ piece) (read ++ more) after.decoder
    × (after.sieve.waiting.items ≡ before.sieve.waiting.items ++ own_items before.sieve.options.items more)
are_queued came piece read before after leads call =
    let s = call.ok refl in
    (s.items, s.adds came read leads, s.waiting)

-- the items of owned options are some of those of the piece
pub wait_few : (came piece : List ℕ) (read : List Item) (before after : Owned) → All (λ b. b < 256) came → LeadsTo came read before.decoder
    → SiftCall piece code.Done before after → length after.sieve.waiting.items ≤ length piece + 64
wait_few came piece read before after bytes leads call =
    let s = call.ok refl in
    let all = s.adds came read leads in
    let options : List ℕ = before.sieve.options.items in
    elim (leb_tells 64 (length before.sieve.waiting.items)) [
      | inl h ↦ absurd (let e = call.waits.1 h.1 in cc)
      | inr h ↦
          omega (
            arith,
            h.1,
            ap length s.waiting,
            length-append before.sieve.waiting.items (own_items options s.items),
            length-filter_both (is_own options) (λ item. not (is_own options item)) (λ item. refl) s.items,
            completes_few came piece read s.items bytes (leads.rest, leads.reading) (all.rest, all.reading),
          )
    ]
