-- Tables and answers after one more triple.
use Rattle.std.proofs.Common.{◌≡◌, ℕ, ◌+◌, ◌<◌, ◌≤◌, Option, Some, None, option_to_list, List, [], ◌∷◌, ◌++◌, length, take, get_or, refl, sym, ap, ◌∙◌}
use Rattle.std.proofs.{Common.{append_assoc, append-nil, arith, drop, length-append}, lemmas.List.{take_more, take-append-drop, Sums.fold-append}}
use Rattle.tn_codes.specs.declared.triples.Triple.{Triple}
use Rattle.tn_linemode.specs.Exchange.{table_after, answers_along}

module _ {T : Type 0} (next : T → Triple → T) (answer : T → Triple → Option Triple) where
  -- the answers to two lists, of which the second meets the table that the first leaves
  pub answers_along-append : (c : T) (ts us : List Triple) → answers_along next answer c (ts ++ us) ≡ answers_along next answer c ts
      ++ answers_along next answer (table_after next c ts) us
  unfolding answers_along
  answers_along-append c [] us = refl
  answers_along-append c (t ∷ ts) us =
      ap (λ answers. option_to_list (answer c t) ++ answers) (answers_along-append (next c t) ts us) ∙ sym (append_assoc (option_to_list (answer c t)) _ _)

  answers_along-one : (c : T) (t : Triple) → answers_along next answer c (t ∷ []) ≡ option_to_list (answer c t)
  unfolding answers_along
  answers_along-one c t = append-nil _

  -- no answers to no triples
  pub answers_along-nil : (c : T) → answers_along next answer c [] ≡ []
  unfolding answers_along
  answers_along-nil c = refl

  -- the table after one more triple of a list
  pub table-more : (c : T) (ts : List Triple) (i : ℕ) (d : Triple) (old new : T) → i < length ts
      → old ≡ table_after next c (take i ts) → new ≡ next old (get_or ts i d) → new ≡ table_after next c (take (i + 1) ts)
  table-more c ts i d old new within was is =
      rw (is, was, take_more ts i d within) (sym (fold-append next c (take i ts) (get_or ts i d ∷ [])))

  -- the answers after one more triple, in a vector that had others
  pub answers-more : (c : T) (ts : List Triple) (i : ℕ) (d : Triple) (table : T) (had old new : List Triple) (reply : Option Triple) → i < length ts
      → table ≡ table_after next c (take i ts) → old ≡ had ++ answers_along next answer c (take i ts) → reply ≡ answer table (get_or ts i d)
      → new ≡ old ++ option_to_list reply
      → new ≡ had ++ answers_along next answer c (take (i + 1) ts)
  answers-more c ts i d table had old new reply within is was replies grows =
      let t = get_or ts i d in
      let more : answers_along next answer c (take i ts ++ t ∷ []) ≡ answers_along next answer c (take i ts) ++ option_to_list reply =
      answers_along-append c (take i ts) (t ∷ [])
      ∙ ap (λ answers. answers_along next answer c (take i ts) ++ answers)
      (answers_along-one (table_after next c (take i ts)) t ∙ sym (ap option_to_list (replies ∙ ap (λ (u : T). answer u t) is))) in
      grows ∙ ap (λ answers. answers ++ option_to_list reply) was ∙ append_assoc had _ _
      ∙ ap (λ answers. had ++ answers) (sym more ∙ ap (λ us. answers_along next answer c us) (sym (take_more ts i d within)))

  -- the number of answers after one more triple
  pub length-more : (c : T) (ts : List Triple) (i : ℕ) (d : Triple) (table : T) (reply : Option Triple) → i < length ts
      → table ≡ table_after next c (take i ts) → reply ≡ answer table (get_or ts i d)
      → length (answers_along next answer c (take (i + 1) ts)) ≡ length (answers_along next answer c (take i ts)) + length (option_to_list reply)
  length-more c ts i d table reply within is replies =
      let t = get_or ts i d in
      ap (λ us. length (answers_along next answer c us)) (take_more ts i d within)
      ∙ ap length (answers_along-append c (take i ts) (t ∷ []))
      ∙ length-append (answers_along next answer c (take i ts)) _
      ∙ ap (λ answers. length (answers_along next answer c (take i ts)) + length answers)
      (answers_along-one (table_after next c (take i ts)) t ∙ sym (ap option_to_list (replies ∙ ap (λ (u : T). answer u t) is)))

  -- the first triples have no more answers than all
  pub length-front : (c : T) (ts : List Triple) (n : ℕ) → length (answers_along next answer c (take n ts)) ≤ length (answers_along next answer c ts)
  length-front c ts n =
      let whole : answers_along next answer c ts ≡ answers_along next answer c (take n ts)
      ++ answers_along next answer (table_after next c (take n ts)) (drop n ts) =
      ap (λ us. answers_along next answer c us) (sym (take-append-drop n ts)) ∙ answers_along-append c (take n ts) (drop n ts) in
      omega (
        arith,
        ap length whole,
        length-append (answers_along next answer c (take n ts))
            (answers_along next answer (table_after next c (take n ts)) (drop n ts)),
      )

  -- there are at most as many answers as triples
  pub length-answers_along : (c : T) (ts : List Triple) → length (answers_along next answer c ts) ≤ length ts
  unfolding answers_along
  length-answers_along c [] = omega arith
  length-answers_along c (t ∷ ts) = after (answer c t) (length-answers_along (next c t) ts)
    where
      after : (reply : Option Triple) → length (answers_along next answer (next c t) ts) ≤ length ts
          → length (option_to_list reply ++ answers_along next answer (next c t) ts) ≤ length (t ∷ ts)
      after None fits = omega arith
      after (Some reply) fits = omega arith
