-- Entries that are written as they come.
use Rattle.std.proofs.Common.{◌≡◌, ℕ, ◌+◌, ◌-◌, ◌≤◌, Bool, Option, Some, None, List, [], ◌++◌, length, take, drop, inl, inr, sym, ap, ◌∙◌, subst, arith}
use Rattle.std.proofs.{Common.{append-nil, append_assoc}, Math.Seq.{take-add, take-append_seam}, lemmas.List.{take_all, take-append-drop, length-drop}}
use Rattle.std.proofs.lemmas.Grind.{flat_map-append}
use Rattle.std.specs.Io.KnownBytes.{Appends}
use Rattle.tn_discipline.specs.{Entries.{entries_of, half_of}, Keys.roles_of, Steps.gain_all, declared.keys.Role.Role}
use Rattle.tn_discipline.proofs.lemmas.Histories as histories
use Rattle.tn_discipline.proofs.lemmas.KeyRoles.{roles_of-append}
use Rattle.tn_cores.specs.streams.Telling.{Calls, HasMade, HasFailed, AccountsFor}
use Rattle.tn_cli.specs.{Printed.{printed, printed_entry}, Streams.AppendsPrefix, Typing.{LeadsTo, Types, PrintsKeys, PrintsKeysPrefix, local_output, standard}}
use Rattle.tn_cli.specs.declared.typing.Typing.{Typing}

-- more keys print their entries after those of the others
output_more : (xs ys : List ℕ) → (rest : List ℕ) × (local_output (xs ++ ys) ≡ local_output xs ++ rest)
output_more xs ys =
    let before = roles_of standard.settings xs in
    let gain = gain_all standard.limit (half_of standard.limit before) (roles_of standard.settings ys) in (
      printed gain,
      ap (λ (rs : List Role). printed (entries_of standard.limit rs)) (roles_of-append standard.settings xs ys)
          ∙ ap printed (histories.entries-all standard.limit before (roles_of standard.settings ys))
          ∙ flat_map-append printed_entry (entries_of standard.limit before) gain,
    )

appends_none : (here : Option (List ℕ)) → Appends here here []
appends_none None = tt
appends_none (Some xs) = sym (append-nil xs)

appends_both : (old mid new : Option (List ℕ)) (xs ys : List ℕ) → Appends old mid xs → Appends mid new ys → Appends old new (xs ++ ys)
appends_both None mid new xs ys a b = tt
appends_both (Some o) None new xs ys a b = absurd a
appends_both (Some o) (Some x) None xs ys a b = absurd b
appends_both (Some o) (Some x) (Some y) xs ys a b = b ∙ ap (λ z. z ++ ys) a ∙ append_assoc o xs ys

-- these keys were typed, and what they print was written, but for what is kept
pub record HasGiven (keys : List ℕ) (typing : Typing) (old new : Option (List ℕ)) : Type 0 where
  pub given : List ℕ
  pub leads : LeadsTo keys given typing
  pub appended : Appends old new given

pub given_none : (typing : Typing) (here : Option (List ℕ)) → LeadsTo [] [] typing → HasGiven [] typing here here
given_none typing here leads = record { given = []; leads = leads; appended = appends_none here }

-- some more of the keys that are left
types_more : (keys : List ℕ) (i n : ℕ) (given : List ℕ) (old new : Typing) → LeadsTo (take i keys) given old
    → Types (take n (take (length keys - i) (drop i keys))) old new → LeadsTo (take (i + n) keys) given new
types_more keys i n given old new leads types =
    let left : take (length keys - i) (drop i keys) ≡ drop i keys = take_all (length keys - i) (drop i keys) (omega (arith, length-drop i keys)) in
    let front : Types (take n (drop i keys)) old new = subst (λ xs. Types (take n xs) old new) left types in
    subst (λ xs. LeadsTo xs given new) (sym (take-add i n keys)) (front (take i keys) given leads)

pub given_more : (keys : List ℕ) (i n : ℕ) (typing typed cleared : Typing) (old mid new : Option (List ℕ)) → HasGiven (take i keys) typing old mid
    → Types (take n (take (length keys - i) (drop i keys))) typing typed → Appends mid new typed.printed.items
    → ((all given : List ℕ) → LeadsTo all given typed → LeadsTo all (given ++ typed.printed.items) cleared) → HasGiven (take (i + n) keys) cleared old new
given_more keys i n typing typed cleared old mid new had types appended clears = record {
  given = had.given ++ typed.printed.items;
  leads = clears (take (i + n) keys) had.given (types_more keys i n had.given typing typed had.leads types);
  appended = appends_both old mid new had.given typed.printed.items had.appended appended;
}

-- all of them
pub given_all : (keys : List ℕ) (i : ℕ) (typing : Typing) (old new : Option (List ℕ)) → length keys ≤ i → HasGiven (take i keys) typing old new
    → typing.printed.items ≡ [] → PrintsKeys keys old new
given_all keys i typing old new within had none =
    let whole : had.given ≡ local_output keys =
    sym (append-nil had.given)
    ∙ ap (λ xs. had.given ++ xs) (sym none)
    ∙ had.leads.printed
    ∙ ap local_output (take_all i keys within)
    in
    subst (λ output. Appends old new output) whole had.appended

-- some of what they print
pub given_front : (keys : List ℕ) (i n : ℕ) (typing typed : Typing) (old mid new : Option (List ℕ)) → HasGiven (take i keys) typing old mid
    → Types (take n (take (length keys - i) (drop i keys))) typing typed → AppendsPrefix mid new typed.printed.items → PrintsKeysPrefix keys old new
given_front keys i n typing typed old mid new had types (count, appended) =
    let text = typed.printed.items in
    let front = had.given ++ take count text in
    let (rest, more) = output_more (take (i + n) keys) (drop (i + n) keys) in
    let leads = types_more keys i n had.given typing typed had.leads types in
    let whole : local_output keys ≡ front ++ (drop count text ++ rest) =
    ap local_output (sym (take-append-drop (i + n) keys))
    ∙ more
    ∙ ap (λ xs. xs ++ rest) (sym leads.printed ∙ ap (λ xs. had.given ++ xs) (sym (take-append-drop count text)) ∙ sym
    (append_assoc had.given (take count text) (drop count text)))
    ∙ append_assoc front (drop count text) rest
    in (
      length front,
      subst (λ output. Appends old new output) (sym (ap (take (length front)) whole ∙ take-append_seam front (drop count text ++ rest)))
          (appends_both old mid new had.given (take count text) had.appended appended),
    )

-- CALLS THAT WERE MADE BEFORE

pub made_both : (m n : ℕ) (old mid new : Option Calls) → HasMade m old mid → HasMade n mid new → HasMade (m + n) old new
made_both m n None None new had more = more
made_both m n None (Some mid) new had more = absurd (let e = had in cc)
made_both m n (Some old) None None had more = tt
made_both m n (Some old) None (Some new) had more = absurd (let e = more in cc)
made_both m n (Some old) (Some mid) None had more = tt
made_both m n (Some old) (Some mid) (Some new) had more = (omega (arith, had.0, more.0), more.1 ∙ had.1)

pub failed_after : (m n most : ℕ) (well : Bool) (old mid new : Option Calls) → m + n ≡ most → HasMade m old mid → HasFailed n mid new
    → AccountsFor n well mid new → HasFailed most old new
failed_after m n most well None mid new sum had fails told = tt
failed_after m n most well (Some old) None None sum had fails told = tt
failed_after m n most well (Some old) None (Some new) sum had fails told = absurd (let e = told in cc)
failed_after m n most well (Some old) (Some mid) None sum had fails told = tt
failed_after m n most well (Some old) (Some mid) (Some new) sum had (inl failed) told = inl (omega (arith, had.1, failed))
failed_after m n most well (Some old) (Some mid) (Some new) sum had (inr made) told = inr (omega (arith, had.0, made, sum))
