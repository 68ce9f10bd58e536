-- Each number that is held is that of one session.
use Rattle.std.proofs.Common.{◌≡◌, ◌≢◌, ◌⊎◌, ◌≤◌, ◌+◌, inl, inr, ℕ, Bool, true, false, Option, None, is_some, List, [], length, arith, ap, refl, subst, sym}
use Rattle.std.proofs.{Common.{◌∙◌, if◌then◌else◌}, lemmas.Bool.{cases_eq, eq-eqb, ne_eqb}}
use Rattle.std.specs.Prelude.{count_by, slice_index_or, ⊤}
use Rattle.tn_session.specs.roster.Held.{Enters, Held, Leaves, held_count, is_held}
use Rattle.tn_serve.proofs.Hearing.{none_live}
use Rattle.tn_serve.specs.{Places.{AreHeld, AreHeldBeside, HasNoPlace, HoldsSo, RunsAll, held_of}, Turns.{AreApart, IsOneMore, is_same, live_of}}

flag_within : (b : Bool) → (if b then 1 else 0) ≤ 1
flag_within true = omega arith
flag_within false = omega arith

flag_set : (b : Bool) (n : ℕ) → (if b then 1 else 0) ≡ n + 1 → b ≡ true
flag_set true n is = refl
flag_set false n is = absurd (omega (arith, is))

same_number : (number : ℕ) → is_same number number ≡ 1
same_number number = ap (λ (b : Bool). if b then 1 else 0) (eq-eqb number number refl)

other_number : (n number : ℕ) → (n ≡ number → ⊥) → is_same n number ≡ 0
other_number n number other = ap (λ (b : Bool). if b then 1 else 0) (ne_eqb n number other)

one_held : (old new : Held) (n number : ℕ) → is_held old number ≡ false → is_held new number ≡ true
    → ((other : ℕ) → other ≢ number → is_held new other ≡ is_held old other)
    → (n ≡ number) ⊎ (n ≡ number → ⊥) → held_of new n ≡ held_of old n + is_same n number
one_held old new n number free held others (inl same) =
    let was : held_of old number ≡ 0 = ap (λ (b : Bool). if b then 1 else 0) free in
    let is : held_of new number ≡ 1 = ap (λ (b : Bool). if b then 1 else 0) held in
    let one = same_number number in
    subst (λ (m : ℕ). held_of new m ≡ held_of old m + is_same m number) (sym same) (omega (arith, was, is, one))
one_held old new n number free held others (inr other) =
    let same : held_of new n ≡ held_of old n = ap (λ (b : Bool). if b then 1 else 0) (others n other) in
    let none = other_number n number other in
    omega (arith, same, none)

pub entered : {S : Type 0} (old new : Held) (started : List S) (number_of : S → ℕ) (number : ℕ) → Enters old new number
    → AreHeld old started number_of → AreHeldBeside number new started number_of
entered old new started number_of number enters h = (
  λ n. let one = one_held old new n number enters.was_free enters.held enters.others (cases_eq n number) in omega (arith, h.0 n, one),
  omega (arith, h.1, enters.one_more),
)

pub has_left : {S : Type 0} (old new : Held) (started : List S) (number_of : S → ℕ) (number : ℕ) → Leaves old new number
    → AreHeldBeside number old started number_of → AreHeld new started number_of
has_left old new started number_of number leaves h = (
  λ n. let one = one_held new old n number leaves.free leaves.was_held (λ other is. sym (leaves.others other is)) (cases_eq n number) in
      omega (arith, h.0 n, one),
  omega (arith, h.1, leaves.one_less),
)

-- the number of the one next to it is held
pub beside : {S : Type 0} (roster : Held) (started : List S) (number_of : S → ℕ) (number : ℕ) → AreHeldBeside number roster started number_of
    → is_held roster number ≡ true
beside roster started number_of number h =
    flag_set (is_held roster number) (live_of started number_of number) (let one = same_number number in omega (arith, h.0 number, one))

-- the number of the session that runs is held
pub runs : {S : Type 0} (roster : Held) (started started' : List S) (number_of : S → ℕ) (number : ℕ)
    → IsOneMore number (live_of started number_of) (live_of started' number_of) → length started' ≡ length started + 1
    → AreHeldBeside number roster started number_of → AreHeld roster started' number_of
runs roster started started' number_of number one more h = (λ n. h.0 n ∙ sym (one n), h.1 ∙ sym more)

-- one of those that ran is joined
pub is_joined : {S : Type 0} (roster : Held) (started started' : List S) (number_of : S → ℕ) (number : ℕ)
    → IsOneMore number (live_of started' number_of) (live_of started number_of) → length started' + 1 ≡ length started
    → AreHeld roster started number_of → AreHeldBeside number roster started' number_of
is_joined roster started started' number_of number one fewer h = (λ n. h.0 n ∙ one n, h.1 ∙ sym fewer)

pub apart : (roster : Held) (live : ℕ → ℕ) (count : ℕ) → HoldsSo roster live count → AreApart live
apart roster live count h n = subst (λ (k : ℕ). k ≤ 1) (h.0 n) (flag_within (is_held roster n))

pub none_held : {S : Type 0} (roster : Held) (started : List S) (number_of : S → ℕ) → roster.numbers ≡ [] → length started ≡ 0
    → AreHeld roster started number_of
none_held roster started number_of empty none = (
  λ n. ap (λ (l : List (Option ⊤)). if is_some (slice_index_or l n None) then 1 else 0) empty ∙ sym (none_live started number_of none n),
  ap (λ (l : List (Option ⊤)). count_by is_some l) empty ∙ sym none,
)

-- if there is no place, as many sessions run as there may be
pub no_place : {S : Type 0} (roster roster' : Held) (started : List S) (number_of : S → ℕ) (count sessions per_host from_host : ℕ) → roster' ≡ roster
    → roster.limit ≡ sessions → count ≡ length started → AreHeld roster started number_of → HasNoPlace roster' per_host from_host
    → RunsAll count sessions per_host from_host
no_place roster roster' started number_of count sessions per_host from_host same limit is h (inl full) =
    inl (is ∙ sym h.1 ∙ subst (λ (r : Held). held_count r ≡ r.limit) same full ∙ limit)
no_place roster roster' started number_of count sessions per_host from_host same limit is h (inr many) = inr many
