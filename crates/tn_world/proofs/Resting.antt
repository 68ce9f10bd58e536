-- No request of an end waits after another if none does at the four options.
use Rattle.std.proofs.Common.{◌≡◌, ◌≢◌, ◌↔◌, ℕ, ◌==◌, Bool, true, false, ◌&&◌, Option, Some, None, List, [], ◌∷◌, length, not, is_some, refl, ap, ◌∙◌, sym, arith}
use Rattle.std.proofs.Common.{nat_eq, Bor}
use Rattle.std.specs.{Prelude.{option_copied, slice_get}, Option.option_eq, List.list_all}
use Rattle.tn_discipline.specs.{Characters.Characters, declared.reads.Entry.Entry}
use Rattle.tn_option.specs.{Options.{Options, known_option, state_or_no, state_of}, declared.{known.Known.Known, q_method.{QState.QState, Side.Side}}}
use Rattle.tn_option.specs.declared.{known.Known.TheVariants.{Echo, SuppressGoAhead, Naws, Linemode}, q_method.Side.TheVariants.{Us, Them}}
use Rattle.tn_world.specs.Headline.{is_in_order, IsSteady}

abbrev pub states : Options → List QState
states o =
    state_of o Us 1 ∷ state_of o Us 3 ∷ state_of o Us 31 ∷ state_of o Us 34
    ∷ state_of o Them 1 ∷ state_of o Them 3 ∷ state_of o Them 31 ∷ state_of o Them 34 ∷ []

and_both : (a b : Bool) → (a && b) ≡ true → (a ≡ true) × (b ≡ true)
and_both true b h = (refl, h)
and_both false b h = absurd (cc)

and_from : (a b : Bool) → a ≡ true → b ≡ true → (a && b) ≡ true
and_from true b p q = q
and_from false b p q = absurd (cc)

at_known : (o : Options) (side : Side) → is_in_order (state_or_no o side (Some Echo)) ≡ true → is_in_order (state_or_no o side (Some SuppressGoAhead)) ≡ true
    → is_in_order (state_or_no o side (Some Naws)) ≡ true → is_in_order (state_or_no o side (Some Linemode)) ≡ true → (option : Option Known)
    → is_in_order (state_or_no o side option) ≡ true
at_known o side a b c d None = refl
at_known o side a b c d (Some Echo) = a
at_known o side a b c d (Some SuppressGoAhead) = b
at_known o side a b c d (Some Naws) = c
at_known o side a b c d (Some Linemode) = d

all_steady : (o : Options) → list_all is_in_order (states o) ≡ true → IsSteady o
unfolding state_of
all_steady o h Us option =
    let p = and_both (is_in_order (state_of o Us 1)) _ h in
    let q = and_both (is_in_order (state_of o Us 3)) _ p.1 in
    let r = and_both (is_in_order (state_of o Us 31)) _ q.1 in
    let s = and_both (is_in_order (state_of o Us 34)) _ r.1 in
    at_known o Us p.0 q.0 r.0 s.0 (known_option option)
all_steady o h Them option =
    let p = and_both (is_in_order (state_of o Us 1)) _ h in
    let q = and_both (is_in_order (state_of o Us 3)) _ p.1 in
    let r = and_both (is_in_order (state_of o Us 31)) _ q.1 in
    let s = and_both (is_in_order (state_of o Us 34)) _ r.1 in
    let t = and_both (is_in_order (state_of o Them 1)) _ s.1 in
    let u = and_both (is_in_order (state_of o Them 3)) _ t.1 in
    let v = and_both (is_in_order (state_of o Them 31)) _ u.1 in
    let w = and_both (is_in_order (state_of o Them 34)) _ v.1 in
    at_known o Them t.0 u.0 v.0 w.0 (known_option option)

steady_all : (o : Options) → IsSteady o → list_all is_in_order (states o) ≡ true
steady_all o h =
    and_from (is_in_order (state_of o Us 1)) _ (h Us 1)
    (and_from (is_in_order (state_of o Us 3)) _ (h Us 3)
    (and_from (is_in_order (state_of o Us 31)) _ (h Us 31)
    (and_from (is_in_order (state_of o Us 34)) _ (h Us 34)
    (and_from (is_in_order (state_of o Them 1)) _ (h Them 1)
    (and_from (is_in_order (state_of o Them 3)) _ (h Them 3)
    (and_from (is_in_order (state_of o Them 31)) _ (h Them 31)
    (and_from (is_in_order (state_of o Them 34)) _ (h Them 34) refl)))))))

pub steady_where : (o : Options) (r : Bool) (found : List QState) → r ≡ list_all is_in_order found → found ≡ states o → r ≡ true ↔ IsSteady o
steady_where o r found is same =
    let all : r ≡ list_all is_in_order (states o) = is ∙ ap (list_all is_in_order) same in
    (λ t. all_steady o (sym all ∙ t), λ s. all ∙ steady_all o s)

pub same_states : (o : Options) (a b c d e f g h : QState) → a ≡ state_of o Us 1 → b ≡ state_of o Us 3 → c ≡ state_of o Us 31 → d ≡ state_of o Us 34
    → e ≡ state_of o Them 1 → f ≡ state_of o Them 3 → g ≡ state_of o Them 31 → h ≡ state_of o Them 34 → a ∷ b ∷ c ∷ d ∷ e ∷ f ∷ g ∷ h ∷ [] ≡ states o
same_states o a b c d e f g h p q r s t u v w = rw (p, q, r, s, t, u, v, w) refl

-- no byte is held if the length is none
pub empty_where : (b : Bool) (l : List ℕ) → b ≡ (length l == 0) → b ≡ true → l ≡ []
empty_where b [] is t = refl
empty_where b (x ∷ l) is t = absurd (let p = sym is ∙ t in grind (arith, p))

-- no entry waits if there is no first one
pub none_waits : (r : Bool) (entries : List Entry) (first : Option (Bor Entry)) → is_some first ≡ not r → option_copied first ≡ slice_get entries 0
    → (r ≡ true → entries ≡ []) × (entries ≡ [] → r ≡ true)
none_waits true [] None is copied = (λ t. refl, λ t. refl)
none_waits false [] None is copied = absurd (cc)
none_waits true [] (Some x) is copied = absurd (cc)
none_waits false [] (Some x) is copied = absurd (cc)
none_waits true (e ∷ es) None is copied = absurd (cc)
none_waits false (e ∷ es) None is copied = absurd (cc)
none_waits true (e ∷ es) (Some x) is copied = absurd (cc)
none_waits false (e ∷ es) (Some x) is copied = (λ t. absurd (cc), λ t. absurd (cc))

-- characters that compare as the same
same_byte : (a b : Option ℕ) → option_eq nat_eq a b ≡ true → a ≡ b
same_byte None None h = refl
same_byte None (Some b) h = absurd (cc)
same_byte (Some a) None h = absurd (cc)
same_byte (Some a) (Some b) h = ap Some (grind (arith, h))

not_not : (b : Bool) → false ≡ not b → b ≡ true
not_not true h = refl
not_not false h = absurd (cc)

pub chars_same : (a b : Characters) → false ≡ not (option_eq nat_eq a.intr b.intr &&
    (option_eq nat_eq a.quit b.quit && (option_eq nat_eq a.eof b.eof &&
    (option_eq nat_eq a.susp b.susp && (option_eq nat_eq a.erase b.erase &&
    (option_eq nat_eq a.kill b.kill && (option_eq nat_eq a.eol b.eol && option_eq nat_eq a.eol2 b.eol2))))))) → a ≡ b
chars_same a b h =
    let p = and_both _ _ (not_not _ h) in
    let q = and_both _ _ p.1 in
    let r = and_both _ _ q.1 in
    let s = and_both _ _ r.1 in
    let t = and_both _ _ s.1 in
    let u = and_both _ _ t.1 in
    let v = and_both _ _ u.1 in
    ap (λ x. record { intr = x; quit = a.quit; eof = a.eof; susp = a.susp; erase = a.erase; kill = a.kill; eol = a.eol; eol2 = a.eol2 })
    (same_byte a.intr b.intr p.0)
    ∙ ap (λ x. record { intr = b.intr; quit = x; eof = a.eof; susp = a.susp; erase = a.erase; kill = a.kill; eol = a.eol; eol2 = a.eol2 })
    (same_byte a.quit b.quit q.0)
    ∙ ap (λ x. record { intr = b.intr; quit = b.quit; eof = x; susp = a.susp; erase = a.erase; kill = a.kill; eol = a.eol; eol2 = a.eol2 })
    (same_byte a.eof b.eof r.0)
    ∙ ap (λ x. record { intr = b.intr; quit = b.quit; eof = b.eof; susp = x; erase = a.erase; kill = a.kill; eol = a.eol; eol2 = a.eol2 })
    (same_byte a.susp b.susp s.0)
    ∙ ap (λ x. record { intr = b.intr; quit = b.quit; eof = b.eof; susp = b.susp; erase = x; kill = a.kill; eol = a.eol; eol2 = a.eol2 })
    (same_byte a.erase b.erase t.0)
    ∙ ap (λ x. record { intr = b.intr; quit = b.quit; eof = b.eof; susp = b.susp; erase = b.erase; kill = x; eol = a.eol; eol2 = a.eol2 })
    (same_byte a.kill b.kill u.0)
    ∙ ap (λ x. record { intr = b.intr; quit = b.quit; eof = b.eof; susp = b.susp; erase = b.erase; kill = b.kill; eol = x; eol2 = a.eol2 })
    (same_byte a.eol b.eol v.0)
    ∙ ap (λ x. record { intr = b.intr; quit = b.quit; eof = b.eof; susp = b.susp; erase = b.erase; kill = b.kill; eol = b.eol; eol2 = x })
    (same_byte a.eol2 b.eol2 v.1)

-- characters that compare as others
eqb_self : (n : ℕ) → nat_eq n n ≡ true
eqb_self n = grind arith

byte_self : (a : Option ℕ) → option_eq nat_eq a a ≡ true
byte_self None = refl
byte_self (Some n) = eqb_self n

pub chars_other : (a b : Characters) → true ≡ not (option_eq nat_eq a.intr b.intr &&
    (option_eq nat_eq a.quit b.quit && (option_eq nat_eq a.eof b.eof &&
    (option_eq nat_eq a.susp b.susp && (option_eq nat_eq a.erase b.erase &&
    (option_eq nat_eq a.kill b.kill && (option_eq nat_eq a.eol b.eol && option_eq nat_eq a.eol2 b.eol2))))))) → a ≢ b
chars_other a b h is =
    let same = and_from _ _ (byte_self b.intr) (and_from _ _ (byte_self b.quit) (and_from _ _ (byte_self b.eof)
    (and_from _ _ (byte_self b.susp) (and_from _ _ (byte_self b.erase) (and_from _ _ (byte_self b.kill)
    (and_from _ _ (byte_self b.eol) (byte_self b.eol2))))))) in
    let other = rw is at h in absurd (let bad = other ∙ ap not same in cc)

-- a test that fails, and what holds only if it does not
pub refuted : {A B : Type 0} (test : Bool) → (A → test ≡ true) → test ≡ false → (B → A) → false ≡ true ↔ B
refuted test told fails part = (λ t. absurd (let bad = t in cc), λ b. absurd (let bad = sym fails ∙ told (part b) in cc))
