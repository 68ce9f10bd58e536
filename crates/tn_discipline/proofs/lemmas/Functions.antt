-- The functions that have a special character, and tables of characters by these.
use Rattle.std.proofs.Common.{◌≡◌, ◌≢◌, ℕ, Bool, true, false, not, ◌&&◌, ◌||◌, ◌==◌, Option, Some, None, List, [], ◌∷◌, ◌⊎◌, inl, inr, refl, sym, ap, ◌∙◌}
use Rattle.std.proofs.Common.{if◌then◌else◌, arith}
use Rattle.std.specs.{Prelude.find, List.list_any}
use Rattle.tn_codes.specs.{Codes.func_code, declared.codes.Func.Func}
use Rattle.tn_codes.specs.declared.codes.Func.TheVariants as func
use Rattle.tn_discipline.specs.Characters.{Characters, slot, with_slot, with_each, special_functions, is_same, is_settable, is_set_to, is_taken}

-- a value that is set to a byte is that byte
pub set_to : (value : Option ℕ) (byte : ℕ) → is_set_to value byte ≡ true → value ≡ Some byte
set_to None byte h = cc
set_to (Some character) byte h = let same : character ≡ byte = grind arith in ap Some same

pub is_set : (value : Option ℕ) (byte : ℕ) → value ≡ Some byte → is_set_to value byte ≡ true
is_set None byte h = cc
is_set (Some character) byte h = let same : character ≡ byte = cc in grind arith

-- EQUAL CODES
functions : List Func
functions =
    func.Synch ∷ func.Brk ∷ func.Ip ∷ func.Ao ∷ func.Ayt ∷ func.Eor ∷ func.Abort ∷ func.Eof ∷ func.Susp ∷ func.Ec ∷ func.El ∷ func.Ew
    ∷ func.Rp ∷ func.Lnext ∷ func.Xon ∷ func.Xoff ∷ func.Forw1 ∷ func.Forw2 ∷ []

function_at : ℕ → Option Func
function_at code = find (λ f. func_code f == code) functions

found_at : (f : Func) → function_at (func_code f) ≡ Some f
unfolding function_at functions
found_at func.Synch = refl
found_at _ = refl

-- equal codes are those of the same function
pub same_code : (f g : Func) → func_code f ≡ func_code g → f ≡ g
same_code f g e =
    let found : Some f ≡ Some g = sym (found_at f) ∙ ap function_at e ∙ found_at g in cc

pub same_function : (f g : Func) → is_same f g ≡ true → f ≡ g
same_function f g e = same_code f g (grind arith)

pub is_same-refl : (f : Func) → is_same f f ≡ true
is_same-refl f = grind arith

pub apart : (f g : Func) → is_same f g ≡ false → f ≢ g
apart f g e same = let other : is_same g g ≡ false = ap (λ h. is_same h g) (sym same) ∙ e in grind arith

-- MEMBERSHIP
-- the function is one of these
abbrev pub is_among : Func → List Func → Bool
is_among f fs = list_any (λ g. is_same g f) fs

or_either : (a b : Bool) → (a || b) ≡ true → (a ≡ true) ⊎ (b ≡ true)
or_either true b h = inl refl
or_either false b h = inr h

or_both : (a b : Bool) → (a || b) ≡ false → (a ≡ false) × (b ≡ false)
or_both true b h = cc
or_both false b h = (refl, h)

-- a function is among more if it is the first of them, or among the rest
pub among_more : (f g : Func) (gs : List Func) → is_among f (g ∷ gs) ≡ true → (g ≡ f) ⊎ (is_among f gs ≡ true)
among_more f g gs h =
    elim (or_either (is_same g f) (is_among f gs) h) [ inl e ↦ inl (same_function g f e) | inr rest ↦ inr rest ]

-- a function whose character is set has one
pub unset : (c : Characters) (f : Func) → is_settable f ≡ false → slot c f ≡ None
unset c func.Ip h = cc
unset c _ h = cc

pub settable_of_slot : (c : Characters) (f : Func) (byte : ℕ) → slot c f ≡ Some byte → is_settable f ≡ true
settable_of_slot c f byte h = by_test (is_settable f) refl
  where
    by_test : (test : Bool) → is_settable f ≡ test → is_settable f ≡ true
    by_test true e = e
    by_test false e = let none : slot c f ≡ None = unset c f e in cc

-- the first of these functions that passes a test, if one does that no other passes
pub finds : (p : Func → Bool) (f : Func) (fs : List Func) → is_among f fs ≡ true → p f ≡ true → ((g : Func) → p g ≡ true → g ≡ f) → find p fs ≡ Some f
finds p f [] among passes only = cc
finds p f (g ∷ gs) among passes only = by_test (p g) refl (λ rest. finds p f gs rest passes only)
  where
    by_test : (test : Bool) → p g ≡ test → (is_among f gs ≡ true → find p gs ≡ Some f) → (if test then Some g else find p gs) ≡ Some f
    by_test true e later = ap Some (only g e)
    by_test false e later =
        elim (among_more f g gs among) [ inl same ↦ let no : p g ≡ true = ap p same ∙ passes in cc | inr rest ↦ later rest ]

-- the function that is found passes the test, and is one of these
pub found : (p : Func → Bool) (f : Func) (fs : List Func) → find p fs ≡ Some f → (p f ≡ true) × (is_among f fs ≡ true)
found p f [] h = cc
found p f (g ∷ gs) h = by_test (p g) refl h (found p f gs)
  where
    or_left : (a b : Bool) → a ≡ true → (a || b) ≡ true
    or_left true b e = refl
    or_left false b e = cc

    or_right : (a b : Bool) → b ≡ true → (a || b) ≡ true
    or_right true b e = refl
    or_right false b e = e

    by_test : (test : Bool) → p g ≡ test → (if test then Some g else find p gs) ≡ Some f → (find p gs ≡ Some f → (p f ≡ true) × (is_among f gs ≡ true))
        → (p f ≡ true) × (is_among f (g ∷ gs) ≡ true)
    by_test true e h later =
        let same : g ≡ f = cc in (ap p (sym same) ∙ e, or_left (is_same g f) (is_among f gs) (ap (is_same g) (sym same) ∙ is_same-refl g))
    by_test false e h later = let rest = later h in (rest.0, or_right (is_same g f) (is_among f gs) rest.1)

-- ALL BUT ONE
-- if no other function of these passes a test, one of them that passes it is that one
pub only_one : (p : Func → Bool) (k f : Func) (fs : List Func) → list_any (λ g. not (is_same g k) && p g) fs ≡ false → is_among f fs ≡ true → p f ≡ true → f ≡ k
only_one p k f [] none among passes = cc
only_one p k f (g ∷ gs) none among passes =
    let both = or_both (not (is_same g k) && p g) (list_any (λ g. not (is_same g k) && p g) gs) none in
    elim (among_more f g gs among) [
      | inl same ↦ sym same ∙ same_function g k (same_by (is_same g k) (p g) both.0 (ap p same ∙ passes))
      | inr rest ↦ only_one p k f gs both.1 rest passes
    ]
  where
    same_by : (same set : Bool) → (not same && set) ≡ false → set ≡ true → same ≡ true
    same_by true set h s = refl
    same_by false set h s = let both : set ≡ false = h in cc

-- a byte that is not taken is the character of no other function
pub untaken : (c : Characters) (k : Func) (byte : ℕ) → is_taken c k byte ≡ false → (f : Func) → slot c f ≡ Some byte → f ≡ k
untaken c k byte free f h =
    only_one (λ g. is_set_to (slot c g) byte) k f special_functions free (settable_of_slot c f byte h) (is_set (slot c f) byte h)

-- A SLOT AND THE OTHERS
pub slot-with_slot : (c : Characters) (k : Func) (value : Option ℕ) → is_settable k ≡ true → slot (with_slot c k value) k ≡ value
slot-with_slot c func.Ip value h = refl
slot-with_slot c _ value h = cc

-- the two functions differ
pub slot-with_slot-other : (c : Characters) (k f : Func) (value : Option ℕ) → is_same f k ≡ false → slot (with_slot c k value) f ≡ slot c f
slot-with_slot-other c func.Ip func.Ip value h = cc
slot-with_slot-other c _ func.Abort value h = cc
slot-with_slot-other c _ _ value h = cc

-- a character that is set after a change is the changed one, or was set before
pub held_by : (c : Characters) (k f : Func) (value : Option ℕ) (byte : ℕ) → is_settable k ≡ true → slot (with_slot c k value) f ≡ Some byte
    → ((f ≡ k) × (value ≡ Some byte)) ⊎ (slot c f ≡ Some byte)
held_by c k f value byte settable h = by_test (is_same f k) refl
  where
    by_test : (test : Bool) → is_same f k ≡ test → ((f ≡ k) × (value ≡ Some byte)) ⊎ (slot c f ≡ Some byte)
    by_test true e =
        let same : f ≡ k = same_function f k e in
        inl (same, sym (slot-with_slot c k value settable) ∙ ap (slot (with_slot c k value)) (sym same) ∙ h)
    by_test false e = inr (sym (slot-with_slot-other c k f value e) ∙ h)

pub slot-with_each : (change : Option ℕ → Option ℕ) (c : Characters) (f : Func) → change None ≡ None → slot (with_each change c) f ≡ change (slot c f)
slot-with_each change c func.Ip h = refl
slot-with_each change c _ h = cc

-- EXTENSIONALITY
same_fields : (a b c d e f g h a' b' c' d' e' f' g' h' : Option ℕ) → a ≡ a' → b ≡ b' → c ≡ c' → d ≡ d' → e ≡ e' → f ≡ f' → g ≡ g' → h ≡ h'
    → let left : Characters = record { intr = a; quit = b; eof = c; susp = d; erase = e; kill = f; eol = g; eol2 = h } in
    let right : Characters = record { intr = a'; quit = b'; eof = c'; susp = d'; erase = e'; kill = f'; eol = g'; eol2 = h' } in left ≡ right
same_fields a b c d e f g h a' b' c' d' e' f' g' h' p q r s t u v w = rw (p, q, r, s, t, u, v, w)

-- tables that agree at the functions that have a character are equal
pub same_slots : (c d : Characters) → ((f : Func) → is_settable f ≡ true → slot c f ≡ slot d f) → c ≡ d
same_slots c d same =
    same_fields c.intr c.quit c.eof c.susp c.erase c.kill c.eol c.eol2 d.intr d.quit d.eof d.susp d.erase d.kill d.eol d.eol2
    (same func.Ip refl) (same func.Abort refl) (same func.Eof refl) (same func.Susp refl) (same func.Ec refl) (same func.El refl) (same func.Forw1 refl)
    (same func.Forw2 refl)
