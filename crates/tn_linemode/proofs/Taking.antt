-- A client's table after it took a character.
use Rattle.std.proofs.Common.{◌≡◌, ◌≢◌, ℕ, Bool, true, false, not, ◌&&◌, Option, Some, None, List, [], ◌∷◌, refl, sym, ap, ◌∙◌, arith}
use Rattle.std.specs.List.{list_any}
use Rattle.tn_codes.specs.declared.codes.Func.{Func}
use Rattle.tn_discipline.specs.Characters.{Characters, AreAllowed, slot, with_slot, special_functions, is_same, is_reserved, is_set_to, is_taken, char_fault}
use Rattle.tn_discipline.proofs.lemmas.Functions.{same_function, apart, settable_of_slot, slot-with_slot, slot-with_slot-other, slot-with_each, same_slots}
use Rattle.tn_linemode.specs.{Triples.IsOffer, Exchange.{cleared_character, without_character, is_line_end}}

-- no character is the byte that all have lost
pub slot-without : (c : Characters) (byte : ℕ) (f : Func) → slot (without_character c (Some byte)) f ≡ cleared_character (slot c f) byte
slot-without c byte f = slot-with_each (λ character. cleared_character character byte) c f refl

is_set_to-cleared : (x : Option ℕ) (byte : ℕ) → is_set_to (cleared_character x byte) byte ≡ false
is_set_to-cleared None byte = refl
is_set_to-cleared (Some a) byte = grind arith

gone : (x : Option ℕ) (byte : ℕ) → x ≡ Some byte → cleared_character x byte ≡ None
gone None byte e = refl
gone (Some a) byte e = let same : a ≡ byte = cc in grind arith

pub stays : (x : Option ℕ) (byte : ℕ) → x ≢ Some byte → cleared_character x byte ≡ x
stays None byte differ = refl
stays (Some a) byte differ = let other : a ≢ byte = λ e. differ (ap Some e) in grind arith

-- the holder of a byte is the only one that loses it
pub without-holder : (c : Characters) (h : Func) (byte : ℕ) → AreAllowed c → slot c h ≡ Some byte → with_slot c h None ≡ without_character c (Some byte)
without-holder c h byte allowed there = same_slots _ _ (λ f settable. freed f (is_same f h) refl ∙ sym (slot-without c byte f))
  where
    freed : (f : Func) (test : Bool) → is_same f h ≡ test → slot (with_slot c h None) f ≡ cleared_character (slot c f) byte
    freed f true e =
        let same : f ≡ h = same_function f h e in
        ap (slot (with_slot c h None)) same ∙ slot-with_slot c h None (settable_of_slot c h byte there) ∙ sym (gone (slot c f) byte (ap (slot c) same ∙ there))
    freed f false e =
        slot-with_slot-other c h f None e ∙ sym (stays (slot c f) byte
        (λ set. let same : f ≡ h = allowed.distinct f h byte set there in absurd (apart f h e same)))

-- with no holder nothing changes
pub without-none : (c : Characters) (byte : ℕ) → ((f : Func) → slot c f ≢ Some byte) → c ≡ without_character c (Some byte)
without-none c byte none = same_slots _ _ (λ f settable. sym (slot-without c byte f ∙ stays (slot c f) byte (none f)))

-- a function that has a character can have it disabled
pub can_disable : (c : Characters) (h : Func) (byte : ℕ) → slot c h ≡ Some byte → char_fault c h None ≡ None
can_disable c h byte there = rw (settable_of_slot c h byte there) refl

and_false : (b s : Bool) → s ≡ false → (b && s) ≡ false
and_false true s e = e
and_false false s e = refl

none_passes : (p : Func → Bool) (fs : List Func) → ((f : Func) → p f ≡ false) → list_any p fs ≡ false
none_passes p [] none = refl
none_passes p (f ∷ fs) none = rw (none f, none_passes p fs none)

-- a byte that all have lost is not taken
is_taken-without : (c : Characters) (f : Func) (byte : ℕ) → is_taken (without_character c (Some byte)) f byte ≡ false
is_taken-without c f byte =
    none_passes _ special_functions
    (λ g. and_false (not (is_same g f)) _ (ap (λ x. is_set_to x byte) (slot-without c byte g) ∙ is_set_to-cleared (slot c g) byte))

-- a value that a client takes is one that its freed table accepts
pub accepts_offer : (c : Characters) (f : Func) (value : Option ℕ) → IsOffer f value → is_line_end value ≡ false
    → char_fault (without_character c value) f value ≡ None
accepts_offer c f None offer plain = rw offer.settable
accepts_offer c f (Some byte) offer plain =
    let fine : is_reserved byte ≡ false = grind (arith, offer.no_escape) in
    rw (offer.settable, fine, is_taken-without c f byte)
