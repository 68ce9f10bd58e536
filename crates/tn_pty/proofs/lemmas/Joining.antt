-- The bytes that close an edited line, as they are looked for: what is in front of the first of them joins it.
use Rattle.std.proofs.Common.{◌≡◌, ◌<◌, ◌≤◌, ℕ, ◌==◌, ◌||◌, Bool, true, false, Option, Some, None, All, List, length, take, get_or, unwrap_or, refl, sym, ap}
use Rattle.std.proofs.{Common.{subst, ◌∙◌, if◌then◌else◌, arith, length-take}, lemmas.List.{get_or-take, Elements.All-from_get_or}}
use Rattle.memchr.specs.Find.{is_byte3, Passes, Nowhere}
use Rattle.tn_discipline.specs.{Characters.{Characters, is_set_to}, declared.keys.Role.Role}
use Rattle.tn_discipline.specs.declared.keys.Role.TheVariants as role
use Rattle.tn_pty.specs.Typing.{JoinsEdited}

-- the role of a byte by three tests
abbrev role_by : Bool → Bool → Bool → ℕ → Role
role_by nl eol eol2 byte = if nl then role.Nl else (if eol then role.Eol byte else (if eol2 then role.Eol2 byte else role.Ordinary byte))

joins_by : (a b c : Bool) (byte : ℕ) → a ≡ false → b ≡ false → c ≡ false → role_by a b c byte ≡ role.Ordinary byte
joins_by a b c byte x y z = rw (x, y, z) refl

none_of : (a b c : Bool) → (a || b || c) ≡ false → (a ≡ false) × (b ≡ false) × (c ≡ false)
none_of false false false e = (refl, refl, refl)
none_of false false true e = cc
none_of false true c e = cc
none_of true b c e = cc

fails : (b : Bool) → (b ≡ true → ⊥) → b ≡ false
fails true not = absurd (not refl)
fails false not = refl

-- a character that is not found is not set to the byte
unset : (o : Option ℕ) (byte : ℕ) → (byte == unwrap_or o 10) ≡ false → is_set_to o byte ≡ false
unset None byte e = refl
unset (Some character) byte e = grind arith

module _ (chars : Characters) (eol eol2 : ℕ) (is : eol ≡ unwrap_or chars.eol 10) (is2 : eol2 ≡ unwrap_or chars.eol2 10) where
  abbrev test : ℕ → Bool
  test byte = is_byte3 10 eol eol2 byte

  joins : (byte : ℕ) → (test byte ≡ true → ⊥) → JoinsEdited chars byte
  joins byte not =
      let none = none_of (byte == 10) (byte == eol) (byte == eol2) (fails (test byte) not) in
      joins_by (byte == 10) (is_set_to chars.eol byte) (is_set_to chars.eol2 byte) byte none.0
      (unset chars.eol byte (ap (λ c. byte == c) (sym is) ∙ none.1))
      (unset chars.eol2 byte (ap (λ c. byte == c) (sym is2) ∙ none.2))

  -- the bytes in front of the one that is found join the line
  pub joins_front : (bytes : List ℕ) (n : ℕ) → n ≤ length bytes → Nowhere (Passes test bytes) 0 n → All (JoinsEdited chars) (take n bytes)
  joins_front bytes n within nowhere = All-from_get_or (JoinsEdited chars) (take n bytes) 0 (λ i lt.
      let small : i < n = omega (arith, lt, length-take n bytes) in
      subst (JoinsEdited chars) (sym (get_or-take n bytes i 0 small)) (joins (get_or bytes i 0) (nowhere i (omega arith) small)))
