-- The characters of a half line as an editor holds them.
use Rattle.std.proofs.Common.{◌≡◌, ◌≤◌, ◌<◌, ℕ, ◌+◌, Bool, true, false, not, List, [], ◌∷◌, length, reverse, refl, sym, ap, ◌∙◌, if◌then◌else◌, arith}
use Rattle.std.proofs.lemmas.List.{length-reverse, take-take}
use Rattle.tn_editor.specs.{Grouping.past, EditedLines.{line_word_erased, HeldLine, newest_look, weigh, AreSome, cut_to, is_parting, left_of, word_erased_by}}
use Rattle.tn_editor.specs.declared.{characters.Character.Character, edit_keys.Words.Words}

-- there are at most as many characters as bytes
pub few : (cs : List Character) → AreSome cs → length cs ≤ weigh cs
few [] h = omega arith
few (c ∷ before) h = omega (arith, h.0, few before h.1)

pub few_listed : (items : List Character) → AreSome (reverse items) → length items ≤ weigh (reverse items)
few_listed items h = omega (arith, few (reverse items) h, length-reverse items)

-- it parts words as is asked
pub as_asked : (parting : Bool) (w : Words) (c : Character) (b : Bool) → b ≡ is_parting true w c → b ≡ parting → is_parting parting w c ≡ true
as_asked true w c b is same = sym is ∙ same
as_asked false w c b is same = ap not (sym is ∙ same)

pub not_asked : (parting : Bool) (w : Words) (c : Character) (b : Bool) → b ≡ is_parting true w c → (b ≡ parting → ⊥) → is_parting parting w c ≡ false
not_asked true w c true is other = absurd (other refl)
not_asked true w c false is other = sym is
not_asked false w c true is other = ap not (sym is)
not_asked false w c false is other = absurd (other refl)

lighter_by_test : (b : Bool) (c : Character) (before after : List Character) → weigh after ≤ weigh before
    → weigh (if b then after else c ∷ before) ≤ weigh (c ∷ before)
lighter_by_test true c before after h = omega (arith, h)
lighter_by_test false c before after h = omega arith

past_lighter : (test : Character → Bool) (cs : List Character) → weigh (past test cs) ≤ weigh cs
past_lighter test [] = omega arith
past_lighter test (c ∷ before) = lighter_by_test (test c) c before (past test before) (past_lighter test before)

pub word_cut : (w : Words) (old mid new : HeldLine) → 1 ≤ (newest_look old.characters).length
    → mid ≡ cut_to old (past (is_parting true w) old.characters)
    → new ≡ cut_to mid (past (is_parting false w) mid.characters)
    → new ≡ line_word_erased w old
word_cut w old mid new some first second =
    second
    ∙ ap (λ (line : HeldLine). cut_to line (past (is_parting false w) line.characters)) first
    ∙ ap (λ (held : List ℕ). record { ahead = old.ahead; held = held; characters = left_of w old.characters; limit = old.limit })
    (take-take (weigh (left_of w old.characters)) (weigh (past (is_parting true w) old.characters)) old.held
    (past_lighter (is_parting false w) (past (is_parting true w) old.characters)))
    ∙ by_characters old.characters some
  where
    by_characters : (cs : List Character) → 1 ≤ (newest_look cs).length → cut_to old (left_of w cs) ≡ word_erased_by w old cs
    by_characters [] some = absurd (omega (arith, some))
    by_characters (c ∷ before) some = refl
