-- The answer to a key: the client edits it, or sends it at once.
use Rattle.std.proofs.Common.{◌≡◌, ◌⊎◌, inl, inr, ℕ, Bool, true, false, Result, Ok, Err, OnOk, OnErr, IsOk, IsErrOf, List, ◌++◌, length, Vec, refl, sym, ◌∙◌, subst}
use Rattle.tn_discipline.specs.HalfLine.{GivesText}
use Rattle.tn_linemode.specs.Modes.{edits}
use Rattle.tn_nvt.specs.{Room.LacksRoom, Spelling.spells, declared.items.Item.Item}
use Rattle.tn_client.specs.{Calls.End, Replies.typed_items, Steps.{role_now, line_typed, count_typed, end_after_key, says_typed, shows_key, LacksMemoryBy}}
use Rattle.tn_client.specs.{Lines.key_settings, Screen.key_shown, Terms.is_echoed, declared.faults.ClientFault.{ClientFault, TheVariants.Memory}}

-- the end after a key, what it sends and what it shows, by whether the end edits
abbrev pub end_by : Bool → End → ℕ → End
end_by edit old key =
    record old {
      line = line_typed edit old.forward old.line (role_now old key);
      trapped = count_typed edit true old old.trapped key;
      plain = count_typed edit false old old.plain key;
    }

abbrev pub says_by : Bool → End → ℕ → Item → List Item
says_by edit old key item = typed_items edit old.forward (role_now old key) old.line item

abbrev pub shows_by : Bool → End → ℕ → List ℕ
shows_by edit old key = key_shown (is_echoed old.options) edit (key_settings old.mode old.table) (role_now old key) old.line key

-- a fact of a key that was typed holds of an answer that is no refusal
pub done : {A E T P Q : Type 0} (typed : Result A E) (answer : Result T ClientFault) → OnErr typed (IsErrOf answer Memory) → OnOk typed P → (P → Q)
    → OnOk answer Q
done (Ok x) (Ok y) none p f = f p
done (Ok x) (Err fault) none p f = tt
done (Err e) answer none p f = rw none tt

module _ {A E T : Type 0} (edit : Bool) (typed : Result A E) (answer : Result T ClientFault) (old : End) (key : ℕ) (by : edits old.mode ≡ edit)
    (none : OnErr typed (IsErrOf answer Memory)) where
  pub key_step : (new : End) → OnOk typed (new ≡ end_by edit old key) → OnOk answer (new ≡ end_after_key old key)
  key_step new is = done typed answer none is (subst (λ (b : Bool). new ≡ end_by b old key) (sym by))

  pub key_said : (item : Item) (before said after : List ℕ) → OnOk typed (after ≡ said) → OnOk typed (said ≡ before ++ spells (says_by edit old key item))
      → OnOk answer (after ≡ before ++ spells (says_typed old key item))
  key_said item before said after same is =
      done typed answer none (both _ _ typed same is) (λ p. p.0 ∙ subst (λ (b : Bool). said ≡ before ++ spells (says_by b old key item)) (sym by) p.1)
    where
      both : (P Q : Type 0) (r : Result A E) → OnOk r P → OnOk r Q → OnOk r (P × Q)
      both P Q (Ok x) p q = (p, q)
      both P Q (Err e) p q = tt

  pub key_shown_by : (seen now : List ℕ) → OnOk typed (now ≡ seen ++ shows_by edit old key) → OnOk answer (now ≡ seen ++ shows_key old key)
  key_shown_by seen now is = done typed answer none is (subst (λ (b : Bool). now ≡ seen ++ shows_by b old key) (sym by))

-- the memory that a key lacks which the client edits
pub edited_lacks : {A E T Y Z : Type 0} (typed : Result A E) (answer : Result T ClientFault) (old : End) (key : ℕ) (item : Item) (out : Vec ℕ Y) (screen : Vec ℕ Z)
    → edits old.mode ≡ true → OnOk typed (IsOk answer) → OnErr typed (LacksRoom out (length (spells (says_by true old key item)))
    ⊎ (LacksRoom screen (length (shows_by true old key)) ⊎ GivesText old.line (role_now old key))) → IsErrOf answer Memory
    → LacksMemoryBy old key item out screen
edited_lacks (Ok x) answer old key item out screen by done lacks is = cc
edited_lacks (Err e) answer old key item out screen by done lacks is = subst Lacks (sym by) (there lacks)
  where
    Lacks : Bool → Type 0
    Lacks edit = LacksRoom out (length (spells (says_by edit old key item)))
        ⊎ (LacksRoom screen (length (shows_by edit old key)) ⊎ ((edit ≡ true) × GivesText old.line (role_now old key)))

    there : LacksRoom out (length (spells (says_by true old key item)))
        ⊎ (LacksRoom screen (length (shows_by true old key)) ⊎ GivesText old.line (role_now old key)) → Lacks true
    there (inl said) = inl said
    there (inr (inl shown)) = inr (inl shown)
    there (inr (inr text)) = inr (inr (refl, text))
