-- The user's own characters mean at his terminal what the standard ones mean at a standard one.
use Rattle.std.proofs.Common.{◌≡◌, ℕ, Bool, true, false, ◌&&◌, ◌||◌, ◌==◌, if◌then◌else◌, Option, Some, None, List, [], ◌∷◌, map, refl, sym, ap, ◌∙◌}
use Rattle.std.proofs.lemmas.List.Elements.{All-head, All-tail}
use Rattle.std.specs.List.{All, cons_option}
use Rattle.tn_codes.specs.declared.codes.Func.{Func}
use Rattle.tn_codes.specs.declared.codes.Func.TheVariants as func
use Rattle.tn_discipline.proofs.lemmas.Functions.{set_to, is_set}
use Rattle.tn_discipline.specs.{Characters.{AreAllowed, Characters, is_reserved, is_set_to, slot, standard_characters}, declared.keys.Role.Role}
use Rattle.tn_discipline.specs.{Keys.{mapped_key, mapped_keys, role_by_signal, role_of_mapped, roles_of, standard_flags}, declared.termios.Settings.Settings}
use Rattle.tn_discipline.specs.declared.{keys.Role.TheVariants.{Eof, Erase, Kill, Nl, Ordinary, Signal}, reads.Sig.TheVariants.{Int, Quit, Tstp}}
use Rattle.tn_net.specs.Mapping.{IsOfUser, characters_of, mapped, own_function, standard_for, standard_own}
use Rattle.tn_net.specs.declared.own_characters.OwnCharacters.{OwnCharacters}

abbrev with_chars : Characters → Settings
with_chars chars = record { flags = standard_flags; chars = chars }

-- the role of a byte, by what of it is set
abbrev by : (eof erase kill intr quit susp : Bool) → ℕ → Role
by eof erase kill intr quit susp byte =
    if eof then Eof else (if erase then Erase else (if kill then Kill else
    role_by_signal true (if intr then Some Int else (if quit then Some Quit else (if susp then Some Tstp else None))) byte))

-- the function, by what of it is set
abbrev of : (intr quit susp erase kill eof : Bool) → Option Func
of intr quit susp erase kill eof =
    if intr then Some func.Ip else (if quit then Some func.Abort else (if susp then Some func.Susp else
    (if erase then Some func.Ec else (if kill then Some func.El else (if eof then Some func.Eof else None)))))

ten : (a b d : Bool) → (a || b || d) ≡ false → a ≡ false
ten true b d h = cc
ten false b d h = refl

thirteen : (a b d : Bool) → (a || b || d) ≡ false → b ≡ false
thirteen true b d h = cc
thirteen false true d h = cc
thirteen false false d h = refl

none_of : (a b d e f g : Bool) → of a b d e f g ≡ None → (a ≡ false) × (b ≡ false) × (d ≡ false) × (e ≡ false) × (f ≡ false) × (g ≡ false)
none_of true b d e f g is = cc
none_of false true d e f g is = cc
none_of false false true e f g is = cc
none_of false false false true f g is = cc
none_of false false false false true g is = cc
none_of false false false false false true is = cc
none_of false false false false false false is = (refl, refl, refl, refl, refl, refl)

either : (b : Bool) (n : ℕ) → (if b then n else n) ≡ n
either true n = refl
either false n = refl

module _ (own : OwnCharacters) (allowed : AreAllowed (characters_of own)) (key : ℕ) where
  abbrev chars : Characters
  chars = characters_of own

  other : (f g : Func) → slot chars f ≡ Some key → (f ≡ g → ⊥) → is_set_to (slot chars g) key ≡ false
  other f g has apart = by_case (is_set_to (slot chars g) key) refl where
    by_case : (b : Bool) → is_set_to (slot chars g) key ≡ b → b ≡ false
    by_case true is = absurd (apart (allowed.distinct f g key has (set_to (slot chars g) key is)))
    by_case false is = refl

  unreserved : (f : Func) → slot chars f ≡ Some key → is_reserved key ≡ false
  unreserved f has = allowed.unreserved f key has

  -- The meaning of the session's key at a standard terminal is that of the typed one at the user's own; and
  -- neither is a return unless the other is.
  abbrev Means : Type 0
  Means = (role_of_mapped (with_chars standard_characters) (mapped own key) ≡ role_of_mapped (with_chars chars) key)
      × ((mapped own key == 13) ≡ (key == 13))

  role_by : (eof erase kill intr quit susp : Bool) → (key == 10) ≡ false → is_set_to own.eof key ≡ eof → is_set_to own.erase key ≡ erase
      → is_set_to own.kill key ≡ kill
      → is_set_to own.intr key ≡ intr → is_set_to own.quit key ≡ quit → is_set_to own.susp key ≡ susp
      → role_of_mapped (with_chars chars) key ≡ by eof erase kill intr quit susp key
  role_by eof erase kill intr quit susp n e1 e2 e3 e4 e5 e6 = λ i. if n i then Nl else by (e1 i) (e2 i) (e3 i) (e4 i) (e5 i) (e6 i) key

  mapped_by : (o : Option Func) → is_reserved key ≡ false → own_function own key ≡ o → mapped own key ≡ standard_for o key
  mapped_by o r is = λ i. if r i then key else standard_for (is i) key

  no_return : (f : Func) → slot chars f ≡ Some key → (key == 13) ≡ false
  no_return f has = thirteen (key == 10) (key == 13) (key == 255) (unreserved f has)

  no_feed : (f : Func) → slot chars f ≡ Some key → (key == 10) ≡ false
  no_feed f has = ten (key == 10) (key == 13) (key == 255) (unreserved f has)

  as_intr : slot chars func.Ip ≡ Some key → Means
  as_intr has =
      let o : own_function own key ≡ Some func.Ip = λ i. of (is_set own.intr key has i) (is_set_to own.quit key) (is_set_to own.susp key)
      (is_set_to own.erase key) (is_set_to own.kill key) (is_set_to own.eof key) in
      let m : mapped own key ≡ 3 = mapped_by (Some func.Ip) (unreserved func.Ip has) o in
      let r : role_of_mapped (with_chars chars) key ≡ Signal Int =
      role_by false false false true (is_set_to own.quit key) (is_set_to own.susp key) (no_feed func.Ip has) (other func.Ip func.Eof has (λ e. cc))
      (other func.Ip func.Ec has (λ e. cc)) (other func.Ip func.El has (λ e. cc)) (is_set own.intr key has) refl refl in
      (ap (role_of_mapped (with_chars standard_characters)) m ∙ sym r, ap (λ n. n == 13) m ∙ sym (no_return func.Ip has))

  as_quit : slot chars func.Abort ≡ Some key → Means
  as_quit has =
      let no : (g : Func) → (func.Abort ≡ g → ⊥) → is_set_to (slot chars g) key ≡ false = λ g apart. other func.Abort g has apart in
      let o : own_function own key ≡ Some func.Abort = λ i. of (no func.Ip (λ e. cc) i) (is_set own.quit key has i) (is_set_to own.susp key)
      (is_set_to own.erase key) (is_set_to own.kill key) (is_set_to own.eof key) in
      let m : mapped own key ≡ 28 = mapped_by (Some func.Abort) (unreserved func.Abort has) o in
      let r : role_of_mapped (with_chars chars) key ≡ Signal Quit =
      role_by false false false false true (is_set_to own.susp key) (no_feed func.Abort has) (no func.Eof (λ e. cc)) (no func.Ec (λ e. cc))
      (no func.El (λ e. cc)) (no func.Ip (λ e. cc)) (is_set own.quit key has) refl in
      (ap (role_of_mapped (with_chars standard_characters)) m ∙ sym r, ap (λ n. n == 13) m ∙ sym (no_return func.Abort has))

  as_susp : slot chars func.Susp ≡ Some key → Means
  as_susp has =
      let no : (g : Func) → (func.Susp ≡ g → ⊥) → is_set_to (slot chars g) key ≡ false = λ g apart. other func.Susp g has apart in
      let o : own_function own key ≡ Some func.Susp = λ i. of (no func.Ip (λ e. cc) i) (no func.Abort (λ e. cc) i) (is_set own.susp key has i)
      (is_set_to own.erase key) (is_set_to own.kill key) (is_set_to own.eof key) in
      let m : mapped own key ≡ 26 = mapped_by (Some func.Susp) (unreserved func.Susp has) o in
      let r : role_of_mapped (with_chars chars) key ≡ Signal Tstp =
      role_by false false false false false true (no_feed func.Susp has) (no func.Eof (λ e. cc)) (no func.Ec (λ e. cc)) (no func.El (λ e. cc))
      (no func.Ip (λ e. cc)) (no func.Abort (λ e. cc)) (is_set own.susp key has) in
      (ap (role_of_mapped (with_chars standard_characters)) m ∙ sym r, ap (λ n. n == 13) m ∙ sym (no_return func.Susp has))

  as_erase : slot chars func.Ec ≡ Some key → Means
  as_erase has =
      let no : (g : Func) → (func.Ec ≡ g → ⊥) → is_set_to (slot chars g) key ≡ false = λ g apart. other func.Ec g has apart in
      let o : own_function own key ≡ Some func.Ec = λ i. of (no func.Ip (λ e. cc) i) (no func.Abort (λ e. cc) i) (no func.Susp (λ e. cc) i)
      (is_set own.erase key has i) (is_set_to own.kill key) (is_set_to own.eof key) in
      let m : mapped own key ≡ 127 = mapped_by (Some func.Ec) (unreserved func.Ec has) o in
      let r : role_of_mapped (with_chars chars) key ≡ Erase =
      role_by false true (is_set_to own.kill key) (is_set_to own.intr key) (is_set_to own.quit key) (is_set_to own.susp key) (no_feed func.Ec has)
      (no func.Eof (λ e. cc)) (is_set own.erase key has) refl refl refl refl in
      (ap (role_of_mapped (with_chars standard_characters)) m ∙ sym r, ap (λ n. n == 13) m ∙ sym (no_return func.Ec has))

  as_kill : slot chars func.El ≡ Some key → Means
  as_kill has =
      let no : (g : Func) → (func.El ≡ g → ⊥) → is_set_to (slot chars g) key ≡ false = λ g apart. other func.El g has apart in
      let o : own_function own key ≡ Some func.El = λ i. of (no func.Ip (λ e. cc) i) (no func.Abort (λ e. cc) i) (no func.Susp (λ e. cc) i)
      (no func.Ec (λ e. cc) i) (is_set own.kill key has i) (is_set_to own.eof key) in
      let m : mapped own key ≡ 21 = mapped_by (Some func.El) (unreserved func.El has) o in
      let r : role_of_mapped (with_chars chars) key ≡ Kill =
      role_by false false true (is_set_to own.intr key) (is_set_to own.quit key) (is_set_to own.susp key) (no_feed func.El has) (no func.Eof (λ e. cc))
      (no func.Ec (λ e. cc)) (is_set own.kill key has) refl refl refl in
      (ap (role_of_mapped (with_chars standard_characters)) m ∙ sym r, ap (λ n. n == 13) m ∙ sym (no_return func.El has))

  as_eof : slot chars func.Eof ≡ Some key → Means
  as_eof has =
      let no : (g : Func) → (func.Eof ≡ g → ⊥) → is_set_to (slot chars g) key ≡ false = λ g apart. other func.Eof g has apart in
      let o : own_function own key ≡ Some func.Eof = λ i. of (no func.Ip (λ e. cc) i) (no func.Abort (λ e. cc) i) (no func.Susp (λ e. cc) i)
      (no func.Ec (λ e. cc) i) (no func.El (λ e. cc) i) (is_set own.eof key has i) in
      let m : mapped own key ≡ 4 = mapped_by (Some func.Eof) (unreserved func.Eof has) o in
      let r : role_of_mapped (with_chars chars) key ≡ Eof =
      role_by true (is_set_to own.erase key) (is_set_to own.kill key) (is_set_to own.intr key) (is_set_to own.quit key) (is_set_to own.susp key)
      (no_feed func.Eof has) (is_set own.eof key has) refl refl refl refl refl in
      (ap (role_of_mapped (with_chars standard_characters)) m ∙ sym r, ap (λ n. n == 13) m ∙ sym (no_return func.Eof has))

  -- any other key
  as_other : own_function own key ≡ None → own_function standard_own key ≡ None → Means
  as_other o s =
      let x = none_of (is_set_to own.intr key) (is_set_to own.quit key) (is_set_to own.susp key) (is_set_to own.erase key) (is_set_to own.kill key)
      (is_set_to own.eof key) o in
      let y = none_of (3 == key) (28 == key) (26 == key) (127 == key) (21 == key) (4 == key) s in
      let m : mapped own key ≡ key = (λ i. if is_reserved key then key else standard_for (o i) key) ∙ either (is_reserved key) key in
      let r : role_of_mapped (with_chars chars) key ≡ (if key == 10 then Nl else Ordinary key) =
      λ i. if key == 10 then Nl else by (x.5 i) (x.3 i) (x.4 i) (x.0 i) (x.1 i) (x.2 i) key in
      let t : role_of_mapped (with_chars standard_characters) key ≡ (if key == 10 then Nl else Ordinary key) =
      λ i. if key == 10 then Nl else by (y.5 i) (y.3 i) (y.4 i) (y.0 i) (y.1 i) (y.2 i) key in
      (ap (role_of_mapped (with_chars standard_characters)) m ∙ t ∙ sym r, ap (λ n. n == 13) m)

  -- each key has its meaning
  means : IsOfUser own key → Means
  means user = by_intr (is_set_to own.intr key) refl where
    by_eof : (b : Bool) → is_set_to own.eof key ≡ b → is_set_to own.intr key ≡ false → is_set_to own.quit key ≡ false → is_set_to own.susp key ≡ false
        → is_set_to own.erase key ≡ false → is_set_to own.kill key ≡ false → Means
    by_eof true e e1 e2 e3 e4 e5 = as_eof (set_to own.eof key e)
    by_eof false e e1 e2 e3 e4 e5 =
        let o : own_function own key ≡ None = λ i. of (e1 i) (e2 i) (e3 i) (e4 i) (e5 i) (e i) in as_other o (user o)

    by_kill : (b : Bool) → is_set_to own.kill key ≡ b → is_set_to own.intr key ≡ false → is_set_to own.quit key ≡ false → is_set_to own.susp key ≡ false
        → is_set_to own.erase key ≡ false → Means
    by_kill true e e1 e2 e3 e4 = as_kill (set_to own.kill key e)
    by_kill false e e1 e2 e3 e4 = by_eof (is_set_to own.eof key) refl e1 e2 e3 e4 e

    by_erase : (b : Bool) → is_set_to own.erase key ≡ b → is_set_to own.intr key ≡ false → is_set_to own.quit key ≡ false → is_set_to own.susp key ≡ false
        → Means
    by_erase true e e1 e2 e3 = as_erase (set_to own.erase key e)
    by_erase false e e1 e2 e3 = by_kill (is_set_to own.kill key) refl e1 e2 e3 e

    by_susp : (b : Bool) → is_set_to own.susp key ≡ b → is_set_to own.intr key ≡ false → is_set_to own.quit key ≡ false → Means
    by_susp true e e1 e2 = as_susp (set_to own.susp key e)
    by_susp false e e1 e2 = by_erase (is_set_to own.erase key) refl e1 e2 e

    by_quit : (b : Bool) → is_set_to own.quit key ≡ b → is_set_to own.intr key ≡ false → Means
    by_quit true e e1 = as_quit (set_to own.quit key e)
    by_quit false e e1 = by_susp (is_set_to own.susp key) refl e1 e

    by_intr : (b : Bool) → is_set_to own.intr key ≡ b → Means
    by_intr true e = as_intr (set_to own.intr key e)
    by_intr false e = by_quit (is_set_to own.quit key) refl e

-- the key that a return or another key becomes
becomes : (key : ℕ) (b : Bool) → (key == 13) ≡ b → mapped_key standard_flags key ≡ Some (if b then 10 else key)
becomes key true e = λ i. if e i then Some 10 else (if key == 10 && false then Some 13 else Some key)
becomes key false e = (λ i. if e i then Some 10 else (if key == 10 && false then Some 13 else Some key)) ∙ never (key == 10) (Some 13) (Some key) where
  never : (b : Bool) (x y : Option ℕ) → (if b && false then x else y) ≡ y
  never true x y = refl
  never false x y = refl

first : (chars : Characters) (key : ℕ) (b : Bool) (keys : List ℕ) → (key == 13) ≡ b
    → roles_of (with_chars chars) (key ∷ keys) ≡ role_of_mapped (with_chars chars) (if b then 10 else key) ∷ roles_of (with_chars chars) keys
first chars key b keys e = λ i. map (role_of_mapped (with_chars chars)) (cons_option (becomes key b e i) (mapped_keys standard_flags keys))

pub same_roles : (own : OwnCharacters) → AreAllowed (characters_of own) → (keys : List ℕ) → All (IsOfUser own) keys
    → roles_of (with_chars standard_characters) (map (mapped own) keys) ≡ roles_of (with_chars (characters_of own)) keys
same_roles own allowed [] users = refl
same_roles own allowed (key ∷ keys) users = by_return (means own allowed key (All-head (IsOfUser own) key keys users))
    (same_roles own allowed keys (All-tail (IsOfUser own) key keys users)) (key == 13) refl where
      by_return : Means own allowed key → roles_of (with_chars standard_characters) (map (mapped own) keys) ≡ roles_of (with_chars (characters_of own)) keys
          → (b : Bool) → (key == 13) ≡ b
          → roles_of (with_chars standard_characters) (map (mapped own) (key ∷ keys)) ≡ roles_of (with_chars (characters_of own)) (key ∷ keys)
      by_return key_means rest true e =
          first standard_characters (mapped own key) true (map (mapped own) keys) (key_means.1 ∙ e) ∙ (λ i. Nl ∷ rest i)
          ∙ sym (first (characters_of own) key true keys e)
      by_return key_means rest false e =
          first standard_characters (mapped own key) false (map (mapped own) keys) (key_means.1 ∙ e) ∙ (λ i. key_means.0 i ∷ rest i)
          ∙ sym (first (characters_of own) key false keys e)
