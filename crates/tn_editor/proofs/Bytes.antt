-- The bytes of characters, and what ERASEs leave of them.
use Rattle.std.proofs.Common.{◌≡◌, ◌≤◌, ℕ, zero, suc, ◌-◌, Bool, true, false, List, [], ◌∷◌, ◌++◌, length, take, drop, replicate, refl, sym, ap, ◌∙◌, if◌then◌else◌}
use Rattle.std.proofs.{Common.{arith, append-nil, append_assoc, length-append, length-take, take-append-drop}, lemmas.List.{take_all, take_at, take-take}}
use Rattle.tn_discipline.specs.Steps.{front, half_all, gain_all}
use Rattle.tn_discipline.specs.declared.keys.Role.TheVariants as role
use Rattle.tn_editor.specs.Grouping.{announced, look, newest, before_newest, bytes_of, continues, with_byte, wanted, past, parts_words, before_word}
use Rattle.tn_editor.specs.{Edited.{line_bytes, without_last, without_word}, declared.edit_keys.Words.Words}

bytes_newest : (cs : List (List ℕ)) → bytes_of (before_newest cs) ++ newest cs ≡ bytes_of cs
bytes_newest [] = refl
bytes_newest (c ∷ before) = refl

joined_by_test : (b : Bool) (cs : List (List ℕ)) (byte : ℕ)
    → bytes_of (if b then (newest cs ++ byte ∷ []) ∷ before_newest cs else (byte ∷ []) ∷ cs) ≡ bytes_of cs ++ byte ∷ []
joined_by_test true cs byte =
    sym (append_assoc (bytes_of (before_newest cs)) (newest cs) (byte ∷ [])) ∙ ap (λ bytes. bytes ++ byte ∷ []) (bytes_newest cs)
joined_by_test false cs byte = refl

-- the bytes with one more
pub bytes_joined : (iutf8 : Bool) (cs : List (List ℕ)) (byte : ℕ) → bytes_of (with_byte iutf8 cs byte) ≡ bytes_of cs ++ byte ∷ []
bytes_joined iutf8 cs byte = joined_by_test (continues iutf8 (look (newest cs)) byte) cs byte

-- leading characters are bytes at the front
pub record Front (whole front : List ℕ) : Type 0 where
  pub rest : List ℕ
  pub is_whole : whole ≡ front ++ rest

front_all : (xs : List ℕ) → Front xs xs
front_all xs = record { rest = []; is_whole = sym (append-nil xs) }

front_of_front : (xs ys zs : List ℕ) → Front xs ys → Front ys zs → Front xs zs
front_of_front xs ys zs p q =
    record { rest = q.rest ++ p.rest; is_whole = p.is_whole ∙ ap (λ bytes. bytes ++ p.rest) q.is_whole ∙ append_assoc zs q.rest p.rest }

past_by_test : (b : Bool) (c : List ℕ) (before after : List (List ℕ)) → Front (bytes_of before) (bytes_of after)
    → Front (bytes_of before ++ c) (bytes_of (if b then after else c ∷ before))
past_by_test true c before after p =
    record { rest = p.rest ++ c; is_whole = ap (λ bytes. bytes ++ c) p.is_whole ∙ append_assoc (bytes_of after) p.rest c }
past_by_test false c before after p = front_all (bytes_of before ++ c)

past_front : (test : List ℕ → Bool) (cs : List (List ℕ)) → Front (bytes_of cs) (bytes_of (past test cs))
past_front test [] = front_all []
past_front test (c ∷ before) = past_by_test (test c) c before (past test before) (past_front test before)

pub word_front : (w : Words) (cs : List (List ℕ)) → Front (bytes_of cs) (bytes_of (before_word w cs))
word_front w cs =
    let parted = past (λ c. parts_words w (look c)) cs in
    front_of_front (bytes_of cs) (bytes_of parted) (bytes_of (before_word w cs)) (past_front (λ c. parts_words w (look c)) cs) (past_front _ parted)

-- ERASES
erases_take : (limit n : ℕ) (half : List ℕ) → half_all limit half (replicate n role.Erase) ≡ take (length half - n) half
erases_take limit zero half = sym (take_all (length half - 0) half (omega arith))
erases_take limit (suc n) half =
    erases_take limit n (front half)
    ∙ take-take (length (front half) - n) (length half - 1) half (omega (arith, length-take (length half - 1) half))
    ∙ ap (λ k. take k half) (omega (arith, length-take (length half - 1) half))

pub erases_leave : (limit n : ℕ) (xs ys : List ℕ) → n ≡ length ys → half_all limit (xs ++ ys) (replicate n role.Erase) ≡ xs
erases_leave limit n xs ys is =
    erases_take limit n (xs ++ ys) ∙ take_at xs ys (length (xs ++ ys) - n) (omega (arith, is, length-append xs ys))

pub erases_give_nothing : (limit n : ℕ) (half : List ℕ) → gain_all limit half (replicate n role.Erase) ≡ []
erases_give_nothing limit zero half = refl
erases_give_nothing limit (suc n) half = erases_give_nothing limit n (front half)

-- an ERASE for each byte after the front leaves the front
pub erases_to : (limit : ℕ) (whole front : List ℕ) → Front whole front
    → half_all limit whole (replicate (length whole - length front) role.Erase) ≡ front
erases_to limit whole front p =
    ap (λ bytes. half_all limit bytes (replicate (length whole - length front) role.Erase)) p.is_whole
    ∙ erases_leave limit (length whole - length front) front p.rest (omega (arith, ap length p.is_whole, length-append front p.rest))

-- BYTES AHEAD
pub joined_after : (iutf8 : Bool) (ahead : List ℕ) (cs : List (List ℕ)) (byte : ℕ)
    → ahead ++ bytes_of (with_byte iutf8 cs byte) ≡ (ahead ++ bytes_of cs) ++ byte ∷ []
joined_after iutf8 ahead cs byte =
    ap (λ bytes. ahead ++ bytes) (bytes_joined iutf8 cs byte) ∙ sym (append_assoc ahead (bytes_of cs) (byte ∷ []))

front_after : (ahead xs ys : List ℕ) → Front xs ys → Front (ahead ++ xs) (ahead ++ ys)
front_after ahead xs ys p =
    record { rest = p.rest; is_whole = ap (λ bytes. ahead ++ bytes) p.is_whole ∙ sym (append_assoc ahead ys p.rest) }

front_ahead : (ahead : List ℕ) → Front (ahead ++ []) (front ahead ++ [])
front_ahead ahead =
    let rest = drop (length ahead - 1) ahead in
    record {
      rest = rest;
      is_whole = append-nil ahead ∙ sym (take-append-drop (length ahead - 1) ahead) ∙ ap (λ bytes. bytes ++ rest) (sym (append-nil (front ahead)));
    }

pub erased_front : (ahead : List ℕ) (cs : List (List ℕ)) → Front (ahead ++ bytes_of cs) (line_bytes (without_last ahead cs))
erased_front ahead [] = front_ahead ahead
erased_front ahead (c ∷ before) = front_after ahead (bytes_of before ++ c) (bytes_of before) (record { rest = c; is_whole = refl })

pub word_erased_front : (w : Words) (ahead : List ℕ) (cs : List (List ℕ)) → Front (ahead ++ bytes_of cs) (line_bytes (without_word w ahead cs))
word_erased_front w ahead [] = front_ahead ahead
word_erased_front w ahead (c ∷ before) =
    front_after ahead (bytes_of (c ∷ before)) (bytes_of (before_word w (c ∷ before))) (word_front w (c ∷ before))

-- ROOM
one_by_test : (a b c : Bool) → 1 ≤ (if a then 2 else (if b then 3 else (if c then 4 else 1)))
one_by_test true b c = omega arith
one_by_test false true c = omega arith
one_by_test false false true = omega arith
one_by_test false false false = omega arith

pub announced_some : (iutf8 : Bool) (byte : ℕ) → 1 ≤ announced iutf8 byte
announced_some true byte = one_by_test _ _ _
announced_some false byte = omega arith

wanted_by_test : (b : Bool) (n : ℕ) → 1 ≤ n → 1 ≤ (if b then 1 else n)
wanted_by_test true n h = omega arith
wanted_by_test false n h = h

pub wanted_some : (iutf8 : Bool) (cs : List (List ℕ)) (byte : ℕ) → 1 ≤ wanted iutf8 cs byte
wanted_some iutf8 cs byte = wanted_by_test (continues iutf8 (look (newest cs)) byte) (announced iutf8 byte) (announced_some iutf8 byte)
