-- Items lead a printer to one state.
use Rattle.std.proofs.Common.{◌≡◌, ℕ, ◌<◌, ◌≤◌, inl, inr, List, [], ◌∷◌, ◌++◌, map, length, refl, sym, ap, ◌∙◌, subst, arith, append-nil, append_assoc}
use Rattle.std.proofs.{Common.length-append, lemmas.{List.{append_cancel_left, map-append}, Bool.cases_lt}}
use Rattle.tn_nvt.specs.declared.items.Item.{Item, TheVariants.Byte}
use Rattle.tn_net.specs.printing.{Lines.{decoded, lines_of, EndsLine, max_data}, Printing.{Printing, Takes, prefix_text}, Texts.data_text}
use Rattle.tn_net.specs.declared.printing.printer.Prefix.{Prefix}
use Rattle.tn_net.proofs.of_printing.Joining.{short_line}

-- the longer of two fronts of one list goes on with what follows the shorter
goes_on : (xs ys back others : List Item) → xs ++ back ≡ ys ++ others → length xs ≤ length ys → (more : List Item) × (ys ≡ xs ++ more) × (back ≡ more ++ others)
goes_on [] ys back others e le = (ys, refl, e)
goes_on (x ∷ xs) [] back others e le = absurd (omega arith)
goes_on (x ∷ xs) (y ∷ ys) back others e le =
    let head : x ≡ y = cc in
    let tail : xs ++ back ≡ ys ++ others = cc in
    let on = goes_on xs ys back others tail (omega arith) in
    (on.0, ap (λ z. z ∷ ys) (sym head) ∙ ap (λ (zs : List Item). x ∷ zs) on.1, on.2)

same_bytes : (xs ys : List ℕ) → map Byte xs ≡ map Byte ys → xs ≡ ys
same_bytes [] [] e = refl
same_bytes [] (y ∷ ys) e = absurd (cc)
same_bytes (x ∷ xs) [] e = absurd (cc)
same_bytes (x ∷ xs) (y ∷ ys) e =
    let head : x ≡ y = cc in
    let tail : map Byte xs ≡ map Byte ys = cc in
    ap (λ z. z ∷ xs) head ∙ ap (λ (zs : List ℕ). y ∷ zs) (same_bytes xs ys tail)

-- items before bytes, among bytes, are bytes
bytes_before : (front : List Item) (xs ys : List ℕ) → map Byte xs ≡ front ++ map Byte ys → (bytes : List ℕ) × (front ≡ map Byte bytes)
    × (length bytes ≤ length xs)
bytes_before [] xs ys e = ([], refl, omega arith)
bytes_before (item ∷ items) [] ys e = absurd (cc)
bytes_before (item ∷ items) (x ∷ xs) ys e =
    let head : Byte x ≡ item = cc in
    let tail : map Byte xs ≡ items ++ map Byte ys = cc in
    let before = bytes_before items xs ys tail in
    (x ∷ before.0, ap (λ z. z ∷ items) (sym head) ∙ ap (λ (zs : List Item). Byte x ∷ zs) before.1, omega (arith, before.2))

ends_behind : (xs ys : List Item) → EndsLine xs → EndsLine (xs ++ ys) → EndsLine ys
ends_behind xs ys first both more =
    append_cancel_left (lines_of xs) (lines_of (ys ++ more)) (lines_of ys ++ lines_of more)
    (sym (first (ys ++ more))
    ∙ ap lines_of (sym (append_assoc xs ys more))
    ∙ both more
    ∙ ap (λ (zs : List (List ℕ)). zs ++ lines_of more) (first ys)
    ∙ append_assoc (lines_of xs) (lines_of ys) (lines_of more))

-- no line ends within data that do not fill it
none_ends : (bytes : List ℕ) → EndsLine (map Byte bytes) → length bytes < max_data → bytes ≡ []
none_ends [] ends short = refl
none_ends (b ∷ bs) ends short =
    let longer : lines_of (map Byte (b ∷ bs) ++ Byte 0 ∷ []) ≡ data_text (b ∷ bs ++ 0 ∷ []) ∷ [] =
    ap lines_of (sym (map-append Byte (b ∷ bs) (0 ∷ []))) ∙ short_line b (bs ++ 0 ∷ []) (omega (arith, length-append bs (0 ∷ [])))
    in
    let two : data_text (b ∷ bs ++ 0 ∷ []) ∷ [] ≡ (data_text (b ∷ bs) ∷ []) ++ (data_text (0 ∷ []) ∷ []) =
    sym longer ∙ ends (Byte 0 ∷ []) ∙ ap (λ (zs : List (List ℕ)). zs ++ lines_of (Byte 0 ∷ [])) (short_line b bs (omega arith))
    ∙ ap (λ (zs : List (List ℕ)). (data_text (b ∷ bs) ∷ []) ++ zs) (short_line 0 [] (omega arith))
    in
    absurd (omega (arith, ap length two))

shorter_front : (xs ys : List Item) (held others : List ℕ) → EndsLine xs → EndsLine ys → length held < max_data
    → xs ++ map Byte held ≡ ys ++ map Byte others → length xs ≤ length ys → (xs ≡ ys) × (held ≡ others)
shorter_front xs ys held others first then short e le =
    let on = goes_on xs ys (map Byte held) (map Byte others) e le in
    let before = bytes_before on.0 held others on.2 in
    let ends : EndsLine (map Byte before.0) = subst EndsLine before.1 (ends_behind xs on.0 first (subst EndsLine on.1 then)) in
    let none : before.0 ≡ [] = none_ends before.0 ends (omega (arith, before.2)) in
    let nothing : on.0 ≡ [] = before.1 ∙ ap (map Byte) none in (
      sym (on.1 ∙ ap (λ (zs : List Item). xs ++ zs) nothing ∙ append-nil xs),
      same_bytes held others (on.2 ∙ ap (λ (zs : List Item). zs ++ map Byte others) nothing),
    )

abbrev printing : Prefix → List ℕ → List ℕ → Printing
printing prefix text held = record { prefix = prefix; text = text; held = held }

pub one_state : (old a b : Printing) (items : List Item) → length old.held < max_data → Takes old items a → Takes old items b → a ≡ b
one_state old a b items few s t =
    let same = sym s.whole ∙ t.whole in
    let both : (s.front ≡ t.front) × (a.held ≡ b.held) = elim (cases_lt (length s.front) (length t.front)) [
      | inl lt ↦ shorter_front s.front t.front a.held b.held s.ends t.ends (s.short few) same (omega arith)
      | inr le ↦ let back = shorter_front t.front s.front b.held a.held t.ends s.ends (t.short few) (sym same) le in (sym back.0, sym back.1)
    ] in
    let prefix : a.prefix ≡ b.prefix = s.prefix ∙ sym t.prefix in
    let text : a.text ≡ b.text = s.printed ∙ ap (λ (xs : List Item). old.text ++ decoded (prefix_text old.prefix) xs) both.0 ∙ sym t.printed in
    ap (λ p. printing p a.text a.held) prefix ∙ ap (λ (xs : List ℕ). printing b.prefix xs a.held) text ∙ ap (printing b.prefix b.text) both.1
