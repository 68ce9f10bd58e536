-- The items that a printer takes, some and then more.
use Rattle.std.proofs.Common.{◌≡◌, ◌≢◌, ℕ, ◌+◌, ◌<◌, ◌≤◌, List, [], ◌∷◌, ◌++◌, map, length, take, drop, refl, sym, ap, ◌∙◌, subst, arith, append-nil}
use Rattle.std.proofs.{Common.{append_assoc, length-append, Result, Ok, Err, OnOk, IsOk}, Math.Seq.take-add}
use Rattle.std.proofs.lemmas.List.{map-append, take-append-drop, length-take-le}
use Rattle.tn_nvt.specs.{declared.items.Item.{Item, TheVariants.{Byte, Newline, Cmd, Neg, Sub}}, Sinks.{all_of, TakesEach}}
use Rattle.tn_nvt.proofs.lemmas.Folding.{taken_all}
use Rattle.tn_net.specs.printing.{Lines.{decoded, whole_line, EndsLine, IsSingle, max_data}, Texts.{data_text, item_text}}
use Rattle.tn_net.specs.printing.Printing.{Printing, Takes, TakesSome, FillsLine, EndsData, prefix_text}
use Rattle.tn_net.proofs.of_printing.Joining.{ends_none, ends_full, ends_single, ends_both, decoded_none, decoded_both, decoded_data, decoded_single}

pub takes_nothing : (old : Printing) → Takes old [] old
takes_nothing old = record {
  prefix = refl;
  front = [];
  whole = append-nil (map Byte old.held);
  ends = ends_none;
  printed = sym (ap (λ (xs : List ℕ). old.text ++ xs) (decoded_none (prefix_text old.prefix)) ∙ append-nil old.text);
  short = λ few. few;
}

pub takes_both : (old middle new : Printing) (xs ys : List Item) → Takes old xs middle → Takes middle ys new → Takes old (xs ++ ys) new
takes_both old middle new xs ys a b = record {
  prefix = b.prefix ∙ a.prefix;
  front = a.front ++ b.front;
  whole =
      sym (append_assoc (map Byte old.held) xs ys)
      ∙ ap (λ (zs : List Item). zs ++ ys) a.whole
      ∙ append_assoc a.front (map Byte middle.held) ys
      ∙ ap (λ (zs : List Item). a.front ++ zs) b.whole
      ∙ sym (append_assoc a.front b.front (map Byte new.held));
  ends = ends_both a.front b.front a.ends b.ends;
  printed =
      b.printed
      ∙ ap (λ p. middle.text ++ decoded (prefix_text p) b.front) a.prefix
      ∙ ap (λ (zs : List ℕ). zs ++ decoded (prefix_text old.prefix) b.front) a.printed
      ∙ append_assoc old.text (decoded (prefix_text old.prefix) a.front) (decoded (prefix_text old.prefix) b.front)
      ∙ ap (λ (zs : List ℕ). old.text ++ zs) (sym (decoded_both (prefix_text old.prefix) a.front b.front a.ends));
  short = λ few. b.short (a.short few);
}

-- data that do not fill the line are held
pub takes_short : (old new : Printing) (bytes : List ℕ) → new.prefix ≡ old.prefix → new.text ≡ old.text → new.held ≡ old.held ++ bytes
    → length new.held < max_data → Takes old (map Byte bytes) new
takes_short old new bytes prefix text held short = record {
  prefix = prefix;
  front = [];
  whole = sym (map-append Byte old.held bytes) ∙ ap (map Byte) (sym held);
  ends = ends_none;
  printed = text ∙ sym (ap (λ (xs : List ℕ). old.text ++ xs) (decoded_none (prefix_text old.prefix)) ∙ append-nil old.text);
  short = λ few. short;
}

-- data that fill the line are printed with those that were held
pub takes_full : (old new : Printing) (bytes : List ℕ) → new.prefix ≡ old.prefix → length (old.held ++ bytes) ≡ max_data
    → new.text ≡ old.text ++ whole_line (prefix_text old.prefix) (data_text (old.held ++ bytes)) → new.held ≡ [] → Takes old (map Byte bytes) new
takes_full old new bytes prefix full text none =
    let printed = printed_full (prefix_text old.prefix) (old.held ++ bytes) full in
    record {
      prefix = prefix;
      front = map Byte (old.held ++ bytes);
      whole = sym (map-append Byte old.held bytes) ∙ sym (append-nil (map Byte (old.held ++ bytes)))
          ∙ ap (λ (xs : List ℕ). map Byte (old.held ++ bytes) ++ map Byte xs) (sym none);
      ends = full_ends (old.held ++ bytes) full;
      printed = text ∙ ap (λ (xs : List ℕ). old.text ++ xs) (sym printed);
      short = λ few. omega (arith, ap length none);
    }
  where
    full_ends : (xs : List ℕ) → length xs ≡ max_data → EndsLine (map Byte xs)
    full_ends [] len = absurd (omega (arith, len))
    full_ends (x ∷ xs) len = ends_full x xs len

    printed_full : (p xs : List ℕ) → length xs ≡ max_data → decoded p (map Byte xs) ≡ whole_line p (data_text xs)
    printed_full p [] len = absurd (omega (arith, len))
    printed_full p (x ∷ xs) len = decoded_data p x xs (omega (arith, len))

-- an item that is no data is printed after the data that were held
pub takes_single : (old new : Printing) (item : Item) → IsSingle item → new.prefix ≡ old.prefix
    → new.text ≡ old.text ++ (decoded (prefix_text old.prefix) (map Byte old.held) ++ whole_line (prefix_text old.prefix) (item_text item)) → new.held ≡ []
    → Takes old (item ∷ []) new
takes_single old new item is prefix text none = record {
  prefix = prefix;
  front = map Byte old.held ++ item ∷ [];
  whole = sym (append-nil (map Byte old.held ++ item ∷ [])) ∙ ap (λ (xs : List ℕ). (map Byte old.held ++ item ∷ []) ++ map Byte xs) (sym none);
  ends = ends_single old.held item is;
  printed = text ∙ ap (λ (xs : List ℕ). old.text ++ xs) (sym (decoded_single (prefix_text old.prefix) old.held item is));
  short = λ few. omega (arith, ap length none);
}

-- a run of which this number of bytes more was taken
pub takes_front : (old middle new : Printing) (bytes : List ℕ) (n m : ℕ) → Takes old (map Byte (take n bytes)) middle
    → Takes middle (map Byte (take m (drop n bytes))) new → Takes old (map Byte (take (n + m) bytes)) new
takes_front old middle new bytes n m a b =
    let both : map Byte (take (n + m) bytes) ≡ map Byte (take n bytes) ++ map Byte (take m (drop n bytes)) =
    ap (map Byte) (take-add n m bytes) ∙ map-append Byte (take n bytes) (take m (drop n bytes)) in
    subst (λ (xs : List Item). Takes old xs new) (sym both) (takes_both old middle new (map Byte (take n bytes)) (map Byte (take m (drop n bytes))) a b)

-- all that was held and came is printed or held
pub taken_whole : (old new : Printing) (items : List Item) → old.text ≡ [] → old.held ≡ [] → Takes old items new
    → new.text ++ decoded (prefix_text old.prefix) (map Byte new.held) ≡ decoded (prefix_text old.prefix) items
taken_whole old new items text held t =
    let p = prefix_text old.prefix in
    let whole : items ≡ t.front ++ map Byte new.held = ap (λ (xs : List ℕ). map Byte xs ++ items) (sym held) ∙ t.whole in
    ap (λ (xs : List ℕ). xs ++ decoded p (map Byte new.held)) (t.printed ∙ ap (λ (xs : List ℕ). xs ++ decoded p t.front) text)
    ∙ sym (decoded_both p t.front (map Byte new.held) t.ends)
    ∙ ap (decoded p) (sym whole)

-- the printer stands in a run: these bytes were taken, and those that are left fill a line
pub some_of_run : (old here : Printing) (bytes : List ℕ) (n : ℕ) → Takes old (map Byte (take n bytes)) here
    → max_data ≤ length here.held + length (drop n bytes) → TakesSome old (map Byte bytes) here
some_of_run old here bytes n taken fills = record {
  done = map Byte (take n bytes);
  left = map Byte (drop n bytes);
  all = ap (map Byte) (sym (take-append-drop n bytes)) ∙ map-append Byte (take n bytes) (drop n bytes);
  taken = taken;
  fills = subst FillsLine (map-append Byte here.held (drop n bytes))
      (filled (here.held ++ drop n bytes) (omega (arith, length-append here.held (drop n bytes))));
}
  where
    first_fills : (xs : List ℕ) → length xs ≡ max_data → (map Byte xs ≢ []) × EndsLine (map Byte xs)
    first_fills [] len = absurd (omega (arith, len))
    first_fills (x ∷ xs) len = (λ e. absurd (cc), ends_full x xs len)

    filled : (xs : List ℕ) → max_data ≤ length xs → FillsLine (map Byte xs)
    filled xs len =
        let first = first_fills (take max_data xs) (length-take-le max_data xs len) in
        record {
          front = map Byte (take max_data xs);
          back = map Byte (drop max_data xs);
          whole = ap (map Byte) (sym (take-append-drop max_data xs)) ∙ map-append Byte (take max_data xs) (drop max_data xs);
          some = first.0;
          ends = first.1;
        }

-- the printer stands at an item that is no data, which fills a line
pub none_of_single : (old : Printing) (item : Item) → IsSingle item → TakesSome old (item ∷ []) old
none_of_single old item is = record {
  done = [];
  left = item ∷ [];
  all = refl;
  taken = takes_nothing old;
  fills = record {
    front = map Byte old.held ++ item ∷ [];
    back = [];
    whole = sym (append-nil (map Byte old.held ++ item ∷ []));
    some = not_empty old.held;
    ends = ends_single old.held item is;
  };
}
  where
    not_empty : (held : List ℕ) → map Byte held ++ item ∷ [] ≢ []
    not_empty [] e = absurd (cc)
    not_empty (b ∷ bs) e = absurd (cc)

-- the items that calls one after another took
pub taken_by_all : (old new : Printing) (calls : List (List Item)) → TakesEach Takes old calls new → Takes old (all_of calls) new
taken_by_all old new calls taken = taken_all Takes TakesSome Takes takes_nothing takes_both old new calls taken

pub single_other : (item : Item) → ((b : ℕ) → item ≡ Byte b → ⊥) → IsSingle item
single_other (Byte b) other = other b refl
single_other Newline other = tt
single_other (Cmd command) other = tt
single_other (Neg verb option) other = tt
single_other (Sub option params) other = tt

no_bytes : (xs : List ℕ) → length xs ≡ 0 → xs ≡ []
no_bytes [] none = refl
no_bytes (x ∷ xs) none = absurd (omega arith)

pub decoded_empty : (prefix held : List ℕ) → length held ≡ 0 → decoded prefix (map Byte held) ≡ []
decoded_empty prefix held none = ap (λ (xs : List ℕ). decoded prefix (map Byte xs)) (no_bytes held none) ∙ decoded_none prefix

-- the line of data that are held
pub held_line : (prefix held : List ℕ) → length held ≢ 0 → length held < max_data → whole_line prefix (data_text (held ++ [])) ≡ decoded prefix (map Byte held)
held_line prefix [] some short = absurd (some refl)
held_line prefix (b ∷ bs) some short = ap (λ (xs : List ℕ). whole_line prefix (data_text xs)) (append-nil (b ∷ bs))
    ∙ sym (decoded_data prefix b bs (omega arith))

-- no data are held
pub ends_nothing : (here : Printing) → length here.held ≡ 0 → EndsData here here
ends_nothing here none = record {
  prefix = refl;
  printed = sym (ap (λ (xs : List ℕ). here.text ++ xs) (decoded_empty (prefix_text here.prefix) here.held none) ∙ append-nil here.text);
  none = no_bytes here.held none;
}

pub ends_held : (old new : Printing) → length old.held ≢ 0 → length old.held < max_data → new.prefix ≡ old.prefix
    → new.text ≡ old.text ++ whole_line (prefix_text old.prefix) (data_text (old.held ++ [])) → new.held ≡ [] → EndsData old new
ends_held old new some short prefix text none = record {
  prefix = prefix;
  printed = text ∙ ap (λ (xs : List ℕ). old.text ++ xs) (held_line (prefix_text old.prefix) old.held some short);
  none = none;
}

pub ok_gives : {T E P : Type 0} (r : Result T E) → IsOk r → OnOk r P → P
ok_gives (Ok x) ok p = p
ok_gives (Err e) ok p = absurd (cc)
