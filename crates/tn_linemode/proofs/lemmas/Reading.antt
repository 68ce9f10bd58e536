-- The items that a piece of a stream adds, by the readings of the stream before it and with it.
use Rattle.std.proofs.{Common.{◌≡◌, ℕ, List, ◌++◌, refl, sym, ap, ◌∙◌, subst, append_assoc}, lemmas.List.append_cancel_left}
use Rattle.tn_nvt.specs.{Stream.Reading, declared.items.Item.Item}
use Rattle.tn_nvt.proofs.lemmas.Reading.{one_reading, reads_on}
use Rattle.tn_linemode.specs.Prefixes.{IsRead}

-- the items that a stream brings after the same items are the same
pub same_more : (bytes : List ℕ) (a b more others : List Item) → a ≡ b → IsRead bytes (a ++ more) → IsRead bytes (b ++ others) → more ≡ others
same_more bytes a b more others e r s =
    append_cancel_left b more others (ap (λ (xs : List Item). xs ++ more) (sym e) ∙ (one_reading bytes r.0 s.0 (a ++ more) (b ++ others) r.1 s.1).0)

-- the items that a piece brought in two parts
pub record Parts (stream p q : List ℕ) (had more : List Item) : Type 0 where
  pub first : List Item
  pub second : List Item
  pub whole : more ≡ first ++ second
  pub front : IsRead (stream ++ p) (had ++ first)
  pub all : IsRead ((stream ++ p) ++ q) ((had ++ first) ++ second)

-- if its first part has a reading
pub part_in_two : (stream p q : List ℕ) (had more : List Item) → IsRead stream had → (read : List Item) × (rest : List ℕ) × Reading (stream ++ p) read rest
    → IsRead (stream ++ (p ++ q)) (had ++ more) → Parts stream p q had more
part_in_two stream p q had more start r reads =
    let whole : IsRead ((stream ++ p) ++ q) (had ++ more) =
    subst (λ (bytes : List ℕ). IsRead bytes (had ++ more)) (sym (append_assoc stream p q)) reads in
    let one = reads_on stream p start.0 r.1 had r.0 start.1 r.2 in
    let two = reads_on (stream ++ p) q r.1 whole.0 r.0 (had ++ more) r.2 whole.1 in
    record {
      first = one.0;
      second = two.0;
      whole = append_cancel_left had more (one.0 ++ two.0) (two.1 ∙ ap (λ (xs : List Item). xs ++ two.0) one.1 ∙ append_assoc had one.0 two.0);
      front = (r.1, subst (λ (xs : List Item). Reading (stream ++ p) xs r.1) one.1 r.2);
      all = subst (λ (xs : List Item). IsRead ((stream ++ p) ++ q) xs) (two.1 ∙ ap (λ (xs : List Item). xs ++ two.0) one.1) whole;
    }

-- An end stopped in a piece, after its front: what was done of that comes first, then what was left and what the others bring.
pub stopped_in : {H : Type 0} (items : H → List Item) (gets : H → List Item → H) → ((h : H) (xs ys : List Item) → gets h (xs ++ ys) ≡ gets (gets h xs) ys)
    → (old start whole : H) (stream piece front back : List ℕ) (more done left : List Item) → old ≡ start → piece ≡ front ++ back
    → IsRead stream (items start) → IsRead (stream ++ front) (items start ++ (done ++ left)) → IsRead (stream ++ piece) (items old ++ more)
    → whole ≡ gets old more
    → (others : List Item) × (whole ≡ gets (gets start done) (left ++ others))
stopped_in items gets append old start whole stream piece front back more done left same cut began here reads is =
    let had = items start in
    let all : IsRead (stream ++ (front ++ back)) (had ++ more) =
    subst (λ bytes. IsRead (stream ++ bytes) (had ++ more)) cut (subst (λ h. IsRead (stream ++ piece) (items h ++ more)) same reads) in
    let t = part_in_two stream front back had more began (had ++ (done ++ left), here.0, here.1) all in
    let first = same_more (stream ++ front) had had t.first (done ++ left) refl t.front here in (
      t.second,
      is ∙ ap (λ h. gets h more) same
          ∙ ap (gets start) (t.whole ∙ ap (λ xs. xs ++ t.second) first ∙ append_assoc done left t.second)
          ∙ append start done (left ++ t.second),
    )
