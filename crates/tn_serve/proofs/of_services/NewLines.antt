-- The text of bytes that come in pieces.
use Rattle.std.proofs.Common.{◌≡◌, ℕ, ◌==◌, ◌&&◌, Bool, true, false, List, [], ◌∷◌, ◌++◌, refl, sym, ap, ap₂, ◌∙◌, append_assoc, ◌≤◌, length, arith}
use Rattle.std.proofs.{Common.if◌then◌else◌, lemmas.Bool.eqb-true}
use Rattle.tn_serve.specs.services.NewLines.{ends_by_return, new_lines, settled, shown_of, waiting}

-- one test decides by cases
with_end : (c : Bool) (byte : ℕ) (s w n : List ℕ) → s ++ w ≡ n → (if c then s else byte ∷ s) ++ w ≡ (if c then n else byte ∷ n)
with_end true byte s w n is = is
with_end false byte s w n is = ap (λ (l : List ℕ). byte ∷ l) is

last_waits : (c : Bool) (byte : ℕ) → (byte == 13) ≡ c → (if c then [] else byte ∷ []) ++ waiting c ≡ byte ∷ []
last_waits true byte is = ap (λ (n : ℕ). n ∷ []) (sym (eqb-true byte 13 is))
last_waits false byte is = refl

-- the bytes that are shown at once, and those that wait after them, are all
pub all : (front : List ℕ) → settled front ++ waiting (ends_by_return front) ≡ new_lines front
unfolding settled new_lines ends_by_return
all [] = refl
all (byte ∷ []) = last_waits (byte == 13) byte refl
all (byte ∷ next ∷ bytes) =
    with_end (byte == 13 && next == 10) byte (settled (next ∷ bytes)) (waiting (ends_by_return (next ∷ bytes))) (new_lines (next ∷ bytes)) (all (next ∷ bytes))

pub ends_more : (front : List ℕ) (byte : ℕ) (bytes : List ℕ) → ends_by_return (front ++ byte ∷ bytes) ≡ ends_by_return (byte ∷ bytes)
unfolding ends_by_return
ends_more [] byte bytes = refl
ends_more (x ∷ []) byte bytes = refl
ends_more (x ∷ y ∷ front) byte bytes = ends_more (y ∷ front) byte bytes

behind_one : (c : Bool) (x byte : ℕ) (bytes : List ℕ) → (x == 13) ≡ c
    → (if c && byte == 10 then settled (byte ∷ bytes) else x ∷ settled (byte ∷ bytes)) ≡ (if c then [] else x ∷ []) ++ settled (waiting c ++ byte ∷ bytes)
unfolding settled
behind_one true x byte bytes is = ap (λ (n : ℕ). if byte == 10 then settled (byte ∷ bytes) else n ∷ settled (byte ∷ bytes)) (eqb-true x 13 is)
behind_one false x byte bytes is = refl

-- more bytes are shown as after those that wait
pub settled_more : (front : List ℕ) (byte : ℕ) (bytes : List ℕ)
    → settled (front ++ byte ∷ bytes) ≡ settled front ++ settled (waiting (ends_by_return front) ++ byte ∷ bytes)
unfolding settled ends_by_return
settled_more [] byte bytes = refl
settled_more (x ∷ []) byte bytes = behind_one (x == 13) x byte bytes refl
settled_more (x ∷ y ∷ front) byte bytes =
    sym (with_end (x == 13 && y == 10) x (settled (y ∷ front)) (settled (waiting (ends_by_return (y ∷ front)) ++ byte ∷ bytes))
    (settled (y ∷ front ++ byte ∷ bytes))
    (sym (settled_more (y ∷ front) byte bytes)))

pub waits_alone : (b : Bool) → new_lines (waiting b) ≡ waiting b
unfolding new_lines
waits_alone true = refl
waits_alone false = refl

pub ends_waiting : (b : Bool) → ends_by_return (waiting b) ≡ b
unfolding ends_by_return
ends_waiting true = refl
ends_waiting false = refl

pub settled_waiting : (b : Bool) → settled (waiting b) ≡ []
unfolding settled
settled_waiting true = refl
settled_waiting false = refl

-- the new lines of some bytes are what is shown at once, and those of what waits
apart : (front : List ℕ) → new_lines front ≡ settled front ++ new_lines (waiting (ends_by_return front))
apart front = sym (all front) ∙ ap (λ (l : List ℕ). settled front ++ l) (sym (waits_alone (ends_by_return front)))

-- the bytes that came before are settled, but for those that wait
pub settles : (front : List ℕ) (reads : List (List ℕ)) → shown_of front reads ≡ settled front ++ shown_of (waiting (ends_by_return front)) reads
unfolding shown_of
settles front [] = apart front
settles front ([] ∷ reads) =
    ap (λ (l : List ℕ). l ++ shown_of [] reads) (apart front) ∙ append_assoc (settled front) (new_lines (waiting (ends_by_return front))) (shown_of [] reads)
settles front ((byte ∷ bytes) ∷ reads) =
    let held = waiting (ends_by_return front) in
    let more = held ++ byte ∷ bytes in
    let same : ends_by_return (front ++ byte ∷ bytes) ≡ ends_by_return more = ends_more front byte bytes ∙ sym (ends_more held byte bytes) in
    settles (front ++ byte ∷ bytes) reads
    ∙ ap₂ (λ (l : List ℕ) (b : Bool). l ++ shown_of (waiting b) reads) (settled_more front byte bytes) same
    ∙ append_assoc (settled front) (settled more) (shown_of (waiting (ends_by_return more)) reads)
    ∙ ap (λ (l : List ℕ). settled front ++ l) (sym (settles more reads))

-- ONE BYTE

pub one_return : (waits : Bool) → settled (waiting waits ++ 13 ∷ []) ≡ waiting waits
unfolding settled
one_return true = refl
one_return false = refl

pub one_feed : settled (waiting true ++ 10 ∷ []) ≡ 10 ∷ []
unfolding settled
one_feed = refl

pub one_other : (byte : ℕ) → (byte == 13) ≡ false → settled (byte ∷ []) ≡ byte ∷ []
unfolding settled
one_other byte other = ap (λ (c : Bool). if c then [] else byte ∷ []) other

pub other_waits_not : (byte : ℕ) → (byte == 13) ≡ false → false ≡ ends_by_return (byte ∷ [])
unfolding ends_by_return
other_waits_not byte other = sym other

pub return_waits : true ≡ ends_by_return (13 ∷ [])
unfolding ends_by_return
return_waits = refl

pub feed_waits_not : false ≡ ends_by_return (10 ∷ [])
unfolding ends_by_return
feed_waits_not = refl

behind_return : (c : Bool) (byte : ℕ) → (byte == 10) ≡ c → c ≡ false → settled (13 ∷ byte ∷ []) ≡ 13 ∷ settled (byte ∷ [])
unfolding settled
behind_return c byte is other = ap (λ (c : Bool). if c then settled (byte ∷ []) else 13 ∷ settled (byte ∷ [])) (is ∙ other)

pub both_other : (byte : ℕ) → (byte == 13) ≡ false → (byte == 10) ≡ false → settled (waiting true ++ byte ∷ []) ≡ 13 ∷ byte ∷ []
both_other byte other no_feed = behind_return (byte == 10) byte refl no_feed ∙ ap (λ (l : List ℕ). 13 ∷ l) (one_other byte other)

pub at_most_one : (b : Bool) → length (waiting b) ≤ 1
at_most_one true = omega arith
at_most_one false = omega arith

-- ONE BYTE MORE

pub byte_settles : (start before after front whole : List ℕ) (byte : ℕ) (waits : Bool) → whole ≡ front ++ byte ∷ [] → before ≡ start ++ settled front
    → waits ≡ ends_by_return front
    → after ≡ before ++ settled (waiting waits ++ byte ∷ []) → after ≡ start ++ settled whole
byte_settles start before after front whole byte waits more so holds put =
    let held = settled (waiting (ends_by_return front) ++ byte ∷ []) in
    put
    ∙ ap₂ (λ (l : List ℕ) (w : Bool). l ++ settled (waiting w ++ byte ∷ [])) so holds
    ∙ append_assoc start (settled front) held
    ∙ ap (λ (l : List ℕ). start ++ l) (sym (ap settled more ∙ settled_more front byte []))

pub byte_ends : (front whole : List ℕ) (byte : ℕ) (waits : Bool) → whole ≡ front ++ byte ∷ [] → waits ≡ ends_by_return (byte ∷ [])
    → waits ≡ ends_by_return whole
byte_ends front whole byte waits more is = is ∙ sym (ap ends_by_return more ∙ ends_more front byte [])
