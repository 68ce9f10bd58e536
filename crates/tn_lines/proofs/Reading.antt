-- A file that is read in pieces.
use Rattle.std.proofs.Common.{◌≡◌, ◌<◌, ℕ, ◌+◌, ◌==◌, Bool, false, List, [], ◌∷◌, ◌++◌, length, take, get_or, refl, sym, ap, ◌∙◌, append-nil, append_assoc}
use Rattle.std.proofs.lemmas.List.{take_more}
use Rattle.tn_lines.specs.{Said.{byte_said, said_from, ends_in_return, said_of, Reads}, declared.{lines.Lines.Lines, line_ends.LineEnd.LineEnd}}

pub said_from-append : (e : LineEnd) (after : Bool) (xs ys : List ℕ)
    → said_from e after (xs ++ ys) ≡ said_from e after xs ++ said_from e (ends_in_return after xs) ys
said_from-append e after [] ys = refl
said_from-append e after (x ∷ xs) ys =
    ap (λ (l : List ℕ). byte_said e after x ++ l) (said_from-append e (x == 13) xs ys)
    ∙ sym (append_assoc (byte_said e after x) (said_from e (x == 13) xs) (said_from e (ends_in_return (x == 13) xs) ys))

pub ends-append : (after : Bool) (xs ys : List ℕ) → ends_in_return after (xs ++ ys) ≡ ends_in_return (ends_in_return after xs) ys
ends-append after [] ys = refl
ends-append after (x ∷ xs) ys = ends-append (x == 13) xs ys

pub reads_all : (old new : Lines) (bytes said : List ℕ) → new.line_end ≡ old.line_end → new.after_return ≡ ends_in_return old.after_return bytes
    → said ≡ said_from old.line_end old.after_return bytes → Reads old bytes said new
reads_all old new bytes said same after is = record {
  leads = λ before had. after ∙ ap (λ (b : Bool). ends_in_return b bytes) had ∙ sym (ends-append false before bytes);
  says = λ before had.
      said_from-append old.line_end false before bytes
      ∙ ap (λ (b : Bool). said_of old.line_end before ++ said_from old.line_end b bytes) (sym had)
      ∙ ap (λ (l : List ℕ). said_of old.line_end before ++ l) (sym is);
  line_end = same;
}

-- ONE BYTE MORE

pub said_more : (e : LineEnd) (after : Bool) (bytes : List ℕ) (i : ℕ) → i < length bytes
    → said_from e after (take (i + 1) bytes) ≡ said_from e after (take i bytes) ++ byte_said e (ends_in_return after (take i bytes)) (get_or bytes i 0)
said_more e after bytes i within =
    ap (said_from e after) (take_more bytes i 0 within)
    ∙ said_from-append e after (take i bytes) (get_or bytes i 0 ∷ [])
    ∙ ap (λ (l : List ℕ). said_from e after (take i bytes) ++ l) (append-nil (byte_said e (ends_in_return after (take i bytes)) (get_or bytes i 0)))

pub ends_more : (after : Bool) (bytes : List ℕ) (i : ℕ) → i < length bytes → ends_in_return after (take (i + 1) bytes) ≡ (get_or bytes i 0 == 13)
ends_more after bytes i within =
    ap (ends_in_return after) (take_more bytes i 0 within) ∙ ends-append after (take i bytes) (get_or bytes i 0 ∷ [])
