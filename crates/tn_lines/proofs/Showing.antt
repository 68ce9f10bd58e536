-- The bytes that are shown in pieces.
use Rattle.std.proofs.Common.{◌≡◌, ◌<◌, ℕ, ◌+◌, ◌==◌, Bool, false, List, [], ◌∷◌, ◌++◌, length, take, get_or, refl, sym, ap, ◌∙◌, append-nil, append_assoc}
use Rattle.std.proofs.lemmas.List.{take_more}
use Rattle.tn_lines.specs.{Said.ends_in_return, Edges.{byte_shown, shown_from, at_screen, ShowsOn}, declared.left_edge.LeftEdge.LeftEdge}
use Rattle.tn_lines.proofs.Reading.{ends-append}

shown_from-append : (t after : Bool) (xs ys : List ℕ) → shown_from t after (xs ++ ys) ≡ shown_from t after xs
    ++ shown_from t (ends_in_return after xs) ys
shown_from-append t after [] ys = refl
shown_from-append t after (x ∷ xs) ys =
    ap (λ (l : List ℕ). byte_shown t after x ++ l) (shown_from-append t (x == 13) xs ys)
    ∙ sym (append_assoc (byte_shown t after x) (shown_from t (x == 13) xs) (shown_from t (ends_in_return (x == 13) xs) ys))

pub shows_all : (old new : LeftEdge) (bytes shown : List ℕ) → new.at_terminal ≡ old.at_terminal → new.after_return ≡ ends_in_return old.after_return bytes
    → shown ≡ shown_from old.at_terminal old.after_return bytes → ShowsOn old bytes shown new
shows_all old new bytes shown same after is = record {
  leads = λ before had. after ∙ ap (λ (b : Bool). ends_in_return b bytes) had ∙ sym (ends-append false before bytes);
  shows = λ before had.
      shown_from-append old.at_terminal false before bytes
      ∙ ap (λ (b : Bool). at_screen old.at_terminal before ++ shown_from old.at_terminal b bytes) (sym had)
      ∙ ap (λ (l : List ℕ). at_screen old.at_terminal before ++ l) (sym is);
  at_terminal = same;
}

pub shown_more : (t after : Bool) (bytes : List ℕ) (i : ℕ) → i < length bytes
    → shown_from t after (take (i + 1) bytes) ≡ shown_from t after (take i bytes) ++ byte_shown t (ends_in_return after (take i bytes)) (get_or bytes i 0)
shown_more t after bytes i within =
    ap (shown_from t after) (take_more bytes i 0 within)
    ∙ shown_from-append t after (take i bytes) (get_or bytes i 0 ∷ [])
    ∙ ap (λ (l : List ℕ). shown_from t after (take i bytes) ++ l) (append-nil (byte_shown t (ends_in_return after (take i bytes)) (get_or bytes i 0)))
