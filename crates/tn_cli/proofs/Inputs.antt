-- An input that is read piece by piece.
use Rattle.std.proofs.Common.{◌≡◌, ◌≤◌, ℕ, ◌+◌, List, [], ◌++◌, length, length-append, Option, Some, None, inl, inr, refl, sym, ap, ◌∙◌, arith, append_assoc}
use Rattle.std.specs.Io.KnownBytes.{Consumes, Keeps}
use Rattle.tn_cli.specs.Streams.{KeepsPiece}

pub consumes_both : (old mid new : Option (List ℕ)) (xs ys : List ℕ) → Consumes old mid xs → Consumes mid new ys → Consumes old new (xs ++ ys)
consumes_both None mid new xs ys first then = tt
consumes_both (Some o) None new xs ys first then = absurd first
consumes_both (Some o) (Some m) None xs ys first then = absurd then
consumes_both (Some o) (Some m) (Some n) xs ys first then = first ∙ ap (λ (zs : List ℕ). xs ++ zs) then ∙ sym (append_assoc xs ys n)

pub consumes_none : (here : Option (List ℕ)) → Consumes here here []
consumes_none None = tt
consumes_none (Some xs) = refl

-- this number of bytes was read, and they were kept if as many were
pub record HasKept (total : ℕ) (old new : Option (List ℕ)) (kept : List ℕ) : Type 0 where
  pub bytes : List ℕ
  pub consumed : Consumes old new bytes
  pub count : length bytes ≡ total
  pub all : length kept ≡ total → kept ≡ bytes
  pub within : length kept ≤ total

pub kept_none : (here : Option (List ℕ)) (kept : List ℕ) → kept ≡ [] → HasKept 0 here here kept
kept_none here kept none = record {
  bytes = [];
  consumed = consumes_none here;
  count = refl;
  all = λ same. none;
  within = omega (arith, ap length none);
}

-- a read that gave nothing
pub kept_again : (total : ℕ) (old mid new : Option (List ℕ)) (kept : List ℕ) → HasKept total old mid kept → Keeps mid new → HasKept total old new kept
kept_again total old mid new kept had same = record {
  bytes = had.bytes;
  consumed = consumes_kept old mid new had.bytes had.consumed same;
  count = had.count;
  all = had.all;
  within = had.within;
}
  where
    consumes_kept : (a b c : Option (List ℕ)) (xs : List ℕ) → Consumes a b xs → Keeps b c → Consumes a c xs
    consumes_kept None b c xs one two = tt
    consumes_kept (Some o) None c xs one two = absurd one
    consumes_kept (Some o) (Some m) None xs one two = absurd two
    consumes_kept (Some o) (Some m) (Some n) xs one two = one ∙ ap (λ (zs : List ℕ). xs ++ zs) (sym two)

-- a piece more
pub kept_more : (total : ℕ) (old mid new : Option (List ℕ)) (before after piece : List ℕ) → HasKept total old mid before → Consumes mid new piece
    → KeepsPiece total piece before after → HasKept (total + length piece) old new after
kept_more total old mid new before after piece had consumed (inl (whole, added)) =
    let is = added ∙ ap (λ (xs : List ℕ). xs ++ piece) (had.all whole) in
    record {
      bytes = had.bytes ++ piece;
      consumed = consumes_both old mid new had.bytes piece had.consumed consumed;
      count = length-append had.bytes piece ∙ ap (λ n. n + length piece) had.count;
      all = λ same. is;
      within = omega (arith, ap length is, length-append had.bytes piece, had.count);
    }
kept_more total old mid new before after piece had consumed (inr less) = record {
  bytes = had.bytes ++ piece;
  consumed = consumes_both old mid new had.bytes piece had.consumed consumed;
  count = length-append had.bytes piece ∙ ap (λ n. n + length piece) had.count;
  all = λ same. absurd (omega (arith, same, less));
  within = omega (arith, less);
}
