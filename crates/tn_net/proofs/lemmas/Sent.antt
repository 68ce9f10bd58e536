-- The bytes that were sent of a queue that was new, once both of its passes are joined.
use Rattle.std.proofs.Common.{◌≡◌, ℕ, arith, length, List, [], ◌∷◌, ◌++◌, Option, Some, None, option_map, refl, sym, ap, ◌∙◌, subst, append_assoc}
use Rattle.std.specs.Vec.{vec_items}
use Rattle.tn_cores.specs.queue.Queue.{one_of, taker}
use Rattle.tn_net.proofs.Queued.{bytes_of-append}
use Rattle.tn_net.specs.{Ends.IsSettled, Queue.{Pieces, PieceHand, IsSent, behind_end, bytes_of, count_behind, put_bytes, WritesTaken, WritesToTheEnd}}
use Rattle.tn_nvt.specs.Prefixes.{IsPrefixOf}

same_some : {A : Type 0} (a b : A) → Some a ≡ Some b → a ≡ b
same_some a b e = cc

-- nothing follows the end
empty : (qs : Pieces) → length qs ≡ 0 → qs ≡ []
empty [] e = refl
empty (q ∷ qs) e = absurd (omega (arith, e))

longer : (ps qs : Pieces) → length (ps ++ None ∷ qs) ≡ 0 → ⊥
longer [] qs e = omega (arith, e)
longer (p ∷ ps) qs e = omega (arith, e)

none_left : (ps qs : Pieces) → length (behind_end (ps ++ None ∷ qs)) ≡ 0 → bytes_of (ps ++ None ∷ qs) ≡ bytes_of ps
none_left [] qs e = ap bytes_of (empty qs e)
none_left (Some p ∷ ps) qs e = ap (λ (l : List ℕ). vec_items p ++ l) (none_left ps qs e)
none_left (None ∷ ps) qs e = absurd (longer ps qs e)

module _ (v w u : PieceHand) (over : IsSettled v w u) where
  is_put : u.put ≡ Some over.known.0
  is_put = ap (λ (h : PieceHand). h.put) over.joined ∙ ap (λ (o : Option Pieces). one_of o w.put) over.known.1

  is_taken : (pieces : Pieces) → w.taken ≡ Some pieces → u.taken ≡ Some pieces
  is_taken pieces e = ap (λ (h : PieceHand). h.taken) over.joined ∙ ap (λ (o : Option Pieces). one_of o w.taken) over.alone ∙ e

  all_bytes : put_bytes u ≡ Some (bytes_of over.known.0)
  all_bytes = ap (λ (o : Option Pieces). option_map bytes_of o) is_put

  -- the pieces that were put stay put
  pub put_stays : put_bytes u ≡ put_bytes v
  put_stays = all_bytes ∙ sym (ap (λ (o : Option Pieces). option_map bytes_of o) over.known.1)

  begins : (log : List ℕ) → WritesTaken (taker []) w (Some []) (Some log) → IsPrefixOf log (bytes_of over.known.0)
  begins log sent =
      let pieces = sent.0 in
      let written = sent.1 in
      let items = over.left.0 in
      let woven : pieces ++ items ≡ over.known.0 = over.left.1 over.known.0 pieces is_put (is_taken pieces (sent.2 [] refl)) in
      let logged : log ≡ written = sent.4 in
      let bytes : bytes_of pieces ++ bytes_of items ≡ bytes_of over.known.0 = sym (bytes_of-append pieces items) ∙ ap bytes_of woven in (
        sent.3.0 ++ bytes_of items,
        ap (λ (l : List ℕ). l ++ (sent.3.0 ++ bytes_of items)) logged ∙ sym (append_assoc written sent.3.0 (bytes_of items))
            ∙ ap (λ (l : List ℕ). l ++ bytes_of items) sent.3.1 ∙ bytes,
      )

  are_all : (log : List ℕ) → WritesToTheEnd (taker []) w (Some []) (Some log) → bytes_of over.known.0 ≡ log
  are_all log sent =
      let pieces = sent.0 in
      let items = over.left.0 in
      let woven : (pieces ++ None ∷ []) ++ items ≡ over.known.0 =
      over.left.1 over.known.0 (pieces ++ None ∷ []) is_put (is_taken (pieces ++ None ∷ []) (sent.1 [] refl)) in
      let is : pieces ++ None ∷ items ≡ over.known.0 = sym (append_assoc pieces (None ∷ []) items) ∙ woven in
      let none : length (behind_end (pieces ++ None ∷ items)) ≡ 0 =
      ap (λ (l : Pieces). length (behind_end l)) is ∙ sym (ap count_behind over.known.1) ∙ over.last in
      let logged : log ≡ bytes_of pieces = sent.2 in
      sym (ap bytes_of is) ∙ none_left pieces items none ∙ sym logged

  pub is_sent : (whole : Type 0) (log : List ℕ) → WritesTaken (taker []) w (Some []) (Some log)
      → (whole → WritesToTheEnd (taker []) w (Some []) (Some log)) → IsSent (put_bytes u) whole log
  is_sent whole log sent all = record {
    first = λ bytes e. subst (λ (l : List ℕ). IsPrefixOf log l) (same_some _ _ (sym all_bytes ∙ e)) (begins log sent);
    all = λ (is : whole). all_bytes ∙ ap Some (are_all log (all is));
  }
