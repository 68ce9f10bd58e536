-- A statement about every history follows from the half-typed line, and the other way round.
use Rattle.std.proofs.{Common.{◌≡◌, ℕ, ◌<◌, List, [], ◌∷◌, ◌++◌, length, refl, sym, ap, ◌∙◌, arith, length-append}, lemmas.List.append_cancel_left}
use Rattle.tn_discipline.specs.{HalfLine.{HalfLine, line_length}, Steps.{half_all, gain_all}, Entries.{entries_of, half_of}, declared.keys.Role.Role}
use Rattle.tn_discipline.specs.{Advancing.{LeadsTo, Advances, AdvancesFromLine}, declared.reads.Entry.Entry}
use Rattle.tn_discipline.proofs.lemmas.{Histories.{half-all, entries-all}, Reached.{typed, forwards}}

-- some keys leave this line, with these bytes ahead
abbrev history_of : (line : HalfLine) (sent : List ℕ) → line_length line < line.limit → length sent ≡ line.ahead → LeadsTo (typed (sent ++ line.held)) line
history_of line sent fits count = record {
  sent = sent;
  count = count;
  bytes = forwards line.limit (sent ++ line.held) (omega (arith, length-append sent line.held));
}

empty_of : (xs : List ℕ) → length xs ≡ 0 → xs ≡ []
empty_of [] h = refl
empty_of (x ∷ xs) h = absurd (omega arith)

pub moves_of : (old new : HalfLine) (roles : List Role) (gain : List Entry) → line_length old < old.limit → Advances old roles gain new
    → AdvancesFromLine old roles gain new
moves_of old new roles gain fits a =
    record {
      half = λ sent count.
          let before = history_of old sent fits count in
          let after = a.half (typed (sent ++ old.held)) before in (
            after.sent,
            after.count,
            ap (λ x. half_all old.limit x roles) (sym before.bytes) ∙ sym (half-all old.limit (typed (sent ++ old.held)) roles)
                ∙ ap (λ n. half_of n (typed (sent ++ old.held) ++ roles)) (sym a.limit) ∙ after.bytes,
          );
      entries = λ none.
          let before = history_of old [] fits (sym none) in
          append_cancel_left (entries_of old.limit (typed old.held)) gain (gain_all old.limit old.held roles)
          (sym (a.entries (typed old.held) before none) ∙ entries-all old.limit (typed old.held) roles
          ∙ ap (λ x. entries_of old.limit (typed old.held) ++ gain_all old.limit x roles) before.bytes);
      ahead = a.ahead;
      limit = a.limit;
    }

pub advances_of : (old new : HalfLine) (roles : List Role) (gain : List Entry) → AdvancesFromLine old roles gain new → Advances old roles gain new
advances_of old new roles gain m =
    record {
      half = λ history leads.
          let next = m.half leads.sent leads.count in
          record {
            sent = next.0;
            count = next.1;
            bytes = ap (λ n. half_of n (history ++ roles)) m.limit ∙ half-all old.limit history roles
                ∙ ap (λ x. half_all old.limit x roles) leads.bytes ∙ next.2;
          };
      entries = λ history leads none.
          entries-all old.limit history roles
          ∙ ap (λ x. entries_of old.limit history ++ gain_all old.limit x roles)
          (leads.bytes ∙ ap (λ x. x ++ old.held) (empty_of leads.sent (leads.count ∙ none)))
          ∙ ap (λ x. entries_of old.limit history ++ x) (sym (m.entries none));
      ahead = m.ahead;
      limit = m.limit;
    }
