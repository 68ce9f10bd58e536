use Rattle.std.proofs.Common.{inl, inr, Err, refl, sym, ap, ◌∙◌, arith}
use Rattle.tn_c.proofs.of_parts.Sifting.{sift_done, sift_stops, sift_fails}
use Rattle.tn_c.proofs.parts.owned.Owned.sift.Goals as goal

pub returns-in-Ok : goal.returns-in-Ok
returns-in-Ok c =
    sift_done c.args.self.now _ _ c.args.piece.now (omega (arith, c.len.ensures)) refl refl c.clear.ensures.items c.in-Ok.ensures.ok refl refl refl
    (λ is. absurd (let e = c.in-Ok.ensures.failed.1 is in cc))

pub returns-in-Err-Failed : goal.returns-in-Err-Failed
returns-in-Err-Failed c =
    let is = ap Err c.in-Err-Failed.field-0-is in
    sift_fails c.args.self.now _ _ c.args.piece.now (omega (arith, c.len.ensures)) refl refl (c.in-Err-Failed.ensures.failed_hands is)
    (c.in-Err-Failed.ensures.failed.0 is) c.in-Err-Failed.ensures.fails refl refl refl

pub returns-in-Err-Memory : goal.returns-in-Err-Memory
returns-in-Err-Memory c =
    sift_stops c.args.self.now _ _ c.args.piece.now (omega (arith, c.len.ensures)) refl refl c.clear.ensures.items
    (inr (c.in-Err-Memory.ensures.memory (ap Err c.in-Err-Memory.field-0-is))) c.in-Err-Memory.ensures.fails refl refl refl
    (λ is. absurd (let e = sym (ap Err c.in-Err-Memory.field-0-is) ∙ c.in-Err-Memory.ensures.failed.1 is in cc))

pub returns-in-Err-Refused : goal.returns-in-Err-Refused
returns-in-Err-Refused c =
    sift_stops c.args.self.now _ _ c.args.piece.now (omega (arith, c.len.ensures)) refl refl c.clear.ensures.items
    (inl (c.in-Err-Refused.ensures.refused (ap Err c.in-Err-Refused.field-0-is))) c.in-Err-Refused.ensures.fails refl refl refl
    (λ is. absurd (let e = sym (ap Err c.in-Err-Refused.field-0-is) ∙ c.in-Err-Refused.ensures.failed.1 is in cc))
