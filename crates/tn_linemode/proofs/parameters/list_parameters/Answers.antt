use Rattle.std.proofs.Common.{◌<◌, ◌+◌, ◌*◌, ◌∷◌, ◌++◌, [], ℕ, List, length, slice_index_or, ap, ◌∙◌, arith}
use Rattle.tn_codes.specs.{Payloads.slc, declared.triples.Triple.Triple}
use Rattle.tn_linemode.proofs.Filling.{length-three, three_more, octets_more}
use Rattle.tn_linemode.proofs.parameters.list_parameters.Goals as goal

pub loop-i-preserved : goal.loop-i-preserved
loop-i-preserved c =
    let i = c.loop-i.i in
    let none : Triple = record { func = 0; flags = 0; value = 0 } in
    let triple = slice_index_or c.args.triples.now i none in
    let within : i < length c.args.triples.now = omega arith in
    let room : 3 * i + 1 + 2 < length c.loop-i.parameters = omega (arith, c.loop-i.invariant.len) in
    record {
      len = length-three c.loop-i.parameters (3 * i + 1) triple.func triple.flags triple.value ∙ c.loop-i.invariant.len;
      so_far =
          three_more c.loop-i.parameters (3 * i + 1) _ triple.func triple.flags triple.value (omega arith) room
          ∙ ap (λ (ys : List ℕ). ys ++ triple.func ∷ triple.flags ∷ triple.value ∷ []) c.loop-i.invariant.so_far
          ∙ ap (λ (ys : List ℕ). slc ∷ ys) (octets_more c.args.triples.now i none within);
    }
