use Rattle.std.proofs.Common.{◌++◌, List, length, ap, ◌∙◌, arith}
use Rattle.tn_codes.specs.declared.triples.Triple.{Triple}
use Rattle.tn_linemode.specs.Exchange.{announcement}
use Rattle.tn_server.proofs.Listing.{length-announcement}
use Rattle.tn_server.proofs.terms.announce.Goals as goal

pub put_list-requires : goal.put_list-requires
put_list-requires c =
    let all = c.in_ok-announce.ensures.ok ∙ ap (λ (xs : List Triple). xs ++ announcement c.args.table.now) c.new-triples.ensures.items in
    omega (arith, ap length all ∙ length-announcement c.args.table.now)
