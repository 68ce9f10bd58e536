use Rattle.std.proofs.Common.{◌≡◌, ◌∙◌, [], refl, subst, ap}
use Rattle.tn_discipline.specs.{Entries.entries_of}
use Rattle.tn_editor.specs.{Changing.typed_gains, Edited.nothing_typed}
use Rattle.tn_theorems.specs.{programs.Programs.{client_seen_in, server_seen_in}, sessions.Theorem.{RanToTheEnd, typed_locally}}
use Rattle.tn_serve.specs.Servers.{terminal_of}
use Rattle.tn_nvt.specs.Prefixes.{IsPrefixOf}
use Rattle.tn_theorems.proofs.programs.laws.what_is_edited_in_lines_is_read.Goals as goal

pub returns : goal.returns
returns g c = λ maker p typed limits carried whole.
    let canon = (terminal_of p.options).canon in
    let reads = c.what_you_type_over_a_connection_is_read.ensures maker p limits carried in
    let same : typed_locally canon (client_seen_in p) ≡ typed_gains canon nothing_typed typed =
    ap (entries_of canon.limit) whole ∙ c.whole_lines_give_the_entries.ensures canon [] typed refl in (
      subst (λ l. IsPrefixOf (server_seen_in p).entries_taken l) same reads.0.prefix,
      λ (end : RanToTheEnd (server_seen_in p) (client_seen_in p)). reads.0.all end ∙ same,
    )
