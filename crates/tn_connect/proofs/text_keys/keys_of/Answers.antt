use Rattle.std.proofs.{Common.{arith, refl, sym, ap, ◌≡◌, ◌∙◌, ◌<◌, [], ◌++◌, List, ℕ, append-nil, length, take}, lemmas.List.{drop_all, length-set}}
use Rattle.std.specs.Prelude.{option_to_list}
use Rattle.tn_connect.proofs.{Texts.one_more, text_keys.keys_of.Goals.{in-Some, in-None}}
use Rattle.tn_connect.specs.Texts.{keys_of_text}
use Rattle.tn_net.proofs.Plain.{written}
use Rattle.tn_connect.proofs.text_keys.keys_of.Goals as goal

pub loop-place-init : goal.loop-place-init
loop-place-init c = (omega arith, refl, λ rest. refl)

pub loop-place-preserved : goal.loop-place-preserved
loop-place-preserved c =
    let l = c.loop-place in
    let inv = l.invariant in
    let given = c.args.bytes.now in
    let few = c.loop-place-test.true in
    let done = take l.count l.buf in
    elim c.match-key.branch [
      | in-Some w ↦
          let small : l.count < length l.buf = omega (arith, inv.0, inv.1, few, c.requires) in
          rw w.buf-is (rw w.count-is (
            omega (arith, inv.0),
            length-set l.buf l.count w.in-Some.key ∙ inv.1,
            λ rest. one_more given l.place 0 few l.after done _ rest _ (inv.2 rest)
                (written l.buf l.count w.in-Some.key small ∙ ap (λ (k : List ℕ). done ++ k) (ap option_to_list (sym w.in-Some.is) ∙ c.key_of-key.ensures)),
          ))
      | in-None w ↦
          rw w.buf-is (rw w.count-is (
            omega (arith, inv.0),
            inv.1,
            λ rest. one_more given l.place 0 few l.after done _ rest _ (inv.2 rest)
                (sym (append-nil done) ∙ ap (λ (k : List ℕ). done ++ k) (ap option_to_list (sym w.in-None.is) ∙ c.key_of-key.ensures)),
          ))
    ]

pub returns-clause-keys : goal.returns-clause-keys
returns-clause-keys c = λ rest.
    let l = c.loop-place in
    ap (λ (xs : List ℕ). take l.count l.buf ++ keys_of_text l.after (xs ++ rest)) (sym (drop_all l.place c.args.bytes.now c.loop-place-test.false))
    ∙ l.invariant.2 rest
