use Rattle.std.proofs.{Common.{◌≡◌, ◌<◌, ◌≤◌, true, length, take, get_or, sym, ap, ◌∙◌, subst, All, arith}, lemmas.List.length-take}
use Rattle.tn_discipline.specs.{Limits.max_counted, Keys.{role_of_key, gives_entry}, HalfLine.line_length, Editing.IsQuiet, Runs.{line_after_all, each_role}}
use Rattle.tn_discipline.proofs.lemmas.{Runs.front_kept, Editing.{plain_quiet, plain_each, take_within, first_within}}
use Rattle.tn_discipline.proofs.half_line.Line.edit_some.Goals as goal

pub returns-then-count-ge-LONG_RUN-clause-line : goal.returns-then-count-ge-LONG_RUN-clause-line
returns-then-count-ge-LONG_RUN-clause-line c =
    let line = c.args.self.now in
    let settings = c.args.roles.now in
    let front = c.ordinary_front-count in
    let kept = c.keep_front-kept in
    let keys = take front.result c.args.keys.now in
    let fits : line_length line ≤ max_counted line.limit = omega (arith, kept.ensures.within) in
    kept.ensures.line
    ∙ sym (front_kept line keys kept.result kept.ensures.count fits)
    ∙ ap (line_after_all line) (sym (plain_each settings keys front.ensures.plain))

pub returns-then-count-ge-LONG_RUN-clause-quiet : goal.returns-then-count-ge-LONG_RUN-clause-quiet
returns-then-count-ge-LONG_RUN-clause-quiet c =
    plain_quiet c.args.roles.now (take c.ordinary_front-count.result c.args.keys.now) c.ordinary_front-count.ensures.plain

pub returns-clause-line : goal.returns-clause-line
returns-clause-line c =
    let same = take_within c.edit_parts.result c.min.result c.args.keys.now c.edit_parts.ensures.within in
    c.edit_parts.ensures.line ∙ ap (λ keys. line_after_all c.args.self.now (each_role c.args.roles.now keys)) same

pub returns-clause-within : goal.returns-clause-within
returns-clause-within c =
    omega (arith, c.edit_parts.ensures.within, length-take c.min.result c.args.keys.now)

pub returns-clause-quiet : goal.returns-clause-quiet
returns-clause-quiet c =
    subst (All (IsQuiet c.args.roles.now)) (take_within c.edit_parts.result c.min.result c.args.keys.now c.edit_parts.ensures.within) c.edit_parts.ensures.quiet

pub returns-clause-next : goal.returns-clause-next
returns-clause-next c = λ none there.
    let settings = c.args.roles.now in
    let keys = c.args.keys.now in
    let m = c.min.result in
    let first = first_within m keys (omega (arith, there, c.min.ensures)) there in
    let n = c.edit_parts.result in
    let here : gives_entry (role_of_key settings (get_or (take m keys) n 0)) ≡ true = c.edit_parts.ensures.next (omega (arith, none, first.0)) in
    ap (λ key. gives_entry (role_of_key settings key)) (sym first.1 ∙ ap (λ i. get_or (take m keys) i 0) (sym none)) ∙ here
