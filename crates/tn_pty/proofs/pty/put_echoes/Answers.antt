use Rattle.std.proofs.Common.{◌≡◌, ◌≤◌, ◌-◌, false, ◌++◌, length, map, take, min, ap, ◌∙◌, arith}
use Rattle.tn_pty.specs.Runs.{shown_byte}
use Rattle.tn_pty.proofs.Queues.{run_fits}
use Rattle.tn_pty.proofs.pty.put_echoes.Goals as goal

pub returns : goal.returns
returns c =
    let queue = c.args.queue.now in
    let bytes = c.args.bytes.now in
    let count : c.min-count.result ≡ min (length bytes) (4096 - length queue) =
    c.min-count.ensures ∙ ap (λ n. min (length bytes) (4096 - n)) c.len.ensures.len in
    let within : length queue ≤ 4096 = omega (arith, c.len.ensures.len, c.len.ensures.within) in
    c.push_run.ensures ∙ ap (λ n. queue ++ map (shown_byte false) (take n bytes)) count ∙ run_fits queue bytes within
