use Rattle.tn_lines.proofs.FirstBytes.{hears_none, hears_one, hears_two, hears_second, hears_no_more}
use Rattle.tn_lines.proofs.opening.heard.Goals as goal

pub returns-in-empty : goal.returns-in-empty
returns-in-empty c = hears_none c.args.opening c.args.bytes.now c.in-empty.len_below

pub returns-in-len1 : goal.returns-in-len1
returns-in-len1 c = rw c.in-Nothing.is (hears_one c.args.bytes.now c.in-len1.len_at_least c.in-len1.len_below)

pub returns-in-len2-up : goal.returns-in-len2-up
returns-in-len2-up c = rw (c.in-Nothing.is, c.is_option.ensures) (hears_two c.args.bytes.now c.in-len2-up.len_at_least)

pub returns-in-empty-bytes : goal.returns-in-empty-bytes
returns-in-empty-bytes c = rw c.in-First.is (hears_none _ c.args.bytes.now c.in-empty-bytes.len_below)

pub returns-in-len1-up : goal.returns-in-len1-up
returns-in-len1-up c = rw (c.in-First.is, c.is_option-in-len1-up.ensures) (hears_second c.in-First.first c.args.bytes.now c.in-len1-up.len_at_least)

pub returns-in-Both : goal.returns-in-Both
returns-in-Both c = rw c.in-Both.is (hears_no_more c.args.bytes.now)
