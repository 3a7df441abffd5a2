use Rattle.std.proofs.Common.{◌≡◌, [], ◌∷◌, ◌++◌, ◌+◌, take, drop}
use Rattle.std.proofs.lemmas.Result.{err_from_is_err_and}
use Rattle.std.proofs.lemmas.List.{take_all}
use Rattle.dm_reply.specs.Text.{line_of, rows_text}
use Rattle.dm_reply.proofs.Sending.{stands_err, stands_then, stands_end, rows_more, rows_split, line_then, line_and}
use Rattle.dm_reply.proofs.send.say_rows.Goals as goal

pub returns-in_err-say_row : goal.returns-in_err-say_row
returns-in_err-say_row g c =
    let p = err_from_is_err_and c.from_residual.result c.from_residual.ensures.1 in
    let text = g.R.Row.text in
    let rows = c.args.rows.now in
    let i = c.loop-row.row-index in
    let more = text c.row-item.result ++ 10 ∷ [] in
    let rest = rows_text text (drop (i + 1) rows) in
    rw (p.1, p.2, rows_split text rows i c.row-item.result c.loop-row-test.true c.row-item.is, line_then (line_of c.args.reply.now) (rows_text text (take i rows)) more rest)
    (stands_err {S = Unit {0}} {T = Unit {0}} _ more rest c.loop-row.invariant c.in_err-say_row.ensures)

pub loop-row-preserved : goal.loop-row-preserved
loop-row-preserved g c =
    let text = g.R.Row.text in
    let rows = c.args.rows.now in
    let i = c.loop-row.row-index in
    let more = text c.row-item.result ++ 10 ∷ [] in
    rw (rows_more text rows i c.row-item.result c.loop-row-test.true c.row-item.is, line_and (line_of c.args.reply.now) (rows_text text (take i rows)) more)
    (stands_then {T = Unit {0}} more c.loop-row.invariant c.in_ok-say_row.ensures)

pub returns : goal.returns
returns g c =
    let all : take c.loop-row.row-index c.args.rows.now ≡ c.args.rows.now = take_all _ _ c.loop-row-test.false in
    let s = rw all at c.loop-row.invariant in
    stands_end _ _ c.send.result s (rw c.as_slice.ensures.value at c.send.ensures)
