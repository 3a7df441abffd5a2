use Rattle.std.proofs.Common.{◌∷◌, ◌++◌, take}
use Rattle.dm_reply.specs.Text.{line_of, rows_text}
use Rattle.dm_reply.proofs.Sending.{Stands}
use Rattle.dm_reply.proofs.send.say_rows.Given as goal

abbrev pub invariant-loop-row : goal.invariant-loop-row
invariant-loop-row g l =
    Stands (line_of l.fn.reply ++ 10 ∷ rows_text g.R.Row.text (take l.row-index l.rows)) l.piece.items
    (g.K.Sink.taken l.fn.sink) (g.K.Sink.taken l.sink) (g.K.Sink.count l.fn.sink) (g.K.Sink.count l.sink) (g.K.Sink.ends l.fn.sink) (g.K.Sink.ends l.sink)
