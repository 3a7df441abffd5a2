use Rattle.std.proofs.Common.{[], ◌∷◌, ◌++◌}
use Rattle.std.proofs.lemmas.Result.{err_from_is_err_and}
use Rattle.dm_reply.proofs.Sending.{holds_err}
use Rattle.dm_reply.proofs.send.say_row.Goals as goal

pub returns-in_err-make_room : goal.returns-in_err-make_room
returns-in_err-make_room g c =
    let p = err_from_is_err_and c.from_residual.result c.from_residual.ensures.1 in
    rw (p.1, p.2) (holds_err {S = Unit {0}} {T = Unit {0}} _ c.args.piece.now.items (g.R.Row.text c.args.row.now ++ 10 ∷ []) c.in_err-make_room.ensures.holds)
