use Rattle.std.proofs.Common.{[], ◌∷◌, ◌++◌}
use Rattle.std.proofs.lemmas.Result.{err_from_is_err_and}
use Rattle.dm_reply.proofs.Sending.{sends_err, sends_then}
use Rattle.dm_reply.proofs.send.send_long.Goals as goal

pub returns-in_err-send : goal.returns-in_err-send
returns-in_err-send g c =
    let p = err_from_is_err_and c.from_residual.result c.from_residual.ensures.1 in
    let line = c.args.line.now in
    let bytes = c.args.bytes.now in
    rw (p.1, p.2) (sends_err {S = Unit {0}} {T = Unit {0}} _ (line ++ bytes) (10 ∷ []) (sends_err {S = Unit {0}} {T = Unit {0}} _ line bytes c.in_err-send.ensures))

pub returns-in_err-send-2 : goal.returns-in_err-send-2
returns-in_err-send-2 g c =
    let p = err_from_is_err_and c.from_residual-in_err-send-2.result c.from_residual-in_err-send-2.ensures.1 in
    let line = c.args.line.now in
    let bytes = c.args.bytes.now in
    rw (p.1, p.2) (sends_err {S = Unit {0}} {T = Unit {0}} _ (line ++ bytes) (10 ∷ []) (sends_then _ line bytes c.in_ok-send.ensures c.in_err-send-2.ensures))

pub returns : goal.returns
returns g c =
    let line = c.args.line.now in
    let bytes = c.args.bytes.now in
    sends_then c.send-3.result (line ++ bytes) (10 ∷ []) (sends_then _ line bytes c.in_ok-send.ensures c.in_ok-send-2.ensures) c.send-3.ensures
