use Rattle.std.proofs.Common.{nat_le, not}
use Rattle.std.proofs.lemmas.Bool.{leb-true, and_parts}
use Rattle.dm_gen.specs.Session.{is_third}
use Rattle.dm_gen.proofs.Sessions.{left_write, left_remove, left_read, not_third}
use Rattle.dm_gen.proofs.stage.command_at.Goals as goal

pub returns-in_ok-bytes_of-in-Write : goal.returns-in_ok-bytes_of-in-Write
returns-in_ok-bytes_of-in-Write c =
    let n = c.in-Write.number in
    let ready = rw c.in-Write.is at c.requires.ready in
    rw (c.in-Write.is, c.in_ok-path_of-in-Write.ensures, c.in_ok-bytes_of-in-Write.ensures) (left_write c.args.files n (leb-true n c.args.files ready))

pub returns-in_ok-path_of-in-Remove : goal.returns-in_ok-path_of-in-Remove
returns-in_ok-path_of-in-Remove c =
    let n = c.in-Remove.number in
    let ready = and_parts (nat_le n c.args.files) (is_third n) (rw c.in-Remove.is at c.requires.ready) in
    rw (c.in-Remove.is, c.in_ok-path_of-in-Remove.ensures) (left_remove c.args.files n (leb-true n c.args.files ready.0) ready.1)

pub returns-in_ok-path_of-in-Read : goal.returns-in_ok-path_of-in-Read
returns-in_ok-path_of-in-Read c =
    let n = c.in-Read.number in
    let ready = and_parts (nat_le n c.args.files) (not (is_third n)) (rw c.in-Read.is at c.requires.ready) in
    rw (c.in-Read.is, c.in_ok-path_of-in-Read.ensures) (left_read c.args.files n (leb-true n c.args.files ready.0) (not_third n ready.1))
