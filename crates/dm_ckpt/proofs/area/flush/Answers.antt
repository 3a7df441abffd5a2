use Rattle.std.proofs.Common.{ℕ, List, subst, arith, length, ◌≡◌, ◌+◌}
use Rattle.dm_host.specs.Disk.{Written}
use Rattle.dm_ckpt.proofs.Writing.{gathers_written, writes_torn}
use Rattle.dm_ckpt.proofs.area.flush.Goals as goal

pub returns-clause-ok : goal.returns-clause-ok
returns-clause-ok g c = λ gate bytes told gathers.
    let there : Written c.args.place.now c.args.buffer.now.items ((g.B.Bay.disk c.args.bay.now).seen c.args.file) ((g.B.Bay.disk c.write.new.self).seen c.args.file) =
    subst (λ (l : List ℕ). Written c.args.place.now l ((g.B.Bay.disk c.args.bay.now).seen c.args.file) ((g.B.Bay.disk c.write.new.self).seen c.args.file))
    c.deref.ensures.value (c.in_ok-write.ensures.written told) in
    let size : c.args.place.now + c.len.result ≡ c.args.place.now + length c.args.buffer.now.items = omega arith in
    gathers_written _ _ c.args.file c.args.place.now _ c.args.buffer.now.items gate bytes gathers there size

pub returns-clause-behind : goal.returns-clause-behind
returns-clause-behind g c = writes_torn c.args.file _ _ _ _ c.requires.behind c.write.ensures.works c.write.ensures.torn
