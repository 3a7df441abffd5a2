use Rattle.std.proofs.Common.{◌≤◌, ◌^◌, length, reverse, sym, ap, subst, arith}
use Rattle.std.proofs.lemmas.List.{length-take}
use Rattle.dm_host.specs.Disk.{Image, Torn}
use Rattle.dm_host.specs.Past.{contents}
use Rattle.dm_host.proofs.Moments.{idle, torn_still}
use Rattle.dm_host.proofs.Kept.{unchanged, puts_works, puts_torn}
use Rattle.dm_host.proofs.change.put_front.Goals as goal

pub returns-then-not-ends_within-clause-works : goal.returns-then-not-ends_within-clause-works
returns-then-not-ends_within-clause-works c =
    λ told. idle (Torn c.args.place (length c.args.bytes.now)) (torn_still c.args.place (length c.args.bytes.now)) c.args.file _

pub returns-in-Ok-clause-torn : goal.returns-in-Ok-clause-torn
returns-in-Ok-clause-torn c =
    puts_torn _ _ _ _ _ _ _ c.in-Ok.ensures.ok (length c.args.bytes.now) (omega (arith, length-take c.args.n c.args.bytes.now))

pub returns-in-Ok-clause-works : goal.returns-in-Ok-clause-works
returns-in-Ok-clause-works c =
    puts_works _ _ _ _ _ _ _ c.in-Ok.ensures.ok (length c.args.bytes.now) (omega (arith, length-take c.args.n c.args.bytes.now))

pub returns-in-Err-clause-torn : goal.returns-in-Err-clause-torn
returns-in-Err-clause-torn c =
    subst (λ (files : Image). Torn c.args.place (length c.args.bytes.now) (contents c.args.files.now.items c.args.file) (files c.args.file))
    (sym c.in-Err.ensures.files) (torn_still c.args.place (length c.args.bytes.now) (contents c.args.files.now.items c.args.file))

pub returns-in-Err-clause-bounded : goal.returns-in-Err-clause-bounded
returns-in-Err-clause-bounded c = λ small g. subst (λ (files : Image). length (files g) ≤ 2 ^ 62) (sym c.in-Err.ensures.files) (small g)

pub returns-in-Err-clause-works : goal.returns-in-Err-clause-works
returns-in-Err-clause-works c =
    λ told. unchanged told _ _ _ _ c.in-Err.ensures.files (ap reverse c.in-Err.ensures.log)
    (Torn c.args.place (length c.args.bytes.now)) (torn_still c.args.place (length c.args.bytes.now)) c.args.file
