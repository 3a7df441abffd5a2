use Rattle.std.proofs.Common.{ℕ, List, subst}
use Rattle.dm_host.specs.Disk.{Torn}
use Rattle.dm_ckpt.specs.Area.{IsClosed}
use Rattle.dm_journal.proofs.Appending.{alone_both}
use Rattle.dm_ckpt.proofs.Gates.{behind_torn, behind_works, only_still}
use Rattle.dm_ckpt.proofs.Outcome.{not_true}
use Rattle.dm_host.proofs.Moments.{still_told}
use Rattle.dm_ckpt.proofs.checkpoint.close.Goals as goal

pub returns-then-branch-clause-durable : goal.returns-then-branch-clause-durable
returns-then-branch-clause-durable g c = λ told only. only_still c.args.file _ _ c.is_closed.ensures.works c.is_closed.ensures.same only

pub returns-clause-behind : goal.returns-clause-behind
returns-clause-behind g c = λ told n behind.
    let d = g.B.Bay.disk c.args.bay.now in
    let d1 = g.B.Bay.disk c.is_closed.new.bay in
    let not_closed : IsClosed (d.seen c.args.file) → ⊥ = λ closed. not_true _ c.if-branch.false ((c.in_ok-is_closed.ensures.closed told).1 closed) in
    let torn : Torn 0 1 (d1.seen c.args.file) ((g.B.Bay.disk c.write_synced.new.bay).seen c.args.file) =
    c.write_synced.ensures.torn (still_told _ _ _ _ c.is_closed.ensures.works c.args.file told) in
    let now = (g.B.Bay.disk c.write_synced.new.bay).seen c.args.file in
    behind_torn n (d.seen c.args.file) now behind not_closed (subst (λ (l : List ℕ). Torn 0 1 l now) c.is_closed.ensures.same torn)

pub returns-clause-others : goal.returns-clause-others
returns-clause-others g c = alone_both c.args.file _ _ _ _ _ c.is_closed.ensures.works c.write_synced.ensures.works

pub returns-clause-any_moment : goal.returns-clause-any_moment
returns-clause-any_moment g c = λ told n behind only.
    let d = g.B.Bay.disk c.args.bay.now in
    let d1 = g.B.Bay.disk c.is_closed.new.bay in
    let not_closed : IsClosed (d.seen c.args.file) → ⊥ = λ closed. not_true _ c.if-branch.false ((c.in_ok-is_closed.ensures.closed told).1 closed) in
    behind_works c.args.file n d d1 _ c.is_closed.ensures.works c.is_closed.ensures.same behind only not_closed c.write_synced.ensures.works
