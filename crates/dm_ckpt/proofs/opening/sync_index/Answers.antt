use Rattle.std.proofs.Common.{◌≡◌, ℕ, sym, ◌∙◌, subst}
use Rattle.dm_host.specs.Disk.{Only, Same, Tells}
use Rattle.dm_host.specs.Works.{Works, File, Follows}
use Rattle.dm_ckpt.specs.Files.{area_file, log_file}
use Rattle.dm_ckpt.proofs.Four.{area_mine, log_mine}
use Rattle.dm_ckpt.proofs.Outcome.{at_ok}
use Rattle.dm_ckpt.proofs.Settling.{unchanged_one, unchanged_then}
use Rattle.dm_ckpt.proofs.opening.sync_index.Goals as goal

pub returns-in_err-sync-clause-unchanged : goal.returns-in_err-sync-clause-unchanged
returns-in_err-sync-clause-unchanged g c =
    let c' = c.args.component in
    let i = c.args.index in
    let a = g.B.Bay.disk c.args.bay.now in
    let b = g.B.Bay.disk c.sync.new.self in
    let f = area_file c' i in
    let at = c.area_number.ensures.number in
    let u = unchanged_one c' f (area_mine c' i) a b (subst (λ (h : ℕ). Works (File h) a b (Follows Same h a)) at c.sync.ensures.works)
    (subst (λ (h : ℕ). b.seen h ≡ a.seen h) at c.sync.ensures.same) in
    u

pub returns-clause-unchanged : goal.returns-clause-unchanged
returns-clause-unchanged g c =
    let c' = c.args.component in
    let i = c.args.index in
    let a = g.B.Bay.disk c.args.bay.now in
    let b = g.B.Bay.disk c.sync.new.self in
    let f = area_file c' i in
    let at = c.area_number.ensures.number in
    let u = unchanged_one c' f (area_mine c' i) a b (subst (λ (h : ℕ). Works (File h) a b (Follows Same h a)) at c.sync.ensures.works)
    (subst (λ (h : ℕ). b.seen h ≡ a.seen h) at c.sync.ensures.same) in
    let d = g.B.Bay.disk c.sync-2.new.self in
    let l = log_file c' i in
    let at2 = c.log_number.ensures.number in
    let v = unchanged_one c' l (log_mine c' i) b d (subst (λ (h : ℕ). Works (File h) b d (Follows Same h b)) at2 c.sync-2.ensures.works)
    (subst (λ (h : ℕ). d.seen h ≡ b.seen h) at2 c.sync-2.ensures.same) in
    unchanged_then c' a b d u v

pub returns-clause-area : goal.returns-clause-area
returns-clause-area g c = λ told.
    let c' = c.args.component in
    let i = c.args.index in
    let a = g.B.Bay.disk c.args.bay.now in
    let b = g.B.Bay.disk c.sync.new.self in
    let f = area_file c' i in
    let at = c.area_number.ensures.number in
    let u = unchanged_one c' f (area_mine c' i) a b (subst (λ (h : ℕ). Works (File h) a b (Follows Same h a)) at c.sync.ensures.works)
    (subst (λ (h : ℕ). b.seen h ≡ a.seen h) at c.sync.ensures.same) in
    let d = g.B.Bay.disk c.sync-2.new.self in
    let l = log_file c' i in
    let at2 = c.log_number.ensures.number in
    let v = unchanged_one c' l (log_mine c' i) b d (subst (λ (h : ℕ). Works (File h) b d (Follows Same h b)) at2 c.sync-2.ensures.works)
    (subst (λ (h : ℕ). d.seen h ≡ b.seen h) at2 c.sync-2.ensures.same) in
    let only = subst (λ (h : ℕ). Tells a h → Only (a.seen h) (b.may_leave h)) at c.in_ok-sync.ensures.durable told in
    at_ok c.sync-2.result (λ x left. only x (v.left f x (area_mine c' i) left) ∙ sym (u.seen f (area_mine c' i)) ∙ sym (v.seen f (area_mine c' i)))
