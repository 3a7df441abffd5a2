use Rattle.std.proofs.Common.{◌≡◌, ℕ, List, OnOk, sym, ◌∙◌, ap, subst}
use Rattle.dm_host.specs.Disk.{Only, Same, Tells}
use Rattle.dm_host.specs.Works.{Works, File, Follows}
use Rattle.dm_ckpt.specs.Files.{opposite, area_file}
use Rattle.dm_ckpt.proofs.Four.{area_mine}
use Rattle.dm_ckpt.proofs.Outcome.{so_ok, at_err}
use Rattle.dm_ckpt.proofs.Settling.{unchanged_one, closes_still, closing_settled}
use Rattle.dm_ckpt.proofs.store.settle_closing.Goals as goal

pub returns-clause-ok : goal.returns-clause-ok
returns-clause-ok g c = λ n p ps k.
    let c' = c.args.component in
    let i = c.args.index in
    let a = g.B.Bay.disk c.args.bay.now in
    let b = g.B.Bay.disk c.sync.new.self in
    let f = area_file c' (opposite i) in
    let at : c.area_number.result ≡ f = c.area_number.ensures.number ∙ ap (area_file c') c.opposite_of.ensures in
    let w = subst (λ (h : ℕ). Works (File h) a b (Follows Same h a)) at c.sync.ensures.works in
    let same = subst (λ (h : ℕ). b.seen h ≡ a.seen h) at c.sync.ensures.same in
    let u = unchanged_one c' f (area_mine c' (opposite i)) a b w same in
    let only = subst (λ (h : ℕ). Tells a h → OnOk c.sync.result (Only (a.seen h) (b.may_leave h))) at c.sync.ensures.durable (k.left.told f (area_mine c' (opposite i))) in
    so_ok c.sync.result only (λ o. closing_settled c' i n p ps a b u (subst (λ (l : List ℕ). Only l (b.may_leave f)) (sym same) o) k)

pub returns-clause-err : goal.returns-clause-err
returns-clause-err g c = λ n p ps k.
    let c' = c.args.component in
    let i = c.args.index in
    let a = g.B.Bay.disk c.args.bay.now in
    let b = g.B.Bay.disk c.sync.new.self in
    let f = area_file c' (opposite i) in
    let at : c.area_number.result ≡ f = c.area_number.ensures.number ∙ ap (area_file c') c.opposite_of.ensures in
    let w = subst (λ (h : ℕ). Works (File h) a b (Follows Same h a)) at c.sync.ensures.works in
    let same = subst (λ (h : ℕ). b.seen h ≡ a.seen h) at c.sync.ensures.same in
    let u = unchanged_one c' f (area_mine c' (opposite i)) a b w same in
    at_err c.sync.result (closes_still c' i n p ps a b u k)

pub returns-clause-unchanged : goal.returns-clause-unchanged
returns-clause-unchanged g c =
    let c' = c.args.component in
    let i = c.args.index in
    let a = g.B.Bay.disk c.args.bay.now in
    let b = g.B.Bay.disk c.sync.new.self in
    let f = area_file c' (opposite i) in
    let at : c.area_number.result ≡ f = c.area_number.ensures.number ∙ ap (area_file c') c.opposite_of.ensures in
    let w = subst (λ (h : ℕ). Works (File h) a b (Follows Same h a)) at c.sync.ensures.works in
    let same = subst (λ (h : ℕ). b.seen h ≡ a.seen h) at c.sync.ensures.same in
    let u = unchanged_one c' f (area_mine c' (opposite i)) a b w same in
    u
