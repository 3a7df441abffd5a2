use Rattle.std.proofs.Common.{◌≡◌, ◌+◌, ℕ, OnOk, IfOk, ◌∙◌, ap, subst}
use Rattle.dm_host.specs.Disk.{Only, Same, Tells}
use Rattle.dm_host.specs.Works.{Works, File, Follows}
use Rattle.dm_ckpt.specs.Files.{opposite, area_file}
use Rattle.dm_ckpt.specs.State.{MayHold}
use Rattle.dm_ckpt.specs.Survey.{HoldsIf}
use Rattle.dm_ckpt.proofs.Four.{area_mine}
use Rattle.dm_ckpt.proofs.Outcome.{at_err, if_ok_both}
use Rattle.dm_ckpt.proofs.Settling.{unchanged_one, replaces_still, turning_settled}
use Rattle.dm_ckpt.proofs.store.settle_turning.Goals as goal

pub returns-clause-ok : goal.returns-clause-ok
returns-clause-ok g c = λ p ps qs k.
    let c' = c.args.component in
    let i = c.args.index in
    let a = g.B.Bay.disk c.args.bay.now in
    let b = g.B.Bay.disk c.is_open.new.bay in
    let f = area_file c' (opposite i) in
    let at : c.area_number.result ≡ f = c.area_number.ensures.number ∙ ap (area_file c') c.opposite_of.ensures in
    let w = subst (λ (h : ℕ). Works (File h) a b (Follows Same h a)) at c.is_open.ensures.works in
    let same = subst (λ (h : ℕ). b.seen h ≡ a.seen h) at c.is_open.ensures.same in
    let u = unchanged_one c' f (area_mine c' (opposite i)) a b w same in
    let n = c.args.generation in
    let told = k.left.told f (area_mine c' (opposite i)) in
    let only = subst (λ (h : ℕ). Tells a h → OnOk c.is_open.result (Only (b.seen h) (b.may_leave h))) at c.is_open.ensures.durable told in
    let holds = subst (λ (h : ℕ). Tells a h → MayHold (n + 1) qs (a.seen h) → IfOk c.is_open.result (λ is. HoldsIf is (n + 1) qs (a.seen h))) at (c.is_open.ensures.ok qs) told k.left.behind in
    if_ok_both c.is_open.result holds only (λ is h o. turning_settled c' i n p ps qs a b u o k is h)

pub returns-clause-err : goal.returns-clause-err
returns-clause-err g c = λ p ps qs k.
    let c' = c.args.component in
    let i = c.args.index in
    let a = g.B.Bay.disk c.args.bay.now in
    let b = g.B.Bay.disk c.is_open.new.bay in
    let f = area_file c' (opposite i) in
    let at : c.area_number.result ≡ f = c.area_number.ensures.number ∙ ap (area_file c') c.opposite_of.ensures in
    let w = subst (λ (h : ℕ). Works (File h) a b (Follows Same h a)) at c.is_open.ensures.works in
    let same = subst (λ (h : ℕ). b.seen h ≡ a.seen h) at c.is_open.ensures.same in
    let u = unchanged_one c' f (area_mine c' (opposite i)) a b w same in
    at_err c.is_open.result (replaces_still c' i c.args.generation p ps qs a b u k)

pub returns-clause-unchanged : goal.returns-clause-unchanged
returns-clause-unchanged g c =
    let c' = c.args.component in
    let i = c.args.index in
    let a = g.B.Bay.disk c.args.bay.now in
    let b = g.B.Bay.disk c.is_open.new.bay in
    let f = area_file c' (opposite i) in
    let at : c.area_number.result ≡ f = c.area_number.ensures.number ∙ ap (area_file c') c.opposite_of.ensures in
    let w = subst (λ (h : ℕ). Works (File h) a b (Follows Same h a)) at c.is_open.ensures.works in
    let same = subst (λ (h : ℕ). b.seen h ≡ a.seen h) at c.is_open.ensures.same in
    let u = unchanged_one c' f (area_mine c' (opposite i)) a b w same in
    u
