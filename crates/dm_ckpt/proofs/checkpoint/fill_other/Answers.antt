use Rattle.std.proofs.Common.{◌≡◌, ℕ, ◌+◌, ◌<◌, ◌^◌, [], ◌∷◌, length, get_or, OnOk, ◌∙◌, ap, subst, arith}
use Rattle.dm_host.specs.Disk.{Only, Torn, Written}
use Rattle.dm_host.specs.Works.{Works, File, Follows}
use Rattle.dm_host.specs.Disk.{Tells}
use Rattle.dm_ckpt.specs.Area.{body, content, Begins}
use Rattle.dm_ckpt.specs.Files.{opposite, area_file}
use Rattle.dm_ckpt.specs.Writing.{WritesBehind}
use Rattle.dm_ckpt.proofs.Outcome.{at_err, both_ok}
use Rattle.dm_ckpt.proofs.Four.{area_mine}
use Rattle.dm_journal.proofs.Appending.{alone, alone_both}
use Rattle.dm_ckpt.proofs.Bodies.{length-body}
use Rattle.dm_ckpt.proofs.Writing.{begins_of, writes_told}
use Rattle.dm_ckpt.proofs.Turning.{third_moments, third_replaces, fourth_moments, fourth_replaces, fourth_keeps}
use Rattle.dm_ckpt.proofs.checkpoint.fill_other.Goals as goal

pub returns-in_err-write_rows-clause-err : goal.returns-in_err-write_rows-clause-err
returns-in_err-write_rows-clause-err g c = λ p ps k.
    let c' = c.args.component in
    let i = c.args.index in
    let a = g.B.Bay.disk c.args.bay.now in
    let b = g.B.Bay.disk c.write_rows.new.bay in
    let rows = g.T.Rows.rows c.args.state.now in
    let n = c.args.generation in
    let at : c.area_number-area.result ≡ area_file c' (opposite i) = c.area_number-area.ensures.number ∙ ap (area_file c') c.opposite_of.ensures in
    let w = subst (λ (f : ℕ). WritesBehind f a b) at c.write_rows.ensures.behind in
    at_err _ (third_replaces c' i n p ps rows a b k w)

pub returns-in_err-write_rows-clause-any_moment : goal.returns-in_err-write_rows-clause-any_moment
returns-in_err-write_rows-clause-any_moment g c = λ p ps k.
    let c' = c.args.component in
    let i = c.args.index in
    let a = g.B.Bay.disk c.args.bay.now in
    let b = g.B.Bay.disk c.write_rows.new.bay in
    let rows = g.T.Rows.rows c.args.state.now in
    let n = c.args.generation in
    let at : c.area_number-area.result ≡ area_file c' (opposite i) = c.area_number-area.ensures.number ∙ ap (area_file c') c.opposite_of.ensures in
    let w = subst (λ (f : ℕ). WritesBehind f a b) at c.write_rows.ensures.behind in
    third_moments c' i n p ps rows a b k w

pub returns-in_err-write_rows-clause-others : goal.returns-in_err-write_rows-clause-others
returns-in_err-write_rows-clause-others g c =
    let c' = c.args.component in
    let i = c.args.index in
    let a = g.B.Bay.disk c.args.bay.now in
    let b = g.B.Bay.disk c.write_rows.new.bay in
    let rows = g.T.Rows.rows c.args.state.now in
    let n = c.args.generation in
    let at : c.area_number-area.result ≡ area_file c' (opposite i) = c.area_number-area.ensures.number ∙ ap (area_file c') c.opposite_of.ensures in
    let w = subst (λ (f : ℕ). WritesBehind f a b) at c.write_rows.ensures.behind in
    alone (area_file c' (opposite i)) a b _ w.works

pub returns-clause-ok : goal.returns-clause-ok
returns-clause-ok g c = λ p ps k.
    let c' = c.args.component in
    let i = c.args.index in
    let a = g.B.Bay.disk c.args.bay.now in
    let b = g.B.Bay.disk c.write_rows.new.bay in
    let rows = g.T.Rows.rows c.args.state.now in
    let n = c.args.generation in
    let at : c.area_number-area.result ≡ area_file c' (opposite i) = c.area_number-area.ensures.number ∙ ap (area_file c') c.opposite_of.ensures in
    let w = subst (λ (f : ℕ). WritesBehind f a b) at c.write_rows.ensures.behind in
    let e = g.B.Bay.disk c.write_synced.new.bay in
    let f' = area_file c' (opposite i) in
    let told : Tells a f' = k.left.told f' (area_mine c' (opposite i)) in
    let begins = begins_of (a.seen f') k.left.behind.0 in
    let staged : Begins (get_or (a.seen f') 0 0) (content (n + 1) rows) (b.seen f') =
    subst (λ (f : ℕ). Tells a f → Begins (get_or (a.seen f) 0 0) [] (a.seen f) → Begins (get_or (a.seen f) 0 0) (content (n + 1) rows) (b.seen f))
    at (λ t s. c.in_ok-write_rows.ensures.ok _ t s) told begins in
    let only : Only (b.seen f') (b.may_leave f') = subst (λ (f : ℕ). Tells a f → Only (b.seen f) (b.may_leave f)) at c.in_ok-write_rows.ensures.durable told in
    let w2 = subst (λ (f : ℕ). Works (File f) b e (Follows (Torn 0 1) f b)) at c.write_synced.ensures.works in
    let number : n + 1 < 2 ^ 64 = omega arith in
    let size : length (body rows) < 2 ^ 64 = omega (arith, length-body rows) in
    let told2 : Tells b f' = writes_told f' a b w told in
    let written = subst (λ (f : ℕ). Tells b f → OnOk c.write_synced.result (Written 0 (1 ∷ []) (b.seen f) (e.seen f))) at c.write_synced.ensures.written told2 in
    let durable = subst (λ (f : ℕ). Tells b f → OnOk c.write_synced.result (Only (e.seen f) (e.may_leave f))) at c.write_synced.ensures.durable told2 in
    both_ok c.write_synced.result written durable (λ opened only2.
    fourth_keeps c' i n p ps rows a b k w number size c.requires.fits _ staged only e w2 opened only2)

pub returns-clause-err : goal.returns-clause-err
returns-clause-err g c = λ p ps k.
    let c' = c.args.component in
    let i = c.args.index in
    let a = g.B.Bay.disk c.args.bay.now in
    let b = g.B.Bay.disk c.write_rows.new.bay in
    let rows = g.T.Rows.rows c.args.state.now in
    let n = c.args.generation in
    let at : c.area_number-area.result ≡ area_file c' (opposite i) = c.area_number-area.ensures.number ∙ ap (area_file c') c.opposite_of.ensures in
    let w = subst (λ (f : ℕ). WritesBehind f a b) at c.write_rows.ensures.behind in
    let e = g.B.Bay.disk c.write_synced.new.bay in
    let f' = area_file c' (opposite i) in
    let told : Tells a f' = k.left.told f' (area_mine c' (opposite i)) in
    let begins = begins_of (a.seen f') k.left.behind.0 in
    let staged : Begins (get_or (a.seen f') 0 0) (content (n + 1) rows) (b.seen f') =
    subst (λ (f : ℕ). Tells a f → Begins (get_or (a.seen f) 0 0) [] (a.seen f) → Begins (get_or (a.seen f) 0 0) (content (n + 1) rows) (b.seen f))
    at (λ t s. c.in_ok-write_rows.ensures.ok _ t s) told begins in
    let only : Only (b.seen f') (b.may_leave f') = subst (λ (f : ℕ). Tells a f → Only (b.seen f) (b.may_leave f)) at c.in_ok-write_rows.ensures.durable told in
    let w2 = subst (λ (f : ℕ). Works (File f) b e (Follows (Torn 0 1) f b)) at c.write_synced.ensures.works in
    let number : n + 1 < 2 ^ 64 = omega arith in
    let size : length (body rows) < 2 ^ 64 = omega (arith, length-body rows) in
    let told2 : Tells b f' = writes_told f' a b w told in
    let torn : Torn 0 1 (b.seen f') (e.seen f') = subst (λ (f : ℕ). Tells b f → Torn 0 1 (b.seen f) (e.seen f)) at c.write_synced.ensures.torn told2 in
    at_err c.write_synced.result (fourth_replaces c' i n p ps rows a b k w number size c.requires.fits _ staged only e w2 torn)

pub returns-clause-any_moment : goal.returns-clause-any_moment
returns-clause-any_moment g c = λ p ps k.
    let c' = c.args.component in
    let i = c.args.index in
    let a = g.B.Bay.disk c.args.bay.now in
    let b = g.B.Bay.disk c.write_rows.new.bay in
    let rows = g.T.Rows.rows c.args.state.now in
    let n = c.args.generation in
    let at : c.area_number-area.result ≡ area_file c' (opposite i) = c.area_number-area.ensures.number ∙ ap (area_file c') c.opposite_of.ensures in
    let w = subst (λ (f : ℕ). WritesBehind f a b) at c.write_rows.ensures.behind in
    let e = g.B.Bay.disk c.write_synced.new.bay in
    let f' = area_file c' (opposite i) in
    let told : Tells a f' = k.left.told f' (area_mine c' (opposite i)) in
    let begins = begins_of (a.seen f') k.left.behind.0 in
    let staged : Begins (get_or (a.seen f') 0 0) (content (n + 1) rows) (b.seen f') =
    subst (λ (f : ℕ). Tells a f → Begins (get_or (a.seen f) 0 0) [] (a.seen f) → Begins (get_or (a.seen f) 0 0) (content (n + 1) rows) (b.seen f))
    at (λ t s. c.in_ok-write_rows.ensures.ok _ t s) told begins in
    let only : Only (b.seen f') (b.may_leave f') = subst (λ (f : ℕ). Tells a f → Only (b.seen f) (b.may_leave f)) at c.in_ok-write_rows.ensures.durable told in
    let w2 = subst (λ (f : ℕ). Works (File f) b e (Follows (Torn 0 1) f b)) at c.write_synced.ensures.works in
    let number : n + 1 < 2 ^ 64 = omega arith in
    let size : length (body rows) < 2 ^ 64 = omega (arith, length-body rows) in
    fourth_moments c' i n p ps rows a b k w number size c.requires.fits _ staged only e w2

pub returns-clause-others : goal.returns-clause-others
returns-clause-others g c =
    let c' = c.args.component in
    let i = c.args.index in
    let a = g.B.Bay.disk c.args.bay.now in
    let b = g.B.Bay.disk c.write_rows.new.bay in
    let rows = g.T.Rows.rows c.args.state.now in
    let n = c.args.generation in
    let at : c.area_number-area.result ≡ area_file c' (opposite i) = c.area_number-area.ensures.number ∙ ap (area_file c') c.opposite_of.ensures in
    let w = subst (λ (f : ℕ). WritesBehind f a b) at c.write_rows.ensures.behind in
    let e = g.B.Bay.disk c.write_synced.new.bay in
    alone_both (area_file c' (opposite i)) a b e _ _ w.works (subst (λ (f : ℕ). Works (File f) b e (Follows (Torn 0 1) f b)) at c.write_synced.ensures.works)
