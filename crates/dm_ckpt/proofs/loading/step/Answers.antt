use Rattle.std.proofs.Common.{◌≡◌, ℕ, List, Option, IfOk, IsErrOf, subst, arith}
use Rattle.dm_host.specs.Disk.{Same, Tells}
use Rattle.dm_host.specs.Works.{Works, File, Follows}
use Rattle.dm_base.specs.declared.error.LoadError.TheVariants.{Damaged}
use Rattle.dm_journal.specs.Load.{Reading as LogReading, IsDamage, loading_at, Advances}
use Rattle.dm_ckpt.specs.Files.{area_file, log_file}
use Rattle.dm_ckpt.specs.Load.{RowsAt, FirstRow, loading}
use Rattle.dm_ckpt.proofs.Four.{area_mine, log_mine}
use Rattle.dm_ckpt.proofs.Outcome.{if_ok, if_under, not_ok}
use Rattle.dm_ckpt.proofs.Settling.{unchanged_one}
use Rattle.dm_ckpt.proofs.Rowing.{rows_there, area_holds, row_read, payload_read, reading_still, found_undamaged, row_stands, payload_stands}
use Rattle.dm_ckpt.proofs.Told.{was_told}
use Rattle.dm_ckpt.proofs.loading.step.Goals as goal

pub returns-then-row-row_end-clause-unchanged : goal.returns-then-row-row_end-clause-unchanged
returns-then-row-row_end-clause-unchanged g c =
    let c' = c.args.component in
    let i = c.args.index in
    let a = g.B.Bay.disk c.args.bay.now in
    let b = g.B.Bay.disk c.read_row.new.bay in
    let f' = area_file c' i in
    let at = c.area_number.ensures.number in
    let w = subst (λ (h : ℕ). Works (File h) a b (Follows Same h a)) at c.read_row.ensures.works in
    let same = subst (λ (h : ℕ). b.seen h ≡ a.seen h) at c.read_row.ensures.same in
    let u = unchanged_one c' f' (area_mine c' i) a b w same in
    u

pub returns-then-row-row_end-clause-found : goal.returns-then-row-row_end-clause-found
returns-then-row-row_end-clause-found g c = λ h n f p ps r.
    let c' = c.args.component in
    let i = c.args.index in
    let a = g.B.Bay.disk c.args.bay.now in
    let b = g.B.Bay.disk c.read_row.new.bay in
    let f' = area_file c' i in
    let at = c.area_number.ensures.number in
    let w = subst (λ (h : ℕ). Works (File h) a b (Follows Same h a)) at c.read_row.ensures.works in
    let same = subst (λ (h : ℕ). b.seen h ≡ a.seen h) at c.read_row.ensures.same in
    let u = unchanged_one c' f' (area_mine c' i) a b w same in
    let l = loading c' i h n c.args.row c.args.row_end c.args.place c.args.end f p in
    let less = c.if-row-row_end.true in
    let junk = (area_holds a l ps r less).junk in
    let got = subst (λ (x : ℕ). Tells a x → RowsAt r.rows_left junk c.args.row c.args.row_end (a.seen x) → IfOk c.read_row.result (λ found. FirstRow r.rows_left c.read_row.new.buffer.items found))
    at (c.read_row.ensures.found r.rows_left junk) (r.told f' (area_mine c' i)) (rows_there a l ps r less) in
    if_ok c.read_row.result got (λ found first. row_read b l ps (reading_still a b l ps u r) less c.read_row.new.buffer.items found first)

pub returns-then-row-row_end-clause-damaged : goal.returns-then-row-row_end-clause-damaged
returns-then-row-row_end-clause-damaged g c = λ h n f p ps r x y is.
    let c' = c.args.component in
    let i = c.args.index in
    let a = g.B.Bay.disk c.args.bay.now in
    let b = g.B.Bay.disk c.read_row.new.bay in
    let f' = area_file c' i in
    let at = c.area_number.ensures.number in
    let w = subst (λ (h : ℕ). Works (File h) a b (Follows Same h a)) at c.read_row.ensures.works in
    let same = subst (λ (h : ℕ). b.seen h ≡ a.seen h) at c.read_row.ensures.same in
    let u = unchanged_one c' f' (area_mine c' i) a b w same in
    let l = loading c' i h n c.args.row c.args.row_end c.args.place c.args.end f p in
    let less = c.if-row-row_end.true in
    let junk = (area_holds a l ps r less).junk in
    absurd (subst (λ (z : ℕ). Tells a z → RowsAt r.rows_left junk c.args.row c.args.row_end (a.seen z) → (v w : ℕ) → IsErrOf c.read_row.result (Damaged v w) → ⊥)
    at (c.read_row.ensures.sound r.rows_left junk) (r.told f' (area_mine c' i)) (rows_there a l ps r less) x y is)

pub returns-then-row-row_end-clause-whole : goal.returns-then-row-row_end-clause-whole
returns-then-row-row_end-clause-whole g c = λ h n f p ps r past damaged. absurd (omega (arith, past, c.if-row-row_end.true))

pub returns-then-row-row_end-clause-stands : goal.returns-then-row-row_end-clause-stands
returns-then-row-row_end-clause-stands g c = λ h n f p stands.
    let c' = c.args.component in
    let i = c.args.index in
    let a = g.B.Bay.disk c.args.bay.now in
    let b = g.B.Bay.disk c.read_row.new.bay in
    let f' = area_file c' i in
    let at = c.area_number.ensures.number in
    let w = subst (λ (h : ℕ). Works (File h) a b (Follows Same h a)) at c.read_row.ensures.works in
    let same = subst (λ (h : ℕ). b.seen h ≡ a.seen h) at c.read_row.ensures.same in
    let u = unchanged_one c' f' (area_mine c' i) a b w same in
    let l = loading c' i h n c.args.row c.args.row_end c.args.place c.args.end f p in
    if_ok c.read_row.result c.read_row.ensures.some (λ found some. row_stands a b l u c.if-row-row_end.true stands found some)

pub returns-clause-unchanged : goal.returns-clause-unchanged
returns-clause-unchanged g c =
    let c' = c.args.component in
    let i = c.args.index in
    let a = g.B.Bay.disk c.args.bay.now in
    let b = g.B.Bay.disk c.advance.new.bay in
    let f' = log_file c' i in
    let at = c.log_number.ensures.number in
    let w = subst (λ (h : ℕ). Works (File h) a b (Follows Same h a)) at c.advance.ensures.works in
    let same = subst (λ (h : ℕ). b.seen h ≡ a.seen h) at c.advance.ensures.same in
    let u = unchanged_one c' f' (log_mine c' i) a b w same in
    u

pub returns-clause-found : goal.returns-clause-found
returns-clause-found g c = λ h n f p ps r.
    let c' = c.args.component in
    let i = c.args.index in
    let a = g.B.Bay.disk c.args.bay.now in
    let b = g.B.Bay.disk c.advance.new.bay in
    let f' = log_file c' i in
    let at = c.log_number.ensures.number in
    let w = subst (λ (h : ℕ). Works (File h) a b (Follows Same h a)) at c.advance.ensures.works in
    let same = subst (λ (h : ℕ). b.seen h ≡ a.seen h) at c.advance.ensures.same in
    let u = unchanged_one c' f' (log_mine c' i) a b w same in
    let l = loading c' i h n c.args.row c.args.row_end c.args.place c.args.end f p in
    let got = subst (λ (x : ℕ). LogReading a (loading_at x c.args.place 0 c.args.end) r.logged
    → IfOk c.advance.result (λ found. Advances b (loading_at x c.args.place 0 c.args.end) r.logged c.advance.new.buffer.items found)) at (c.advance.ensures.found r.logged) r.log in
    if_ok c.advance.result got (λ found k. payload_read b l ps (reading_still a b l ps u r) c.if-row-row_end.false c.advance.new.buffer.items found k)

pub returns-clause-damaged : goal.returns-clause-damaged
returns-clause-damaged g c = λ h n f p ps r x y is.
    let c' = c.args.component in
    let i = c.args.index in
    let a = g.B.Bay.disk c.args.bay.now in
    let b = g.B.Bay.disk c.advance.new.bay in
    let f' = log_file c' i in
    let at = c.log_number.ensures.number in
    let w = subst (λ (h : ℕ). Works (File h) a b (Follows Same h a)) at c.advance.ensures.works in
    let same = subst (λ (h : ℕ). b.seen h ≡ a.seen h) at c.advance.ensures.same in
    let u = unchanged_one c' f' (log_mine c' i) a b w same in
    let l = loading c' i h n c.args.row c.args.row_end c.args.place c.args.end f p in (
      c.if-row-row_end.false,
      record {
        logged = r.logged;
        reached = r.log.place;
        damage = subst (λ (z : ℕ). LogReading a (loading_at z c.args.place 0 c.args.end) r.logged → (v w : ℕ) → IsErrOf c.advance.result (Damaged v w) → IsDamage r.logged (a.seen z))
            at (c.advance.ensures.damaged r.logged) r.log x y is;
      },
    )

pub returns-clause-whole : goal.returns-clause-whole
returns-clause-whole g c = λ h n f p ps r past damaged.
    let c' = c.args.component in
    let i = c.args.index in
    let a = g.B.Bay.disk c.args.bay.now in
    let b = g.B.Bay.disk c.advance.new.bay in
    let f' = log_file c' i in
    let at = c.log_number.ensures.number in
    let w = subst (λ (h : ℕ). Works (File h) a b (Follows Same h a)) at c.advance.ensures.works in
    let same = subst (λ (h : ℕ). b.seen h ≡ a.seen h) at c.advance.ensures.same in
    let u = unchanged_one c' f' (log_mine c' i) a b w same in
    let l = loading c' i h n c.args.row c.args.row_end c.args.place c.args.end f p in
    let got = subst (λ (x : ℕ). LogReading a (loading_at x c.args.place 0 c.args.end) r.logged
    → IfOk c.advance.result (λ found. Advances b (loading_at x c.args.place 0 c.args.end) r.logged c.advance.new.buffer.items found)) at (c.advance.ensures.found r.logged) r.log in
    not_ok c.advance.result got (λ found k. found_undamaged a b l ps r same c.advance.new.buffer.items found k damaged)

pub returns-clause-stands : goal.returns-clause-stands
returns-clause-stands g c = λ h n f p stands.
    let c' = c.args.component in
    let i = c.args.index in
    let a = g.B.Bay.disk c.args.bay.now in
    let b = g.B.Bay.disk c.advance.new.bay in
    let f' = log_file c' i in
    let at = c.log_number.ensures.number in
    let w = subst (λ (h : ℕ). Works (File h) a b (Follows Same h a)) at c.advance.ensures.works in
    let same = subst (λ (h : ℕ). b.seen h ≡ a.seen h) at c.advance.ensures.same in
    let u = unchanged_one c' f' (log_mine c' i) a b w same in
    let l = loading c' i h n c.args.row c.args.row_end c.args.place c.args.end f p in
    let items = c.advance.new.buffer.items in
    let done : Option ℕ → Type 0 = λ found. (logged : List (List ℕ)) × Advances b (loading_at f' c.args.place 0 c.args.end) logged items found in
    if_ok c.advance.result (if_under done c.advance.result (λ told.
    let before = stands (was_told (File f') a b _ w f' told) in
    if_ok c.advance.result (subst (λ (x : ℕ). LogReading a (loading_at x c.args.place 0 c.args.end) before.0
    → IfOk c.advance.result (λ found. Advances b (loading_at x c.args.place 0 c.args.end) before.0 items found)) at (c.advance.ensures.found before.0) before.1)
    (λ found k. (before.0, k)))) (λ found k. payload_stands b l items c.if-row-row_end.false found k)
