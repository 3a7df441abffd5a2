use Rattle.std.proofs.Common.{◌≡◌, ℕ, [], subst}
use Rattle.std.specs.Prelude.{⊤}
use Rattle.dm_host.specs.Disk.{Tells}
use Rattle.dm_host.specs.Works.{Works, File, Follows}
use Rattle.dm_host.proofs.Moments.{weaker, and_then}
use Rattle.dm_journal.specs.Load.{Reading as LogReading, Reopens, opened, loading_at}
use Rattle.dm_ckpt.specs.declared.files.Index.TheVariants.{First, Second}
use Rattle.dm_ckpt.specs.declared.opening.Choice.{Choice}
use Rattle.dm_ckpt.specs.declared.opening.Choice.TheVariants.{Used}
use Rattle.dm_ckpt.specs.Files.{area_file, log_file, Mine}
use Rattle.dm_ckpt.specs.Opening.{Chooses}
use Rattle.dm_ckpt.proofs.Four.{log_mine}
use Rattle.dm_ckpt.proofs.Settling.{unchanged_told, mine_alone}
use Rattle.dm_ckpt.proofs.Choosing.{damaged_files, begins_after, means_same, means_opened, means_then, chosen_sound, retells_still, retells_after, retells_opened}
use Rattle.dm_ckpt.proofs.Told.{was_told}
use Rattle.dm_ckpt.proofs.opening.begin.Goals as goal

pub returns-in_err-index-clause-any_moment : goal.returns-in_err-index-clause-any_moment
returns-in_err-index-clause-any_moment g c = λ told.
    let c' = c.args.component in
    let a = g.B.Bay.disk c.args.bay.now in
    let b = g.B.Bay.disk c.prepare.new.bay in
    let u = c.prepare.ensures.unchanged in
    retells_still c' a b u

pub returns-in_err-index-clause-others : goal.returns-in_err-index-clause-others
returns-in_err-index-clause-others g c =
    let c' = c.args.component in
    let a = g.B.Bay.disk c.args.bay.now in
    let b = g.B.Bay.disk c.prepare.new.bay in
    let u = c.prepare.ensures.unchanged in
    weaker (Mine c') a b _ (λ x. ⊤) u.works (λ x here. tt)

pub returns-in-Broken-clause-any_moment : goal.returns-in-Broken-clause-any_moment
returns-in-Broken-clause-any_moment g c = λ told.
    let c' = c.args.component in
    let a = g.B.Bay.disk c.args.bay.now in
    let b = g.B.Bay.disk c.prepare.new.bay in
    let u = c.prepare.ensures.unchanged in
    retells_still c' a b u

pub returns-in-Broken-clause-others : goal.returns-in-Broken-clause-others
returns-in-Broken-clause-others g c =
    let c' = c.args.component in
    let a = g.B.Bay.disk c.args.bay.now in
    let b = g.B.Bay.disk c.prepare.new.bay in
    let u = c.prepare.ensures.unchanged in
    weaker (Mine c') a b _ (λ x. ⊤) u.works (λ x here. tt)

pub returns-in-Broken-clause-means : goal.returns-in-Broken-clause-means
returns-in-Broken-clause-means g c = λ told.
    let c' = c.args.component in
    let a = g.B.Bay.disk c.args.bay.now in
    let b = g.B.Bay.disk c.prepare.new.bay in
    let u = c.prepare.ensures.unchanged in
    means_same c' a.seen b.seen (λ f mine. u.seen f mine)

pub returns-in-Broken-clause-starts : goal.returns-in-Broken-clause-starts
returns-in-Broken-clause-starts g c = λ told.
    let c' = c.args.component in
    let a = g.B.Bay.disk c.args.bay.now in
    let b = g.B.Bay.disk c.prepare.new.bay in
    let u = c.prepare.ensures.unchanged in
    damaged_files c' c.in-Broken.index a.seen
    (subst (λ (x : Choice). Chooses x (a.seen (area_file c' First)) (a.seen (area_file c' Second))) c.in-Broken.is (c.in_ok-index.ensures.chosen told))

pub returns-in_err-end-in-Used-clause-any_moment : goal.returns-in_err-end-in-Used-clause-any_moment
returns-in_err-end-in-Used-clause-any_moment g c = λ told.
    let c' = c.args.component in
    let a = g.B.Bay.disk c.args.bay.now in
    let b = g.B.Bay.disk c.prepare.new.bay in
    let u = c.prepare.ensures.unchanged in
    let o = c.in-Used.origin in
    let d = g.B.Bay.disk c.open.new.bay in
    let l = log_file c' o.index in
    let at = c.log_number.ensures.number in
    let tells = unchanged_told c' a b u told l (log_mine c' o.index) in
    retells_after c' a b d u (retells_opened c' o.index b d (subst (λ (h : ℕ). Tells b h → Works (File h) b d (Follows Reopens h b)) at c.open.ensures.any_moment tells))

pub returns-in_ok-end-in-Used-clause-any_moment : goal.returns-in_ok-end-in-Used-clause-any_moment
returns-in_ok-end-in-Used-clause-any_moment g c = λ told.
    let c' = c.args.component in
    let a = g.B.Bay.disk c.args.bay.now in
    let b = g.B.Bay.disk c.prepare.new.bay in
    let u = c.prepare.ensures.unchanged in
    let o = c.in-Used.origin in
    let d = g.B.Bay.disk c.open.new.bay in
    let l = log_file c' o.index in
    let at = c.log_number.ensures.number in
    let tells = unchanged_told c' a b u told l (log_mine c' o.index) in
    retells_after c' a b d u (retells_opened c' o.index b d (subst (λ (h : ℕ). Tells b h → Works (File h) b d (Follows Reopens h b)) at c.open.ensures.any_moment tells))

pub returns-in_err-end-in-Used-clause-others : goal.returns-in_err-end-in-Used-clause-others
returns-in_err-end-in-Used-clause-others g c =
    let c' = c.args.component in
    let a = g.B.Bay.disk c.args.bay.now in
    let b = g.B.Bay.disk c.prepare.new.bay in
    let u = c.prepare.ensures.unchanged in
    let o = c.in-Used.origin in
    let d = g.B.Bay.disk c.open.new.bay in
    let l = log_file c' o.index in
    let at = c.log_number.ensures.number in
    let w = subst (λ (h : ℕ). Works (File h) b d (λ x. ⊤)) at c.open.ensures.others in
    and_then (Mine c') a b d (λ x. ⊤) (weaker (Mine c') a b _ (λ x. ⊤) u.works (λ x here. tt)) (mine_alone c' l (log_mine c' o.index) b d _ w)

pub returns-in_ok-end-in-Used-clause-others : goal.returns-in_ok-end-in-Used-clause-others
returns-in_ok-end-in-Used-clause-others g c =
    let c' = c.args.component in
    let a = g.B.Bay.disk c.args.bay.now in
    let b = g.B.Bay.disk c.prepare.new.bay in
    let u = c.prepare.ensures.unchanged in
    let o = c.in-Used.origin in
    let d = g.B.Bay.disk c.open.new.bay in
    let l = log_file c' o.index in
    let at = c.log_number.ensures.number in
    let w = subst (λ (h : ℕ). Works (File h) b d (λ x. ⊤)) at c.open.ensures.others in
    and_then (Mine c') a b d (λ x. ⊤) (weaker (Mine c') a b _ (λ x. ⊤) u.works (λ x here. tt)) (mine_alone c' l (log_mine c' o.index) b d _ w)

pub returns-in_ok-end-in-Used-clause-means : goal.returns-in_ok-end-in-Used-clause-means
returns-in_ok-end-in-Used-clause-means g c = λ told.
    let c' = c.args.component in
    let a = g.B.Bay.disk c.args.bay.now in
    let b = g.B.Bay.disk c.prepare.new.bay in
    let u = c.prepare.ensures.unchanged in
    let o = c.in-Used.origin in
    let d = g.B.Bay.disk c.open.new.bay in
    let l = log_file c' o.index in
    let at = c.log_number.ensures.number in
    let w = subst (λ (h : ℕ). Works (File h) b d (λ x. ⊤)) at c.open.ensures.others in
    let tells = unchanged_told c' a b u told l (log_mine c' o.index) in
    let content = subst (λ (h : ℕ). Tells b h → d.seen h ≡ opened (b.seen h)) at c.in_ok-end-in-Used.ensures.content tells in
    means_then c' a.seen b.seen d.seen (means_same c' a.seen b.seen (λ f mine. u.seen f mine))
    (means_opened c' o.index b.seen d.seen (λ f apart mine. (w.others f apart).seen) content)

pub returns-in_ok-end-in-Used-clause-starts : goal.returns-in_ok-end-in-Used-clause-starts
returns-in_ok-end-in-Used-clause-starts g c = λ told.
    let c' = c.args.component in
    let a = g.B.Bay.disk c.args.bay.now in
    let b = g.B.Bay.disk c.prepare.new.bay in
    let u = c.prepare.ensures.unchanged in
    let o = c.in-Used.origin in
    let d = g.B.Bay.disk c.open.new.bay in
    let l = log_file c' o.index in
    let at = c.log_number.ensures.number in
    let w = subst (λ (h : ℕ). Works (File h) b d (λ x. ⊤)) at c.open.ensures.others in
    let chosen : Chooses (Used o) (a.seen (area_file c' First)) (a.seen (area_file c' Second)) =
    subst (λ (x : Choice). Chooses x (a.seen (area_file c' First)) (a.seen (area_file c' Second))) c.in-Used.is (c.in_ok-index.ensures.chosen told) in
    let tells = unchanged_told c' a b u told l (log_mine c' o.index) in
    let log = subst (λ (h : ℕ). Tells b h → LogReading d (loading_at h 0 0 c.in_ok-end-in-Used.end) []) at c.in_ok-end-in-Used.ensures.reading tells in
    begins_after c' o c.in_ok-end-in-Used.end a b d told u chosen (c.in_ok-index.ensures.synced told) w log

pub returns-in_ok-end-in-Used-clause-stands : goal.returns-in_ok-end-in-Used-clause-stands
returns-in_ok-end-in-Used-clause-stands g c = λ told.
    let c' = c.args.component in
    let a = g.B.Bay.disk c.args.bay.now in
    let b = g.B.Bay.disk c.prepare.new.bay in
    let u = c.prepare.ensures.unchanged in
    let o = c.in-Used.origin in
    let d = g.B.Bay.disk c.open.new.bay in
    let l = log_file c' o.index in
    let at = c.log_number.ensures.number in
    let w = subst (λ (h : ℕ). Works (File h) b d (λ x. ⊤)) at c.open.ensures.others in
    let tells = was_told (File l) b d _ w l told in
    subst (λ (h : ℕ). Tells b h → LogReading d (loading_at h 0 0 c.in_ok-end-in-Used.end) []) at c.in_ok-end-in-Used.ensures.reading tells

pub returns-in_ok-end-in-Used-clause-sound : goal.returns-in_ok-end-in-Used-clause-sound
returns-in_ok-end-in-Used-clause-sound g c = λ told.
    let c' = c.args.component in
    let a = g.B.Bay.disk c.args.bay.now in
    let o = c.in-Used.origin in
    let chosen : Chooses (Used o) (a.seen (area_file c' First)) (a.seen (area_file c' Second)) =
    subst (λ (x : Choice). Chooses x (a.seen (area_file c' First)) (a.seen (area_file c' Second))) c.in-Used.is (c.in_ok-index.ensures.chosen told) in
    λ f damaged. chosen_sound c' o.index o a.seen chosen f damaged
