use Rattle.std.proofs.Common.{◌≡◌, ℕ, [], ◌∷◌, OnOk, ◌∙◌, ap, subst}
use Rattle.std.specs.Prelude.{⊤}
use Rattle.dm_host.specs.Disk.{Only, Written}
use Rattle.dm_host.specs.Works.{Works, File}
use Rattle.dm_host.specs.Disk.{Tells}
use Rattle.dm_ckpt.specs.Area.{IsClosed}
use Rattle.dm_ckpt.specs.Files.{opposite, area_file, log_file}
use Rattle.dm_ckpt.specs.State.{IsBehind}
use Rattle.dm_ckpt.proofs.Outcome.{at_err, both_ok}
use Rattle.dm_host.proofs.Moments.{still_told}
use Rattle.dm_ckpt.proofs.Four.{area_mine, log_mine}
use Rattle.dm_journal.proofs.Appending.{alone}
use Rattle.dm_ckpt.proofs.Gates.{rests_written}
use Rattle.dm_ckpt.proofs.Turning.{only_seen, first_moments, first_closes, second_moments, second_closes, second_empties, other_works_area, other_works_both}
use Rattle.dm_ckpt.proofs.checkpoint.empty_other.Goals as goal

pub returns-in_err-close-clause-err : goal.returns-in_err-close-clause-err
returns-in_err-close-clause-err g c = λ n p ps k.
    let c' = c.args.component in
    let i = c.args.index in
    let a = g.B.Bay.disk c.args.bay.now in
    let b = g.B.Bay.disk c.close.new.bay in
    let at : c.area_number.result ≡ area_file c' (opposite i) = c.area_number.ensures.number ∙ ap (area_file c') c.opposite_of-other.ensures in
    let moment = subst (λ (f : ℕ). Tells a f → (n : ℕ) → IsBehind n (a.seen f) → Only (a.seen f) (a.may_leave f) → Works (File f) a b (λ x. IsBehind n (x f)))
    at c.close.ensures.any_moment (k.left.told (area_file c' (opposite i)) (area_mine c' (opposite i))) in
    let still = subst (λ (f : ℕ). Tells a f → (n : ℕ) → IsBehind n (a.seen f) → IsBehind n (b.seen f))
    at c.close.ensures.behind (k.left.told (area_file c' (opposite i)) (area_mine c' (opposite i))) in
    at_err _ (first_closes c' i n p ps a b k moment still)

pub returns-in_err-close-clause-any_moment : goal.returns-in_err-close-clause-any_moment
returns-in_err-close-clause-any_moment g c = λ n p ps k.
    let c' = c.args.component in
    let i = c.args.index in
    let a = g.B.Bay.disk c.args.bay.now in
    let b = g.B.Bay.disk c.close.new.bay in
    let at : c.area_number.result ≡ area_file c' (opposite i) = c.area_number.ensures.number ∙ ap (area_file c') c.opposite_of-other.ensures in
    let moment = subst (λ (f : ℕ). Tells a f → (n : ℕ) → IsBehind n (a.seen f) → Only (a.seen f) (a.may_leave f) → Works (File f) a b (λ x. IsBehind n (x f)))
    at c.close.ensures.any_moment (k.left.told (area_file c' (opposite i)) (area_mine c' (opposite i))) in
    first_moments c' i n p ps a b k moment

pub returns-in_err-close-clause-others : goal.returns-in_err-close-clause-others
returns-in_err-close-clause-others g c =
    let c' = c.args.component in
    let i = c.args.index in
    let a = g.B.Bay.disk c.args.bay.now in
    let b = g.B.Bay.disk c.close.new.bay in
    let at : c.area_number.result ≡ area_file c' (opposite i) = c.area_number.ensures.number ∙ ap (area_file c') c.opposite_of-other.ensures in
    other_works_area c' i a b _ (subst (λ (f : ℕ). Works (File f) a b (λ x. ⊤)) at c.close.ensures.others)

pub returns-clause-ok : goal.returns-clause-ok
returns-clause-ok g c = λ n p ps k.
    let c' = c.args.component in
    let i = c.args.index in
    let a = g.B.Bay.disk c.args.bay.now in
    let b = g.B.Bay.disk c.close.new.bay in
    let at : c.area_number.result ≡ area_file c' (opposite i) = c.area_number.ensures.number ∙ ap (area_file c') c.opposite_of-other.ensures in
    let moment = subst (λ (f : ℕ). Tells a f → (n : ℕ) → IsBehind n (a.seen f) → Only (a.seen f) (a.may_leave f) → Works (File f) a b (λ x. IsBehind n (x f)))
    at c.close.ensures.any_moment (k.left.told (area_file c' (opposite i)) (area_mine c' (opposite i))) in
    let e = g.B.Bay.disk c.write_synced.new.bay in
    let at2 : c.log_number.result ≡ log_file c' (opposite i) = c.log_number.ensures.number ∙ ap (log_file c') c.opposite_of-other.ensures in
    let told = k.left.told (area_file c' (opposite i)) (area_mine c' (opposite i)) in
    let closed : IsClosed (b.seen (area_file c' (opposite i))) = subst (λ (f : ℕ). Tells a f → IsClosed (b.seen f)) at c.in_ok-close.ensures.closed told in
    let only : Only (b.seen (area_file c' (opposite i))) (b.may_leave (area_file c' (opposite i))) =
    subst (λ (f : ℕ). Tells a f → Only (a.seen f) (a.may_leave f) → Only (b.seen f) (b.may_leave f)) at c.in_ok-close.ensures.durable told
    (only_seen c' i n p ps a b k) in
    let w2 = subst (λ (f : ℕ). Works (File f) b e (λ x. ⊤)) at2 (alone c.log_number.result b e _ c.write_synced.ensures.works) in
    let told2 : Tells b (log_file c' (opposite i)) = still_told _ a b _ c.close.ensures.others (log_file c' (opposite i)) (k.left.told (log_file c' (opposite i)) (log_mine c' (opposite i))) in
    let written = subst (λ (f : ℕ). Tells b f → OnOk c.write_synced.result (Written 0 (0 ∷ []) (b.seen f) (e.seen f))) at2 c.write_synced.ensures.written told2 in
    let durable = subst (λ (f : ℕ). Tells b f → OnOk c.write_synced.result (Only (e.seen f) (e.may_leave f))) at2 c.write_synced.ensures.durable told2 in
    both_ok c.write_synced.result written durable (λ w only2.
    second_empties c' i n p ps a b k moment closed only e w2 (rests_written (b.seen (log_file c' (opposite i))) (e.seen (log_file c' (opposite i))) w) only2)

pub returns-clause-err : goal.returns-clause-err
returns-clause-err g c = λ n p ps k.
    let c' = c.args.component in
    let i = c.args.index in
    let a = g.B.Bay.disk c.args.bay.now in
    let b = g.B.Bay.disk c.close.new.bay in
    let at : c.area_number.result ≡ area_file c' (opposite i) = c.area_number.ensures.number ∙ ap (area_file c') c.opposite_of-other.ensures in
    let moment = subst (λ (f : ℕ). Tells a f → (n : ℕ) → IsBehind n (a.seen f) → Only (a.seen f) (a.may_leave f) → Works (File f) a b (λ x. IsBehind n (x f)))
    at c.close.ensures.any_moment (k.left.told (area_file c' (opposite i)) (area_mine c' (opposite i))) in
    let e = g.B.Bay.disk c.write_synced.new.bay in
    let at2 : c.log_number.result ≡ log_file c' (opposite i) = c.log_number.ensures.number ∙ ap (log_file c') c.opposite_of-other.ensures in
    let told = k.left.told (area_file c' (opposite i)) (area_mine c' (opposite i)) in
    let closed : IsClosed (b.seen (area_file c' (opposite i))) = subst (λ (f : ℕ). Tells a f → IsClosed (b.seen f)) at c.in_ok-close.ensures.closed told in
    let only : Only (b.seen (area_file c' (opposite i))) (b.may_leave (area_file c' (opposite i))) =
    subst (λ (f : ℕ). Tells a f → Only (a.seen f) (a.may_leave f) → Only (b.seen f) (b.may_leave f)) at c.in_ok-close.ensures.durable told
    (only_seen c' i n p ps a b k) in
    let w2 = subst (λ (f : ℕ). Works (File f) b e (λ x. ⊤)) at2 (alone c.log_number.result b e _ c.write_synced.ensures.works) in
    at_err c.write_synced.result (second_closes c' i n p ps a b k moment closed only e w2)

pub returns-clause-any_moment : goal.returns-clause-any_moment
returns-clause-any_moment g c = λ n p ps k.
    let c' = c.args.component in
    let i = c.args.index in
    let a = g.B.Bay.disk c.args.bay.now in
    let b = g.B.Bay.disk c.close.new.bay in
    let at : c.area_number.result ≡ area_file c' (opposite i) = c.area_number.ensures.number ∙ ap (area_file c') c.opposite_of-other.ensures in
    let moment = subst (λ (f : ℕ). Tells a f → (n : ℕ) → IsBehind n (a.seen f) → Only (a.seen f) (a.may_leave f) → Works (File f) a b (λ x. IsBehind n (x f)))
    at c.close.ensures.any_moment (k.left.told (area_file c' (opposite i)) (area_mine c' (opposite i))) in
    let e = g.B.Bay.disk c.write_synced.new.bay in
    let at2 : c.log_number.result ≡ log_file c' (opposite i) = c.log_number.ensures.number ∙ ap (log_file c') c.opposite_of-other.ensures in
    let told = k.left.told (area_file c' (opposite i)) (area_mine c' (opposite i)) in
    let closed : IsClosed (b.seen (area_file c' (opposite i))) = subst (λ (f : ℕ). Tells a f → IsClosed (b.seen f)) at c.in_ok-close.ensures.closed told in
    let only : Only (b.seen (area_file c' (opposite i))) (b.may_leave (area_file c' (opposite i))) =
    subst (λ (f : ℕ). Tells a f → Only (a.seen f) (a.may_leave f) → Only (b.seen f) (b.may_leave f)) at c.in_ok-close.ensures.durable told
    (only_seen c' i n p ps a b k) in
    let w2 = subst (λ (f : ℕ). Works (File f) b e (λ x. ⊤)) at2 (alone c.log_number.result b e _ c.write_synced.ensures.works) in
    second_moments c' i n p ps a b k moment closed only e w2

pub returns-clause-others : goal.returns-clause-others
returns-clause-others g c =
    let c' = c.args.component in
    let i = c.args.index in
    let a = g.B.Bay.disk c.args.bay.now in
    let b = g.B.Bay.disk c.close.new.bay in
    let at : c.area_number.result ≡ area_file c' (opposite i) = c.area_number.ensures.number ∙ ap (area_file c') c.opposite_of-other.ensures in
    let e = g.B.Bay.disk c.write_synced.new.bay in
    let at2 : c.log_number.result ≡ log_file c' (opposite i) = c.log_number.ensures.number ∙ ap (log_file c') c.opposite_of-other.ensures in
    other_works_both c' i a b e _ _ (subst (λ (f : ℕ). Works (File f) a b (λ x. ⊤)) at c.close.ensures.others)
    (subst (λ (f : ℕ). Works (File f) b e (λ x. ⊤)) at2 (alone c.log_number.result b e _ c.write_synced.ensures.works))
