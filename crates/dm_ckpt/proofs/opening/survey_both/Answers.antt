use Rattle.std.proofs.Common.{◌≡◌, ℕ, List, subst}
use Rattle.dm_host.specs.Disk.{Same, Tells}
use Rattle.dm_host.specs.Works.{Works, File, Follows}
use Rattle.dm_ckpt.specs.declared.files.Index.TheVariants.{First, Second}
use Rattle.dm_ckpt.specs.Files.{area_file}
use Rattle.dm_ckpt.specs.Survey.{Surveys}
use Rattle.dm_ckpt.proofs.Four.{area_mine}
use Rattle.dm_ckpt.proofs.Settling.{unchanged_one, unchanged_then, unchanged_told}
use Rattle.dm_ckpt.proofs.opening.survey_both.Goals as goal

pub returns-in_err-first-clause-unchanged : goal.returns-in_err-first-clause-unchanged
returns-in_err-first-clause-unchanged g c =
    let c' = c.args.component in
    let a = g.B.Bay.disk c.args.bay.now in
    let b = g.B.Bay.disk c.survey.new.bay in
    let f = area_file c' First in
    let at = c.area_number.ensures.number in
    let u = unchanged_one c' f (area_mine c' First) a b (subst (λ (h : ℕ). Works (File h) a b (Follows Same h a)) at c.survey.ensures.works)
    (subst (λ (h : ℕ). b.seen h ≡ a.seen h) at c.survey.ensures.same) in
    u

pub returns-in_err-second-clause-unchanged : goal.returns-in_err-second-clause-unchanged
returns-in_err-second-clause-unchanged g c =
    let c' = c.args.component in
    let a = g.B.Bay.disk c.args.bay.now in
    let b = g.B.Bay.disk c.survey.new.bay in
    let f = area_file c' First in
    let at = c.area_number.ensures.number in
    let u = unchanged_one c' f (area_mine c' First) a b (subst (λ (h : ℕ). Works (File h) a b (Follows Same h a)) at c.survey.ensures.works)
    (subst (λ (h : ℕ). b.seen h ≡ a.seen h) at c.survey.ensures.same) in
    let d = g.B.Bay.disk c.survey-2.new.bay in
    let f2 = area_file c' Second in
    let at2 = c.area_number-2.ensures.number in
    let v = unchanged_one c' f2 (area_mine c' Second) b d (subst (λ (h : ℕ). Works (File h) b d (Follows Same h b)) at2 c.survey-2.ensures.works)
    (subst (λ (h : ℕ). d.seen h ≡ b.seen h) at2 c.survey-2.ensures.same) in
    unchanged_then c' a b d u v

pub returns-clause-unchanged : goal.returns-clause-unchanged
returns-clause-unchanged g c =
    let c' = c.args.component in
    let a = g.B.Bay.disk c.args.bay.now in
    let b = g.B.Bay.disk c.survey.new.bay in
    let f = area_file c' First in
    let at = c.area_number.ensures.number in
    let u = unchanged_one c' f (area_mine c' First) a b (subst (λ (h : ℕ). Works (File h) a b (Follows Same h a)) at c.survey.ensures.works)
    (subst (λ (h : ℕ). b.seen h ≡ a.seen h) at c.survey.ensures.same) in
    let d = g.B.Bay.disk c.survey-2.new.bay in
    let f2 = area_file c' Second in
    let at2 = c.area_number-2.ensures.number in
    let v = unchanged_one c' f2 (area_mine c' Second) b d (subst (λ (h : ℕ). Works (File h) b d (Follows Same h b)) at2 c.survey-2.ensures.works)
    (subst (λ (h : ℕ). d.seen h ≡ b.seen h) at2 c.survey-2.ensures.same) in
    unchanged_then c' a b d u v

pub returns-clause-chosen : goal.returns-clause-chosen
returns-clause-chosen g c = λ told.
    let c' = c.args.component in
    let a = g.B.Bay.disk c.args.bay.now in
    let b = g.B.Bay.disk c.survey.new.bay in
    let f = area_file c' First in
    let at = c.area_number.ensures.number in
    let u = unchanged_one c' f (area_mine c' First) a b (subst (λ (h : ℕ). Works (File h) a b (Follows Same h a)) at c.survey.ensures.works)
    (subst (λ (h : ℕ). b.seen h ≡ a.seen h) at c.survey.ensures.same) in
    let d = g.B.Bay.disk c.survey-2.new.bay in
    let f2 = area_file c' Second in
    let at2 = c.area_number-2.ensures.number in
    let v = unchanged_one c' f2 (area_mine c' Second) b d (subst (λ (h : ℕ). Works (File h) b d (Follows Same h b)) at2 c.survey-2.ensures.works)
    (subst (λ (h : ℕ). d.seen h ≡ b.seen h) at2 c.survey-2.ensures.same) in
    let first = subst (λ (h : ℕ). Tells a h → Surveys c.in_ok-first.first (a.seen h)) at c.in_ok-first.ensures.found (told f (area_mine c' First)) in
    let second = subst (λ (h : ℕ). Tells b h → Surveys c.in_ok-second.second (b.seen h)) at2 c.in_ok-second.ensures.found (unchanged_told c' a b u told f2 (area_mine c' Second)) in
    c.choose.ensures.chosen (a.seen f) (a.seen f2) first (subst (λ (x : List ℕ). Surveys c.in_ok-second.second x) (u.seen f2 (area_mine c' Second)) second)
