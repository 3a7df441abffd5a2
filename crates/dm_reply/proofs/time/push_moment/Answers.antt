use Rattle.std.proofs.Common.{◌++◌, ◌∙◌, ap, codes, unsigned_abs, arith, FitsSigned, w8, w16}
use Rattle.std.proofs.lemmas.Int.{to_z-of_z}
use Rattle.jiff_core.proofs.SignedLemmas.{signed_arith}
use Rattle.jiff_core.proofs.CalendarLemmas.{days_in_month_bounds}
use Rattle.dm_reply.specs.Calendar.{date_text, clock_text}
use Rattle.dm_reply.proofs.CivilDays.{shown, shown_text, four_behind}
use Rattle.dm_reply.proofs.time.push_moment.Goals as goal

pub returns-clause-value : goal.returns-clause-value
returns-clause-value g c =
    let year : FitsSigned w16 c.year.result = omega (arith, signed_arith, c.year.ensures, c.args.moment.date.year_in) in
    let month : FitsSigned w8 c.month.result = omega (arith, signed_arith, c.month.ensures, c.args.moment.date.month_in) in
    let day : FitsSigned w8 c.day.result =
    omega (arith, signed_arith, c.day.ensures, c.args.moment.date.day_in, days_in_month_bounds c.args.moment.date.year c.args.moment.date.month) in
    let hour : FitsSigned w8 c.hour.result = omega (arith, signed_arith, c.hour.ensures, c.args.moment.time.hour_in) in
    let minute : FitsSigned w8 c.minute.result = omega (arith, signed_arith, c.minute.ensures, c.args.moment.time.minute_in) in
    let second : FitsSigned w8 c.second.result = omega (arith, signed_arith, c.second.ensures, c.args.moment.time.second_in) in
    let text = shown_text _ _ (shown c.args.moment c.args.seconds c.requires.moment) _ _ _ _ _ _
    ((simp to_z-of_z at c.unsigned_abs-year.ensures.value) ∙ ap unsigned_abs c.year.ensures) ((simp to_z-of_z at c.whole.ensures) ∙ ap unsigned_abs c.month.ensures) ((simp to_z-of_z at c.whole-2.ensures) ∙ ap unsigned_abs c.day.ensures)
    ((simp to_z-of_z at c.whole-hour.ensures) ∙ ap unsigned_abs c.hour.ensures) ((simp to_z-of_z at c.whole-3.ensures) ∙ ap unsigned_abs c.minute.ensures) ((simp to_z-of_z at c.whole-4.ensures) ∙ ap unsigned_abs c.second.ensures) in
    let old = c.args.piece.now.items in
    let date = date_text (record { year = c.unsigned_abs-year.result; month = c.whole.result; day = c.whole-2.result }) in
    let clock = clock_text c.whole-hour.result c.whole-3.result c.whole-4.result in
    rw (c.push-2.ensures, c.push_clock.ensures.value, c.push.ensures, c.push_date.ensures.value)
    (four_behind old date (codes "T") clock (codes "Z") ∙ ap (λ xs. old ++ xs) text)
