use Rattle.std.proofs.Common.{ℕ, List, refl, sym, subst, ap, arith}
use Rattle.dm_site.specs.declared.file.File.{File}
use Rattle.dm_site.specs.declared.file.Form.TheVariants.{Regular}
use Rattle.dm_site.specs.Files.{file_in}
use Rattle.dm_site.proofs.Tables.{ends_with_form}
use Rattle.dm_site.proofs.Agreement.{keeps_torn, agrees_still, agrees_stored, zone_tip, zone_some}
use Rattle.dm_site.proofs.archive.Archive.store.Goals as goal

pub returns-in-Err-clause-step : goal.returns-in-Err-clause-step
returns-in-Err-clause-step g c = λ bytes change may can. (
  1,
  record {
    bytes = bytes;
    change = change;
    may = may;
    some = zone_some _ _ can.is_zone c.in-Err.ensures.some;
    fits = can.fits;
    fault = omega arith;
    group_is = refl;
    files = refl;
    took = record { next_counter = refl; last_change = refl; tip = zone_tip _ _ _ can.is_zone };
  },
  c.in-Err.ensures.cause.rose,
)

pub returns-in-Err-clause-agrees : goal.returns-in-Err-clause-agrees
returns-in-Err-clause-agrees g c = λ bytes change may can told plain agrees.
    agrees_still plain (file_in c.args.self.now.files) c.args.self.now.tip _ _ _ (keeps_torn c.args.self.now.tip _ _ _ (c.in-Err.ensures.torn c.in-Err.ensures.some told)) agrees

pub invariant_of-self-2 : goal.invariant_of-self-2
invariant_of-self-2 g c = record {
  changes = c.args.self.now.changes;
  counters = omega arith;
  after_label = omega arith;
  within = omega arith;
  placed = λ path. ends_with_form 1024 _ _ _ (c.set_form.ensures.others path) (omega arith) (c.args.self.now.placed path);
}

pub returns-clause-agrees : goal.returns-clause-agrees
returns-clause-agrees g c = λ bytes change may can told plain agrees.
    let file : File = record { change = change; form = Regular bytes } in
    agrees_stored plain (file_in c.args.self.now.files) (file_in c.set_form.new.files) c.args.self.now.tip _ _ c.args.zone.now bytes c.args.path.now change c.args.len c.args.bfid
    can.is_zone can.len_is may.regular (c.set_form.ensures.sets file may.regular) c.in_default.ensures.none (λ some. c.in_default.ensures.written some told) agrees
