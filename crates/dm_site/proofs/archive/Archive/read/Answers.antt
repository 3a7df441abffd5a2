use Rattle.std.proofs.Common.{◌≡◌, ◌+◌, Some, Err, refl, sym, ◌∙◌, ap, arith}
use Rattle.dm_site.specs.declared.file.Form.{Form}
use Rattle.dm_site.specs.Files.{file_in, end_of, end_of_form}
use Rattle.dm_site.proofs.archive.Archive.read.Goals as goal

pub recall-requires : goal.recall-requires
recall-requires g c =
    let is : file_in c.args.self.now.files c.args.path.now ≡ Some c.in-Some.file.now = sym c.in-Some.ensures.value in
    let ends : end_of (file_in c.args.self.now.files c.args.path.now) ≡ c.in-Offline.place + c.in-Offline.len =
    ap end_of is ∙ ap end_of_form c.in-Offline.is in
    omega (arith, ends, c.args.self.now.placed c.args.path.now)

pub returns-in-Err-Failed-clause-step : goal.returns-in-Err-Failed-clause-step
returns-in-Err-Failed-clause-step g c =
    let failed = c.in-Err-Failed.ensures.failed (ap (λ e. Err e) c.in-Err-Failed.field-0-is) in
    let is : file_in c.args.self.now.files c.args.path.now ≡ Some c.in-Some.file.now = sym c.in-Some.ensures.value in (
      1,
      record {
        len = c.in-Offline.len;
        change = c.in-Some.file.now.change;
        bfid = c.in-Offline.bfid;
        place = c.in-Offline.place;
        offline = record { at = is ∙ ap (λ (f : Form). Some (record { change = c.in-Some.file.now.change; form = f })) c.in-Offline.is };
        some = failed.0;
        fault = omega arith;
        copies_are = refl;
        same = refl;
      },
      failed.1,
    )
