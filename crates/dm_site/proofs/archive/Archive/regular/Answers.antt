use Rattle.std.proofs.Common.{◌≡◌, Some, refl, sym, ◌∙◌, ap, subst}
use Rattle.dm_base.specs.declared.reply.FileState.TheVariants as found
use Rattle.dm_site.specs.declared.file.Form.{Form}
use Rattle.dm_site.specs.Files.{file_in}
use Rattle.dm_site.specs.Rules.{IsFound}
use Rattle.dm_site.proofs.archive.Archive.regular.Goals as goal

pub returns-in-Regular-clause-ok : goal.returns-in-Regular-clause-ok
returns-in-Regular-clause-ok c =
    let is : file_in c.args.self.now.files c.args.path.now ≡ Some c.in-Some.file.now = sym c.in-Some.ensures.value in
    (c.in-Some.file.now.change, is ∙ ap (λ (f : Form). Some (record { change = c.in-Some.file.now.change; form = f })) c.in-Regular.is)

pub returns-in-Dual-clause-err : goal.returns-in-Dual-clause-err
returns-in-Dual-clause-err c = (
  record { file = c.in-Some.file.now; at = sym c.in-Some.ensures.value; state = subst (IsFound found.Dual) (sym c.in-Dual.is) tt },
  record { no_fault = refl; same = refl },
)

pub returns-in-Offline-clause-err : goal.returns-in-Offline-clause-err
returns-in-Offline-clause-err c = (
  record { file = c.in-Some.file.now; at = sym c.in-Some.ensures.value; state = subst (IsFound found.Offline) (sym c.in-Offline.is) tt },
  record { no_fault = refl; same = refl },
)
