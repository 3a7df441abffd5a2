use Rattle.std.proofs.Common.{refl}
use Rattle.dm_fields.proofs.Absent.{absent_as}
use Rattle.dm_fields.proofs.copies.EntryField.read.Goals as goal

pub returns-in-Err : goal.returns-in-Err
returns-in-Err c =
    absent_as _ _ _ _ (λ e. (e.len, (record { items = e.copies }, (e.gone, e.dropping)))) (λ e p. (p.len, ((p.few, p.copies), (p.gone, tt)))) (λ e. refl) c.args.input.now c.read.new.input c.read.new.input c.in-Err.error c.in-Err.ensures
