use Rattle.dm_fields.proofs.Absent.{no_sum}
use Rattle.dm_fields.proofs.chunks.OptionArrayU8SUMLENGTHField.read.Goals as goal

pub returns-in-Err : goal.returns-in-Err
returns-in-Err c = no_sum c.args.input.now c.read.new.input c.read.new.input c.in-Err.error c.in-Err.ensures
