use Rattle.std.proofs.Common.{refl}
use Rattle.dm_fields.specs.Once.{chunk_fields, FieldsFit-of}
use Rattle.dm_fields.proofs.Absent.{absent_as}
use Rattle.dm_fields.proofs.chunks.OldChunkField.read.Goals as goal

pub returns-in-Err : goal.returns-in-Err
returns-in-Err c = absent_as _ _ _ _ (λ c. chunk_fields c.chunk) (λ c p. FieldsFit-of c.chunk p.0) (λ c. refl) c.args.input.now c.read.new.input c.read.new.input c.in-Err.error c.in-Err.ensures
