use Rattle.dm_site.proofs.Agreement.{write_answer}
use Rattle.dm_site.proofs.archive.Archive.answer.Goals as goal

pub returns-in-Command-Write-clause-agrees : goal.returns-in-Command-Write-clause-agrees
returns-in-Command-Write-clause-agrees g c = λ told plain agrees.
    write_answer plain _ _ _ _ _ c.write.result c.args.heard c.in-Command-Write.field-0 c.in-Command-Write.is c.in-Command-Write.field-0-is c.write.ensures agrees
