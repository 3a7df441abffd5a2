use Rattle.std.proofs.Common.{arith, subst, sym}
use Rattle.dm_durable.specs.declared.daemon_journal.JournalVersion.TheVariants.{Second}
use Rattle.dm_fields.specs.Once.{length-big_endian}
use Rattle.dm_fields.specs.Writing.{IsPut}
use Rattle.dm_records.proofs.NameForms.{name-number}
use Rattle.dm_records.proofs.names.SecondNameSpelled.put.Goals as goal

pub put-requires-clause-room : goal.put-requires-clause-room
put-requires-clause-room c = let long = length-big_endian 8 4921665014912077362 in omega (arith, c.requires.room)

pub returns : goal.returns
returns c = subst (λ s. IsPut s c.args.at c.args.out.now c.put.new.out c.put.result) (sym (name-number Second)) c.put.ensures
