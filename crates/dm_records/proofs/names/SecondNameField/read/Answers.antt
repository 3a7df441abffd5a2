use Rattle.std.proofs.Common.{rules, ◌<◌, ◌^◌}
use Rattle.std.specs.Prelude.{⊤}
use Rattle.dm_durable.specs.declared.daemon_journal.JournalVersion.TheVariants.{Second}
use Rattle.dm_fields.specs.Numbers.{be64}
use Rattle.dm_fields.proofs.PartsAbsent.{no_part}
use Rattle.dm_records.specs.Names.{head_name, name_number}
use Rattle.dm_records.specs.declared.names.SecondName.{SecondName}
use Rattle.dm_records.proofs.NameForms.{name-number, name_small, name_read, no_name}
use Rattle.dm_records.proofs.names.SecondNameField.read.Goals as goal

pub returns-then-name-ne-SECOND_NAME : goal.returns-then-name-ne-SECOND_NAME
returns-then-name-ne-SECOND_NAME c = λ x rest fits e. no_name Second c.in-Ok.name c.args.input.now c.read.new.input c.in-Ok.ensures.1 (search rules) c.in-Ok.ensures.0 rest e

pub returns-else-name-ne-SECOND_NAME : goal.returns-else-name-ne-SECOND_NAME
returns-else-name-ne-SECOND_NAME c = (name_read Second c.in-Ok.name c.args.input.now c.read.new.input (search rules) c.in-Ok.ensures.0, tt)

pub returns-in-Err : goal.returns-in-Err
returns-in-Err c =
    no_part {X = SecondName} (λ _. head_name Second) (λ _. ⊤) be64 (λ n. n < 2 ^ 64) (λ x p. (name_number Second, name-number Second, name_small Second)) c.args.input.now c.read.new.input c.read.new.input c.in-Err.error c.in-Err.ensures
