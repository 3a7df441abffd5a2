-- A name of which the version is known tells nothing but where it ends.
use Rattle.std.proofs.Common.{refl}
use Rattle.std.specs.Prelude.{⊤}
use Rattle.dm_durable.specs.declared.daemon_journal.JournalVersion.TheVariants.{First, Second}
use Rattle.dm_fields.specs.Once.{front_once}
use Rattle.dm_fields.specs.Reading.{IsSpelledOnce}
use Rattle.dm_records.specs.Names.{head_name}
use Rattle.dm_records.specs.declared.names.FirstName.{FirstName}
use Rattle.dm_records.specs.declared.names.SecondName.{SecondName}

pub first_once : IsSpelledOnce {X = FirstName} (λ _. head_name First) (λ _. ⊤)
first_once x y r s p q e = (refl, (front_once (head_name First) (head_name First) r s refl e).1)

pub second_once : IsSpelledOnce {X = SecondName} (λ _. head_name Second) (λ _. ⊤)
second_once x y r s p q e = (refl, (front_once (head_name Second) (head_name Second) r s refl e).1)
