use Rattle.std.proofs.Common.{◌≡◌}
use Rattle.dm_plain.specs.Namespace.{files_in}
use Rattle.dm_plain.proofs.Entries.{poured}
use Rattle.dm_plain.proofs.dump.copied_files.Given as goal

-- the copy, with what is left put in, is the whole
abbrev pub invariant-loop-path : goal.invariant-loop-path
invariant-loop-path l = poured l.path-iterator (files_in l.copy) ≡ files_in l.files
