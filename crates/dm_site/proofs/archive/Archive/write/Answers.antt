use Rattle.std.proofs.Common.{◌≤◌, ℕ, List, Option, sym, subst}
use Rattle.dm_site.specs.declared.file.File.{File}
use Rattle.dm_site.specs.Files.{end_of}
use Rattle.dm_site.proofs.archive.Archive.write.Goals as goal

pub invariant_of-self-in-Err-clause-placed : goal.invariant_of-self-in-Err-clause-placed
invariant_of-self-in-Err-clause-placed c = λ q. subst (λ (f : List ℕ → Option File). end_of (f q) ≤ 1024) (sym c.in-Err.ensures.err) (c.args.self.now.placed q)
