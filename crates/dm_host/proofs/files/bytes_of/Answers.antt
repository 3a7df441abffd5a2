use Rattle.std.proofs.Common.{ap, sym, ◌∙◌, arith, ℕ, Vec, Global}
use Rattle.dm_host.proofs.Contents.{contents-at, contents-past}
use Rattle.dm_host.proofs.files.bytes_of.Goals as goal

pub returns-then-file-files : goal.returns-then-file-files
returns-then-file-files c = sym (contents-past c.args.files.now c.args.file (omega arith))

pub returns : goal.returns
returns c =
    c.deref.ensures.value ∙ ap (λ (v : Vec ℕ Global). v.items) c.index-files-file.is
    ∙ contents-at c.args.files.now c.args.file c.index-files-file.result (omega arith)
