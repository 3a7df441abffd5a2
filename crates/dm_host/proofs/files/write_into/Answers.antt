use Rattle.std.proofs.Common.{◌≡◌, ◌+◌, ℕ, List, Vec, Global, length, ap, ◌∙◌, arith}
use Rattle.std.proofs.lemmas.Result.{on_ok_weaker, on_err_weaker}
use Rattle.dm_host.specs.Past.{contents, lengthened, overlaid}
use Rattle.dm_host.proofs.Contents.{contents-at, contents-set, contents-set_other, contents-set_same}
use Rattle.dm_host.proofs.files.write_into.Goals as goal

pub returns-clause-ok : goal.returns-clause-ok
returns-clause-ok c =
    let before : c.index_mut.result.now.items ≡ contents c.args.files.now.items c.args.file =
    ap (λ (v : Vec ℕ Global). v.items) c.index_mut.ensures.value ∙ contents-at c.args.files.now.items c.args.file c.index_mut.result.now (omega arith) in
    let after = contents-set c.args.files.now.items c.args.file c.write_over.new.bytes (omega arith) in
    on_ok_weaker c.write_over.result
    (λ done. after ∙ done ∙ ap (λ (l : List ℕ). overlaid c.args.place c.args.piece.now (lengthened (c.args.place + length c.args.piece.now) l)) before)
    c.write_over.ensures.ok

pub returns-clause-err : goal.returns-clause-err
returns-clause-err c =
    let before : c.index_mut.result.now.items ≡ contents c.args.files.now.items c.args.file =
    ap (λ (v : Vec ℕ Global). v.items) c.index_mut.ensures.value ∙ contents-at c.args.files.now.items c.args.file c.index_mut.result.now (omega arith) in
    on_err_weaker c.write_over.result
    (λ same. contents-set_same c.args.files.now.items c.args.file c.write_over.new.bytes (omega arith) (same ∙ before))
    c.write_over.ensures.err

pub returns-clause-others : goal.returns-clause-others
returns-clause-others c = λ g apart. contents-set_other c.args.files.now.items c.args.file c.write_over.new.bytes g apart
