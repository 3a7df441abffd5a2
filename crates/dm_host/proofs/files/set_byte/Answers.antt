use Rattle.std.proofs.Common.{◌≡◌, ℕ, List, Vec, Global, length, set, ap, ◌∙◌, arith}
use Rattle.std.specs.Vec.{with_item}
use Rattle.dm_host.specs.Past.{contents}
use Rattle.dm_host.proofs.Contents.{contents-at, contents-set, contents-set_other, contents-there}
use Rattle.dm_host.proofs.files.set_byte.Goals as goal

pub index_mut-bytes-requires : goal.index_mut-bytes-requires
index_mut-bytes-requires c = let there = contents-there c.args.files.now.items c.args.file c.args.place c.requires in omega arith

pub index_mut-requires : goal.index_mut-requires
index_mut-requires c =
    let there = contents-there c.args.files.now.items c.args.file c.args.place c.requires in
    let is : c.index_mut-bytes.result.now.items ≡ contents c.args.files.now.items c.args.file =
    ap (λ (v : Vec ℕ Global). v.items) c.index_mut-bytes.ensures.value ∙ contents-at c.args.files.now.items c.args.file c.index_mut-bytes.result.now there in
    let size = ap length is in
    omega (arith, size, c.requires)

pub returns-clause-byte : goal.returns-clause-byte
returns-clause-byte c =
    let there = contents-there c.args.files.now.items c.args.file c.args.place c.requires in
    let is : c.index_mut-bytes.result.now.items ≡ contents c.args.files.now.items c.args.file =
    ap (λ (v : Vec ℕ Global). v.items) c.index_mut-bytes.ensures.value ∙ contents-at c.args.files.now.items c.args.file c.index_mut-bytes.result.now there in
    contents-set c.args.files.now.items c.args.file (with_item c.index_mut-bytes.result.now c.args.place c.args.byte) there
    ∙ ap (λ (l : List ℕ). set l c.args.place c.args.byte) is

pub returns-clause-others : goal.returns-clause-others
returns-clause-others c = λ g apart.
    contents-set_other c.args.files.now.items c.args.file (with_item c.index_mut-bytes.result.now c.args.place c.args.byte) g apart
