use Rattle.std.proofs.Common.{ap, ◌∙◌}
use Rattle.dm_durable.specs.Inodes.{as_recalled, with_contents}
use Rattle.dm_tables.specs.Rows.{adjust}
use Rattle.dm_inodes.proofs.Entries.{put_back, none_back, found_there, found_key, none_found, gone_here}
use Rattle.dm_inodes.proofs.inodes.Inodes.recall.Goals as goal

pub returns-in_default : goal.returns-in_default
returns-in_default c = record {
  rows = none_back c.args.self.now.rows.rows c.take.new.self.rows.rows c.from.result (with_contents (as_recalled c.args.bytes)) (none_found c.from.result _ c.in_default.ensures.row) c.take.ensures.rows
      ∙ ap (λ k. adjust c.args.self.now.rows.rows k (with_contents (as_recalled c.args.bytes))) c.from.ensures;
}

pub put-requires-clause-new : goal.put-requires-clause-new
put-requires-clause-new c =
    gone_here c.args.self.now.rows.rows c.take.new.self.rows.rows c.from.result c.deref_mut.result.now.0 c.take.ensures.rows
    (ap (λ z. z.0) c.deref_mut.ensures.value ∙ found_key c.from.result c.in-Some.row.value _ c.in-Some.ensures.row)

pub returns : goal.returns
returns c = record {
  rows = put_back c.args.self.now.rows.rows c.take.new.self.rows.rows c.put.new.self.rows.rows c.from.result c.deref_mut.result.now.0 (with_contents (as_recalled c.args.bytes)) c.in-Some.row.value.1 c.recall.new.inode
      (found_there c.from.result c.in-Some.row.value _ c.in-Some.ensures.row) c.take.ensures.rows
      (ap (λ z. z.0) c.deref_mut.ensures.value ∙ found_key c.from.result c.in-Some.row.value _ c.in-Some.ensures.row)
      (c.recall.ensures ∙ ap (λ z. with_contents (as_recalled c.args.bytes) z.1) c.deref_mut.ensures.value)
      c.put.ensures.rows
      ∙ ap (λ k. adjust c.args.self.now.rows.rows k (with_contents (as_recalled c.args.bytes))) c.from.ensures;
}
