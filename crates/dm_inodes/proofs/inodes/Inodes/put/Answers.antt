use Rattle.std.proofs.Common.{ap, ◌∙◌, subst, ◌<◌, ◌^◌}
use Rattle.dm_durable.specs.Inodes.{bitfile_of, length_of}
use Rattle.dm_inodes.proofs.Entries.{Kept, kept_in}
use Rattle.dm_inodes.proofs.inodes.Inodes.put.Goals as goal

pub invariant_of-self : goal.invariant_of-self
invariant_of-self c =
    let k : Kept _ _ _ = kept_in c.args.self.now.counts.rows c.raise.new.counts.rows c.args.self.now.size c.length.result c.args.self.now.rows.rows c.insert_reserved.new.self.rows
    c.args.row.value.0 c.args.row.value.1 _ c.requires.new c.insert_reserved.ensures.rows (c.bitfile.ensures ∙ ap (λ z. bitfile_of z.1.contents) c.deref.ensures) c.raise.ensures.rows
    (c.length.ensures ∙ ap (λ z. length_of z.1.contents) c.deref-2.ensures)
    (subst (λ n. n < 2 ^ 63) c.len-few.ensures.len c.len-few.ensures.small) c.requires.known c.args.self.now.counted c.args.self.now.sized in
    record { counted = k.counted; sized = k.sized }
