use Rattle.std.proofs.Common.{ap, ◌∙◌, sym, subst, ◌^◌, ◌%◌}
use Rattle.dm_inodes.specs.Counts.{Counted, HasCount}
use Rattle.dm_durable.specs.Daemon.{size_of_files}
use Rattle.dm_durable.specs.Inodes.{bitfile_of, length_of}
use Rattle.dm_inodes.proofs.Entries.{Kept, kept_out, found_there, none_found, none_out}
use Rattle.dm_inodes.proofs.Namings.{known_out, fewer_keeps}
use Rattle.dm_inodes.specs.Counts.{KeepsCounts, with_one_fewer}
use Rattle.dm_inodes.proofs.inodes.Inodes.take.Goals as goal

pub invariant_of-self : goal.invariant_of-self
invariant_of-self c =
    let same = none_out c.args.self.now.rows.rows c.take.new.self.rows c.args.key (none_found c.args.key _ c.in_default.ensures.row) c.take.ensures.rows in
    record {
      counted = subst (λ m. Counted c.args.self.now.counts.rows m) same c.args.self.now.counted;
      sized = c.args.self.now.sized ∙ ap (λ m. size_of_files m % 2 ^ 64) same;
    }

pub invariant_of-self-2 : goal.invariant_of-self-2
invariant_of-self-2 c =
    let k : Kept _ _ _ = kept_out c.args.self.now.counts.rows c.lower.new.counts.rows c.args.self.now.size c.length.result c.args.self.now.rows.rows c.take.new.self.rows
    c.args.key c.in-Some.row.value.1 _ (found_there c.args.key c.in-Some.row.value _ c.in-Some.ensures.row) c.take.ensures.rows (c.bitfile.ensures ∙ ap (λ z. bitfile_of z.1.contents) c.deref.ensures) c.lower.ensures.rows
    (c.length.ensures ∙ ap (λ z. length_of z.1.contents) c.deref-2.ensures) c.length.type_inv c.args.self.now.counted c.args.self.now.sized in
    record { counted = k.counted; sized = k.sized }

pub returns-clause-known : goal.returns-clause-known
returns-clause-known c =
    subst (λ m. HasCount m (bitfile_of c.in-Some.row.value.1.contents)) (sym (c.lower.ensures.rows ∙ ap (with_one_fewer c.args.self.now.counts.rows) (c.bitfile.ensures ∙ ap (λ z. bitfile_of z.1.contents) c.deref.ensures)))
    (known_out c.args.self.now.counts.rows c.args.self.now.rows.rows c.args.key c.in-Some.row.value.1 (found_there c.args.key c.in-Some.row.value _ c.in-Some.ensures.row) c.args.self.now.counted)

pub returns-clause-counts : goal.returns-clause-counts
returns-clause-counts c =
    subst (λ m. KeepsCounts c.args.self.now.counts.rows m) (sym c.lower.ensures.rows) (fewer_keeps c.args.self.now.counts.rows _)
