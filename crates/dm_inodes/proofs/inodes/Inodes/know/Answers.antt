use Rattle.std.proofs.Common.{ap, ◌∙◌, sym, subst}
use Rattle.std.specs.FinMap as map
use Rattle.std.proofs.Common.{IsSome, is_some}
use Rattle.dm_inodes.specs.Counts.{Counted, KeepsCounts}
use Rattle.dm_inodes.proofs.Namings.{counted_zero, zero_there, zero_keeps, none_of}
use Rattle.dm_inodes.proofs.inodes.Inodes.know.Goals as goal

pub invariant_of-self : goal.invariant_of-self
invariant_of-self c = record {
  counted = subst (λ m. Counted m c.args.self.now.rows.rows) (sym (c.insert_reserved.ensures.rows ∙ ap (λ z. map.insert c.args.self.now.counts.rows z.0 0) c.deref_mut.ensures.value))
      (counted_zero c.args.self.now.counts.rows c.args.self.now.rows.rows c.args.row.value.0 (none_of _ (c.if-contains.ensures ∙ ap (λ z. is_some (map.get c.args.self.now.counts.rows z.0)) c.deref.ensures)) c.args.self.now.counted);
  sized = c.args.self.now.sized;
}

pub returns-clause-known : goal.returns-clause-known
returns-clause-known c = subst (λ m. IsSome (map.get m c.args.row.value.0)) (sym (c.insert_reserved.ensures.rows ∙ ap (λ z. map.insert c.args.self.now.counts.rows z.0 0) c.deref_mut.ensures.value)) (zero_there c.args.self.now.counts.rows c.args.row.value.0)

pub returns-clause-kept : goal.returns-clause-kept
returns-clause-kept c = subst (λ m. KeepsCounts c.args.self.now.counts.rows m) (sym (c.insert_reserved.ensures.rows ∙ ap (λ z. map.insert c.args.self.now.counts.rows z.0 0) c.deref_mut.ensures.value)) (zero_keeps c.args.self.now.counts.rows c.args.row.value.0)
