use Rattle.std.proofs.Common.{ap, sym, ◌∙◌}
use Rattle.dm_plain.proofs.Entries.{poured, poured_on, poured_whole}
use Rattle.std.specs.Ordering.{nat_cmp}
use Rattle.std.specs.Cmp.Lexicographic.{slice_cmp}
use Rattle.std.specs.Map.{keys_of}
use Rattle.std.proofs.lemmas.Map.Keys.{IsDistinct-from_sorted}
use Rattle.dm_plain.specs.Namespace.{files_in}
use Rattle.dm_plain.proofs.dump.copied_files.Goals as goal

pub loop-path-init : goal.loop-path-init
loop-path-init c =
    poured_whole c.new-copy.result.entries c.into_iter-path-iterator.result c.args.files.now.entries c.new-copy.ensures.empty
    c.into_iter-path-iterator.ensures.into_iter_gives.0
    (IsDistinct-from_sorted (slice_cmp nat_cmp) (keys_of c.args.files.now.entries) c.into_iter-path-iterator.ensures.into_iter_gives.5)

pub loop-path-preserved : goal.loop-path-preserved
loop-path-preserved c =
    poured_on c.loop-path.copy.entries c.insert.new.self.entries c.loop-path.path-iterator c.next.new.self c.in-Some.path.now c.in_ok-copied.field-0
    c.in-Some.bytes.now c.in_ok-copied-2.field-0 _ c.in-Some.ensures.steps c.in_ok-copied.ensures c.in_ok-copied-2.ensures c.in_ok-insert.ensures.updates.0
    c.loop-path.invariant

pub loop-path-preserved-in_ok-insert : goal.loop-path-preserved-in_ok-insert
loop-path-preserved-in_ok-insert c =
    poured_on c.loop-path.copy.entries c.insert.new.self.entries c.loop-path.path-iterator c.next.new.self c.in-Some.path.now c.in_ok-copied.field-0
    c.in-Some.bytes.now c.in_ok-copied-2.field-0 _ c.in-Some.ensures.steps c.in_ok-copied.ensures c.in_ok-copied-2.ensures c.in_ok-insert.ensures.updates.0
    c.loop-path.invariant

pub returns : goal.returns
returns c =
    sym (ap (λ l. poured l (files_in c.loop-path.copy)) c.in-None.ensures.steps.0) ∙ c.loop-path.invariant
