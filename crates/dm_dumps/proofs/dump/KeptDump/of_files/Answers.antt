use Rattle.std.proofs.Common.{ap, ◌∙◌, sym, arith, ◌≤◌}
use Rattle.std.specs.FinMap as map
use Rattle.dm_durable.specs.Dumps.{file_dumped_if}
use Rattle.dm_dumps.proofs.Making.{dumping_begun, dumping_on, none_left, all_dumped}
use Rattle.dm_dumps.proofs.dump.KeptDump.of_files.Goals as goal

pub loop-at-init : goal.loop-at-init
loop-at-init c = (
  ap (λ d. d.made) c.empty-dump.ensures,
  ap (λ d. d.least) c.empty-dump.ensures,
  dumping_begun c.empty-dump.result.files c.args.names.now.rows c.args.inodes.now.rows.rows (ap (λ d. d.files) c.empty-dump.ensures),
)

pub returns-in_default : goal.returns-in_default
returns-in_default c = λ i. record {
  made = c.loop-at.invariant.0 i;
  least = c.loop-at.invariant.1 i;
  files = none_left c.loop-at.at c.loop-at.dump.files c.args.names.now.rows c.args.inodes.now.rows.rows c.in_default.ensures c.loop-at.invariant.2 i;
}

pub loop-at-preserved : goal.loop-at-preserved
loop-at-preserved c = (
  ap (λ d. d.made) c.in_ok-insert.ensures ∙ c.loop-at.invariant.0,
  ap (λ d. d.least) c.in_ok-insert.ensures ∙ c.loop-at.invariant.1,
  dumping_on c.loop-at.at c.loop-at.dump.files c.insert.new.self.files c.args.names.now.rows c.args.inodes.now.rows.rows c.in-Some.path.now c.in-Some.ino.now c.in_ok-file.file
      (sym c.in-Some.ensures) (c.in_ok-file.ensures ∙ ap file_dumped_if c.get.ensures)
      (ap (λ d. d.files) c.in_ok-insert.ensures ∙ ap (λ p. map.insert c.loop-at.dump.files p c.in_ok-file.file) c.in_ok-copied.ensures)
      c.loop-at.invariant.2,
)

pub returns : goal.returns
returns c =
    let past : map.len c.args.names.now.rows ≤ c.loop-at.at = let e = c.len-at-end.ensures.len in let t = c.loop-at-test.false in omega arith in
    λ i. record {
      made = c.loop-at.invariant.0 i;
      least = c.loop-at.invariant.1 i;
      files = all_dumped c.loop-at.at c.loop-at.dump.files c.args.names.now.rows c.args.inodes.now.rows.rows past c.loop-at.invariant.2 i;
    }
