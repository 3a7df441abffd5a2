use Rattle.std.proofs.Common.{◌≡◌, ℕ, List, Some, ap, ◌∙◌}
use Rattle.std.proofs.lemmas.Result.{on_ok_weaker}
use Rattle.dm_plain.specs.Namespace.{with_file}
use Rattle.dm_plain.specs.Steps.{bytes_dumped}
use Rattle.dm_plain.proofs.NamespaceEntries.{restored_bytes, restored_none}
use Rattle.dm_plain.proofs.namespace.Plain.restore.Goals as goal

pub returns-in_ok-copied-in-Some-clause-ok : goal.returns-in_ok-copied-in-Some-clause-ok
returns-in_ok-copied-in-Some-clause-ok c =
    let there : Some c.in_ok-bytes-in-Some.bytes ≡ bytes_dumped c.args.name.now c.args.path.now c.args.self.now =
    ap Some c.in_ok-bytes-in-Some.ensures ∙ c.in-Some.ensures in
    on_ok_weaker c.write.result
    (λ done. done ∙ ap (λ (target : List ℕ). with_file target c.in_ok-bytes-in-Some.bytes c.args.self.now) c.in_ok-copied-in-Some.ensures
    ∙ restored_bytes c.args.name.now c.args.path.now c.args.target.now c.in_ok-bytes-in-Some.bytes c.args.self.now there)
    c.write.ensures.ok

pub returns-in-None : goal.returns-in-None
returns-in-None c = record {
  ok = restored_none c.args.name.now c.args.path.now c.args.target.now c.args.self.now c.in-None.ensures;
  err = tt;
}
