use Rattle.std.proofs.Common.{ℕ, List, rules, ap, sym, ◌∙◌}
use Rattle.std.specs.BTreeMap.{BTreeMap}
use Rattle.std.proofs.lemmas.Result.{on_ok_weaker, on_err_weaker}
use Rattle.dm_plain.specs.Steps.{range_replaced}
use Rattle.dm_plain.proofs.NamespaceEntries.{bytes_of_entries, namespace, one_kept, one_replaced, none_replaced}
use Rattle.dm_plain.proofs.namespace.Plain.patch.Goals as goal

pub returns-in_default-clause-ok : goal.returns-in_default-clause-ok
returns-in_default-clause-ok c =
    let es = c.self.inside.files.entries in
    let ds = c.self.inside.dumps.rows in
    ap (λ (files : BTreeMap (List ℕ) (List ℕ)). namespace files.entries ds c.self.inside.now.0 c.self.inside.age) c.get_mut.follows.holds-at-none
    ∙ none_replaced c.args.path.now c.args.offset c.args.piece.now (namespace es ds c.self.inside.now.0 c.self.inside.age)
    (bytes_of_entries es ds c.self.inside.now.0 c.self.inside.age c.args.path.now ∙ sym c.in_default.ensures.value)
    ∙ ap (range_replaced c.args.path.now c.args.offset c.args.piece.now) c.self.view_is

pub returns-clause-ok : goal.returns-clause-ok
returns-clause-ok c =
    on_ok_weaker c.patch.result
    (λ done.
    one_replaced c.self.inside.files.entries (c.get_mut.follows.lender c.patch.new.bytes).entries c.self.inside.dumps.rows c.self.inside.now.0 c.self.inside.age
    c.args.path.now c.args.offset c.args.piece.now c.in-Some.bytes.now c.patch.new.bytes c.in-Some.ensures.value done
    ((c.get_mut.follows.holds c.patch.new.bytes).3 (search rules)).0
    ∙ ap (range_replaced c.args.path.now c.args.offset c.args.piece.now) c.self.view_is)
    c.patch.ensures.ok

pub returns-clause-err : goal.returns-clause-err
returns-clause-err c =
    on_err_weaker c.patch.result
    (λ same.
    one_kept c.self.inside.files.entries (c.get_mut.follows.lender c.patch.new.bytes).entries c.self.inside.dumps.rows c.self.inside.now.0 c.self.inside.age
    c.args.path.now c.in-Some.bytes.now c.patch.new.bytes c.in-Some.ensures.value same
    ((c.get_mut.follows.holds c.patch.new.bytes).3 (search rules)).0
    ∙ c.self.view_is)
    c.patch.ensures.err
