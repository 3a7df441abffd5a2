use Rattle.std.proofs.Common.{◌+◌, ℕ, List, refl, sym, ap, subst, ◌∙◌, arith}
use Rattle.dm_model.specs.declared.call.Component.TheVariants as component
use Rattle.dm_model.specs.declared.entry.HistoryEntry.{HistoryEntry}
use Rattle.dm_model.specs.declared.entry.Name.{Name}
use Rattle.dm_model.specs.declared.entry.Name.TheVariants.{Daemon, Worker, Side}
use Rattle.dm_model.specs.declared.entry.Part.TheVariants as part
use Rattle.dm_spine.specs.Passes.{parts_of, past_of, view_of}
use Rattle.dm_spine.specs.Past.{In, Legal, at_home, union}
use Rattle.dm_spine.specs.Rule.{IsSound}
use Rattle.dm_spine.specs.declared.rule.View.{View}
use Rattle.dm_spine.proofs.Lists.{in_left, in_right}
use Rattle.dm_spine.proofs.Uses.{beside_parts, drawn_there, same_home, still_kept}
use Rattle.dm_bench.specs.Drawing.{look_entry}
use Rattle.dm_bench.specs.Looks.{IsConfigured}
use Rattle.dm_bench.specs.Systems.{loaded_by, machine, machine_lawful}
use Rattle.dm_bench.specs.declared.system.System.{System}
use Rattle.dm_bench.proofs.Entering.{more_at}
use Rattle.dm_bench.proofs.Looking.{seen_last}
use Rattle.dm_bench.proofs.Pasts.{runs}
use Rattle.dm_bench.proofs.tests.look_all.Goals as goal

pub look-requires-clause-counted : goal.look-requires-clause-counted
look-requires-clause-counted c = sym (ap (λ (xs : List (ℕ × HistoryEntry)). at_home machine Daemon xs) c.requires.seen.0)

pub look-entries-requires-clause-configured : goal.look-entries-requires-clause-configured
look-entries-requires-clause-configured c =
    subst (λ (s : System). IsConfigured (loaded_by s).state (component.Group c.args.group)) (beside_parts c.args.first c.args.second c.requires.beside)
    c.requires.configured

pub look-entries-requires-clause-counted : goal.look-entries-requires-clause-counted
look-entries-requires-clause-counted c =
    sym (ap (λ (xs : List (ℕ × HistoryEntry)). at_home machine (Side c.args.group part.Itself) xs) c.requires.seen.1)

pub join-requires : goal.join-requires
join-requires c = sym c.look.ensures.spine ∙ (c.requires.beside ∙ c.look-entries.ensures.spine)

pub look-requires-2-clause-sound : goal.look-requires-2-clause-sound
look-requires-2-clause-sound c =
    let old = c.look.new.pass in
    let new = c.join.new.self in
    subst (λ (s : System). IsSound machine s (view_of new)) (beside_parts old new c.join.ensures.spine)
    (subst (λ (v : View HistoryEntry Name). IsSound machine (parts_of old) v) (sym c.join.ensures.joined) c.join.ensures.together.sound)

pub look-requires-2-clause-keeps : goal.look-requires-2-clause-keeps
look-requires-2-clause-keeps c =
    let group = Side c.args.group part.Itself in
    let mine = view_of c.look.new.pass in
    let theirs = view_of c.look-entries.new.pass in
    let P : Name → View HistoryEntry Name → Type 0 = λ x v. In x v.keeps in (
      subst (P group) (sym c.join.ensures.joined) (in_right group mine.keeps theirs.keeps (still_kept c.look-entries.ensures.enters.1 group c.requires.second.0 refl)),
      subst (P (Worker 0)) (sym c.join.ensures.joined) (in_left (Worker 0) mine.keeps theirs.keeps (still_kept c.look.ensures.enters.1 (Worker 0) c.requires.first.1 refl)),
    )

pub look-requires-2-clause-configured : goal.look-requires-2-clause-configured
look-requires-2-clause-configured c =
    subst (λ (s : System). IsConfigured (loaded_by s).state (component.Group c.args.group))
    (beside_parts c.args.first c.look.new.pass c.look.ensures.spine ∙ beside_parts c.look.new.pass c.join.new.self c.join.ensures.spine)
    c.requires.configured

pub look-requires-2-clause-counted : goal.look-requires-2-clause-counted
look-requires-2-clause-counted c =
    let group = Side c.args.group part.Itself in
    let mine = view_of c.look.new.pass in
    let theirs = view_of c.look-entries.new.pass in
    let kept = still_kept c.look-entries.ensures.enters.1 group c.requires.second.0 refl in
    c.look-entries.ensures.counted
    ∙ (sym (same_home machine_lawful group (union mine.seen theirs.seen) theirs.seen (c.join.ensures.together.theirs group kept))
    ∙ sym (ap (λ (v : View HistoryEntry Name). at_home machine group v.seen) c.join.ensures.joined))

pub look-requires-2-clause-room : goal.look-requires-2-clause-room
look-requires-2-clause-room c =
    let group = Side c.args.group part.Itself in
    let old = view_of c.args.second in
    let new = view_of c.look-entries.new.pass in
    let more = more_at (parts_of c.args.second) (look_entry 1 (component.Group c.args.group)) old new c.look-entries.ensures.enters in
    let none = ap (λ (xs : List (ℕ × HistoryEntry)). at_home machine group xs) c.requires.seen.1 in
    let is = c.look-entries.ensures.counted ∙ (more ∙ ap (λ (n : ℕ). n + 1) none) in
    omega (arith, is)

-- ---- the past

pub returns-clause-run : goal.returns-clause-run
returns-clause-run c j opening =
    let past = past_of c.finish.result in
    let last = c.look-2.new.pass in
    let same = beside_parts c.args.first c.look.new.pass c.look.ensures.spine
    ∙ (beside_parts c.look.new.pass c.join.new.self c.join.ensures.spine ∙ beside_parts c.join.new.self last c.look-2.ensures.spine) in
    runs (parts_of c.args.first) j past opening c.finish.ensures.rises (subst (λ (s : System). Legal machine s past) (sym same) c.finish.ensures.legal)

pub returns-clause-daemon : goal.returns-clause-daemon
returns-clause-daemon c =
    let d = c.look.ensures.enters in
    let a : ℕ × HistoryEntry = (d.0, look_entry 0 component.Daemon) in
    (d.0, seen_last (parts_of c.join.new.self) (look_entry 0 (component.Group c.args.group)) (view_of c.look.new.pass) (view_of c.look-entries.new.pass) (view_of c.join.new.self) (view_of c.look-2.new.pass) (past_of c.finish.result) c.join.ensures.joined c.look-2.ensures.enters c.finish.ensures.seen a (c.join.ensures.together.left a (drawn_there d.1)))

pub returns-clause-group : goal.returns-clause-group
returns-clause-group c =
    let d = c.look-entries.ensures.enters in
    let a : ℕ × HistoryEntry = (d.0, look_entry 1 (component.Group c.args.group)) in
    (d.0, seen_last (parts_of c.join.new.self) (look_entry 0 (component.Group c.args.group)) (view_of c.look.new.pass) (view_of c.look-entries.new.pass) (view_of c.join.new.self) (view_of c.look-2.new.pass) (past_of c.finish.result) c.join.ensures.joined c.look-2.ensures.enters c.finish.ensures.seen a (c.join.ensures.together.right a (drawn_there d.1)))

pub returns-clause-again : goal.returns-clause-again
returns-clause-again c =
    let d = c.look-2.ensures.enters in
    (d.0, subst (λ (xs : List (ℕ × HistoryEntry)). In (d.0, look_entry 0 (component.Group c.args.group)) xs) (sym c.finish.ensures.seen) (drawn_there d.1))
