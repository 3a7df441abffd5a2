use Rattle.std.proofs.Common.{◌≡◌, ℕ, sym, ap, ◌∙◌, subst}
use Rattle.dm_spine.specs.Past.{chain}
use Rattle.dm_spine.specs.Passes.{view_of, seen_by}
use Rattle.dm_spine.proofs.Uses.{given_left_seen, given_name, given_kept, given_chain}
use Rattle.shared_tally.specs.Counting.{counting, lawful_counting, replay}
use Rattle.shared_tally.specs.declared.counting.Name.TheVariants.{Counter, Worker}
use Rattle.shared_tally.proofs.Additions.{totals_same, entered_keeps, worker_kept, adds_said, stands_said}
use Rattle.shared_tally.proofs.tally.Tally.add.Goals as goal

pub enter-entered-requires-clause-sums : goal.enter-entered-requires-clause-sums
enter-entered-requires-clause-sums c =
    let t = c.args.self.now in
    totals_same t.number t.total t.count (seen_by t.pass) (seen_by c.give.new.other) (given_chain lawful_counting c.give.ensures.gives) c.requires.stands.sums

pub enter-entered-requires-clause-keeps : goal.enter-entered-requires-clause-keeps
enter-entered-requires-clause-keeps c =
    let there = c.give.ensures.gives in
    (given_name lawful_counting there, given_kept lawful_counting there (Worker c.args.worker) c.requires.keeps)

pub give-requires-2-clause-keeps : goal.give-requires-2-clause-keeps
give-requires-2-clause-keeps c =
    let number = c.args.self.now.number in
    entered_keeps number c.args.worker c.args.amount c.enter-entered.new.self.total (view_of c.give.new.other) (view_of c.enter-entered.new.me) c.enter-entered.result (Counter number) c.enter-entered.ensures.entered c.enter-entered.ensures.full (given_name lawful_counting c.give.ensures.gives)

pub returns-clause-stands : goal.returns-clause-stands
returns-clause-stands c =
    let t = c.enter-entered.new.self in
    let back = c.give-2.ensures.gives in (
      stands_said t.number c.args.self.now.number t.total t.count c.give-2.new.other (seen_by c.enter-entered.new.me) c.enter-entered.ensures.same.1 c.requires.stands.known
          (given_name lawful_counting back) (given_chain lawful_counting back) c.enter-entered.ensures.sums,
      c.enter-entered.ensures.same.1,
    )

pub returns-clause-keeps : goal.returns-clause-keeps
returns-clause-keeps c =
    worker_kept c.args.self.now.number c.args.worker c.args.amount c.enter-entered.new.self.total c.give.ensures.gives c.give-2.ensures.gives c.enter-entered.result c.enter-entered.ensures.entered c.enter-entered.ensures.full c.requires.keeps

pub returns-clause-told : goal.returns-clause-told
returns-clause-told c =
    let back = c.give-2.ensures.gives in
    ap (λ xs. chain counting (Counter c.args.self.now.number) xs) (given_left_seen lawful_counting back) ∙ sym (given_chain lawful_counting back)

pub returns-clause-added : goal.returns-clause-added
returns-clause-added c =
    let t = c.enter-entered.new.self in
    let P : ℕ → Type 0 = λ n. t.total ≡ replay (chain counting (Counter n) (seen_by c.enter-entered.new.me)) in
    adds_said c.args.self.now.number c.args.worker c.args.amount t.total c.give.ensures.gives c.give-2.ensures.gives c.enter-entered.result c.enter-entered.ensures.entered c.enter-entered.ensures.full c.requires.keeps
    (subst P c.enter-entered.ensures.same.1 c.enter-entered.ensures.sums.replayed)
