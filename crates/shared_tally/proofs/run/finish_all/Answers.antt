use Rattle.std.proofs.Common.{ℕ, List, ap, ◌∙◌, sym, subst}
use Rattle.dm_spine.specs.Past.{chain}
use Rattle.shared_tally.specs.Counting.{counting, replay}
use Rattle.shared_tally.specs.Tallies.{IsFull}
use Rattle.shared_tally.specs.declared.counting.Added.{Added}
use Rattle.shared_tally.specs.declared.counting.Name.TheVariants.{Counter, Worker}
use Rattle.shared_tally.proofs.Runs.{mine_full, theirs_full, mine_stays, theirs_comes, mine_kept, theirs_kept}
use Rattle.shared_tally.proofs.run.finish_all.Goals as goal

pub returns-clause-total : goal.returns-clause-total
returns-clause-total c =
    let name = Counter c.args.tally.number in
    let kept = c.requires.stands.keeps in
    let all = ap (λ xs. chain counting name xs) c.finish.ensures.seen
    ∙ (mine_stays c.join-2.ensures.joined c.join-2.ensures.together name (mine_kept c.join.ensures.joined c.join.ensures.together name kept)
    ∙ mine_stays c.join.ensures.joined c.join.ensures.together name kept) in
    c.requires.stands.sums.replayed ∙ ap replay (sym all)

pub returns-clause-one : goal.returns-clause-one
returns-clause-one c =
    let name = Worker 1 in
    ap (λ xs. chain counting name xs) c.finish.ensures.seen
    ∙ (mine_stays c.join-2.ensures.joined c.join-2.ensures.together name (theirs_kept c.join.ensures.joined c.join.ensures.together name c.requires.keeps.0)
    ∙ theirs_comes c.join.ensures.joined c.join.ensures.together name c.requires.keeps.0)

pub returns-clause-two : goal.returns-clause-two
returns-clause-two c =
    let name = Worker 2 in
    ap (λ xs. chain counting name xs) c.finish.ensures.seen ∙ theirs_comes c.join-2.ensures.joined c.join-2.ensures.together name c.requires.keeps.1

pub returns-clause-first_full : goal.returns-clause-first_full
returns-clause-first_full c h =
    let F : List (ℕ × Added) → Type 0 = λ xs. IsFull 0 xs in
    subst F (sym c.finish.ensures.seen) (mine_full c.join-2.ensures.joined c.join-2.ensures.together 0 (theirs_full c.join.ensures.joined c.join.ensures.together 0 h))

pub returns-clause-second_full : goal.returns-clause-second_full
returns-clause-second_full c h =
    let F : List (ℕ × Added) → Type 0 = λ xs. IsFull 0 xs in
    subst F (sym c.finish.ensures.seen) (theirs_full c.join-2.ensures.joined c.join-2.ensures.together 0 h)
