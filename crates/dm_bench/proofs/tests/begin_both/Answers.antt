use Rattle.std.proofs.Common.{List, [], ◌∷◌, ◌++◌, ap, ◌∙◌}
use Rattle.dm_model.specs.declared.entry.Name.{Name}
use Rattle.dm_model.specs.declared.entry.Name.TheVariants.{Worker, Side}
use Rattle.dm_model.specs.declared.entry.Part.TheVariants as part
use Rattle.dm_spine.specs.Passes.{kept_by, view_of}
use Rattle.dm_bench.proofs.Entering.{sound_begun}
use Rattle.dm_bench.proofs.Looking.{left_sound, right_sound, split_kept}
use Rattle.dm_bench.proofs.tests.begin_both.Goals as goal

pub split-requires : goal.split-requires
split-requires c x h =
    let b = c.in_ok-_spine in
    let first = c.push_reserved.ensures.items ∙ ap (λ (xs : List Name). xs ++ Side c.args.group part.Itself ∷ []) c.in_ok-names.ensures.items in
    let both = c.push_reserved-2.ensures.items ∙ ap (λ (xs : List Name). xs ++ Worker 1 ∷ []) first in
    split_kept c.args.system c.args.group c.push_reserved-2.new.self.items (kept_by b.first) c.requires.workers c.requires.configured both b.ensures.keeps x h

pub returns-clause-sound : goal.returns-clause-sound
returns-clause-sound c =
    let b = c.in_ok-_spine in
    let names = c.push_reserved-2.new.self.items in
    let first = c.push_reserved.ensures.items ∙ ap (λ (xs : List Name). xs ++ Side c.args.group part.Itself ∷ []) c.in_ok-names.ensures.items in
    let both = c.push_reserved-2.ensures.items ∙ ap (λ (xs : List Name). xs ++ Worker 1 ∷ []) first in
    let fewer = split_kept c.args.system c.args.group names (kept_by b.first) c.requires.workers c.requires.configured both b.ensures.keeps in
    let begun = sound_begun c.args.system (view_of b.first) b.ensures.seen b.ensures.keeps in (
      left_sound c.args.system names (view_of b.first) (view_of c.split.new.self) begun c.in_ok-second.ensures.left,
      right_sound c.args.system names (view_of b.first) (view_of c.in_ok-second.second) begun fewer c.in_ok-second.ensures.right,
    )
