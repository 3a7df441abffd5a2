use Rattle.std.proofs.Common.{sym, ◌∙◌}
use Rattle.dm_ckpt.specs.declared.files.Index.TheVariants.{First, Second}
use Rattle.dm_ckpt.specs.Files.{area_file}
use Rattle.dm_ckpt.proofs.Four.{area_mine}
use Rattle.dm_ckpt.proofs.Outcome.{so_ok}
use Rattle.dm_ckpt.proofs.Settling.{unchanged_then, unchanged_told}
use Rattle.dm_ckpt.proofs.opening.sync_all.Goals as goal

pub returns-clause-unchanged : goal.returns-clause-unchanged
returns-clause-unchanged g c =
    let c' = c.args.component in
    let a = g.B.Bay.disk c.args.bay.now in
    let b = g.B.Bay.disk c.sync_index.new.bay in
    let d = g.B.Bay.disk c.sync_index-2.new.bay in
    let u = c.sync_index.ensures.unchanged in
    let v = c.sync_index-2.ensures.unchanged in
    unchanged_then c' a b d u v

pub returns-clause-synced : goal.returns-clause-synced
returns-clause-synced g c = λ told.
    let c' = c.args.component in
    let a = g.B.Bay.disk c.args.bay.now in
    let b = g.B.Bay.disk c.sync_index.new.bay in
    let d = g.B.Bay.disk c.sync_index-2.new.bay in
    let u = c.sync_index.ensures.unchanged in
    let v = c.sync_index-2.ensures.unchanged in
    let f = area_file c' First in
    let first = c.in_ok-sync_index.ensures.area (told f (area_mine c' First)) in
    let told2 = unchanged_told c' a b u told in
    so_ok c.sync_index-2.result (c.sync_index-2.ensures.area (told2 (area_file c' Second) (area_mine c' Second))) (λ second. record {
      first = λ x left. first x (v.left f x (area_mine c' First) left) ∙ sym (v.seen f (area_mine c' First));
      second = second;
    })
