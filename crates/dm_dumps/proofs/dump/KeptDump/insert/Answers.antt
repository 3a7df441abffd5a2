use Rattle.std.proofs.Common.{ap, ◌∙◌, sym, ◌%◌, ◌^◌}
use Rattle.std.specs.FinMap as map
use Rattle.dm_durable.specs.Dumps.{bytes_kept}
use Rattle.dm_tables.specs.Totals.{weight_at}
use Rattle.dm_dumps.proofs.Sizes.{size_put, itself}
use Rattle.dm_dumps.proofs.dump.KeptDump.insert.Goals as goal

pub invariant_of-self-2 : goal.invariant_of-self-2
invariant_of-self-2 c =
    size_put bytes_kept c.self.inside.size c.kept_at-before.result c.length_kept-added.result c.self.inside.files.rows c.insert_reserved.new.self.rows c.bytes.result.now c.in_ok-row.row.value.0 c.in_ok-row.row.value.1
    c.kept_at-before.type_inv c.self.invariant
    (itself _ c.kept_at-before.type_inv ∙ ap (λ n. n % 2 ^ 64) (c.kept_at-before.ensures ∙ ap (λ d. weight_at bytes_kept (map.get d.files c.bytes.result.now)) (sym c.self.view_is)))
    (itself _ c.length_kept-added.type_inv ∙ ap (λ n. n % 2 ^ 64) (c.length_kept-added.ensures ∙ ap (λ z. bytes_kept z.1) (sym c.in_ok-row.ensures.ok)))
    (ap (λ z. z.0) c.in_ok-row.ensures.ok ∙ sym c.bytes.ensures.text)
    (c.insert_reserved.ensures.rows ∙ ap (λ m. map.insert m c.in_ok-row.row.value.0 c.in_ok-row.row.value.1) c.reserve.ensures.rows)
