use Rattle.std.proofs.Common.{◌<◌, ◌∙◌, ◌≡◌, ap, sym, rules, length, arith, string_bytes}
use Rattle.std.proofs.lemmas.Bool.{eqb-true}
use Rattle.std.specs.Str.{bytes_eq}
use Rattle.dm_site.proofs.Words.{run_tested}
use Rattle.dm_site.proofs.script.are_run.Goals as goal

pub returns : goal.returns
returns c =
    run_tested (λ w. string_bytes w) c.args.words.now _ _ c.in-Some.first.now c.in-Some-split_first.folder.now c.eq.result c.in-Some.ensures.cases.0 c.in-Some-split_first.ensures.cases.0
    (search rules) (search rules) (c.eq.ensures ∙ ap (λ t. bytes_eq t _) c.as_str.ensures.value)
