use Rattle.std.proofs.Common.{arith, subst, ap, sym, ◌∷◌}
use Rattle.dm_fields.specs.Writing.{IsPut}
use Rattle.dm_group_records.proofs.LogForms.{head_length, head-spelling, name}
use Rattle.dm_group_records.proofs.logs.put_head.Goals as goal

pub put-requires-clause-room : goal.put-requires-clause-room
put-requires-clause-room c = let long = head_length (c.args.time, (name, c.args.group)) in omega arith

pub returns : goal.returns
returns c = subst (λ s. IsPut s c.args.at c.args.out.now c.put.new.out c.put.result) (ap (1 ∷◌) (sym (head-spelling c.args.time c.args.group))) c.put.ensures
