use Rattle.std.proofs.Common.{arith, subst}
use Rattle.dm_fields.specs.Writing.{IsPut}
use Rattle.dm_records.proofs.LogForms.{head_length, head_put}
use Rattle.dm_records.proofs.logs.put_head.Goals as goal

pub put-requires-clause-room : goal.put-requires-clause-room
put-requires-clause-room c =
    let h = c.args.head.now in
    let long = head_length (h.time, (c.name_of-name.result, (h.site, (h.first, h.age)))) in
    omega (arith, c.requires.room)

pub returns : goal.returns
returns c =
    subst (λ s. IsPut s c.args.at c.args.out.now c.put.new.out c.put.result) (head_put c.args.head.now c.name_of-name.result c.name_of-name.ensures) c.put.ensures
