use Rattle.dm_fields.proofs.CopyForms.{few_groups, few_flags, copies_read, copies_absent}
use Rattle.dm_fields.proofs.copies.CopiesField.read.Goals as goal

pub returns-in_default-take : goal.returns-in_default-take
returns-in_default-take c = λ x rest fits e. few_groups x.items c.args.input.now c.take_byte.new.input rest c.in-Some.count c.in-Some.ensures.1 e c.in_default-take.ensures

pub returns-in_default-take-2 : goal.returns-in_default-take-2
returns-in_default-take-2 c = λ x rest fits e.
    few_flags x.items c.args.input.now c.take_byte.new.input rest c.in-Some.count c.in-Some.ensures.1 e c.in-Some-take.groups.now c.take.new.self c.in-Some-take.ensures.0 c.in-Some-take.ensures.1 c.in_default-take-2.ensures

pub returns-in-Ok : goal.returns-in-Ok
returns-in-Ok c =
    copies_read c.args.input.now c.take_byte.new.input c.take.new.self c.take-2.new.self c.in-Some-take.groups.now c.in-Some-take-2.flags.now c.in-Some.count c.in-Ok.items c.in-Some.ensures.0 c.in-Some.ensures.1 c.in-Some-take.ensures.0 c.in-Some-take.ensures.1 c.in-Some-take-2.ensures.1 c.in-Ok.ensures

pub returns-in-Err : goal.returns-in-Err
returns-in-Err c =
    copies_absent c.args.input.now c.take_byte.new.input c.take.new.self c.take-2.new.self c.take-2.new.self c.in-Some-take.groups.now c.in-Some-take-2.flags.now c.in-Some.count c.in-Err.error c.in-Some.ensures.1 c.in-Some-take.ensures.0 c.in-Some-take.ensures.1 c.in-Some-take-2.ensures.0 c.in-Some-take-2.ensures.1 c.in-Err.ensures
