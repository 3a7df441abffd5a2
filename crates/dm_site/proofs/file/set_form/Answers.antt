use Rattle.std.proofs.Common.{rules, inl, ap}
use Rattle.dm_site.specs.Files.{file_in}
use Rattle.dm_site.specs.declared.file.File.{File}
use Rattle.dm_site.proofs.Tables.{sets_form, form_or_same}
use Rattle.dm_site.proofs.file.set_form.Goals as goal

pub returns-in-Some-clause-sets : goal.returns-in-Some-clause-sets
returns-in-Some-clause-sets c =
    let written : File = record { change = c.in-Some.file.now.change; form = c.args.form } in
    λ file there.
    sets_form c.args.files.now (c.get_mut.follows.lender written) _ c.in-Some.file.now file c.args.form ((c.get_mut.follows.holds written).3 (search rules))
    c.in-Some.ensures.value there

pub returns-in-Some-clause-others : goal.returns-in-Some-clause-others
returns-in-Some-clause-others c =
    let written : File = record { change = c.in-Some.file.now.change; form = c.args.form } in
    form_or_same c.args.files.now (c.get_mut.follows.lender written) _ c.in-Some.file.now c.args.form ((c.get_mut.follows.holds written).3 (search rules))
