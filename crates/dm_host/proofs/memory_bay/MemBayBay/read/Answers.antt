use Rattle.dm_host.proofs.memory_bay.MemBayBay.read.Goals as goal

pub returns-in_err-begin-clause-works : goal.returns-in_err-begin-clause-works
returns-in_err-begin-clause-works c = c.begin_call.ensures.works c.args.file

pub returns-clause-works : goal.returns-clause-works
returns-clause-works c = c.begin_call.ensures.works c.args.file
