-- What code finds, as the definitions have it.
use Rattle.std.specs.Prelude.{ℕ, List, Option, None, length}
use Rattle.dm_base.specs.declared.identifier.Bfid.{Bfid}
use Rattle.dm_base.specs.declared.identifier.GroupId.{GroupId}
use Rattle.dm_durable.specs.declared.daemon.DaemonStep.TheVariants as step
use Rattle.dm_durable.specs.declared.daemon.Inode.{Inode}
use Rattle.dm_model.specs.declared.answer.Answer.TheVariants as answer
use Rattle.dm_model.specs.declared.plan.Opening.TheVariants as opening
use Rattle.dm_model.specs.declared.plan.Prepared.{Prepared}
use Rattle.dm_model.specs.declared.state.Daemon.{Daemon}
use Rattle.dm_model.specs.declared.state.OpenRequest.{OpenRequest}
use Rattle.dm_model.specs.declared.state.RequestKind.TheVariants as kind
use Rattle.dm_model.specs.DaemonCalls.{daemon_healing_plan, journal_payload}
use Rattle.dm_model.specs.Files.{File}
use Rattle.dm_model.specs.Plan.{prepared_plan}
use Rattle.dm_rules.specs.Numbers.{bfid_of, lesser}

-- the file whose inode has this number
abbrev pub numbered : ℕ → Inode → File
numbered n i = record { number = n; inode = i }

-- what a put of these bytes does, of a file whose inode has this number and this last change
abbrev pub put_begun : Daemon → List ℕ → List GroupId → List ℕ → ℕ → ℕ → ℕ → ℕ → Prepared
put_begun d path groups bytes now k n change =
    let b : Bfid = record { 0 = bfid_of d.tables.site d.tables.counter } in
    let request : OpenRequest = record { ino = record { 0 = n }; bfid = b; was = change; found = None; kind = kind.Put } in
    record (prepared_plan (daemon_healing_plan (answer.PutBegun k b bytes change))) {
      payload = journal_payload d now (step.BeginPut path b groups);
      opens = opening.Put k request (length bytes) groups;
    }

-- the greatest number of 128 bits
abbrev pub last_u128 : ℕ
last_u128 = 340282366920938463463374607431768211455

-- a sum as 128 bits hold it: one that passes them stands at their last value
abbrev pub summed : ℕ → ℕ
summed n = lesser n last_u128
