-- Worked events: what the definitions compute to, where a session of the documents or a rule in plain words says it.
--
-- Each is a number or an answer that was worked out by hand. They show that a definition is as meant at these places, and
-- nothing stands on them.
use Rattle.std.proofs.Common.{◌≡◌, refl, ap, ℕ, Bool, true, false, Option, None, Some, List, [], ◌∷◌, nat_le}
use Rattle.std.specs.FinMap as map
use Rattle.dm_base.specs.declared.error.DaemonError.TheVariants as error
use Rattle.dm_base.specs.declared.identifier.Bfid.{Bfid}
use Rattle.dm_base.specs.declared.identifier.GroupId.{GroupId}
use Rattle.dm_base.specs.declared.volume.VolState.TheVariants.{Empty, Held}
use Rattle.dm_durable.specs.declared.daemon.Dump.{Dump}
use Rattle.dm_durable.specs.declared.daemon.Entry.{Entry}
use Rattle.dm_durable.specs.Dumps.{with_least}
use Rattle.dm_durable.specs.Entries.{is_due}
use Rattle.dm_durable.specs.Tables.{ByName}
use Rattle.dm_model.specs.declared.answer.Answer.TheVariants as answer
use Rattle.dm_model.specs.declared.call.Call.TheVariants as call
use Rattle.dm_model.specs.declared.call.Component.TheVariants as component
use Rattle.dm_model.specs.declared.call.DaemonCall.TheVariants as daemon_call
use Rattle.dm_model.specs.declared.call.Event.TheVariants as event
use Rattle.dm_model.specs.declared.guard.Guard.TheVariants as guard
use Rattle.dm_model.specs.declared.plan.Ending.TheVariants as ending
use Rattle.dm_model.specs.declared.state.Daemon.{Daemon}
use Rattle.dm_model.specs.declared.state.Group.{Group}
use Rattle.dm_model.specs.declared.state.Image.{Image}
use Rattle.dm_model.specs.declared.state.Joint.{Joint}
use Rattle.dm_model.specs.declared.state.OpenRequest.{OpenRequest}
use Rattle.dm_model.specs.declared.state.RequestKind.TheVariants as kind
use Rattle.dm_model.specs.declared.state.Reserved.{Reserved}
use Rattle.dm_model.specs.DaemonCalls.{begin_put, end_put, is_expired, set_age}
use Rattle.dm_model.specs.Files.{asked_by}
use Rattle.dm_model.specs.GroupCalls.{missing, mount_chunk_of, mount_piece_of}
use Rattle.dm_model.specs.Guards.{lowest_false}
use Rattle.dm_model.specs.Plan.{illegal_call, illegal_fault, no_needs, prepared_plan}
use Rattle.dm_model.specs.SideShare.{images_labelled, without_known}
use Rattle.dm_model.specs.Step.{Illegal, Stepped, doubt_outcome, step}
use Rattle.dm_rules.specs.Merge.{is_ready}
use Rattle.dm_tables.specs.Rows.{adjust}

-- ---- guards, each broken once

-- a call that uses no device has no fault
no_fault-next_dropping : (j : Joint) (w : ℕ) (after : Option Bfid) (healed checkpointed : Bool)
    → step j w (event.Fault (call.Daemon (daemon_call.NextDropping after)) healed checkpointed) ≡ Illegal guard.DeviceUsed
no_fault-next_dropping j w after healed checkpointed = refl

no_fault-missing : (g : GroupId) (x : Group) → illegal_fault (missing g x) no_needs ≡ Some guard.DeviceUsed
no_fault-missing g x = refl

-- a piece that isn't there, and a mount's number that came before: the lower guard is named
wrong_piece-old_number : (g : GroupId) (x : Group) (r : Reserved) (k m : ℕ) → nat_le x.next_mount m ≡ false
    → illegal_call (mount_piece_of g x r k m None) no_needs ≡ Some guard.Tokens
wrong_piece-old_number g x r k m old = ap (λ b. lowest_false ((false, guard.PieceReserved) ∷ (b, guard.Tokens) ∷ [])) old

wrong_piece-new_number : (g : GroupId) (x : Group) (r : Reserved) (k m : ℕ) → nat_le x.next_mount m ≡ true
    → illegal_call (mount_piece_of g x r k m None) no_needs ≡ Some guard.PieceReserved
wrong_piece-new_number g x r k m new = ap (λ b. lowest_false ((false, guard.PieceReserved) ∷ (b, guard.Tokens) ∷ [])) new

-- so it is at an offset where no chunk begins; and a fault, which makes no mount, doesn't look at the number
wrong_offset-old_number : (g : GroupId) (x : Group) (b : Bfid) (m : ℕ) → nat_le x.next_mount m ≡ false
    → illegal_call (mount_chunk_of g x b m None) no_needs ≡ Some guard.Tokens
wrong_offset-old_number g x b m old = ap (λ t. lowest_false ((false, guard.ChunkWanted) ∷ (t, guard.Tokens) ∷ [])) old

wrong_offset-fault : (g : GroupId) (x : Group) (b : Bfid) (m : ℕ) → illegal_fault (mount_chunk_of g x b m None) no_needs ≡ Some guard.ChunkWanted
wrong_offset-fault g x b m = refl

-- two copies in one group, a second place alone, and no group
abbrev first_group : GroupId
first_group = record { 0 = 1 }

asked_twice : (d : Daemon) (path : List ℕ) (now k : ℕ)
    → illegal_call (begin_put d path (Some first_group ∷ Some first_group ∷ []) now k None) no_needs ≡ Some guard.AskedGroups
asked_twice d path now k = refl

asked_second : (d : Daemon) (path : List ℕ) (now k : ℕ)
    → illegal_call (begin_put d path (None ∷ Some first_group ∷ []) now k None) no_needs ≡ Some guard.AskedGroups
asked_second d path now k = refl

asked_none : (d : Daemon) (path : List ℕ) (now k : ℕ)
    → illegal_call (begin_put d path (None ∷ None ∷ []) now k None) no_needs ≡ Some guard.AskedGroups
asked_none d path now k = refl

asked_one : (d : Daemon) (path : List ℕ) (now k : ℕ)
    → illegal_call (begin_put d path (Some first_group ∷ None ∷ []) now k None) no_needs ≡ None
asked_one d path now k = refl

-- nothing landed where nothing is in doubt; a look leaves what is
nothing_landed : (j : Joint) → doubt_outcome j component.Daemon None ≡ Illegal guard.InDoubt
nothing_landed j = refl

look_of_daemon : (j : Joint) (w : ℕ) → step j w (event.Look component.Daemon) ≡ Stepped j answer.Looked
look_of_daemon j w = refl

-- ---- requests

-- a put of change 1 of a file that change 2 wrote: its end says so, journals nothing and is over
abbrev changed_put : OpenRequest
changed_put = record {
  ino = record { 0 = 1 };
  bfid = record { 0 = 18446744073709551617 };
  was = 1;
  found = Some 2;
  kind = kind.Put;
}

changed_put-answer : (d : Daemon) (k now : ℕ)
    → (prepared_plan (end_put d k now (Some changed_put))).answer ≡ answer.DaemonRefused (error.Changed 1 2)
changed_put-answer d k now = refl

changed_put-payload : (d : Daemon) (k now : ℕ) → (prepared_plan (end_put d k now (Some changed_put))).payload ≡ None
changed_put-payload d k now = refl

changed_put-ends : (d : Daemon) (k now : ℕ)
    → (prepared_plan (end_put d k now (Some changed_put))).ends ≡ ending.Put k changed_put.bfid (asked_by (map.get d.tables.entries changed_put.bfid.0))
changed_put-ends d k now = refl

-- ---- ages

-- an entry that was let go at 10, with age 100: it isn't due at 109, and is at 110
abbrev let_go_at_ten : Entry
let_go_at_ten = record {
  len = 5;
  copies = record { group = first_group; stored = true } ∷ [];
  gone = Some (record { 0 = 10 });
  dropping = false;
}

not_due-109 : is_due 109 100 let_go_at_ten ≡ false
not_due-109 = refl

due-110 : is_due 110 100 let_go_at_ten ≡ true
due-110 = refl

-- a dump of time 10 under age 100: restored from at 109, and not at 110; with an age of 50 in between at 59 and not at 60,
-- also where the age is 200 since
abbrev dump_of_ten : Dump
dump_of_ten = record { made = record { 0 = 10 }; least = 100; files = map.empty }

restored-109 : (is_expired 109 dump_of_ten).0 ≡ false
restored-109 = refl

expired-110 : is_expired 110 dump_of_ten ≡ (true, answer.DaemonRefused (error.Expired (record { 0 = 110 }) (record { 0 = 10 }) 100))
expired-110 = refl

restored-59 : (is_expired 59 (with_least 200 (with_least 50 dump_of_ten))).0 ≡ false
restored-59 = refl

expired-60 : is_expired 60 (with_least 200 (with_least 50 dump_of_ten))
    ≡ (true, answer.DaemonRefused (error.Expired (record { 0 = 60 }) (record { 0 = 10 }) 50))
expired-60 = refl

-- an age of 32 bits is set, and no greater one
age_too_great : (d : Daemon) (now : ℕ) → (prepared_plan (set_age d 4294967296 now)).answer ≡ answer.DaemonRefused (error.TooMany 4294967295)
age_too_great d now = refl

age_set : (d : Daemon) (now : ℕ) → (prepared_plan (set_age d 4294967295 now)).answer ≡ answer.AgeSet
age_set d now = refl

-- ---- volumes

-- held at 1000 for 50 seconds: not ready at 1049, ready at 1050
not_ready-1049 : is_ready 1049 50 1 1 (Held (record { 0 = 1000 })) ≡ false
not_ready-1049 = refl

ready-1050 : is_ready 1050 50 1 1 (Held (record { 0 = 1000 })) ≡ true
ready-1050 = refl

-- an empty volume is ready where it gets version 2, and else not
empty_ready : is_ready 0 50 2 1 Empty ≡ true
empty_ready = refl

empty_stays : is_ready 0 50 1 1 Empty ≡ false
empty_stays = refl

-- a volume that gets version 1 keeps what is known where its file is faithful, and one that gets version 2 always
faithful_known : (vsn : List ℕ) (images : ByName Image) → images_labelled (0 ∷ []) 1 0 vsn images ≡ images
faithful_known vsn images = refl

unfaithful_lost : (vsn : List ℕ) (images : ByName Image) → images_labelled (1 ∷ []) 1 0 vsn images ≡ adjust images vsn without_known
unfaithful_lost vsn images = refl

second_known : (vsn : List ℕ) (images : ByName Image) → images_labelled [] 2 0 vsn images ≡ images
second_known vsn images = refl
