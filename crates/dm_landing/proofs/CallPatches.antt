-- What a patch that isn't refused journals may land.
use Rattle.std.proofs.Common.{◌≡◌, inl, ℕ, ◌+◌, ◌≤◌, Some, is_some, List, length, ap, arith}
use Rattle.std.proofs.lemmas.Bool.{ltb-false}
use Rattle.dm_base.specs.Limits.{file_limit}
use Rattle.dm_plain.proofs.Patching.{length-patched}
use Rattle.dm_rules.specs.Patching.{with_patch}
use Rattle.dm_durable.specs.Inodes.{length_of, bytes_online}
use Rattle.dm_durable.specs.declared.daemon.Contents.{Contents}
use Rattle.dm_durable.specs.declared.daemon.Contents.TheVariants.{Regular, Making, Dual, Offline}
use Rattle.dm_durable.specs.declared.daemon.DaemonStep.TheVariants.{Write}
use Rattle.dm_model.specs.declared.state.Joint.{Joint}
use Rattle.dm_model.specs.DaemonCalls.{patch}
use Rattle.dm_model.specs.Files.{File, file_at}
use Rattle.dm_model.specs.Guards.{NoneHold}
use Rattle.dm_invariant.specs.Kept.{InvariantHolds}
use Rattle.dm_landing.proofs.CallFiles.{Found, found, Lands}
use Rattle.dm_landing.proofs.CallWrites.{write_may}

-- the bytes that are online are no more than the file's
online_within : (c : Contents) → length (bytes_online c) ≤ length_of c
online_within (Regular bytes) = omega arith
online_within (Making bytes b) = omega arith
online_within (Dual bytes b) = omega arith
online_within (Offline len b) = omega arith

patched_short : (j : Joint) (path : List ℕ) (offset : ℕ) (bytes : List ℕ) (f : File) → InvariantHolds j → Found j path f → offset + length bytes ≤ file_limit
    → length (with_patch offset bytes (bytes_online f.inode.contents)) ≤ file_limit
patched_short j path offset bytes f kept at ends =
    let old = (kept.files.state.inodes at.n.0 f.inode at.is).short in
    let online = online_within f.inode.contents in
    let whole = length-patched offset bytes (bytes_online f.inode.contents) in
    omega (arith, old, online, whole, ends)

pub patch_lands : (j : Joint) → InvariantHolds j → (path : List ℕ) (offset : ℕ) (bytes : List ℕ) (now : ℕ) (f : File) → file_at j.daemon path ≡ Some f
    → NoneHold (patch j.daemon path offset bytes now (Some f)).refusals
    → Lands j now (Write path (j.daemon.tables.change + 1) (with_patch offset bytes (bytes_online f.inode.contents)))
patch_lands j kept path offset bytes now f at none =
    let there = found j path f at in
    let short = patched_short j path offset bytes f kept there (ltb-false _ _ none.0) in
    write_may j path (with_patch offset bytes (bytes_online f.inode.contents)) now (Some f) at short (inl (ap is_some there.name)) none.1.1.0 none.1.1.1.0
