-- Files as a call of the daemon finds them: what their paths and states say.
use Rattle.std.proofs.Common.{◌≡◌, ℕ, Bool, true, false, cond, Option, None, Some, List, refl, sym, ap, subst, ◌∙◌}
use Rattle.std.proofs.lemmas.Bool.{and_from, eq-eqb}
use Rattle.std.specs.FinMap as map
use Rattle.dm_base.specs.declared.identifier.Bfid.{Bfid}
use Rattle.dm_base.specs.declared.identifier.Ino.{Ino}
use Rattle.dm_base.specs.declared.reply.FileState.TheVariants as state
use Rattle.dm_tables.proofs.Orders.{numbers}
use Rattle.dm_tables.proofs.Any.{any-false}
use Rattle.dm_durable.specs.Tables.{ByNumber, ByName}
use Rattle.dm_durable.specs.DaemonConditions.{MayBeMade}
use Rattle.dm_durable.specs.declared.daemon.Contents.{Contents}
use Rattle.dm_durable.specs.declared.daemon.Contents.TheVariants.{Regular, Making, Dual, Offline}
use Rattle.dm_durable.specs.declared.daemon.DaemonStep.{DaemonStep}
use Rattle.dm_durable.specs.declared.daemon.Inode.{Inode}
use Rattle.dm_model.specs.declared.state.Joint.{Joint}
use Rattle.dm_model.specs.declared.state.OpenRequest.{OpenRequest}
use Rattle.dm_model.specs.declared.state.Side.{Side}
use Rattle.dm_model.specs.Guards.{NoneHold}
use Rattle.dm_model.specs.DaemonCalls.{changed_in, time_at, contents_of}
use Rattle.dm_model.specs.Files.{File, file_of, file_named, file_at, is_put_of, has_open_put, has_open_recall, state_of, is_regular, is_dual}
use Rattle.dm_invariant.specs.Doubts.{NoPutOf, MayLand}
use Rattle.std.proofs.lemmas.Option.{same_Some}

-- a request that isn't refused is of a file that wasn't changed since
pub unchanged : (r : OpenRequest) → NoneHold (changed_in r) → r.found ≡ None
unchanged r none =
    elim r.found as (λ o. NoneHold (changed_in (record r { found = o })) → o ≡ None) [
      | None ↦ λ _. refl
      | Some found ↦ λ fails. absurd (cc fails.0)
    ] none

-- the contents of an inode that is there
pub contents_there : (inodes : ByNumber Inode) (n : ℕ) (i : Inode) → map.get inodes n ≡ Some i → contents_of (map.get inodes n) ≡ i.contents
contents_there inodes n i is = rw is refl

-- a file of a path: its name, and its inode
pub record FileThere (names : ByName Ino) (inodes : ByNumber Inode) (path : List ℕ) (f : File) : Type 0 where
  pub n : Ino
  pub name : map.get names path ≡ Some n
  pub number : f.number ≡ n.0
  pub is : map.get inodes n.0 ≡ Some f.inode

-- the same, in the joint state
abbrev pub Found : Joint → List ℕ → File → Type 0
Found j path f = FileThere j.daemon.tables.names j.daemon.tables.inodes path f

file_in_row : (names : ByName Ino) (inodes : ByNumber Inode) (path : List ℕ) (f : File) (n : Ino) (r : Option Inode) → map.get names path ≡ Some n
    → map.get inodes n.0 ≡ r → file_of n.0 r ≡ Some f → FileThere names inodes path f
file_in_row names inodes path f n None name is e = cc
file_in_row names inodes path f n (Some i) name is e =
    let same = same_Some (record { number = n.0; inode = i }) f e in
    record { n = n; name = name; number = sym (ap (λ x. x.number) same); is = is ∙ ap (λ x. Some x.inode) same }

file_by_name : (names : ByName Ino) (inodes : ByNumber Inode) (path : List ℕ) (f : File) (o : Option Ino) → map.get names path ≡ o
    → file_named inodes o ≡ Some f → FileThere names inodes path f
file_by_name names inodes path f None name e = cc
file_by_name names inodes path f (Some n) name e = file_in_row names inodes path f n (map.get inodes n.0) name refl e

-- the file that was found by its path
pub file_there : (names : ByName Ino) (inodes : ByNumber Inode) (path : List ℕ) (f : File) → file_named inodes (map.get names path) ≡ Some f
    → FileThere names inodes path f
file_there names inodes path f e = file_by_name names inodes path f (map.get names path) refl e

-- it is there where the daemon finds it
pub found : (j : Joint) (path : List ℕ) (f : File) → file_at j.daemon path ≡ Some f → Found j path f
found j path f e = file_there j.daemon.tables.names j.daemon.tables.inodes path f e

-- a step of the daemon may land, journalled by a command that read the clock so, with these requests open and these groups
abbrev pub LandsBeside : ByNumber OpenRequest → ByNumber Side → Joint → ℕ → DaemonStep → Type 0
LandsBeside requests sides j now s =
    MayLand j.daemon.tables requests j.history.contents j.daemon.cap sides (record { time = record { 0 = time_at j.daemon now }; step = s })

abbrev pub Lands : Joint → ℕ → DaemonStep → Type 0
Lands j now s = LandsBeside j.daemon.requests j.sides j now s

-- no put is open of a bitfile where the test says so
no_put : (requests : ByNumber OpenRequest) (b : ℕ) → has_open_put requests b ≡ false → NoPutOf requests b
no_put requests b none put =
    let fails = any-false numbers (λ k r. is_put_of b r) requests none put.number put.request put.is in
    let holds = and_from _ _ put.put (eq-eqb _ _ put.same) in
    cc (fails, holds)

-- ---- states

regular_unless : (b : Bool) → is_regular (cond b state.Migrating state.Regular) ≡ true → b ≡ false
regular_unless true e = cc
regular_unless false e = refl

never_regular : (b : Bool) → is_regular (cond b state.Unmigrating state.Offline) ≡ true → ⊥
never_regular true e = cc
never_regular false e = cc

never_dual : (b : Bool) → is_dual (cond b state.Unmigrating state.Offline) ≡ true → ⊥
never_dual true e = cc
never_dual false e = cc

making_not_dual : (b : Bool) → is_dual (cond b state.Migrating state.Regular) ≡ true → ⊥
making_not_dual true e = cc
making_not_dual false e = cc

-- a put of a file that is regular may begin
pub may_be_made : (requests : ByNumber OpenRequest) (n : ℕ) (c : Contents) → is_regular (state_of requests n c) ≡ true → MayBeMade c
may_be_made requests n (Regular bytes) e = tt
may_be_made requests n (Making bytes b) e = tt
may_be_made requests n (Dual bytes b) e = cc
may_be_made requests n (Offline len b) e = never_regular (has_open_recall requests n) e

-- and none is open of it
pub none_being_made : (requests : ByNumber OpenRequest) (n : ℕ) (c : Contents) (bytes : List ℕ) (b : Bfid) → is_regular (state_of requests n c) ≡ true
    → c ≡ Making bytes b → NoPutOf requests b.0
none_being_made requests n c bytes b e making =
    no_put requests b.0 (regular_unless (has_open_put requests b.0) (subst (λ x. is_regular (state_of requests n x) ≡ true) making e))

-- a dual-state file has its bytes and names its bitfile
pub dual_form : (requests : ByNumber OpenRequest) (n : ℕ) (c : Contents) → is_dual (state_of requests n c) ≡ true
    → (bytes : List ℕ) × (b : Bfid) × (c ≡ Dual bytes b)
dual_form requests n (Regular bytes) e = cc
dual_form requests n (Making bytes b) e = absurd (making_not_dual (has_open_put requests b.0) e)
dual_form requests n (Dual bytes b) e = (bytes, b, refl)
dual_form requests n (Offline len b) e = absurd (never_dual (has_open_recall requests n) e)
