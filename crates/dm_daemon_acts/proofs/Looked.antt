-- What was looked up: files by their paths, states, requests, and the tests of refusals.
use Rattle.std.proofs.Common.{◌≡◌, ◌+◌, ◌-◌, ◌≤◌, ℕ, Bool, true, false, cond, Option, None, Some, is_some, refl, ap, ◌∙◌, arith, List, [], ◌∷◌, nat_eq}
use Rattle.std.proofs.lemmas.Bool.{not-true}
use Rattle.std.proofs.lemmas.Option.{same_Some}
use Rattle.std.specs.FinMap as map
use Rattle.dm_base.specs.declared.identifier.Bfid.{Bfid}
use Rattle.dm_base.specs.declared.identifier.GroupId.{GroupId}
use Rattle.dm_base.specs.declared.identifier.Ino.{Ino}
use Rattle.dm_base.specs.declared.reply.FileState.TheVariants as state
use Rattle.dm_durable.specs.declared.daemon.Contents.{Contents}
use Rattle.dm_durable.specs.declared.daemon.Contents.TheVariants.{Regular, Making, Dual, Offline}
use Rattle.dm_durable.specs.declared.daemon.Inode.{Inode}
use Rattle.dm_durable.specs.DaemonConditions.{MayBeMade, OneOrTwo}
use Rattle.dm_durable.specs.Tables.{ByName, ByNumber}
use Rattle.dm_model.specs.declared.state.OpenRequest.{OpenRequest}
use Rattle.dm_model.specs.DaemonCalls.{are_one_or_two, changed_in}
use Rattle.dm_model.specs.Files.{File, file_named, file_of, has_open_put, has_open_recall, is_dual, is_regular, state_of}
use Rattle.dm_model.specs.Guards.{NoneHold, first_true}

-- no test is true where the first that is true is none
pub none_hold : {X : Type 0} (ts : List (Bool × X)) → first_true ts ≡ None → NoneHold ts
none_hold [] e = tt
none_hold (t ∷ ts) e =
    elim t.0 as (λ b. cond b (Some t.1) (first_true ts) ≡ None → (b ≡ false) × NoneHold ts) [
      | true ↦ λ none. cc
      | false ↦ λ rest. (refl, none_hold ts rest)
    ] e

-- the clock of a call doesn't turn the time back
pub time_kept : (now time : ℕ) → time ≤ now + (time - now)
time_kept now time = omega arith

-- where the test finds no value, there is none
pub no_value : {X : Type 0} (o : Option X) → is_some o ≡ false → o ≡ None
no_value None e = refl
no_value (Some x) e = cc

-- a request that isn't refused is of a file that wasn't changed since
pub unchanged : (r : OpenRequest) → NoneHold (changed_in r) → r.found ≡ None
unchanged r none =
    elim r.found as (λ o. NoneHold (changed_in (record r { found = o })) → o ≡ None) [
      | None ↦ λ _. refl
      | Some found ↦ λ fails. absurd (cc fails.0)
    ] none

-- a file of a path: its name, and its inode
pub record FileThere (names : ByName Ino) (inodes : ByNumber Inode) (path : List ℕ) (f : File) : Type 0 where
  pub n : Ino
  pub name : map.get names path ≡ Some n
  pub is : map.get inodes n.0 ≡ Some f.inode

file_in_row : (names : ByName Ino) (inodes : ByNumber Inode) (path : List ℕ) (f : File) (n : Ino) (r : Option Inode) → map.get names path ≡ Some n
    → map.get inodes n.0 ≡ r → file_of n.0 r ≡ Some f → FileThere names inodes path f
file_in_row names inodes path f n None name is e = cc
file_in_row names inodes path f n (Some i) name is e =
    let same = same_Some (record { number = n.0; inode = i }) f e in
    record { n = n; name = name; is = is ∙ ap (λ x. Some x.inode) same }

file_by_name : (names : ByName Ino) (inodes : ByNumber Inode) (path : List ℕ) (f : File) (o : Option Ino) → map.get names path ≡ o
    → file_named inodes o ≡ Some f → FileThere names inodes path f
file_by_name names inodes path f None name e = cc
file_by_name names inodes path f (Some n) name e = file_in_row names inodes path f n (map.get inodes n.0) name refl e

pub file_there : (names : ByName Ino) (inodes : ByNumber Inode) (path : List ℕ) (f : File) → file_named inodes (map.get names path) ≡ Some f
    → FileThere names inodes path f
file_there names inodes path f e = file_by_name names inodes path f (map.get names path) refl e

-- ---- states

never_regular : (b : Bool) → is_regular (cond b state.Unmigrating state.Offline) ≡ true → ⊥
never_regular true e = cc
never_regular false e = cc

never_dual : (b : Bool) → is_dual (cond b state.Unmigrating state.Offline) ≡ true → ⊥
never_dual true e = cc
never_dual false e = cc

making_not_dual : (b : Bool) → is_dual (cond b state.Migrating state.Regular) ≡ true → ⊥
making_not_dual true e = cc
making_not_dual false e = cc

-- a put of a file that is regular may begin
pub may_be_made : (requests : ByNumber OpenRequest) (n : ℕ) (c : Contents) → is_regular (state_of requests n c) ≡ true → MayBeMade c
may_be_made requests n (Regular bytes) e = tt
may_be_made requests n (Making bytes b) e = tt
may_be_made requests n (Dual bytes b) e = cc
may_be_made requests n (Offline len b) e = never_regular (has_open_recall requests n) e

-- a dual-state file has its bytes and names its bitfile
pub dual_form : (requests : ByNumber OpenRequest) (n : ℕ) (c : Contents) → is_dual (state_of requests n c) ≡ true
    → (bytes : List ℕ) × (b : Bfid) × (c ≡ Dual bytes b)
dual_form requests n (Regular bytes) e = cc
dual_form requests n (Making bytes b) e = absurd (making_not_dual (has_open_put requests b.0) e)
dual_form requests n (Dual bytes b) e = (bytes, b, refl)
dual_form requests n (Offline len b) e = absurd (never_dual (has_open_recall requests n) e)

-- ---- the groups that a put asks

pub one_or_two : (groups : List GroupId) → are_one_or_two groups ≡ true → OneOrTwo groups
one_or_two [] e = cc
one_or_two (g ∷ []) e = tt
one_or_two (g ∷ h ∷ []) e = not-true (nat_eq g.0 h.0) e
one_or_two (g ∷ h ∷ i ∷ rest) e = cc
