-- The size of files and dumps, after each step.
use Rattle.std.proofs.Common.{◌≡◌, ℕ, ◌+◌, Bool, true, false, cond, Option, None, Some, List, [], ◌∷◌, refl, ap, sym, ◌∙◌, arith, length}
use Rattle.std.specs.List.{AllByRecursion}
use Rattle.std.specs.FinMap.{FinMap, get, insert, entries}
use Rattle.std.specs.declared.cmp.Ordering.{Ordering}
use Rattle.dm_base.specs.declared.identifier.Bfid.{Bfid}
use Rattle.dm_base.specs.declared.identifier.GroupId.{GroupId}
use Rattle.dm_base.specs.declared.identifier.Ino.{Ino}
use Rattle.dm_tables.specs.Rows.{EachRow, adjust, changed, map_values}
use Rattle.dm_tables.specs.Totals.{total, sum_of, weight_at}
use Rattle.dm_tables.proofs.Entries.{entries-each, entries-mapped}
use Rattle.dm_tables.proofs.Orders.{KeyOrder, numbers, paths}
use Rattle.dm_tables.proofs.Adjusted.{adjust-none}
use Rattle.dm_tables.proofs.Sums.{total-entries, total-insert, total-adjust}
use Rattle.dm_durable.specs.declared.daemon.Contents.{Contents}
use Rattle.dm_durable.specs.declared.daemon.Contents.TheVariants.{Regular, Making, Dual, Offline}
use Rattle.dm_durable.specs.declared.daemon.DaemonTables.{DaemonTables}
use Rattle.dm_durable.specs.declared.daemon.DaemonStep.{DaemonStep}
use Rattle.dm_durable.specs.declared.daemon.DaemonStep.TheVariants as step
use Rattle.dm_durable.specs.declared.daemon.Dump.{Dump}
use Rattle.dm_durable.specs.declared.daemon.Inode.{Inode}
use Rattle.dm_durable.specs.Tables.{ByNumber, ByName}
use Rattle.dm_durable.specs.Inodes.{length_of, as_making, as_ended, as_offline, as_recalled, with_contents}
use Rattle.dm_durable.specs.Dumps.{with_least, dump_size}
use Rattle.dm_durable.specs.Daemon.{size_of_files, size_of_dumps, size_of, after_begin_put, after_begin_put_at, after_release, after_restart, after_step}
use Rattle.dm_durable.specs.DaemonConditions.{MayBeMade, MayBeginPut, MayTake, MayStep}

-- ---- lengths

-- the end of a put and a release keep the length of a file
pub length_ended : (dual : Bool) (c : Contents) → length_of (as_ended dual c) ≡ length_of c
length_ended true (Making bytes b) = refl
length_ended false (Making bytes b) = refl
length_ended dual (Regular bytes) = refl
length_ended dual (Dual bytes b) = refl
length_ended dual (Offline len b) = refl

pub length_offline : (c : Contents) → length_of (as_offline c) ≡ length_of c
length_offline (Regular bytes) = refl
length_offline (Making bytes b) = refl
length_offline (Dual bytes b) = refl
length_offline (Offline len b) = refl

-- so does the begin of a put of a file whose bytes are on the disk
pub length_making : (b : Bfid) (c : Contents) → MayBeMade c → length_of (as_making b c) ≡ length_of c
length_making b (Regular bytes) may = refl
length_making b (Making bytes d) may = refl
length_making b (Dual bytes d) may = absurd may
length_making b (Offline len d) may = absurd may

-- and a recall of bytes of its length
length_recalled : (bytes : List ℕ) (b : Bfid) (c : Contents) → c ≡ Offline (length bytes) b → length_of (as_recalled bytes c) ≡ length_of c
length_recalled bytes b (Offline len d) e = let n = ap length_of e in sym n
length_recalled bytes b (Regular old) e = refl
length_recalled bytes b (Making old d) e = refl
length_recalled bytes b (Dual old d) e = refl

-- ---- sums

module _ {K X : Type 0} {R : K → K → Ordering} (o : KeyOrder R) where
  sum_changed : (w : X → ℕ) (f : K → X → X) (es : List (K × X)) → AllByRecursion (λ e. w (f e.0 e.1) ≡ w e.1) es
      → sum_of w (changed f es) ≡ sum_of w es
  sum_changed w f [] all = refl
  sum_changed w f (e ∷ es) all = let rest = sum_changed w f es all.1 in λ i. all.0 i + rest i

  -- each row is changed and keeps its weight
  pub total-mapped : (w : X → ℕ) (f : K → X → X) (m : FinMap R X) → EachRow m (λ k x. w (f k x) ≡ w x) → total w (map_values f m) ≡ total w m
  total-mapped w f m same =
      total-entries w (map_values f m) ∙ ap (sum_of w) (entries-mapped o f m)
      ∙ sum_changed w f (entries m) (entries-each o (λ k x. w (f k x) ≡ w x) m same) ∙ sym (total-entries w m)

size_formed_at : (inodes : ByNumber Inode) (n : ℕ) (f : Contents → Contents) (o : Option Inode)
    → get inodes n ≡ o → ((i : Inode) → o ≡ Some i → length_of (f i.contents) ≡ length_of i.contents)
    → size_of_files (adjust inodes n (with_contents f)) ≡ size_of_files inodes
size_formed_at inodes n f None e same = ap size_of_files (adjust-none inodes n (with_contents f) e)
size_formed_at inodes n f (Some i) e same =
    let sum = total-adjust numbers (λ j. length_of j.contents) inodes n (with_contents f) i e in
    let here = same i refl in
    omega arith

-- a file that changes its form and not its length
pub size_formed : (inodes : ByNumber Inode) (n : ℕ) (f : Contents → Contents)
    → ((i : Inode) → get inodes n ≡ Some i → length_of (f i.contents) ≡ length_of i.contents)
    → size_of_files (adjust inodes n (with_contents f)) ≡ size_of_files inodes
size_formed inodes n f same = size_formed_at inodes n f (get inodes n) refl same

-- all files that are being put become regular
pub size_restarted : (inodes : ByNumber Inode) → size_of_files (map_values (λ n i. with_contents (as_ended false) i) inodes) ≡ size_of_files inodes
size_restarted inodes = total-mapped numbers (λ i. length_of i.contents) (λ n i. with_contents (as_ended false) i) inodes (λ n i e. length_ended false i.contents)

-- an age changes no byte of a dump
pub size_aged : (age : ℕ) (dumps : ByName Dump) → size_of_dumps (map_values (λ name d. with_least age d) dumps) ≡ size_of_dumps dumps
size_aged age dumps = total-mapped paths dump_size (λ name d. with_least age d) dumps (λ name d e. refl)

-- ---- steps that keep the size

-- a step that neither adds nor removes a file or a dump, nor changes the bytes of a file
abbrev pub KeepsSize : DaemonStep → Type 0
KeepsSize (step.Write path change bytes) = ⊥
KeepsSize (step.Remove path change) = ⊥
KeepsSize (step.BeginPut path b groups) = Unit {0}
KeepsSize (step.Stored b group) = Unit {0}
KeepsSize (step.EndPut n b dual) = Unit {0}
KeepsSize (step.Release path) = Unit {0}
KeepsSize (step.Taken n bytes) = Unit {0}
KeepsSize (step.Dump name) = ⊥
KeepsSize (step.Undump name) = ⊥
KeepsSize (step.Restore name path target change) = ⊥
KeepsSize (step.HardDelete bfids) = Unit {0}
KeepsSize (step.Dropped b) = Unit {0}
KeepsSize step.Restart = Unit {0}
KeepsSize (step.Age age) = Unit {0}

size_begun : (t : DaemonTables) (b : Bfid) (groups : List GroupId) (n : ℕ) (i : Inode) → get t.inodes n ≡ Some i → MayBeMade i.contents
    → size_of_files (insert t.inodes n (with_contents (as_making b) i)) ≡ size_of_files t.inodes
size_begun t b groups n i e may =
    let sum = total-insert numbers (λ j. length_of j.contents) t.inodes n (with_contents (as_making b) i) in
    let was = ap (weight_at (λ j. length_of j.contents)) e in
    let same = length_making b i.contents may in
    omega arith

size_after_begin_put : (t : DaemonTables) (path : List ℕ) (b : Bfid) (groups : List GroupId) → MayBeginPut t path b groups
    → size_of (after_begin_put_at t b groups (get t.names path)) ≡ size_of t
size_after_begin_put t path b groups may =
    ap (λ o. size_of (after_begin_put_at t b groups o)) may.name
    ∙ ap (λ o. size_of (after_begin_put t b groups may.n.0 o)) may.is
    ∙ ap (λ s. s + size_of_dumps t.dumps) (size_begun t b groups may.n.0 may.inode may.is may.form)

size_after_release : (t : DaemonTables) (o : Option Ino) → size_of (after_release t o) ≡ size_of t
size_after_release t None = refl
size_after_release t (Some n) = ap (λ s. s + size_of_dumps t.dumps) (size_formed t.inodes n.0 as_offline (λ i e. length_offline i.contents))

recalled_inode : (t : DaemonTables) (n : ℕ) (bytes : List ℕ) → MayTake t n bytes → (i : Inode) → get t.inodes n ≡ Some i
    → length_of (as_recalled bytes i.contents) ≡ length_of i.contents
recalled_inode t n bytes may i e =
    let same : i ≡ may.inode = some_same (sym e ∙ may.is) in
    length_recalled bytes may.b i.contents (ap (λ j. j.contents) same ∙ may.form)
  where
    some_same : {X : Type 0} {x y : X} → Some x ≡ Some y → x ≡ y
    some_same h = cc

-- such a step keeps the size, where it may be done
pub size_kept : (t : DaemonTables) (now : ℕ) (s : DaemonStep) → KeepsSize s → MayStep t now s → size_of (after_step t s) ≡ size_of t
size_kept t now (step.Write path change bytes) keeps may = absurd keeps
size_kept t now (step.Remove path change) keeps may = absurd keeps
size_kept t now (step.BeginPut path b groups) keeps may = size_after_begin_put t path b groups may
size_kept t now (step.Stored b group) keeps may = refl
size_kept t now (step.EndPut n b dual) keeps may = ap (λ s. s + size_of_dumps t.dumps) (size_formed t.inodes n.0 (as_ended dual) (λ i e. length_ended dual i.contents))
size_kept t now (step.Release path) keeps may = size_after_release t (get t.names path)
size_kept t now (step.Taken n bytes) keeps may = ap (λ s. s + size_of_dumps t.dumps) (size_formed t.inodes n.0 (as_recalled bytes) (recalled_inode t n.0 bytes may))
size_kept t now (step.Dump name) keeps may = absurd keeps
size_kept t now (step.Undump name) keeps may = absurd keeps
size_kept t now (step.Restore name path target change) keeps may = absurd keeps
size_kept t now (step.HardDelete bfids) keeps may = refl
size_kept t now (step.Dropped b) keeps may = refl
size_kept t now step.Restart keeps may = ap (λ s. s + size_of_dumps t.dumps) (size_restarted t.inodes)
size_kept t now (step.Age age) keeps may = ap (λ s. size_of_files t.inodes + s) (size_aged age t.dumps)

size_stopped : (t : DaemonTables) (b : Bool) → size_of (cond b (after_restart t) t) ≡ size_of t
size_stopped t true = ap (λ s. s + size_of_dumps t.dumps) (size_restarted t.inodes)
size_stopped t false = refl
