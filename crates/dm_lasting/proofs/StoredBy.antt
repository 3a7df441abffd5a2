-- Only the step that says so makes a copy a stored one.
use Rattle.std.proofs.Common.{◌≡◌, inl, inr, ℕ, Bool, true, false, cond, nat_eq, Option, None, Some, List, length, refl, ap, ◌∙◌}
use Rattle.std.specs.List.{list_any}
use Rattle.std.specs.FinMap as map
use Rattle.dm_base.specs.declared.identifier.Bfid.{Bfid}
use Rattle.dm_base.specs.declared.identifier.GroupId.{GroupId}
use Rattle.dm_base.specs.declared.identifier.Ino.{Ino}
use Rattle.dm_tables.proofs.Orders.{numbers}
use Rattle.dm_tables.proofs.Rows.{each-insert, each-remove}
use Rattle.dm_tables.proofs.Adjusted.{each-adjust, each-map}
use Rattle.dm_durable.specs.declared.daemon.DaemonStep.{DaemonStep}
use Rattle.dm_durable.specs.declared.daemon.DaemonStep.TheVariants.{Write, Remove, BeginPut, Stored, EndPut, Release, Taken, Dump, Undump, Restore, HardDelete, Dropped, Restart, Age}
use Rattle.dm_durable.specs.declared.daemon.DaemonTables.{DaemonTables}
use Rattle.dm_durable.specs.declared.daemon.DumpInode.{DumpInode}
use Rattle.dm_durable.specs.declared.daemon.Entry.{Entry}
use Rattle.dm_durable.specs.declared.daemon.Inode.{Inode}
use Rattle.dm_durable.specs.Daemon.{after_begin_put, after_begin_put_at, after_end_put, after_release, after_remove, after_restore, after_step, with_named}
use Rattle.dm_durable.specs.Dumps.{bitfile_dumped, file_in}
use Rattle.dm_durable.specs.Entries.{after_letting_go_if, as_dropping, has_stored, new_entry, with_copy_of, with_deletion_time, without_deletion_time}
use Rattle.dm_durable.specs.Inodes.{bitfile_of, bytes_online}
use Rattle.dm_durable.specs.Tables.{ByNumber}
use Rattle.dm_invariant.proofs.LettingGo.{StaysOrGoes, let_go-row}
use Rattle.dm_landing.proofs.CopiesStored.{new_unstored, newly_stored}
use Rattle.dm_lasting.specs.Comes.{IsStoredOf, NotStored}

false_unless : (v : Bool) → (v ≡ true → ⊥) → v ≡ false
false_unless true never = absurd (never refl)
false_unless false never = refl

not_both : (v : Bool) → v ≡ false → v ≡ true → ⊥
not_both v un is = absurd (cc)

either_dropping : (v : Bool) (e : Entry) (g : ℕ) → has_stored (cond v (as_dropping e) e) g ≡ has_stored e g
either_dropping true e g = refl
either_dropping false e g = refl

either_deleted : (v : Bool) (time : ℕ) (e : Entry) (g : ℕ) → has_stored (cond v (with_deletion_time time e) e) g ≡ has_stored e g
either_deleted true time e g = refl
either_deleted false time e g = refl

-- another group's copy that is stored doesn't make this one stored
other_stored : (h g : ℕ) (e : Entry) → has_stored e g ≡ false → (h ≡ g → ⊥) → has_stored (with_copy_of h e) g ≡ false
other_stored h g e un differ = false_unless (has_stored (with_copy_of h e) g) (λ is.
    elim (newly_stored h g e is) [
      | inl was ↦ not_both (has_stored e g) un was
      | inr same ↦ differ same
    ])

module _ (b g : ℕ) where
  abbrev NotYet : ℕ → Entry → Type 0
  NotYet q e = q ≡ b → has_stored e g ≡ false

  stays_or_goes : (inodes : ByNumber Inode) (time : ℕ) (o : Option ℕ) (q : ℕ) (e f : Entry) → has_stored e g ≡ false
      → StaysOrGoes inodes time o q e f → has_stored f g ≡ false
  stays_or_goes inodes time o q e f un (inl same) = ap (λ (x : Entry). has_stored x g) same ∙ un
  stays_or_goes inodes time o q e f un (inr gone) = ap (λ (x : Entry). has_stored x g) gone.2 ∙ un

  let_go : (entries : ByNumber Entry) (inodes : ByNumber Inode) (time : ℕ) (o : Option ℕ) → NotStored entries b g
      → NotStored (after_letting_go_if entries inodes time o) b g
  let_go entries inodes time o each = λ q f is same.
      let was = let_go-row entries inodes time o q f is in
      stays_or_goes inodes time o q was.0 f (each q was.0 was.1 same) was.2

  named : (entries : ByNumber Entry) (o : Option ℕ) → NotStored entries b g → NotStored (with_named entries o) b g
  named entries None each = each
  named entries (Some c) each = each-adjust numbers NotYet entries c without_deletion_time (λ e is same. each c e is same) each

  module _ (t : DaemonTables) (each : NotStored t.entries b g) where
    removed : (path : List ℕ) (change : ℕ) (o : Option Ino) → NotStored (after_remove t path change o).entries b g
    removed path change None = each
    removed path change (Some n) = let_go t.entries _ t.time.0 _ each

    ended : (n c : ℕ) (dual : Bool) → NotStored (after_end_put t n c dual).entries b g
    ended n c true = each
    ended n c false = let_go t.entries _ t.time.0 (Some c) each

    released : (o : Option Ino) → NotStored (after_release t o).entries b g
    released None = each
    released (Some n) = each

    restored : (target : List ℕ) (change : ℕ) (o : Option DumpInode) → NotStored (after_restore t target change o).entries b g
    restored target change None = each
    restored target change (Some f) = named t.entries (bitfile_dumped f) each

    begun : (c : Bfid) (groups : List GroupId) (n : ℕ) (o : Option Inode) → NotStored (after_begin_put t c groups n o).entries b g
    begun c groups n None = each
    begun c groups n (Some i) =
        each-insert numbers NotYet _ c.0 (new_entry (length (bytes_online i.contents)) groups)
        (λ same. new_unstored (length (bytes_online i.contents)) groups g)
        (let_go t.entries _ t.time.0 (bitfile_of i.contents) each)

    begun_at : (c : Bfid) (groups : List GroupId) (o : Option Ino) → NotStored (after_begin_put_at t c groups o).entries b g
    begun_at c groups None = each
    begun_at c groups (Some n) = begun c groups n.0 (map.get t.inodes n.0)

    pub unstored_after : (s : DaemonStep) → (IsStoredOf b g s → ⊥) → NotStored (after_step t s).entries b g
    unstored_after (Write path change bytes) other = let_go t.entries _ t.time.0 _ each
    unstored_after (Remove path change) other = removed path change (map.get t.names path)
    unstored_after (BeginPut path c groups) other = begun_at c groups (map.get t.names path)
    unstored_after (Stored c h) other =
        each-adjust numbers NotYet t.entries c.0 (with_copy_of h.0)
        (λ e is same. other_stored h.0 g e (each c.0 e is same) (λ group. other (same, group))) each
    unstored_after (EndPut n c dual) other = ended n.0 c.0 dual
    unstored_after (Release path) other = released (map.get t.names path)
    unstored_after (Taken n bytes) other = each
    unstored_after (Dump name) other = each
    unstored_after (Undump name) other = each
    unstored_after (Restore name path target change) other = restored target change (file_in (map.get t.dumps name) path)
    unstored_after (HardDelete bfids) other =
        each-map numbers NotYet (λ c e. cond (list_any (λ d. nat_eq d.0 c) bfids) (as_dropping e) e) t.entries
        (λ q e is same. either_dropping _ e g ∙ each q e is same)
    unstored_after (Dropped c) other = each-remove numbers NotYet t.entries c.0 each
    unstored_after Restart other =
        each-map numbers NotYet _ t.entries (λ q e is same. either_deleted _ t.time.0 e g ∙ each q e is same)
    unstored_after (Age age) other = each
