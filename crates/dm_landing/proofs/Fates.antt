-- What a record may make of an entry. Each subject of the invariant is shown to stay for each fate, once for all records.
use Rattle.std.proofs.Common.{◌≡◌, ◌⊎◌, ℕ, true, false, Option, None, Some, refl, ap, ◌∙◌, subst, inl, inr}
use Rattle.std.specs.FinMap as map
use Rattle.dm_tables.specs.Rows.{EachRow}
use Rattle.dm_durable.specs.declared.daemon.Entry.{Entry}
use Rattle.dm_durable.specs.Tables.{ByNumber}
use Rattle.dm_durable.specs.Entries.{asks, has_stored, is_stored, is_due, groups_asked, with_copy_of, with_deletion_time, without_deletion_time, as_dropping}
use Rattle.dm_model.specs.declared.state.OpenRequest.{OpenRequest}
use Rattle.dm_model.specs.declared.state.Side.{Side}
use Rattle.dm_invariant.specs.Doubts.{InGroup, NoRequestOf, NotInGroup}
use Rattle.dm_invariant.proofs.Options.{same_row, none_some}
use Rattle.dm_landing.proofs.CopiesStored.{same_groups, same_asks, still_stored, newly_stored}

-- an entry stays; it is let go, where no inode names its bitfile now; a group has stored its copy; an inode names its bitfile
-- again; a hard delete takes it, which is due and has no open request; or it goes, when its copies are deleted
pub data Fate (IsNamed : ℕ → Type 0) (sides : ByNumber Side) (requests : ByNumber OpenRequest) (now age b : ℕ) (e : Entry)
    (o : Option Entry) : Type 0 where
  Stays : o ≡ Some e → Fate IsNamed sides requests now age b e o
  LetGo : (IsNamed b → ⊥) → o ≡ Some (with_deletion_time now e) → Fate IsNamed sides requests now age b e o
  Stored : (g : ℕ) → InGroup sides g b → o ≡ Some (with_copy_of g e) → Fate IsNamed sides requests now age b e o
  Restored : o ≡ Some (without_deletion_time e) → Fate IsNamed sides requests now age b e o
  Taken : is_due now age e ≡ true → NoRequestOf requests b → o ≡ Some (as_dropping e) → Fate IsNamed sides requests now age b e o
  Dropped : e.dropping ≡ true → EachRow sides (λ g s. NotInGroup b s) → o ≡ None → Fate IsNamed sides requests now age b e o

-- the entry is still the one of a bitfile of this length, asked of these groups, and no copy of it was lost
pub record Steady (e f : Entry) : Type 0 where
  pub len : f.len ≡ e.len
  pub groups : groups_asked f ≡ groups_asked e
  pub asks : (g : ℕ) → asks f g ≡ asks e g
  pub whole : is_stored e ≡ true → is_stored f ≡ true
  pub lasting : f.dropping ≡ false → e.dropping ≡ false

pub steady_itself : (e : Entry) → Steady e e
steady_itself e = record { len = refl; groups = refl; asks = λ g. refl; whole = λ w. w; lasting = λ l. l }

steady_let_go : (now : ℕ) (e : Entry) → Steady e (with_deletion_time now e)
steady_let_go now e = record { len = refl; groups = refl; asks = λ g. refl; whole = λ w. w; lasting = λ l. l }

steady_restored : (e : Entry) → Steady e (without_deletion_time e)
steady_restored e = record { len = refl; groups = refl; asks = λ g. refl; whole = λ w. w; lasting = λ l. l }

steady_stored : (g : ℕ) (e : Entry) → Steady e (with_copy_of g e)
steady_stored g e = record { len = refl; groups = same_groups g e; asks = λ h. same_asks g h e; whole = still_stored g e; lasting = λ l. l }

steady_taken : (e : Entry) → Steady e (as_dropping e)
steady_taken e = record { len = refl; groups = refl; asks = λ g. refl; whole = λ w. w; lasting = λ l. cc }

module _ {IsNamed : ℕ → Type 0} {sides : ByNumber Side} {requests : ByNumber OpenRequest} {now age b : ℕ} {e : Entry} {o : Option Entry} where
  -- an entry that is there after a record is steady
  pub fate_steady : Fate IsNamed sides requests now age b e o → (f : Entry) → o ≡ Some f → Steady e f
  fate_steady (Stays is) f at = subst (λ x. Steady e x) (same_row o e f is at) (steady_itself e)
  fate_steady (LetGo none is) f at = subst (λ x. Steady e x) (same_row o (with_deletion_time now e) f is at) (steady_let_go now e)
  fate_steady (Stored g there is) f at = subst (λ x. Steady e x) (same_row o (with_copy_of g e) f is at) (steady_stored g e)
  fate_steady (Restored is) f at = subst (λ x. Steady e x) (same_row o (without_deletion_time e) f is at) (steady_restored e)
  fate_steady (Taken due free is) f at = subst (λ x. Steady e x) (same_row o (as_dropping e) f is at) (steady_taken e)
  fate_steady (Dropped dropping away is) f at = absurd (none_some o f is at)

  -- it is there, unless it was being dropped and its bitfile is in no group
  pub fate_there : Fate IsNamed sides requests now age b e o
      → ((f : Entry) × (o ≡ Some f)) ⊎ ((e.dropping ≡ true) × EachRow sides (λ g s. NotInGroup b s))
  fate_there (Stays is) = inl (e, is)
  fate_there (LetGo none is) = inl (with_deletion_time now e, is)
  fate_there (Stored g there is) = inl (with_copy_of g e, is)
  fate_there (Restored is) = inl (without_deletion_time e, is)
  fate_there (Taken due free is) = inl (as_dropping e, is)
  fate_there (Dropped dropping away is) = inr (dropping, away)

  -- a copy that it says is stored was stored before, or is in its group
  pub fate_stored : Fate IsNamed sides requests now age b e o → (f : Entry) (h : ℕ) → o ≡ Some f → has_stored f h ≡ true
      → (has_stored e h ≡ true) ⊎ InGroup sides h b
  fate_stored (Stays is) f h at had = inl (ap (λ x. has_stored x h) (same_row o e f is at) ∙ had)
  fate_stored (LetGo none is) f h at had = inl (ap (λ x. has_stored x h) (same_row o (with_deletion_time now e) f is at) ∙ had)
  fate_stored (Stored g there is) f h at had =
      elim (newly_stored g h e (ap (λ x. has_stored x h) (same_row o (with_copy_of g e) f is at) ∙ had)) [
        | inl was ↦ inl was
        | inr same ↦ inr (subst (λ x. InGroup sides x b) same there)
      ]
  fate_stored (Restored is) f h at had = inl (ap (λ x. has_stored x h) (same_row o (without_deletion_time e) f is at) ∙ had)
  fate_stored (Taken due free is) f h at had = inl (ap (λ x. has_stored x h) (same_row o (as_dropping e) f is at) ∙ had)
  fate_stored (Dropped dropping away is) f h at had = absurd (none_some o f is at)

-- the entries after a record: each that was there has its fate, and one that comes is that of a new bitfile
pub record EntriesGo (IsNamed : ℕ → Type 0) (sides : ByNumber Side) (requests : ByNumber OpenRequest) (now age : ℕ) (IsFresh : ℕ → Entry → Type 0)
    (old new : ByNumber Entry) : Type 0 where
  pub fates : EachRow old (λ b e. Fate IsNamed sides requests now age b e (map.get new b))
  pub comes : EachRow new (λ b f. ((e : Entry) × (map.get old b ≡ Some e)) ⊎ IsFresh b f)
