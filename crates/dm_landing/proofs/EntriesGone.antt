-- What each step makes of the entries.
use Rattle.std.proofs.Common.{◌≡◌, ℕ, ◌+◌, Bool, true, false, cond, nat_eq, Option, None, Some, option_map, List, [], ◌∷◌, refl, sym, ap, subst, ◌∙◌, inl, inr}
use Rattle.std.specs.List.{list_any, AllByRecursion}
use Rattle.std.specs.FinMap as map
use Rattle.std.proofs.lemmas.Bool.{eqb-true}
use Rattle.dm_base.specs.declared.identifier.Bfid.{Bfid}
use Rattle.dm_tables.specs.Rows.{EachRow, adjust, map_values}
use Rattle.dm_tables.proofs.Orders.{numbers, same_or}
use Rattle.dm_tables.proofs.Rows.{get-beside, inserted, removed-here, removed-beside, removed}
use Rattle.dm_tables.proofs.Adjusted.{adjusted, adjusted_row, adjusted-beside, get-mapped, mapped}
use Rattle.dm_durable.specs.declared.daemon.DaemonTables.{DaemonTables}
use Rattle.dm_durable.specs.declared.daemon.Entry.{Entry}
use Rattle.dm_durable.specs.declared.daemon.Inode.{Inode}
use Rattle.dm_durable.specs.Tables.{ByNumber}
use Rattle.dm_durable.specs.Inodes.{is_named}
use Rattle.dm_durable.specs.Entries.{after_letting_go_if, has_stored, groups_asked, is_due, with_copy_of, without_deletion_time, as_dropping}
use Rattle.dm_durable.specs.Daemon.{bfid_of, with_dropping, with_named}
use Rattle.dm_durable.specs.DaemonConditions.{MayBeTaken}
use Rattle.dm_durable.specs.DaemonJournal.{MayBeEntry}
use Rattle.dm_model.specs.declared.state.OpenRequest.{OpenRequest}
use Rattle.dm_model.specs.declared.state.Side.{Side}
use Rattle.dm_invariant.specs.Among.{IsAmong}
use Rattle.dm_invariant.specs.Doubts.{AllConfigured, InGroup, NoRequestOf, NotInGroup}
use Rattle.dm_invariant.proofs.LettingGo.{StaysOrGoes, let_go-there, let_go-row}
use Rattle.dm_invariant.proofs.Lists.{passing}
use Rattle.dm_invariant.proofs.LookUps.{key_differs}
use Rattle.dm_invariant.proofs.Options.{same_row}
use Rattle.dm_landing.proofs.Fates.{Fate, Stays, LetGo, Stored, Restored, Taken, Dropped, EntriesGo}

-- the entry of a bitfile that is new
pub record FreshEntry (site next now : ℕ) (contents : ByNumber (List ℕ)) (sides : ByNumber Side) (b : ℕ) (f : Entry) : Type 0 where
  pub is_next : b ≡ bfid_of site next
  pub may : MayBeEntry site (next + 1) now b f
  pub none : map.get contents b ≡ None
  pub unstored : (g : ℕ) → has_stored f g ≡ false
  pub configured : AllConfigured sides (groups_asked f)
  pub lasting : f.dropping ≡ false
  pub undeleted : f.gone ≡ None

module _ (IsNamed : ℕ → Type 0) (sides : ByNumber Side) (requests : ByNumber OpenRequest) (now age : ℕ) (IsFresh : ℕ → Entry → Type 0) where
  abbrev Go : ByNumber Entry → ByNumber Entry → Type 0
  Go old new = EntriesGo IsNamed sides requests now age IsFresh old new

  -- they stay as they are
  pub go_itself : (entries : ByNumber Entry) → Go entries entries
  go_itself entries = record { fates = λ b e is. Stays is; comes = λ b e is. inl (e, is) }

  fate_left : (entries : ByNumber Entry) (inodes : ByNumber Inode) (o : Option ℕ) (b : ℕ) (e f : Entry) → (is_named inodes b ≡ false → IsNamed b → ⊥)
      → map.get (after_letting_go_if entries inodes now o) b ≡ Some f → StaysOrGoes inodes now o b e f
      → Fate IsNamed sides requests now age b e (map.get (after_letting_go_if entries inodes now o) b)
  fate_left entries inodes o b e f apart is (inl same) = Stays (is ∙ ap Some same)
  fate_left entries inodes o b e f apart is (inr gone) = LetGo (apart gone.1) (is ∙ ap Some gone.2)

  -- a bitfile may be let go
  pub go_let_go : (entries : ByNumber Entry) (inodes : ByNumber Inode) (o : Option ℕ) → ((b : ℕ) → is_named inodes b ≡ false → IsNamed b → ⊥)
      → Go entries (after_letting_go_if entries inodes now o)
  go_let_go entries inodes o apart = record {
    fates = λ b e is.
        let f = let_go-there entries inodes now o b e is in
        fate_left entries inodes o b e f.0 (apart b) f.1 f.2;
    comes = λ b f is. let e = let_go-row entries inodes now o b f is in inl (e.0, e.1);
  }

  fate_adjusted : (entries : ByNumber Entry) (b : ℕ) (f : Entry → Entry)
      → ((e : Entry) (o : Option Entry) → o ≡ Some (f e) → Fate IsNamed sides requests now age b e o)
      → (q : ℕ) (e : Entry) → map.get entries q ≡ Some e → Fate IsNamed sides requests now age q e (map.get (adjust entries b f) q)
  fate_adjusted entries b f made q e is =
      elim (same_or numbers b q) [
        | inl same ↦
            subst (λ x. Fate IsNamed sides requests now age x e (map.get (adjust entries b f) x)) (sym same)
            (made e (map.get (adjust entries b f) b) (adjusted_row numbers entries b f e (ap (map.get entries) (sym same) ∙ is)))
        | inr differ ↦ Stays (adjusted-beside numbers entries b f q differ ∙ is)
      ]

  comes_adjusted : (entries : ByNumber Entry) (b : ℕ) (f : Entry → Entry) (q : ℕ) (y : Entry) → map.get (adjust entries b f) q ≡ Some y
      → (e : Entry) × (map.get entries q ≡ Some e)
  comes_adjusted entries b f q y is =
      elim (adjusted numbers entries b f q y is) [
        | inl here ↦ (here.1.0, ap (map.get entries) here.0 ∙ here.1.1)
        | inr other ↦ (y, other.1)
      ]

  -- a group stores its copy
  pub go_stored : (entries : ByNumber Entry) (b g : ℕ) → InGroup sides g b → Go entries (adjust entries b (with_copy_of g))
  go_stored entries b g there = record {
    fates = fate_adjusted entries b (with_copy_of g) (λ e o is. Stored g there is);
    comes = λ q y is. inl (comes_adjusted entries b (with_copy_of g) q y is);
  }

  -- an inode names a bitfile again
  pub go_named : (entries : ByNumber Entry) (o : Option ℕ) → Go entries (with_named entries o)
  go_named entries None = go_itself entries
  go_named entries (Some b) = record {
    fates = fate_adjusted entries b without_deletion_time (λ e o is. Restored is);
    comes = λ q y is. inl (comes_adjusted entries b without_deletion_time q y is);
  }

  due_of : (t : DaemonTables) (bfids : List Bfid) (b : ℕ) → list_any (λ c. nat_eq c.0 b) bfids ≡ true → AllByRecursion (λ c. MayBeTaken t now c.0) bfids
      → (c : Bfid) × IsAmong c bfids × (c.0 ≡ b) × MayBeTaken t now b
  due_of t bfids b is each =
      let c = passing (λ c. nat_eq c.0 b) bfids is in
      let same : c.0.0 ≡ b = eqb-true c.0.0 b c.2 in
      (c.0, c.1, same, subst (λ x. MayBeTaken t now x) same (found bfids each c.0 c.1))
    where
      found : (xs : List Bfid) → AllByRecursion (λ c. MayBeTaken t now c.0) xs → (c : Bfid) → IsAmong c xs → MayBeTaken t now c.0
      found [] all c among = absurd among
      found (x ∷ xs) all c (inl same) = subst (λ y. MayBeTaken t now y.0) (sym same) all.0
      found (x ∷ xs) all c (inr after) = found xs all.1 c after

  fate_taken : (t : DaemonTables) (bfids : List Bfid) (b : ℕ) (e : Entry) (o : Option Entry) (taken : Bool) → t.age ≡ age
      → list_any (λ c. nat_eq c.0 b) bfids ≡ taken → o ≡ Some (cond taken (as_dropping e) e) → map.get t.entries b ≡ Some e
      → AllByRecursion (λ c. MayBeTaken t now c.0) bfids → ((c : Bfid) → IsAmong c bfids → NoRequestOf requests c.0)
      → Fate IsNamed sides requests now age b e o
  fate_taken t bfids b e o false same none is at each free = Stays is
  fate_taken t bfids b e o true same some is at each free =
      let c = due_of t bfids b some each in
      let one : c.3.entry ≡ e = same_row (map.get t.entries b) c.3.entry e c.3.is at in
      let due : is_due now age e ≡ true = ap (λ a. is_due now a e) (sym same) ∙ ap (is_due now t.age) (sym one) ∙ c.3.due in
      Taken due (subst (λ x. NoRequestOf requests x) c.2 (free c.0 c.1)) is

  -- a hard delete takes some
  pub go_taken : (t : DaemonTables) (bfids : List Bfid) → t.age ≡ age → AllByRecursion (λ c. MayBeTaken t now c.0) bfids
      → ((c : Bfid) → IsAmong c bfids → NoRequestOf requests c.0) → Go t.entries (with_dropping bfids t.entries)
  go_taken t bfids same each free =
      let f : ℕ → Entry → Entry = λ b e. cond (list_any (λ c. nat_eq c.0 b) bfids) (as_dropping e) e in
      record {
        fates = λ b e is.
            fate_taken t bfids b e (map.get (map_values f t.entries) b) (list_any (λ c. nat_eq c.0 b) bfids) same refl
            (get-mapped numbers f t.entries b ∙ ap (option_map (f b)) is) is each free;
        comes = λ b y is. let was = mapped numbers f t.entries b y is in inl (was.0, was.1);
      }

  -- one goes
  pub go_dropped : (entries : ByNumber Entry) (b : ℕ) (e : Entry) → map.get entries b ≡ Some e → e.dropping ≡ true
      → EachRow sides (λ g s. NotInGroup b s) → Go entries (map.remove entries b)
  go_dropped entries b e is dropping away = record {
    fates = λ q f at.
        elim (same_or numbers b q) [
          | inl same ↦
              let here : map.get entries b ≡ Some f = ap (map.get entries) (sym same) ∙ at in
              let one : e ≡ f = same_row (map.get entries b) e f is here in
              subst (λ x. Fate IsNamed sides requests now age x f (map.get (map.remove entries b) x)) (sym same)
              (Dropped (ap (λ x. x.dropping) (sym one) ∙ dropping) away (removed-here numbers entries b))
          | inr differ ↦ Stays (removed-beside numbers entries b q differ ∙ at)
        ];
    comes = λ q f at. inl (f, (removed numbers entries b q f at).1);
  }

  -- one comes, of a bitfile that had none
  pub go_new : (old mid : ByNumber Entry) (b : ℕ) (v : Entry) → map.get old b ≡ None → map.get mid b ≡ None → IsFresh b v → Go old mid
      → Go old (map.insert mid b v)
  go_new old mid b v none still fresh go = record {
    fates = λ q e is.
        let differ = key_differs old b q e none is in
        subst (λ o. Fate IsNamed sides requests now age q e o) (sym (get-beside numbers mid b v q differ)) (go.fates q e is);
    comes = λ q f is.
        elim (inserted numbers mid b v q f is) [
          | inl here ↦ inr (subst (λ x. IsFresh x f) (sym here.0) (subst (λ y. IsFresh b y) (sym here.1) fresh))
          | inr other ↦ go.comes q f other.1
        ];
  }
