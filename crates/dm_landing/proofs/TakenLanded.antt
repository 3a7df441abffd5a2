-- A record of the daemon that lands keeps what hard deletes took: those are the entries that are being dropped.
use Rattle.std.proofs.Common.{◌≡◌, ℕ, ◌+◌, ◌≤◌, Bool, true, false, cond, ◌||◌, nat_eq, Option, Some, None, IsSome, is_some, List, [], ◌∷◌, length, refl, sym, ap, ◌∙◌, subst, arith, inl, inr}
use Rattle.std.specs.List.{list_any, AllByRecursion}
use Rattle.std.specs.FinMap as map
use Rattle.std.proofs.lemmas.Bool.{eq-eqb, eqb-true}
use Rattle.dm_base.specs.declared.identifier.Bfid.{Bfid}
use Rattle.dm_base.specs.declared.identifier.GroupId.{GroupId}
use Rattle.dm_base.specs.declared.identifier.Ino.{Ino}
use Rattle.dm_base.specs.Limits.{number_limit}
use Rattle.dm_tables.specs.Rows.{EachRow, adjust}
use Rattle.dm_tables.proofs.Orders.{numbers, same_or}
use Rattle.dm_tables.proofs.Rows.{each-insert, each-remove, get-here, get-beside}
use Rattle.dm_tables.proofs.Adjusted.{each-adjust, each-map}
use Rattle.dm_rules.specs.Numbers.{as_word}
use Rattle.dm_durable.specs.declared.daemon.DaemonRecord.{DaemonRecord}
use Rattle.dm_durable.specs.declared.daemon.DaemonStep.{DaemonStep}
use Rattle.dm_durable.specs.declared.daemon.DaemonStep.TheVariants.{Write, Remove, BeginPut, Stored, EndPut, Release, Taken, Dump, Undump, Restore, HardDelete, Dropped, Restart, Age}
use Rattle.dm_durable.specs.declared.daemon.DaemonTables.{DaemonTables}
use Rattle.dm_durable.specs.declared.daemon.DumpInode.{DumpInode}
use Rattle.dm_durable.specs.declared.daemon.Entry.{Entry}
use Rattle.dm_durable.specs.declared.daemon.Inode.{Inode}
use Rattle.dm_durable.specs.Tables.{ByNumber}
use Rattle.dm_durable.specs.Inodes.{bitfile_of, bytes_online}
use Rattle.dm_durable.specs.Entries.{after_letting_go_if, as_dropping, new_entry, with_copy_of, with_deletion_time, without_deletion_time}
use Rattle.dm_durable.specs.Dumps.{bitfile_dumped, file_in}
use Rattle.dm_durable.specs.Daemon.{bfid_of, after_begin_put, after_begin_put_at, after_end_put, after_record, after_release, after_remove, after_restore, after_step, with_dropping, with_named}
use Rattle.dm_durable.specs.DaemonConditions.{MayBeginPut, MayBeTaken, MayHardDelete, MayStep}
use Rattle.dm_durable.specs.DaemonJournal.{IsGiven}
use Rattle.dm_model.specs.declared.state.Daemon.{Daemon}
use Rattle.dm_model.specs.declared.state.History.{History}
use Rattle.dm_model.specs.declared.state.Side.{Side}
use Rattle.dm_model.specs.Effects.{history_after_step, with_taken}
use Rattle.dm_invariant.specs.Among.{IsAmong}
use Rattle.dm_invariant.specs.Doubts.{MayLand}
use Rattle.dm_invariant.specs.Files.{FilesKept, TakenKept}
use Rattle.dm_invariant.proofs.LettingGo.{StaysOrGoes, let_go-row}
use Rattle.dm_landing.proofs.FilesBegun.{next_free}
use Rattle.dm_landing.proofs.NamedRows.{given_longer}

-- whether an entry is being dropped stays what it was
abbrev EachDropping : (ℕ → Bool → Type 0) → ByNumber Entry → Type 0
EachDropping P entries = EachRow entries (λ b e. P b e.dropping)

module _ (P : ℕ → Bool → Type 0) where
  stays_or_goes : (entries : ByNumber Entry) (inodes : ByNumber Inode) (time : ℕ) (o : Option ℕ) (b : ℕ) (e f : Entry) → P b e.dropping
      → StaysOrGoes inodes time o b e f → P b f.dropping
  stays_or_goes entries inodes time o b e f was (inl same) = subst (λ x. P b x.dropping) (sym same) was
  stays_or_goes entries inodes time o b e f was (inr gone) = subst (λ x. P b x.dropping) (sym gone.2) was

  each_let_go : (entries : ByNumber Entry) (inodes : ByNumber Inode) (time : ℕ) (o : Option ℕ) → EachDropping P entries
      → EachDropping P (after_letting_go_if entries inodes time o)
  each_let_go entries inodes time o each = λ b f is.
      let was = let_go-row entries inodes time o b f is in
      stays_or_goes entries inodes time o b was.0 f (each b was.0 was.1) was.2

  each_changed : (entries : ByNumber Entry) (b : ℕ) (f : Entry → Entry) → ((e : Entry) → (f e).dropping ≡ e.dropping) → EachDropping P entries
      → EachDropping P (adjust entries b f)
  each_changed entries b f same each =
      each-adjust numbers (λ q e. P q e.dropping) entries b f (λ e is. subst (λ v. P b v) (sym (same e)) (each b e is)) each

  each_named : (entries : ByNumber Entry) (o : Option ℕ) → EachDropping P entries → EachDropping P (with_named entries o)
  each_named entries None each = each
  each_named entries (Some b) each = each_changed entries b without_deletion_time (λ e. refl) each

  module _ (t : DaemonTables) (each : EachDropping P t.entries) where
    removed : (path : List ℕ) (change : ℕ) (o : Option Ino) → EachDropping P (after_remove t path change o).entries
    removed path change None = each
    removed path change (Some n) = each_let_go t.entries _ t.time.0 _ each

    ended : (n b : ℕ) (dual : Bool) → EachDropping P (after_end_put t n b dual).entries
    ended n b true = each
    ended n b false = each_let_go t.entries _ t.time.0 (Some b) each

    released : (o : Option Ino) → EachDropping P (after_release t o).entries
    released None = each
    released (Some n) = each

    restored : (target : List ℕ) (change : ℕ) (o : Option DumpInode) → EachDropping P (after_restore t target change o).entries
    restored target change None = each
    restored target change (Some f) = each_named t.entries (bitfile_dumped f) each

    begun : (b : Bfid) (groups : List GroupId) (n : ℕ) (o : Option Inode) → P b.0 false → EachDropping P (after_begin_put t b groups n o).entries
    begun b groups n None new = each
    begun b groups n (Some i) new =
        each-insert numbers (λ q e. P q e.dropping) _ b.0 (new_entry (length (bytes_online i.contents)) groups) new
        (each_let_go t.entries _ t.time.0 (bitfile_of i.contents) each)

    begun_at : (b : Bfid) (groups : List GroupId) (o : Option Ino) → P b.0 false → EachDropping P (after_begin_put_at t b groups o).entries
    begun_at b groups None new = each
    begun_at b groups (Some n) new = begun b groups n.0 (map.get t.inodes n.0) new

-- ---- a hard delete

taken_insert : (taken : ByNumber (Unit {0})) (b q : ℕ) → is_some (map.get (map.insert taken b tt) q) ≡ (nat_eq b q || is_some (map.get taken q))
taken_insert taken b q =
    elim (same_or numbers b q) [
      | inl same ↦
          ap (λ x. is_some (map.get (map.insert taken b tt) x)) same ∙ ap is_some (get-here numbers taken b tt)
          ∙ sym (ap (λ v. v || is_some (map.get taken q)) (eq-eqb b q (sym same)))
      | inr differ ↦
          ap is_some (get-beside numbers taken b tt q differ)
          ∙ sym (ap (λ v. v || is_some (map.get taken q)) (not_equal b q (λ e. differ (sym e))))
    ]
  where
    not_equal : (a c : ℕ) → (a ≡ c → ⊥) → nat_eq a c ≡ false
    not_equal a c differ =
        elim (nat_eq a c) as (λ v. nat_eq a c ≡ v → v ≡ false) [
          | true ↦ λ e. absurd (differ (eqb-true a c e))
          | false ↦ λ e. refl
        ] refl

or_swap : (a b c : Bool) → (a || (b || c)) ≡ (b || (a || c))
or_swap true true c = refl
or_swap true false c = refl
or_swap false b c = refl

taken_all : (bfids : List Bfid) (taken : ByNumber (Unit {0})) (q : ℕ)
    → is_some (map.get (with_taken bfids taken) q) ≡ (list_any (λ c. nat_eq c.0 q) bfids || is_some (map.get taken q))
taken_all [] taken q = refl
taken_all (b ∷ bs) taken q =
    taken_all bs (map.insert taken b.0 tt) q ∙ ap (λ v. list_any (λ c. nat_eq c.0 q) bs || v) (taken_insert taken b.0 q)
    ∙ or_swap (list_any (λ c. nat_eq c.0 q) bs) (nat_eq b.0 q) (is_some (map.get taken q)) ∙ or_group (nat_eq b.0 q) (list_any (λ c. nat_eq c.0 q) bs) _
  where
    or_group : (a b c : Bool) → (a || (b || c)) ≡ ((a || b) || c)
    or_group true b c = refl
    or_group false b c = refl

dropping_or : (taken : Bool) (e : Entry) → (cond taken (as_dropping e) e).dropping ≡ (taken || e.dropping)
dropping_or true e = refl
dropping_or false e = refl

taken_given : (site next : ℕ) (entries : ByNumber Entry) (bfids : List Bfid) (taken : ByNumber (Unit {0}))
    → EachRow entries (λ b e. IsGiven site next b) → ((c : Bfid) → IsAmong c bfids → (e : Entry) × (map.get entries c.0 ≡ Some e))
    → EachRow taken (λ b u. IsGiven site next b) → EachRow (with_taken bfids taken) (λ b u. IsGiven site next b)
taken_given site next entries [] taken rows there each = each
taken_given site next entries (b ∷ bs) taken rows there each =
    taken_given site next entries bs (map.insert taken b.0 tt) rows (λ c among. there c (inr among))
    (each-insert numbers (λ q u. IsGiven site next q) taken b.0 tt (let e = there b (inl refl) in rows b.0 e.0 e.1) each)

-- ---- every step

module _ (d : Daemon) (h : History) (time : ℕ) (k : FilesKept d.tables h.contents d.cap)
    (taken : TakenKept d.tables.site d.tables.counter d.tables.entries h.taken) where
  abbrev Later : DaemonTables
  Later = record d.tables { time = record { 0 = time } }

  abbrev Is : ℕ → Bool → Type 0
  Is b v = v ≡ is_some (map.get h.taken b)

  -- the counter doesn't turn back
  with_counter : (entries : ByNumber Entry) (counter : ℕ) → d.tables.counter ≤ counter → EachDropping Is entries
      → TakenKept d.tables.site counter entries h.taken
  with_counter entries counter on each = record {
    dropping = each;
    given = λ b u is. given_longer d.tables.site d.tables.counter counter b on (taken.given b u is);
  }

  same_counter : (entries : ByNumber Entry) → EachDropping Is entries → TakenKept d.tables.site d.tables.counter entries h.taken
  same_counter entries each = with_counter entries d.tables.counter (omega arith) each

  same_removed : (path : List ℕ) (change : ℕ) (o : Option Ino)
      → TakenKept d.tables.site d.tables.counter (after_remove Later path change o).entries h.taken
      → TakenKept (after_remove Later path change o).site (after_remove Later path change o).counter (after_remove Later path change o).entries h.taken
  same_removed path change None kept = kept
  same_removed path change (Some n) kept = kept

  same_released : (o : Option Ino) → TakenKept (after_release Later o).site (after_release Later o).counter (after_release Later o).entries h.taken
  same_released None = same_counter d.tables.entries taken.dropping
  same_released (Some n) = same_counter d.tables.entries taken.dropping

  same_restored : (target : List ℕ) (change : ℕ) (o : Option DumpInode)
      → TakenKept (after_restore Later target change o).site (after_restore Later target change o).counter (after_restore Later target change o).entries h.taken
  same_restored target change None = same_counter d.tables.entries taken.dropping
  same_restored target change (Some f) = same_counter _ (each_named Is d.tables.entries (bitfile_dumped f) taken.dropping)

  free_taken : (b : Bfid) → b.0 ≡ bfid_of d.tables.site d.tables.counter → false ≡ is_some (map.get h.taken b.0)
  free_taken b is = sym (ap is_some (next_free d.tables.site d.tables.counter b.0 h.taken is taken.given _ refl))

  up : (n : ℕ) → n ≤ number_limit → n ≤ as_word (n + 1)
  up n le = omega (arith, le)

  same_begun : (path : List ℕ) (b : Bfid) (groups : List GroupId) → MayBeginPut d.tables path b groups
      → let u = after_begin_put_at Later b groups (map.get d.tables.names path) in TakenKept u.site u.counter u.entries h.taken
  same_begun path b groups may =
      subst (λ o. let u = after_begin_put_at Later b groups o in TakenKept u.site u.counter u.entries h.taken) (sym may.name)
      (subst (λ o. let u = after_begin_put Later b groups may.n.0 o in TakenKept u.site u.counter u.entries h.taken) (sym may.is)
      (with_counter _ (as_word (d.tables.counter + 1)) (up d.tables.counter may.left)
      (begun Is Later taken.dropping b groups may.n.0 (Some may.inode) (free_taken b may.next))))

  found : (bfids : List Bfid) → MayHardDelete d.tables time bfids → (c : Bfid) → IsAmong c bfids → (e : Entry) × (map.get d.tables.entries c.0 ≡ Some e)
  found bfids may c among = each bfids may.each c among
    where
      each : (xs : List Bfid) → AllByRecursion (λ b. MayBeTaken d.tables time b.0) xs → (c : Bfid) → IsAmong c xs → (e : Entry) × (map.get d.tables.entries c.0 ≡ Some e)
      each [] all c among = absurd among
      each (x ∷ xs) all c (inl same) = (all.0.entry, ap (λ y. map.get d.tables.entries y.0) same ∙ all.0.is)
      each (x ∷ xs) all c (inr after) = each xs all.1 c after

  hard_deleted : (bfids : List Bfid) → MayHardDelete d.tables time bfids
      → TakenKept d.tables.site d.tables.counter (with_dropping bfids d.tables.entries) (with_taken bfids h.taken)
  hard_deleted bfids may = record {
    dropping =
        each-map numbers (λ b e. e.dropping ≡ is_some (map.get (with_taken bfids h.taken) b))
        (λ b e. cond (list_any (λ c. nat_eq c.0 b) bfids) (as_dropping e) e) d.tables.entries
        (λ b e is. dropping_or (list_any (λ c. nat_eq c.0 b) bfids) e ∙ ap (λ v. list_any (λ c. nat_eq c.0 b) bfids || v) (taken.dropping b e is)
        ∙ sym (taken_all bfids h.taken b));
    given =
        taken_given d.tables.site d.tables.counter d.tables.entries bfids h.taken (λ b e is. (k.state.entries b e is).given) (found bfids may) taken.given;
  }

  pub taken_step : (s : DaemonStep) → MayStep d.tables time s
      → TakenKept (after_step Later s).site (after_step Later s).counter (after_step Later s).entries (history_after_step d s h).taken
  taken_step (Write path change bytes) may = same_counter _ (each_let_go Is d.tables.entries _ time _ taken.dropping)
  taken_step (Remove path change) may =
      same_removed path change (map.get d.tables.names path)
      (same_counter _ (removed Is Later taken.dropping path change (map.get d.tables.names path)))
  taken_step (BeginPut path b groups) may = same_begun path b groups may
  taken_step (Stored b g) may = same_counter _ (each_changed Is d.tables.entries b.0 (with_copy_of g.0) (λ e. refl) taken.dropping)
  taken_step (EndPut n b dual) may = same_counter _ (ended Is Later taken.dropping n.0 b.0 dual)
  taken_step (Release path) may = same_released (map.get d.tables.names path)
  taken_step (Taken n bytes) may = same_counter _ taken.dropping
  taken_step (Dump name) may = same_counter _ taken.dropping
  taken_step (Undump name) may = same_counter _ taken.dropping
  taken_step (Restore name path target change) may = same_restored target change (file_in (map.get d.tables.dumps name) path)
  taken_step (HardDelete bfids) may = hard_deleted bfids may
  taken_step (Dropped b) may = same_counter _ (each-remove numbers (λ q e. Is q e.dropping) d.tables.entries b.0 taken.dropping)
  taken_step Restart may = record {
    dropping = each-map numbers (λ b e. e.dropping ≡ is_some (map.get h.taken b)) _ d.tables.entries
        (λ b e is. either_kept _ e (taken.dropping b e is));
    given = taken.given;
  }
    where
      either_kept : {v : Bool} (c : Bool) (e : Entry) → e.dropping ≡ v → (cond c (with_deletion_time time e) e).dropping ≡ v
      either_kept true e is = is
      either_kept false e is = is
  taken_step (Age age) may = same_counter _ taken.dropping

-- what hard deletes took is kept by a record that may land
pub taken_landed : (d : Daemon) (h : History) (sides : ByNumber Side) (r : DaemonRecord) → FilesKept d.tables h.contents d.cap
    → MayLand d.tables d.requests h.contents d.cap sides r → TakenKept d.tables.site d.tables.counter d.tables.entries h.taken
    → TakenKept (after_record d.tables r).site (after_record d.tables r).counter (after_record d.tables r).entries (history_after_step d r.step h).taken
taken_landed d h sides r k may taken = taken_step d h r.time.0 k taken r.step may.follow.step

or_right : (a b : Bool) → b ≡ true → (a || b) ≡ true
or_right true b e = refl
or_right false b e = e

-- what was taken stays taken
pub taken_stays : (d : Daemon) (h : History) (s : DaemonStep) → EachRow h.taken (λ b u. IsSome (map.get (history_after_step d s h).taken b))
taken_stays d h (HardDelete bfids) = λ b u is. taken_all bfids h.taken b ∙ or_right (list_any (λ c. nat_eq c.0 b) bfids) _ (ap is_some is)
taken_stays d h (Write path change bytes) = λ b u is. ap is_some is
taken_stays d h (Remove path change) = λ b u is. ap is_some is
taken_stays d h (BeginPut path b groups) = λ q u is. ap is_some is
taken_stays d h (Stored b g) = λ q u is. ap is_some is
taken_stays d h (EndPut n b dual) = λ q u is. ap is_some is
taken_stays d h (Release path) = λ b u is. ap is_some is
taken_stays d h (Taken n bytes) = λ b u is. ap is_some is
taken_stays d h (Dump name) = λ b u is. ap is_some is
taken_stays d h (Undump name) = λ b u is. ap is_some is
taken_stays d h (Restore name path target change) = λ b u is. ap is_some is
taken_stays d h (Dropped b) = λ q u is. ap is_some is
taken_stays d h Restart = λ b u is. ap is_some is
taken_stays d h (Age age) = λ b u is. ap is_some is
