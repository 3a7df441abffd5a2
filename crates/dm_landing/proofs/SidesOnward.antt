-- A group's side keeps the invariant as the daemon goes on.
use Rattle.std.proofs.Common.{◌≡◌, ℕ, true, false, Option, Some, None, IsSome, List, refl, sym, ap, ◌∙◌, subst, inl, inr}
use Rattle.std.specs.FinMap as map
use Rattle.dm_base.specs.declared.volume.Chunk.{Chunk}
use Rattle.dm_tables.specs.Rows.{EachRow}
use Rattle.dm_durable.specs.declared.daemon.Entry.{Entry}
use Rattle.dm_durable.specs.declared.group.BitfileRow.{BitfileRow}
use Rattle.dm_durable.specs.declared.group.GroupRecord.{GroupRecord}
use Rattle.dm_durable.specs.declared.group.GroupStep.{GroupStep}
use Rattle.dm_durable.specs.declared.group.GroupStep.TheVariants.{Volume, Commit, Delete, Move, Free, Reuse}
use Rattle.dm_durable.specs.declared.group.VolumeRow.{VolumeRow}
use Rattle.dm_durable.specs.Tables.{ByNumber, ByName}
use Rattle.dm_durable.specs.Entries.{asks, has_stored}
use Rattle.dm_model.specs.declared.state.CopyState.{CopyState}
use Rattle.dm_model.specs.declared.state.Image.{Image}
use Rattle.dm_model.specs.declared.state.MountState.{MountState}
use Rattle.dm_model.specs.declared.state.Moving.{Moving}
use Rattle.dm_model.specs.declared.state.OpenRequest.{OpenRequest}
use Rattle.dm_model.specs.declared.state.Origin.{Origin}
use Rattle.dm_model.specs.declared.state.Origin.TheVariants as origin
use Rattle.dm_model.specs.declared.state.Reserved.{Reserved}
use Rattle.dm_model.specs.declared.state.Side.{Side}
use Rattle.dm_invariant.specs.Among.{IsAmong}
use Rattle.dm_invariant.specs.Catalogue.{AskedBitfile, BitfileKept, CatalogueKept}
use Rattle.dm_invariant.specs.Doubts.{NotInGroup, PutNeeds, GroupStepNeeds, GroupMayLandIf, PutsBitfile, DoubtPuts}
use Rattle.dm_invariant.specs.Kept.{SideKept}
use Rattle.dm_invariant.specs.Moves.{ReadRight, MoveKept}
use Rattle.dm_invariant.specs.OnceLive.{OnceLive, MountOnce}
use Rattle.dm_invariant.specs.Requests.{RequestEntry}
use Rattle.dm_invariant.specs.Reservations.{PutOf, CopyKept}
use Rattle.dm_invariant.proofs.Options.{same_row, none_some, there_as, value_of, has_value, none_there}
use Rattle.dm_landing.proofs.Fates.{EntriesGo, fate_there, fate_steady, fate_stored}

module _ (IsNamed : ℕ → Type 0) (sides : ByNumber Side) (requests later : ByNumber OpenRequest) (now age : ℕ) (IsFresh : ℕ → Entry → Type 0)
    (old new : ByNumber Entry) (contents after : ByNumber (List ℕ)) (taken more_taken : ByNumber (Unit {0}))
    (go : EntriesGo IsNamed sides requests now age IsFresh old new)
    (fresh : (b : ℕ) (f : Entry) → IsFresh b f → (map.get contents b ≡ None) × ((g : ℕ) → has_stored f g ≡ false))
    (more : EachRow contents (λ b bytes. map.get after b ≡ Some bytes))
    (taken_more : EachRow taken (λ b u. IsSome (map.get more_taken b))) where
  -- an entry that can't have gone is there, as it was
  stays : (b : ℕ) (e : Entry) → map.get old b ≡ Some e → ((e.dropping ≡ true) → EachRow sides (λ g s. NotInGroup b s) → ⊥)
      → (f : Entry) × (map.get new b ≡ Some f) × (f.len ≡ e.len) × ((g : ℕ) → asks f g ≡ asks e g)
  stays b e is lasting =
      let fate = go.fates b e is in
      elim (fate_there fate) [
        | inl there ↦ let s = fate_steady fate there.0 there.1 in (there.0, there.1, s.len, s.asks)
        | inr gone ↦ absurd (lasting gone.0 gone.1)
      ]

  taken_stays : (b : ℕ) → IsSome (map.get taken b) → IsSome (map.get more_taken b)
  taken_stays b is = let u = value_of (map.get taken b) is in taken_more b u.0 u.1

  content_stays : (b : ℕ) → IsSome (map.get contents b) → IsSome (map.get after b)
  content_stays b is = let x = value_of (map.get contents b) is in has_value (map.get after b) x.0 (more b x.0 x.1)

  -- ---- bitfiles

  -- one that was asked still is, where its entry can't have gone
  abbrev asked_onward : (g b : ℕ) (k : AskedBitfile g old contents b) → ((k.entry.dropping ≡ true) → EachRow sides (λ g s. NotInGroup b s) → ⊥)
      → AskedBitfile g new after b
  asked_onward g b k lasting =
      let f = stays b k.entry k.is lasting in
      record {
        entry = f.0;
        is = f.1;
        asked = f.3 g ∙ k.asked;
        bytes = k.bytes;
        content = more b k.bytes k.content;
        sized = k.sized ∙ sym f.2;
      }

  same_length : (b : ℕ) (e : Entry) (is : map.get old b ≡ Some e) (lasting : (e.dropping ≡ true) → EachRow sides (λ g s. NotInGroup b s) → ⊥)
      → (stays b e is lasting).0.len ≡ e.len
  same_length b e is lasting = (stays b e is lasting).2

  bitfile_onward : (g : ℕ) (s : Side) (b : ℕ) (row : BitfileRow) → map.get sides g ≡ Some s → map.get s.group.tables.bitfiles b ≡ Some row
      → BitfileKept g old contents s.group.tables.volumes s.images b row → BitfileKept g new after s.group.tables.volumes s.images b row
  bitfile_onward g s b row side is k =
      let lasting : (k.of.entry.dropping ≡ true) → EachRow sides (λ g s. NotInGroup b s) → ⊥ = λ dropping away.
      none_some (map.get s.group.tables.bitfiles b) row (away g s side).away is in
      record {
        of = asked_onward g b k.of lasting;
        len = same_length b k.of.entry k.of.is lasting ∙ k.len;
        joins = k.joins;
        lies = k.lies;
        known = k.known;
        sums = k.sums;
      }

  stored_onward : (g : ℕ) (s : Side) (b : ℕ) (f : Entry) → map.get sides g ≡ Some s
      → EachRow old (λ b e. e.dropping ≡ false → has_stored e g ≡ true → IsSome (map.get s.group.tables.bitfiles b))
      → map.get new b ≡ Some f → f.dropping ≡ false → has_stored f g ≡ true → IsSome (map.get s.group.tables.bitfiles b)
  stored_onward g s b f side was is lasting had =
      elim (go.comes b f is) [
        | inl from ↦
            let fate = go.fates b from.0 from.1 in
            elim (fate_stored fate f g is had) [
              | inl before ↦ was b from.0 from.1 ((fate_steady fate f is).lasting lasting) before
              | inr there ↦
                  there_as _ _ (ap (λ (x : Side). map.get x.group.tables.bitfiles b) (same_row (map.get sides g) there.side s there.is side)) there.there
            ]
        | inr new ↦ let never = (fresh b f new).1 g in cc
      ]

  commits_onward : (g : ℕ) (s : Side) (committed : ByNumber (Unit {0}))
      → EachRow committed (λ b u. (e : Entry) → map.get old b ≡ Some e → e.dropping ≡ false → IsSome (map.get s.group.tables.bitfiles b))
      → EachRow committed (λ b u. IsSome (map.get contents b))
      → EachRow committed (λ b u. (f : Entry) → map.get new b ≡ Some f → f.dropping ≡ false → IsSome (map.get s.group.tables.bitfiles b))
  commits_onward g s committed was made = λ b u is f at lasting.
      elim (go.comes b f at) [
        | inl from ↦ was b u is from.0 from.1 ((fate_steady (go.fates b from.0 from.1) f at).lasting lasting)
        | inr new ↦ absurd (none_there (map.get contents b) (fresh b f new).0 (made b u is))
      ]

  catalogue_onward : (g : ℕ) (s : Side) (committed deleted : ByNumber (Unit {0})) → map.get sides g ≡ Some s
      → CatalogueKept g old contents taken s.group.tables.volumes s.images s.group.tables.bitfiles committed deleted
      → CatalogueKept g new after more_taken s.group.tables.volumes s.images s.group.tables.bitfiles committed deleted
  catalogue_onward g s committed deleted side k = record {
    bitfile = λ b row is. bitfile_onward g s b row side is (k.bitfile b row is);
    stored = λ b f is lasting had. stored_onward g s b f side k.stored is lasting had;
    commits = commits_onward g s committed k.commits k.commits_made;
    commits_made = λ b u is. content_stays b (k.commits_made b u is);
    deletes = k.deletes;
    deletes_taken = λ b u is. taken_stays b (k.deletes_taken b u is);
  }

  -- ---- copies

  lasting_put : (k b : ℕ) (e : Entry) → EachRow requests (λ k r. RequestEntry old r) → PutOf requests k b → map.get old b ≡ Some e → e.dropping ≡ true → ⊥
  lasting_put k b e entries put is dropping =
      let kept = entries k put.request put.is in
      let one : kept.entry ≡ e = same_row (map.get old b) kept.entry e (ap (map.get old) (sym put.same) ∙ kept.is) is in
      let lasting = ap (λ x. x.dropping) (sym one) ∙ kept.lasting in
      cc

  copy_onward : (g : ℕ) (reservations : ByNumber Reserved) (b : ℕ) (c : CopyState) → EachRow requests (λ k r. RequestEntry old r)
      → ((k b : ℕ) → PutOf requests k b → PutOf later k b) → CopyKept g old contents requests reservations b c
      → CopyKept g new after later reservations b c
  copy_onward g reservations b c entries puts k =
      let lasting : (k.of.entry.dropping ≡ true) → EachRow sides (λ g s. NotInGroup b s) → ⊥ = λ dropping away.
      lasting_put c.request b k.of.entry entries k.put k.of.is dropping in
      record {
        of = asked_onward g b k.of lasting;
        len = same_length b k.of.entry k.of.is lasting ∙ k.len;
        put = puts c.request b k.put;
        reservation = k.reservation;
      }

  -- ---- chunks under mounts, and moves

  once_onward : (volumes : ByName VolumeRow) (images : ByName Image) (reservations : ByNumber Reserved) (moves : ByNumber Moving) (epoch b : ℕ) (c : Chunk)
      → OnceLive contents volumes images reservations moves epoch b c → OnceLive after volumes images reservations moves epoch b c
  once_onward volumes images reservations moves epoch b c k = record {
    volume = k.volume;
    is = k.is;
    still = λ same.
        let s = k.still same in
        record {
          behind = s.behind;
          within = s.within;
          sum = s.sum;
          bytes = s.bytes;
          content = more b s.bytes s.content;
          known = s.known;
          right = s.right;
          beside_kept = s.beside_kept;
          beside_targets = s.beside_targets;
        };
  }

  mount_onward : (volumes : ByName VolumeRow) (images : ByName Image) (reservations : ByNumber Reserved) (moves : ByNumber Moving) (epoch : ℕ) (o : Origin)
      → MountOnce contents volumes images reservations moves epoch o → MountOnce after volumes images reservations moves epoch o
  mount_onward volumes images reservations moves epoch (origin.New listed format) k = k
  mount_onward volumes images reservations moves epoch (origin.Piece b index p chunk) k = k
  mount_onward volumes images reservations moves epoch (origin.Chunk b c) k = once_onward volumes images reservations moves epoch b.0 c k
  mount_onward volumes images reservations moves epoch (origin.Source job b c) k = once_onward volumes images reservations moves epoch b.0 c k
  mount_onward volumes images reservations moves epoch (origin.Target job b total c version) k = k
  mount_onward volumes images reservations moves epoch (origin.Reuse next_epoch version reading) k = k

  read_onward : (b : ℕ) (c : Chunk) (o : Option (List ℕ)) → ReadRight contents b c o → ReadRight after b c o
  read_onward b c None k = k
  read_onward b c (Some bytes) k = record { whole = k.whole; content = more b k.whole k.content; len = k.len; part = k.part }

  move_onward : (volumes : ByName VolumeRow) (tips : ByName ℕ) (images : ByName Image) (mounts : ByNumber MountState) (job : ℕ) (x : Moving)
      → MoveKept contents volumes tips images mounts job x → MoveKept after volumes tips images mounts job x
  move_onward volumes tips images mounts job x k = record {
    source = k.source;
    source_is = k.source_is;
    source_for = k.source_for;
    target = k.target;
    target_is = k.target_is;
    target_for = k.target_for;
    some = k.some;
    moved = k.moved;
    zone = k.zone;
    read = read_onward x.bfid.0 x.from k.source.read k.read;
    written = k.written;
  }

  -- ---- steps in doubt

  puts_onward : (g : ℕ) (s : Side) (deleted : ByNumber (Unit {0})) (b : ℕ) (IsNew : Chunk → Type 0)
      → (EachRow sides (λ g s. NotInGroup b s) → ⊥)
      → PutNeeds g old contents s.images s.group.tables.volumes s.group.tips deleted b IsNew
      → PutNeeds g new after s.images s.group.tables.volumes s.group.tips deleted b IsNew
  puts_onward g s deleted b IsNew lasting k =
      record {
        of = asked_onward g b k.of (λ dropping away. lasting away);
        known = k.known;
        sums = k.sums;
        hand = k.hand;
        undeleted = k.undeleted;
      }

  needs_onward : (g : ℕ) (s : Side) (deleted : ByNumber (Unit {0})) (time : ℕ) (step : GroupStep)
      → ((b : ℕ) → PutsBitfile b step → EachRow sides (λ g s. NotInGroup b s) → ⊥)
      → GroupStepNeeds g old contents taken deleted s time step → GroupStepNeeds g new after more_taken deleted s time step
  unfolding puts_onward
  needs_onward g s deleted time (Volume vsn slot version size) lasting k = k
  needs_onward g s deleted time (Commit b len chunks) lasting k = record {
    puts = puts_onward g s deleted b.0 (λ c. IsAmong c chunks) (lasting b.0 refl) k.puts;
    whole = k.whole;
    apart = k.apart;
    unreserved = k.unreserved;
  }
  needs_onward g s deleted time (Delete b) lasting k = taken_stays b.0 k
  needs_onward g s deleted time (Move b from to) lasting k = puts_onward g s deleted b.0 (λ c. c ≡ to) (lasting b.0 refl) k
  needs_onward g s deleted time (Free vsn) lasting k = k
  needs_onward g s deleted time (Reuse vsn epoch version) lasting k = k

  doubt_onward : (g : ℕ) (s : Side) (deleted : ByNumber (Unit {0})) (o : Option GroupRecord) → map.get sides g ≡ Some s → s.group.doubt ≡ o
      → GroupMayLandIf g old contents taken deleted s o → GroupMayLandIf g new after more_taken deleted s o
  doubt_onward g s deleted None side is k = k
  doubt_onward g s deleted (Some r) side is k = record {
    follow = k.follow;
    needs =
        needs_onward g s deleted r.time.0 r.step
        (λ b puts away. (away g s side).lasting (subst (λ o. DoubtPuts b o) (sym is) puts)) k.needs;
  }

  -- the whole side keeps it
  pub side_onward : (g : ℕ) (committed deleted : ByNumber (Unit {0})) (s : Side) → map.get sides g ≡ Some s
      → EachRow requests (λ k r. RequestEntry old r) → ((k b : ℕ) → PutOf requests k b → PutOf later k b)
      → SideKept old contents taken requests g committed deleted s → SideKept new after more_taken later g committed deleted s
  side_onward g committed deleted s side entries puts k = record {
    number = k.number;
    catalogue = catalogue_onward g s committed deleted side k.catalogue;
    volumes = k.volumes;
    mounts = k.mounts;
    once = λ m x is. mount_onward s.group.tables.volumes s.images s.group.reservations s.group.moves x.epoch x.origin (k.once m x is);
    reservations = record {
      numbers = k.reservations.numbers;
      reservation = k.reservations.reservation;
      copy = λ b c is. copy_onward g s.group.reservations b c entries puts (k.reservations.copy b c is);
    };
    moves = record {
      numbers = k.moves.numbers;
      moving = λ job x is. move_onward s.group.tables.volumes s.group.tips s.images s.mounts job x (k.moves.moving job x is);
    };
    reuses = k.reuses;
    places = k.places;
    doubt = doubt_onward g s deleted s.group.doubt side refl k.doubt;
  }
