-- The joint state before the first event is opened.
use Rattle.std.proofs.Common.{◌≡◌, ◌≤◌, ℕ, true, None, List, [], ◌∷◌, refl, sym, ap, subst, inl, inr, arith, ◌∙◌}
use Rattle.std.proofs.Common.{nat_cmp}
use Rattle.std.specs.Cmp.Lexicographic.{slice_cmp}
use Rattle.std.specs.FinMap as map
use Rattle.std.proofs.lemmas.Bool.{or_cases}
use Rattle.dm_base.specs.declared.conf.DaemonConf.{DaemonConf}
use Rattle.dm_base.specs.declared.conf.GroupConf.{GroupConf}
use Rattle.dm_base.specs.declared.identifier.Ino.{Ino}
use Rattle.dm_base.specs.declared.serial.Vsn.{Vsn}
use Rattle.dm_tables.specs.Rows.{EachRow}
use Rattle.dm_tables.proofs.Any.{any-none}
use Rattle.dm_tables.proofs.Orders.{numbers, paths, same_or}
use Rattle.dm_tables.proofs.Rows.{each-empty, each-insert, get-here, get-beside}
use Rattle.dm_tables.proofs.Sums.{total-empty}
use Rattle.dm_durable.specs.declared.daemon.Dump.{Dump}
use Rattle.dm_durable.specs.declared.daemon.Entry.{Entry}
use Rattle.dm_durable.specs.declared.daemon.Inode.{Inode}
use Rattle.dm_durable.specs.Daemon.{empty_tables, size_of}
use Rattle.dm_durable.specs.DaemonJournal.{MayBeState}
use Rattle.dm_durable.specs.Dumps.{dump_size}
use Rattle.dm_durable.specs.Inodes.{is_making, length_of}
use Rattle.dm_durable.specs.Limits.{IsGroupNumber}
use Rattle.dm_durable.specs.Volumes.{is_listed}
use Rattle.dm_model.specs.Begin.{blank_images, empty_joint, new_daemon, new_side, new_sides, no_history}
use Rattle.dm_model.specs.declared.state.Image.{Image}
use Rattle.dm_model.specs.declared.state.Side.{Side}
use Rattle.dm_invariant.specs.Among.{IsAmong}
use Rattle.dm_invariant.specs.Kept.{committed_in, deleted_in}
use Rattle.dm_invariant.specs.Opened.{IsAsConfigured, Opened, SideOpened}
use Rattle.dm_invariant.specs.Places.{HasPlace, Live, Reserving, Target, Doubted, Owner}
use Rattle.dm_invariant.specs.Sound.{GroupSound, Sound}
use Rattle.dm_invariant.specs.Volumes.{ConfFits, HasImage, IsNumberOf}
use Rattle.dm_invariant.proofs.LookUps.{none_in_empty}
use Rattle.dm_invariant.proofs.Texts.{texts_equal}
use Rattle.dm_stops.specs.FirstConf.{FirstConf}
use Rattle.dm_stops.proofs.NothingOpen.{mounts_none, moves_none, requests_none, reservations_none}

-- ---- groups

-- a group of the configuration, under its number
record IsNew (groups : List GroupConf) (g : ℕ) (s : Side) : Type 0 where
  conf : GroupConf
  among : IsAmong conf groups
  number : conf.group.0 ≡ g
  new : s ≡ new_side conf

-- each group is new
sides_new : (groups : List GroupConf) → EachRow (new_sides groups) (IsNew groups)
sides_new [] = each-empty nat_cmp _
sides_new (c ∷ cs) =
    each-insert numbers (IsNew (c ∷ cs)) (new_sides cs) c.group.0 (new_side c) (record { conf = c; among = inl refl; number = refl; new = refl })
    (λ g s is. let r = sides_new cs g s is in record { conf = r.conf; among = inr r.among; number = r.number; new = r.new })

-- nobody has a place of a new group
nobody : (o : Owner) (vsn : List ℕ) (place : ℕ) → HasPlace map.empty map.empty map.empty None o vsn place → ⊥
nobody (Live b offset) vsn place has = none_in_empty nat_cmp map.empty b has.row refl has.is
nobody (Reserving n offset) vsn place has = none_in_empty nat_cmp map.empty n has.reserved refl has.is
nobody (Target job) vsn place has = none_in_empty nat_cmp map.empty job has.moving refl has.is
nobody (Doubted zone) vsn place has = has.among

group_new : (conf : DaemonConf) (g : ℕ) (c : GroupConf) → ConfFits c → GroupSound (new_daemon conf) no_history g (new_side c)
group_new conf g c fits = record {
  bitfiles = each-empty nat_cmp _;
  stored = each-empty nat_cmp _;
  volumes = record {
    fits = fits;
    volume = each-empty (slice_cmp nat_cmp) _;
    slots = λ v w x y is other same. absurd (none_in_empty (slice_cmp nat_cmp) map.empty v x refl is);
  };
  mounts = mounts_none _ _ _;
  reservations = reservations_none _ _ _ _ _ _ _ _ _;
  moves = moves_none _ _ _ _ _ _;
  reuses = each-empty nat_cmp _;
  places = λ o p vsn place a b. absurd (nobody o vsn place a);
  doubt = tt;
}

-- each listed volume has its image
images_blank : (size : ℕ) (volumes : List Vsn) (vsn : List ℕ) → is_listed volumes vsn ≡ true → HasImage (blank_images size volumes) vsn size
images_blank size [] vsn listed = cc
images_blank size (v ∷ vs) vsn listed =
    let blank : Image = record { size = size; known = map.empty } in
    elim (same_or paths v.0 vsn) [
      | inl same ↦ record {
        image = blank;
        is = ap (map.get (blank_images size (v ∷ vs))) same ∙ get-here paths (blank_images size vs) v.0 blank;
        sized = refl;
      }
      | inr differ ↦
          elim (or_cases _ _ listed) [
            | inl here ↦ absurd (differ (sym (texts_equal v.0 vsn here)))
            | inr later ↦
                let old = images_blank size vs vsn later in
                record { image = old.image; is = get-beside paths (blank_images size vs) v.0 blank vsn differ ∙ old.is; sized = old.sized }
          ]
    ]

side_new : (c : GroupConf) → SideOpened map.empty map.empty (new_side c)
side_new c = record {
  reservations = refl;
  group_mounts = refl;
  moves = refl;
  reuses = refl;
  tips = refl;
  copies = refl;
  mounts = refl;
  doubt = refl;
  commits = each-empty nat_cmp _;
  has = each-empty nat_cmp _;
  deletes = refl;
  images = λ vsn listed. images_blank c.size c.volumes vsn listed;
}

-- ---- the daemon

tables_new : (conf : DaemonConf) (groups : List GroupConf) → FirstConf conf groups → MayBeState (empty_tables conf.site conf.first conf.age)
tables_new conf groups f =
    let least = f.first.least in
    let most = f.first.most in
    let names = map.len-empty (slice_cmp nat_cmp) Ino in
    let entries = map.len-empty nat_cmp Entry in
    let dumps = map.len-empty (slice_cmp nat_cmp) Dump in
    record {
      change = omega arith;
      counter_least = least;
      counter_most = omega (arith, most);
      site = f.site;
      first = f.first;
      begun_age = f.age;
      age = f.age;
      files_most = omega (arith, names);
      entries_most = omega (arith, entries);
      dumps_most = omega (arith, dumps);
      names = each-empty (slice_cmp nat_cmp) _;
      names_apart = λ p q n m is other same. absurd (none_in_empty (slice_cmp nat_cmp) map.empty p n refl is);
      named = each-empty nat_cmp _;
      inodes = each-empty nat_cmp _;
      entries = each-empty nat_cmp _;
      dumps = each-empty (slice_cmp nat_cmp) _;
    }

-- ---- the state

-- where there are no files and no dumps, there are no bytes
no_bytes : (conf : DaemonConf) → size_of (empty_tables conf.site conf.first conf.age) ≤ conf.cap
no_bytes conf =
    let files = total-empty nat_cmp (λ (i : Inode). length_of i.contents) in
    let dumps = total-empty (slice_cmp nat_cmp) dump_size in
    omega (arith, files, dumps)

empty_sound : (conf : DaemonConf) (groups : List GroupConf) → FirstConf conf groups → Sound (empty_joint conf groups)
empty_sound conf groups f = record {
  files = record {
    state = tables_new conf groups f;
    held = each-empty nat_cmp _;
    unnamed = each-empty nat_cmp _;
    contents_given = each-empty nat_cmp _;
    size = no_bytes conf;
  };
  dumps = record { young = each-empty (slice_cmp nat_cmp) _ };
  requests = requests_none _ _ _ _;
  groups = λ g s is.
      let r = sides_new groups g s is in
      subst (λ x. GroupSound (new_daemon conf) no_history g x) (sym r.new) (group_new conf g r.conf (f.groups_fit r.conf r.among));
  doubt = tt;
}

number_new : (conf : DaemonConf) (groups : List GroupConf) → FirstConf conf groups → (g : ℕ) (c : GroupConf) → IsAmong c groups → c.group.0 ≡ g
    → IsNumberOf g c.group.0
number_new conf groups f g c among number =
    record { same = number; fits = subst (λ n. IsGroupNumber n) number (f.groups_fit c among).group }

empty_fits : (conf : DaemonConf) (groups : List GroupConf) → FirstConf conf groups → IsAsConfigured (empty_joint conf groups)
empty_fits conf groups f = record {
  entries = each-empty nat_cmp _;
  sides = λ g s is.
      let r = sides_new groups g s is in
      subst (λ (x : Side). IsNumberOf g x.group.tables.group.0) (sym r.new) (number_new conf groups f g r.conf r.among r.number);
}

side_opened : (g : ℕ) (c : GroupConf) → SideOpened (committed_in (map.get no_history.groups g)) (deleted_in (map.get no_history.groups g)) (new_side c)
side_opened g c =
    subst (λ o. SideOpened (committed_in o) (deleted_in o) (new_side c)) (sym (map.get-empty nat_cmp g)) (side_new c)

-- the state before the first event is opened
pub empty_opened : (conf : DaemonConf) (groups : List GroupConf) → FirstConf conf groups → Opened (empty_joint conf groups)
empty_opened conf groups f = record {
  sound = empty_sound conf groups f;
  fits = empty_fits conf groups f;
  requests = refl;
  doubt = refl;
  workers = refl;
  ended = any-none (λ n i. is_making i.contents) map.empty (each-empty nat_cmp _);
  sides = λ g s is.
      let r = sides_new groups g s is in
      subst (λ x. SideOpened (committed_in (map.get no_history.groups g)) (deleted_in (map.get no_history.groups g)) x) (sym r.new)
      (side_opened g r.conf);
  taken = record { dropping = each-empty nat_cmp _; given = each-empty nat_cmp _ };
}
