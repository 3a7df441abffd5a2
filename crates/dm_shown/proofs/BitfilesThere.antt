-- What requests and young dumps name is there.
use Rattle.std.proofs.Common.{◌≡◌, ℕ, Bool, true, false, not, Option, None, Some, is_some, refl, sym, ◌∙◌}
use Rattle.std.proofs.lemmas.Bool.{and_parts}
use Rattle.std.specs.FinMap as map
use Rattle.dm_base.specs.declared.identifier.GroupId.{GroupId}
use Rattle.dm_tables.specs.Rows.{EachRow}
use Rattle.dm_durable.specs.declared.daemon.DumpInode.{DumpInode}
use Rattle.dm_durable.specs.declared.daemon.DumpInode.TheVariants.{Kept as KeptFile, Named as NamedFile}
use Rattle.dm_durable.specs.declared.daemon.Entry.{Entry}
use Rattle.dm_durable.specs.Entries.{groups_asked, is_stored}
use Rattle.dm_model.specs.declared.state.Joint.{Joint}
use Rattle.dm_invariant.specs.Among.{IsAmong}
use Rattle.dm_invariant.specs.Doubts.{InGroup}
use Rattle.dm_invariant.specs.Files.{DumpedRightly}
use Rattle.dm_invariant.specs.Kept.{InvariantHolds}
use Rattle.dm_invariant.proofs.AskedGroups.{asked_stored}
use Rattle.dm_invariant.proofs.Options.{value_of}
use Rattle.dm_shown.specs.There.{FileThere, RequestThere, YoungThere}

untaken : (o : Option (Unit {0})) → false ≡ is_some o → o ≡ None
untaken None is = refl
untaken (Some u) is = absurd (cc)

is_false : (b : Bool) → not b ≡ true → b ≡ false
is_false true is = cc
is_false false is = refl

module _ (j : Joint) (kept : InvariantHolds j) where
  -- each group that the entry asks has the bitfile, where every copy is stored
  in_groups : (b : ℕ) (e : Entry) → map.get j.daemon.tables.entries b ≡ Some e → is_stored e ≡ true → e.dropping ≡ false
      → (g : GroupId) → IsAmong g (groups_asked e) → InGroup j.sides g.0 b
  in_groups b e is whole lasting g among =
      let side = value_of (map.get j.sides g.0) (kept.configured b e is g among) in
      let stored = asked_stored e g.0 (record { group = g; among = among; same = refl }) whole in
      record { side = side.0; is = side.1; there = (kept.sides g.0 side.0 side.1).catalogue.stored b e is lasting stored }

  pub request_there : EachRow j.daemon.requests (λ k r. RequestThere j r)
  request_there k r is =
      let there = kept.requests.entry k r is in
      record {
        entry = there.entry;
        is = there.is;
        lasting = there.lasting;
        copies = λ recall. in_groups r.bfid.0 there.entry there.is (there.whole recall) there.lasting;
      }

  file_there : (made : ℕ) (f : DumpInode) → DumpedRightly j.daemon.tables.entries made f → FileThere j f
  file_there made (KeptFile bytes) right = tt
  file_there made (NamedFile len b) right =
      let parts = and_parts (is_stored right.entry) (not right.entry.dropping) right.complete in
      let lasting = is_false right.entry.dropping parts.1 in
      record {
        entry = right.entry;
        is = right.is;
        sized = right.sized;
        whole = parts.0;
        lasting = lasting;
        copies = in_groups b.0 right.entry right.is parts.0 lasting;
        untaken = untaken (map.get j.history.taken b.0) (sym lasting ∙ kept.taken.dropping b.0 right.entry right.is);
      }

  pub young_there : YoungThere j
  young_there name d is young path f at = file_there d.made.0 f (kept.dumps.young name d is young path f at)
