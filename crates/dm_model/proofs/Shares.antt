-- What an event does to the daemon, to a library server and to a group's side is their share of it, and nothing else.
use Rattle.std.proofs.Common.{◌≡◌, refl, ◌∙◌, ap, sym, subst, ℕ, Bool, true, false, cond, Option, None, Some, [], ◌∷◌}
use Rattle.std.specs.Option.{option_map}
use Rattle.std.specs.FinMap as map
use Rattle.dm_base.specs.declared.identifier.GroupId.{GroupId}
use Rattle.dm_durable.specs.declared.daemon.DaemonRecord.{DaemonRecord}
use Rattle.dm_durable.specs.Tables.{ByNumber}
use Rattle.dm_model.specs.declared.call.Component.{Component}
use Rattle.dm_model.specs.declared.call.Component.TheVariants as component
use Rattle.dm_model.specs.declared.plan.Ending.{Ending}
use Rattle.dm_model.specs.declared.plan.Ending.TheVariants as ending
use Rattle.dm_model.specs.declared.plan.Mark.{Mark}
use Rattle.dm_model.specs.declared.plan.Mark.TheVariants as mark
use Rattle.dm_model.specs.declared.plan.Opening.{Opening}
use Rattle.dm_model.specs.declared.plan.Opening.TheVariants as opening
use Rattle.dm_model.specs.declared.plan.Payload.{Payload}
use Rattle.dm_model.specs.declared.plan.Payload.TheVariants as payload
use Rattle.dm_model.specs.declared.plan.Prepared.{Prepared}
use Rattle.dm_model.specs.declared.state.Joint.{Joint}
use Rattle.dm_model.specs.declared.state.Side.{Side}
use Rattle.dm_model.specs.DaemonShare.{daemon_after_call, daemon_after_fault, daemon_after_record, daemon_after_stop, daemon_with_doubt}
use Rattle.dm_model.specs.Effects.{at_each, groups_of_component, groups_of_ending, groups_of_mark, groups_of_opening, groups_of_payload}
use Rattle.dm_model.specs.GroupShare.{group_after_call, group_after_fault, group_after_opening, group_doubting}
use Rattle.dm_model.specs.SideShare.{side_after_call, side_after_ending, side_after_failed_mark, side_after_fault, side_after_mark, side_after_opening, side_after_payload, side_doubting, side_without_doubt}
use Rattle.dm_model.specs.Step.{after_call, after_fault, after_landing, after_stop}
use Rattle.dm_tables.proofs.Adjusted.{adjusted-here}
use Rattle.dm_tables.specs.Rows.{adjust}
use Rattle.dm_tables.proofs.Orders.{numbers}

-- ---- the daemon

pub daemon-after_call : (w : ℕ) (p : Prepared) (j : Joint) → (after_call w p j).daemon ≡ daemon_after_call p j.daemon
daemon-after_call w p j = refl

pub daemon-after_fault : (w : ℕ) (p : Prepared) (far : Bool) (j : Joint)
    → (after_fault w p far j).daemon ≡ daemon_after_fault p far j.daemon
daemon-after_fault w p far j = refl

pub daemon-after_landing : (r : DaemonRecord) (j : Joint)
    → (after_landing component.Daemon (payload.Daemon r) j).daemon ≡ daemon_after_record r (daemon_with_doubt None j.daemon)
daemon-after_landing r j = refl

pub daemon-after_stop : (j : Joint) → (after_stop j).daemon ≡ daemon_after_stop j.daemon
daemon-after_stop j = refl

-- ---- a library server, within its side

-- a mark is no matter of the library server
pub group-marked : (x : Mark) (s : Side) → (side_after_mark x s).group ≡ s.group
group-marked mark.Nothing s = refl
group-marked (mark.Zone g vsn place zone b index epoch) s = refl
group-marked (mark.Target g vsn m place zone) s = refl
group-marked (mark.Label g vsn m epoch version text) s = refl
group-marked (mark.Read g b offset bytes) s = refl
group-marked (mark.Source g m bytes) s = refl
group-marked (mark.Deleted g b) s = refl

pub group-failed_mark : (x : Mark) (s : Side) → (side_after_failed_mark x s).group ≡ s.group
group-failed_mark mark.Nothing s = refl
group-failed_mark (mark.Zone g vsn place zone b index epoch) s = refl
group-failed_mark (mark.Target g vsn m place zone) s = refl
group-failed_mark (mark.Label g vsn m epoch version text) s = refl
group-failed_mark (mark.Read g b offset bytes) s = refl
group-failed_mark (mark.Source g m bytes) s = refl
group-failed_mark (mark.Deleted g b) s = refl

pub group-after_call : (p : Prepared) (s : Side) → (side_after_call p s).group ≡ group_after_call p s.group
group-after_call p s =
    let before = side_after_payload p.payload (side_without_doubt p.heals (side_after_ending p.ends s)) in
    ap (group_after_opening p.opens) (group-marked p.mark before)

pub group-after_fault : (p : Prepared) (far : Bool) (s : Side)
    → (side_after_fault p far s).group ≡ group_after_fault p far s.group
group-after_fault p far s =
    ap (group_doubting (cond far p.payload None)) (group-failed_mark p.mark (side_after_ending p.ends s))

-- ---- a side, within the whole

-- the parts of a plan that are about no group, or about this one
abbrev pub EndsOf : GroupId → Ending → Type 0
EndsOf g ending.Nothing = Unit {0}
EndsOf g (ending.Put k b groups) = ⊥
EndsOf g (ending.Recall k) = ⊥
EndsOf g (ending.Reservation h n b) = h ≡ g
EndsOf g (ending.Mount h m) = h ≡ g
EndsOf g (ending.Move h job source target) = h ≡ g

abbrev pub PaysOf : GroupId → Option Payload → Type 0
PaysOf g None = Unit {0}
PaysOf g (Some (payload.Daemon r)) = ⊥
PaysOf g (Some (payload.Group h r)) = h ≡ g

abbrev pub MarksOf : GroupId → Mark → Type 0
MarksOf g mark.Nothing = Unit {0}
MarksOf g (mark.Zone h vsn place zone b index epoch) = h ≡ g
MarksOf g (mark.Target h vsn m place zone) = h ≡ g
MarksOf g (mark.Label h vsn m epoch version text) = h ≡ g
MarksOf g (mark.Read h b offset bytes) = h ≡ g
MarksOf g (mark.Source h m bytes) = h ≡ g
MarksOf g (mark.Deleted h b) = h ≡ g

abbrev pub OpensOf : GroupId → Opening → Type 0
OpensOf g opening.Nothing = Unit {0}
OpensOf g (opening.Put k r len groups) = ⊥
OpensOf g (opening.Recall k r recall) = ⊥
OpensOf g (opening.Reservation h n r) = h ≡ g
OpensOf g (opening.Mount h m vsn epoch made) = h ≡ g
OpensOf g (opening.Move h job moving source_epoch target_epoch) = h ≡ g
OpensOf g (opening.Reuse h m epoch reusing reading) = h ≡ g

-- a call of this group, or on one of its volumes
pub record IsOfGroup (g : GroupId) (p : Prepared) : Type 0 where
  pub component : p.component ≡ component.Group g
  pub ends : EndsOf g p.ends
  pub pays : PaysOf g p.payload
  pub marks : MarksOf g p.mark
  pub opens : OpensOf g p.opens

-- what stands at g after f was done to the side of h, which is g
pub at_one : (f : Side → Side) (g h : GroupId) (sides : ByNumber Side) (s : Side)
    → h ≡ g → map.get sides g.0 ≡ Some s → map.get (at_each f (h ∷ []) sides) g.0 ≡ Some (f s)
at_one f g h sides s same there =
    let P : GroupId → Type 0 = λ x. map.get (adjust sides x.0 f) g.0 ≡ Some (f s) in
    subst P (sym same) (adjusted-here numbers sides g.0 f ∙ ap (option_map f) there)

pub ending-at : (g : GroupId) (e : Ending) (sides : ByNumber Side) (s : Side) → EndsOf g e → map.get sides g.0 ≡ Some s
    → map.get (at_each (side_after_ending e) (groups_of_ending e) sides) g.0 ≡ Some (side_after_ending e s)
ending-at g ending.Nothing sides s of there = there
ending-at g (ending.Put k b groups) sides s of there = absurd of
ending-at g (ending.Recall k) sides s of there = absurd of
ending-at g (ending.Reservation h n b) sides s of there =
    at_one (side_after_ending (ending.Reservation h n b)) g h sides s of there
ending-at g (ending.Mount h m) sides s of there = at_one (side_after_ending (ending.Mount h m)) g h sides s of there
ending-at g (ending.Move h job source target) sides s of there =
    at_one (side_after_ending (ending.Move h job source target)) g h sides s of there

pub healing-at : (g : GroupId) (heals : Bool) (sides : ByNumber Side) (s : Side) → map.get sides g.0 ≡ Some s
    → map.get (at_each (side_without_doubt heals) (cond heals (groups_of_component (component.Group g)) []) sides) g.0
    ≡ Some (side_without_doubt heals s)
healing-at g true sides s there = at_one (side_without_doubt true) g g sides s refl there
healing-at g false sides s there = there

pub payload-at : (g : GroupId) (p : Option Payload) (sides : ByNumber Side) (s : Side) → PaysOf g p → map.get sides g.0 ≡ Some s
    → map.get (at_each (side_after_payload p) (groups_of_payload p) sides) g.0 ≡ Some (side_after_payload p s)
payload-at g None sides s of there = there
payload-at g (Some (payload.Daemon r)) sides s of there = absurd of
payload-at g (Some (payload.Group h r)) sides s of there =
    at_one (side_after_payload (Some (payload.Group h r))) g h sides s of there

pub doubting-at : (g : GroupId) (p : Option Payload) (sides : ByNumber Side) (s : Side) → PaysOf g p → map.get sides g.0 ≡ Some s
    → map.get (at_each (side_doubting p) (groups_of_payload p) sides) g.0 ≡ Some (side_doubting p s)
doubting-at g None sides s of there = there
doubting-at g (Some (payload.Daemon r)) sides s of there = absurd of
doubting-at g (Some (payload.Group h r)) sides s of there =
    at_one (side_doubting (Some (payload.Group h r))) g h sides s of there

pub mark-at : (g : GroupId) (x : Mark) (sides : ByNumber Side) (s : Side) → MarksOf g x → map.get sides g.0 ≡ Some s
    → map.get (at_each (side_after_mark x) (groups_of_mark x) sides) g.0 ≡ Some (side_after_mark x s)
mark-at g mark.Nothing sides s of there = there
mark-at g (mark.Zone h vsn place zone b index epoch) sides s of there =
    at_one (side_after_mark (mark.Zone h vsn place zone b index epoch)) g h sides s of there
mark-at g (mark.Target h vsn m place zone) sides s of there =
    at_one (side_after_mark (mark.Target h vsn m place zone)) g h sides s of there
mark-at g (mark.Label h vsn m epoch version text) sides s of there =
    at_one (side_after_mark (mark.Label h vsn m epoch version text)) g h sides s of there
mark-at g (mark.Read h b offset bytes) sides s of there = there
mark-at g (mark.Source h m bytes) sides s of there = at_one (side_after_mark (mark.Source h m bytes)) g h sides s of there
mark-at g (mark.Deleted h b) sides s of there = there

pub failed_mark-at : (g : GroupId) (x : Mark) (sides : ByNumber Side) (s : Side) → MarksOf g x → map.get sides g.0 ≡ Some s
    → map.get (at_each (side_after_failed_mark x) (groups_of_mark x) sides) g.0 ≡ Some (side_after_failed_mark x s)
failed_mark-at g mark.Nothing sides s of there = there
failed_mark-at g (mark.Zone h vsn place zone b index epoch) sides s of there =
    at_one (side_after_failed_mark (mark.Zone h vsn place zone b index epoch)) g h sides s of there
failed_mark-at g (mark.Target h vsn m place zone) sides s of there =
    at_one (side_after_failed_mark (mark.Target h vsn m place zone)) g h sides s of there
failed_mark-at g (mark.Label h vsn m epoch version text) sides s of there =
    at_one (side_after_failed_mark (mark.Label h vsn m epoch version text)) g h sides s of there
failed_mark-at g (mark.Read h b offset bytes) sides s of there = there
failed_mark-at g (mark.Source h m bytes) sides s of there =
    at_one (side_after_failed_mark (mark.Source h m bytes)) g h sides s of there
failed_mark-at g (mark.Deleted h b) sides s of there = there

pub opening-at : (g : GroupId) (o : Opening) (sides : ByNumber Side) (s : Side) → OpensOf g o → map.get sides g.0 ≡ Some s
    → map.get (at_each (side_after_opening o) (groups_of_opening o) sides) g.0 ≡ Some (side_after_opening o s)
opening-at g opening.Nothing sides s of there = there
opening-at g (opening.Put k r len groups) sides s of there = absurd of
opening-at g (opening.Recall k r recall) sides s of there = absurd of
opening-at g (opening.Reservation h n r) sides s of there =
    at_one (side_after_opening (opening.Reservation h n r)) g h sides s of there
opening-at g (opening.Mount h m vsn epoch made) sides s of there =
    at_one (side_after_opening (opening.Mount h m vsn epoch made)) g h sides s of there
opening-at g (opening.Move h job moving source_epoch target_epoch) sides s of there =
    at_one (side_after_opening (opening.Move h job moving source_epoch target_epoch)) g h sides s of there
opening-at g (opening.Reuse h m epoch reusing reading) sides s of there =
    at_one (side_after_opening (opening.Reuse h m epoch reusing reading)) g h sides s of there

-- the side of a group, after a call of it or on one of its volumes, is its share
pub side-after_call : (g : GroupId) (w : ℕ) (p : Prepared) (j : Joint) (s : Side)
    → IsOfGroup g p → map.get j.sides g.0 ≡ Some s → map.get (after_call w p j).sides g.0 ≡ Some (side_after_call p s)
side-after_call g w p j s of there =
    let ended = ending-at g p.ends j.sides s of.ends there in
    let sides = at_each (side_after_ending p.ends) (groups_of_ending p.ends) j.sides in
    let spent = side_after_ending p.ends s in
    let P : Component → Type 0 = λ c.
    map.get (at_each (side_without_doubt p.heals) (cond p.heals (groups_of_component c) []) sides) g.0
    ≡ Some (side_without_doubt p.heals spent) in
    let healed = subst P (sym of.component) (healing-at g p.heals sides spent ended) in
    let paid = payload-at g p.payload _ (side_without_doubt p.heals spent) of.pays healed in
    let marked = mark-at g p.mark _ (side_after_payload p.payload (side_without_doubt p.heals spent)) of.marks paid in
    opening-at g p.opens _ _ of.opens marked

-- so it is after such a call that failed
pub side-after_fault : (g : GroupId) (w : ℕ) (p : Prepared) (far : Bool) (j : Joint) (s : Side)
    → IsOfGroup g p → map.get j.sides g.0 ≡ Some s
    → map.get (after_fault w p far j).sides g.0 ≡ Some (side_after_fault p far s)
side-after_fault g w p far j s of there =
    let ended = ending-at g p.ends j.sides s of.ends there in
    let failed = failed_mark-at g p.mark _ (side_after_ending p.ends s) of.marks ended in
    doubting-at g (cond far p.payload None) _ _ (pays_far far p.payload of.pays) failed
  where
    pays_far : (far : Bool) (q : Option Payload) → PaysOf g q → PaysOf g (cond far q None)
    pays_far true q of = of
    pays_far false q of = tt
