-- What keeps the files those of the plain namespace.
use Rattle.std.proofs.Common.{◌≡◌, ◌≢◌, Bool, cond, ℕ, ◌+◌, ◌*◌, ◌^◌, ◌<◌, ◌≤◌, List, [], ◌∷◌, Option, Some, None, length, take, drop, zero, suc, refl, sym, ◌∙◌, ap, subst, inl, inr, ◌⊎◌, arith}
use Rattle.std.proofs.lemmas.Bool.{ne_eqb}
use Rattle.std.proofs.lemmas.List.{drop-drop, drop-take}
use Rattle.dm_base.specs.declared.identifier.Bfid.{Bfid}
use Rattle.dm_base.specs.declared.command.Command.{Command}
use Rattle.dm_base.specs.declared.command.Command.TheVariants as command
use Rattle.dm_base.specs.declared.reply.Reply.{Reply}
use Rattle.dm_base.specs.declared.reply.Reply.TheVariants as reply
use Rattle.dm_proto.specs.declared.heard.Heard.{Heard}
use Rattle.dm_proto.specs.declared.heard.Heard.TheVariants as heard
use Rattle.dm_host.specs.Count.{Rose}
use Rattle.dm_host.specs.Disk.{Torn, Written, part}
use Rattle.dm_host.proofs.Outside.{part-torn_before, part-within}
use Rattle.dm_plain.specs.Namespace.{Namespace, bytes_of, with_file}
use Rattle.dm_plain.proofs.Laws.{bytes_of-written-same, bytes_of-written-other}
use Rattle.dm_site.specs.declared.file.File.{File}
use Rattle.dm_site.specs.declared.file.Form.{Form}
use Rattle.dm_site.specs.declared.file.Form.TheVariants as form
use Rattle.dm_site.specs.Files.{Sets}
use Rattle.dm_site.specs.State.{State, Holds, HoldsIf, Agrees}
use Rattle.dm_site.specs.Zones.{IsZone}
use Rattle.dm_site.specs.Rules.{Writes, own_bfid, tip_after}
use Rattle.dm_site.specs.Session.{Counts, ReadIs, plain_step}
use Rattle.dm_site.proofs.Tables.{cases_path}

-- The image has grown, and what stood before the tip reads as it did.
pub record Keeps (tip tip' : ℕ) (image image' : List ℕ) : Type 0 where
  pub rises : tip ≤ tip'
  pub grows : length image ≤ length image'
  pub reads : (place n : ℕ) → place + n ≤ tip → place + n ≤ length image → part image' place n ≡ part image place n

pub keeps_same : (tip : ℕ) (image image' : List ℕ) → image' ≡ image → Keeps tip tip image image'
keeps_same tip image image' e = record { rises = omega arith; grows = omega (arith, ap length e); reads = λ place n _ _. ap (λ (l : List ℕ). part l place n) e }

pub keeps_torn : (tip n : ℕ) (image image' : List ℕ) → Torn tip n image image' → Keeps tip (tip + n) image image'
keeps_torn tip n image image' t = record { rises = omega arith; grows = t.no_shorter; reads = λ place m before within. part-torn_before tip n image image' place m t before within }

part_kept : (tip tip' : ℕ) (image image' : List ℕ) → Keeps tip tip' image image' → (len place : ℕ) → (0 < len → (place + len ≤ tip) × (place + len ≤ length image)) → part image' place len ≡ part image place len
part_kept tip tip' image image' k zero place within = refl
part_kept tip tip' image image' k (suc len) place within = let w = within (omega arith) in k.reads place (suc len) w.0 w.1

holds_still : (tip tip' : ℕ) (image image' : List ℕ) → Keeps tip tip' image image' → (f : Form) (plain : Option (List ℕ)) → Holds f plain image tip → Holds f plain image' tip'
holds_still tip tip' image image' k (form.Regular bytes) plain h = h
holds_still tip tip' image image' k (form.Dual bytes bfid place) plain h = h
holds_still tip tip' image image' k (form.Offline len bfid place) plain h = (
  h.0 ∙ ap Some (sym (part_kept tip tip' image image' k len place h.1)),
  λ some. let w = h.1 some in (omega (arith, w.0, k.rises), omega (arith, w.1, k.grows)),
)

holds_if_still : (tip tip' : ℕ) (image image' : List ℕ) → Keeps tip tip' image image' → (f : Option File) (plain : Option (List ℕ)) → HoldsIf f plain image tip → HoldsIf f plain image' tip'
holds_if_still tip tip' image image' k None plain h = h
holds_if_still tip tip' image image' k (Some file) plain h = holds_still tip tip' image image' k file.form plain h

-- each path has the bytes that the namespace has
abbrev pub AgreesAt : Namespace → (List ℕ → Option File) → List ℕ → ℕ → Type 0
AgreesAt plain at image tip = (path : List ℕ) → HoldsIf (at path) (bytes_of path plain) image tip

-- no file has changed
pub agrees_still : (plain : Namespace) (at : List ℕ → Option File) (tip tip' : ℕ) (image image' : List ℕ) → Keeps tip tip' image image' → AgreesAt plain at image tip → AgreesAt plain at image' tip'
agrees_still plain at tip tip' image image' k a = λ path. holds_if_still tip tip' image image' k (at path) (bytes_of path plain) (a path)

-- one file has changed, and has the bytes that the namespace has
pub agrees_set : (plain plain' : Namespace) (at at' : List ℕ → Option File) (tip tip' : ℕ) (image image' : List ℕ) (path : List ℕ) (file : File)
    → Keeps tip tip' image image' → Sets at at' path file
    → ((other : List ℕ) → other ≢ path → bytes_of other plain' ≡ bytes_of other plain)
    → Holds file.form (bytes_of path plain') image' tip' → AgreesAt plain at image tip → AgreesAt plain' at' image' tip'
agrees_set plain plain' at at' tip tip' image image' path file k s same here a q = elim (cases_path q path) [
  | inl e ↦
      subst (λ (p : List ℕ). HoldsIf (at' p) (bytes_of p plain') image' tip') (sym e)
      (subst (λ (f : Option File). HoldsIf f (bytes_of path plain') image' tip') (sym s.at) here)
  | inr ne ↦
      subst (λ (f : Option File). HoldsIf f (bytes_of q plain') image' tip') (sym (s.others q ne))
      (subst (λ (b : Option (List ℕ)). HoldsIf (at q) b image' tip') (sym (same q ne))
      (holds_if_still tip tip' image image' k (at q) (bytes_of q plain) (a q)))
]

-- a zone that was written: its bytes stand behind its headers
pub zone_holds : (tip : ℕ) (zone bytes image image' : List ℕ) (bfid : Bfid) → 0 < length bytes → IsZone zone bytes → Written tip zone image image'
    → Holds (form.Offline (length bytes) bfid (tip + 80)) (Some bytes) image' (tip + length zone)
zone_holds tip zone bytes image image' bfid some z w =
    let long : length zone ≡ 80 + length bytes = z.long some in
    let within : (tip + 80) + length bytes ≤ length image' = omega (arith, long, w.within) in
    let at : take (length bytes) (drop (tip + 80) image') ≡ bytes =
    ap (take (length bytes)) (sym (drop-drop 80 tip image')) ∙ sym (drop-take 80 (length bytes) (drop tip image'))
    ∙ ap (λ (n : ℕ). drop 80 (take n (drop tip image'))) (sym long) ∙ ap (drop 80) w.there ∙ z.there some in
    (ap Some (sym (part-within image' (tip + 80) (length bytes) within ∙ at)), λ _. (omega (arith, long), within))

-- a file without bytes holds nothing, wherever it is said to be
pub nothing_holds : (bytes image : List ℕ) (tip len place : ℕ) (bfid : Bfid) → length bytes ≡ 0 → len ≡ 0 → Holds (form.Offline len bfid place) (Some bytes) image tip
nothing_holds [] image tip zero place bfid e z = (refl, λ some. absurd (omega (arith, some)))
nothing_holds [] image tip (suc len) place bfid e z = absurd (omega (arith, z))
nothing_holds (b ∷ bytes) image tip len place bfid e z = absurd (omega (arith, e))

-- what the namespace has of a file
plain_is : (plain : Namespace) (at : List ℕ → Option File) (image : List ℕ) (tip : ℕ) (path bytes : List ℕ) (change : ℕ)
    → at path ≡ Some (record { change = change; form = form.Regular bytes }) → AgreesAt plain at image tip → bytes_of path plain ≡ Some bytes
plain_is plain at image tip path bytes change e a = subst (λ (f : Option File). HoldsIf f (bytes_of path plain) image tip) e (a path)

-- a file was stored: with its zone on the volume, or with no bytes to store
pub agrees_stored : (plain : Namespace) (at at' : List ℕ → Option File) (tip : ℕ) (image image' zone bytes path : List ℕ) (change len : ℕ) (bfid : Bfid)
    → IsZone zone bytes → len ≡ length bytes → at path ≡ Some (record { change = change; form = form.Regular bytes })
    → Sets at at' path (record { change = change; form = form.Offline len bfid (tip + 80) })
    → (zone ≡ [] → image' ≡ image) → (0 < length zone → Written tip zone image image')
    → AgreesAt plain at image tip → AgreesAt plain at' image' (tip + length zone)
agrees_stored plain at at' tip image image' zone [] path change len bfid z l regular s none some a =
    let empty : zone ≡ [] = z.none refl in
    let still : tip + length zone ≡ tip = omega (arith, ap length empty) in
    subst (λ (t : ℕ). AgreesAt plain at' image' t) (sym still)
    (agrees_set plain plain at at' tip tip image image' path _ (keeps_same tip image image' (none empty)) s (λ other _. refl)
    (subst (λ (b : Option (List ℕ)). Holds (form.Offline len bfid (tip + 80)) b image' tip) (sym (plain_is plain at image tip path [] change regular a))
    (nothing_holds [] image' tip len (tip + 80) bfid refl l)) a)
agrees_stored plain at at' tip image image' zone (b ∷ bytes) path change len bfid z l regular s none some a =
    let stored = some (omega (arith, z.long (omega arith))) in
    agrees_set plain plain at at' tip (tip + length zone) image image' path _ (keeps_torn tip (length zone) image image' stored.torn) s (λ other _. refl)
    (subst (λ (p : Option (List ℕ)). Holds (form.Offline len bfid (tip + 80)) p image' (tip + length zone)) (sym (plain_is plain at image tip path (b ∷ bytes) change regular a))
    (subst (λ (n : ℕ). Holds (form.Offline n bfid (tip + 80)) (Some (b ∷ bytes)) image' (tip + length zone)) (sym l)
    (zone_holds tip zone (b ∷ bytes) image image' bfid (omega arith) z stored))) a

-- where the next zone stands
pub zone_tip : (tip : ℕ) (zone bytes : List ℕ) → IsZone zone bytes → tip + length zone ≡ tip_after tip (length bytes)
zone_tip tip zone [] z = omega (arith, ap length (z.none refl))
zone_tip tip zone (b ∷ bytes) z =
    let some : length (b ∷ bytes) ≡ 0 → ⊥ = λ e. omega (arith, e) in
    ap (λ (n : ℕ). tip + n) (z.long (omega arith))
    ∙ sym (ap (λ (t : Bool). cond t tip (tip + (80 + length (b ∷ bytes)))) (ne_eqb (length (b ∷ bytes)) 0 some))

-- a zone with bytes is that of a file with bytes
pub zone_some : (zone bytes : List ℕ) → IsZone zone bytes → 0 < length zone → 0 < length bytes
zone_some zone [] z some = absurd (omega (arith, ap length (z.none refl), some))
zone_some zone (b ∷ bytes) z some = omega arith

pub bfid_is : (bfid : Bfid) (counter : ℕ) → bfid.0 ≡ 1 * 2 ^ 64 + counter → bfid ≡ own_bfid counter
bfid_is bfid counter e = ap (λ (n : ℕ). let b : Bfid = record { 0 = n } in b) e

-- the zone that was handed on is that of the file's bytes
pub zone_as : (zone zone' bytes bytes' : List ℕ) → zone' ≡ zone → bytes' ≡ bytes → IsZone zone bytes' → IsZone zone' bytes
zone_as zone zone' bytes bytes' e f z = subst (λ (t : List ℕ). IsZone t bytes) (sym e) (subst (λ (b : List ℕ). IsZone zone b) f z)

-- a write leaves the files those of the namespace after it
pub write_agrees : (plain : Namespace) (old new : State) (image path bytes : List ℕ) (answer : Reply) → Writes old path bytes 0 answer new → Agrees plain old image
    → Agrees (plain_step plain (heard.Command (command.Write path bytes)) answer) new image
write_agrees plain old new image path bytes (reply.Changed change) w a =
    subst (λ (tip : ℕ). AgreesAt (with_file path bytes plain) new.file_at image tip) (sym w.1.tip)
    (agrees_set plain (with_file path bytes plain) old.file_at new.file_at old.tip old.tip image image path _ (keeps_same old.tip image image refl) w.1.sets
    (λ other ne. bytes_of-written-other path other bytes plain ne) (bytes_of-written-same path bytes plain) a)
write_agrees plain old new image path bytes (reply.Limit limit) w a = subst (λ (s : State). Agrees plain s image) (sym w.1.same) a
write_agrees plain old new image path bytes reply.NoMemory w a = subst (λ (s : State). Agrees plain s image) (sym w.same) a
write_agrees plain old new image path bytes reply.Done w a = absurd w
write_agrees plain old new image path bytes (reply.Stored bfid) w a = absurd w
write_agrees plain old new image path bytes (reply.Content found) w a = absurd w
write_agrees plain old new image path bytes (reply.Files rows) w a = absurd w
write_agrees plain old new image path bytes (reply.File row) w a = absurd w
write_agrees plain old new image path bytes (reply.Dumped files) w a = absurd w
write_agrees plain old new image path bytes (reply.Deleted entries) w a = absurd w
write_agrees plain old new image path bytes (reply.Merged moved freed) w a = absurd w
write_agrees plain old new image path bytes reply.Queued w a = absurd w
write_agrees plain old new image path bytes (reply.Reused volumes) w a = absurd w
write_agrees plain old new image path bytes (reply.Volumes rows) w a = absurd w
write_agrees plain old new image path bytes (reply.Findings rows) w a = absurd w
write_agrees plain old new image path bytes (reply.Spaced released stored skipped) w a = absurd w
write_agrees plain old new image path bytes (reply.Moved files moved) w a = absurd w
write_agrees plain old new image path bytes (reply.Saved bitfiles) w a = absurd w
write_agrees plain old new image path bytes reply.NoFile w a = absurd w
write_agrees plain old new image path bytes (reply.WrongState found) w a = absurd w
write_agrees plain old new image path bytes (reply.ChangedMeanwhile was found) w a = absurd w
write_agrees plain old new image path bytes (reply.Full have need cap) w a = absurd w
write_agrees plain old new image path bytes reply.NoDump w a = absurd w
write_agrees plain old new image path bytes (reply.Expired now made age) w a = absurd w
write_agrees plain old new image path bytes reply.Exists w a = absurd w
write_agrees plain old new image path bytes reply.DaemonFault w a = absurd w
write_agrees plain old new image path bytes (reply.NoRoom have need) w a = absurd w
write_agrees plain old new image path bytes (reply.GroupFault group) w a = absurd w
write_agrees plain old new image path bytes (reply.Damaged group vsn place) w a = absurd w
write_agrees plain old new image path bytes (reply.AllCopies copies) w a = absurd w
write_agrees plain old new image path bytes reply.NoGroup w a = absurd w
write_agrees plain old new image path bytes reply.QueueFull w a = absurd w
write_agrees plain old new image path bytes reply.NoSave w a = absurd w
write_agrees plain old new image path bytes reply.NoBitfile w a = absurd w
write_agrees plain old new image path bytes (reply.Rewritten vsn was found) w a = absurd w
write_agrees plain old new image path bytes reply.Syntax w a = absurd w

pub write_answer : (plain : Namespace) (old new : State) (image path bytes : List ℕ) (answer : Reply) (item : Heard) (asked : Command)
    → item ≡ heard.Command asked → asked ≡ command.Write path bytes → Writes old path bytes 0 answer new → Agrees plain old image
    → Agrees (plain_step plain item answer) new image × ReadIs plain item answer
write_answer plain old new image path bytes answer item asked e f w a =
    subst (λ (h : Heard). Agrees (plain_step plain h answer) new image × ReadIs plain h answer) (sym (e ∙ ap heard.Command f))
    (write_agrees plain old new image path bytes answer w a, tt)
