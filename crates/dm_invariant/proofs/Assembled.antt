-- The copy that a group has of a bitfile is the content of the bitfile.
use Rattle.std.proofs.Common.{◌≡◌, ℕ, ◌+◌, ◌<◌, true, false, cond, ◌&&◌, nat_eq, nat_lt, None, Some, IsSome, List, []}
use Rattle.std.proofs.Common.{◌∷◌, ◌++◌, length, take, drop, refl, sym, ap, subst, ◌∙◌, inl, inr, arith}
use Rattle.std.proofs.lemmas.Bool.{eq-eqb, lt-ltb}
use Rattle.std.proofs.lemmas.List.{take-append-drop, drop-drop, drop_all}
use Rattle.std.specs.FinMap.{get}
use Rattle.dm_base.specs.declared.identifier.GroupId.{GroupId}
use Rattle.dm_base.specs.declared.volume.Chunk.{Chunk}
use Rattle.dm_rules.specs.Known.{known_bytes}
use Rattle.dm_tables.proofs.Rows.{one_row}
use Rattle.dm_durable.specs.Entries.{is_stored, groups_asked}
use Rattle.dm_durable.specs.GroupConditions.{Joins}
use Rattle.dm_durable.specs.DaemonConditions.{OneOrTwo}
use Rattle.dm_durable.specs.declared.group.VolumeRow.{VolumeRow}
use Rattle.dm_tables.specs.Rows.{EachRow}
use Rattle.dm_invariant.specs.Catalogue.{BitfileKept}
use Rattle.dm_durable.specs.Tables.{ByNumber, ByName}
use Rattle.dm_durable.specs.declared.daemon.Entry.{Entry}
use Rattle.dm_durable.specs.declared.group.BitfileRow.{BitfileRow}
use Rattle.dm_model.specs.Files.{asked_by}
use Rattle.dm_model.specs.declared.state.Image.{Image}
use Rattle.dm_model.specs.declared.state.Joint.{Joint}
use Rattle.dm_model.specs.declared.state.Side.{Side}
use Rattle.dm_invariant.specs.Among.{IsAmong}
use Rattle.dm_invariant.specs.Assemble.{known_on, bytes_and, joined_from, assembled_bytes_of, assembled_bytes, assembled_bytes_in, ChunkKnown}
use Rattle.dm_invariant.specs.StandsFor.{copy_or, first_copy}
use Rattle.dm_invariant.specs.Kept.{InvariantHolds}
use Rattle.dm_invariant.proofs.Options.{value_of}
use Rattle.dm_invariant.proofs.AskedGroups.{first_asked, asked_stored}

-- ---- chunks that join and are known assemble

starts : (c : Chunk) (from : ℕ) → c.offset ≡ from → 0 < c.len → (nat_eq c.offset from && nat_lt 0 c.len) ≡ true
starts c from at some = ap (λ b. b && nat_lt 0 c.len) (eq-eqb c.offset from at) ∙ lt-ltb 0 c.len some

-- n bytes of a list from one offset on, and what lies behind them
part_and_rest : (bytes : List ℕ) (offset from n : ℕ) → offset ≡ from → take n (drop offset bytes) ++ drop (from + n) bytes ≡ drop from bytes
part_and_rest bytes offset from n at =
    ap (λ m. take n (drop m bytes) ++ drop (from + n) bytes) at
    ∙ ap (λ l. take n (drop from bytes) ++ l) (sym (drop-drop n from bytes))
    ∙ take-append-drop n (drop from bytes)

-- the chunks from an offset on give the bytes from there on
joined_content : (images : ByName Image) (bytes : List ℕ) (from end : ℕ) (cs : List Chunk) → Joins from cs end
    → ((c : Chunk) → IsAmong c cs → ChunkKnown images bytes c) → length bytes ≡ end
    → joined_from images from end cs ≡ Some (drop from bytes)
joined_content images bytes from end [] joins known whole =
    ap (λ b. cond b (Some []) None) (eq-eqb from end joins) ∙ ap Some (sym (drop_all from bytes (omega (arith, joins, whole))))
joined_content images bytes from end (c ∷ cs) joins known whole =
    let rest = joined_content images bytes (from + c.len) end cs joins.2 (λ d among. known d (inr among)) whole in
    let later = joined_from images (from + c.len) end cs in
    ap (λ b. cond b (bytes_and (known_bytes (known_on images c.vsn.0) c.place c.len) later) None) (starts c from joins.0 joins.1)
    ∙ ap (λ o. bytes_and o later) (known c (inl refl))
    ∙ ap (λ o. bytes_and (Some (take c.len (drop c.offset bytes))) o) rest
    ∙ ap Some (part_and_rest bytes c.offset from c.len joins.0)

-- the chunks of a bitfile's row
assembled_content : (images : ByName Image) (row : BitfileRow) (bytes : List ℕ) → Joins 0 row.chunks row.len
    → ((c : Chunk) → IsAmong c row.chunks → ChunkKnown images bytes c) → length bytes ≡ row.len
    → joined_from images 0 row.len row.chunks ≡ Some bytes
assembled_content images row bytes joins known whole = joined_content images bytes 0 row.len row.chunks joins known whole

-- ---- copies

-- the copy of a bitfile that a group has is its content
copy_is_content : (g : ℕ) (entries : ByNumber Entry) (contents : ByNumber (List ℕ)) (volumes : ByName VolumeRow) (s : Side) (b : ℕ) (row : BitfileRow)
    → BitfileKept g entries contents volumes s.images b row → get s.group.tables.bitfiles b ≡ Some row
    → (bytes : List ℕ) × (assembled_bytes s b ≡ Some bytes) × (get contents b ≡ Some bytes) × (length bytes ≡ row.len)
copy_is_content g entries contents volumes s b row f is =
    let whole = f.of.sized ∙ f.len in
    (f.of.bytes, ap (assembled_bytes_of s.images) is ∙ assembled_content s.images row f.of.bytes f.joins f.known whole, f.of.content, whole)

-- and has the length of its entry
pub copy_of_entry : (g : ℕ) (entries : ByNumber Entry) (contents : ByNumber (List ℕ)) (volumes : ByName VolumeRow) (s : Side) (b : ℕ) (e : Entry)
    → EachRow s.group.tables.bitfiles (BitfileKept g entries contents volumes s.images) → get entries b ≡ Some e
    → IsSome (get s.group.tables.bitfiles b)
    → (bytes : List ℕ) × (assembled_bytes s b ≡ Some bytes) × (get contents b ≡ Some bytes) × (length bytes ≡ e.len)
copy_of_entry g entries contents volumes s b e k is there =
    let row = value_of (get s.group.tables.bitfiles b) there in
    let f = k b row.0 row.1 in
    let copy = copy_is_content g entries contents volumes s b row.0 f row.1 in
    (copy.0, copy.1, copy.2, copy.3 ∙ sym f.len ∙ ap (λ x. x.len) (one_row entries b b f.of.entry e refl f.of.is is))

first_is : (sides : ByNumber Side) (b : ℕ) (asked : List GroupId) (g : GroupId) (rest : List GroupId) (s : Side) (bytes : List ℕ) → asked ≡ g ∷ rest
    → get sides g.0 ≡ Some s → assembled_bytes s b ≡ Some bytes → first_copy sides b asked ≡ bytes
first_is sides b asked g rest s bytes first side copy =
    ap (first_copy sides b) first ∙ ap (λ o. copy_or (assembled_bytes_in o b)) side ∙ ap copy_or copy

-- the first asked copy of a bitfile of which each copy is stored is its content
pub first_copy_is_content : (j : Joint) → InvariantHolds j → (b : ℕ) (e : Entry) → get j.daemon.tables.entries b ≡ Some e → OneOrTwo (groups_asked e)
    → is_stored e ≡ true → e.dropping ≡ false
    → (bytes : List ℕ) × (get j.history.contents b ≡ Some bytes) × (length bytes ≡ e.len) × (first_copy j.sides b (asked_by (Some e)) ≡ bytes)
first_copy_is_content j k b e is asked whole lasting =
    let first = first_asked (groups_asked e) asked in
    let g = first.0 in
    let among : IsAmong g (groups_asked e) = subst (λ gs. IsAmong g gs) (sym first.2) (inl refl) in
    let side = value_of (get j.sides g.0) (k.configured b e is g among) in
    let stored = asked_stored e g.0 (record { group = g; among = among; same = refl }) whole in
    let s = k.sides g.0 side.0 side.1 in
    let copy = copy_of_entry g.0 j.daemon.tables.entries j.history.contents side.0.group.tables.volumes side.0 b e s.catalogue.bitfile is
    (s.catalogue.stored b e is lasting stored) in
    (copy.0, copy.2, copy.3, first_is j.sides b (groups_asked e) g first.1 side.0 copy.0 first.2 side.1 copy.1)
