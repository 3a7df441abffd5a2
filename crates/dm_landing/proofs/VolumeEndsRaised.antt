-- What raising the ends of volumes by the chunks of a commit does to each volume.
use Rattle.std.proofs.Common.{◌≡◌, ℕ, ◌+◌, ◌≤◌, List, [], ◌∷◌, Option, Some, None, refl, sym, ap, subst, ◌∙◌, inl, inr, arith}
use Rattle.std.specs.FinMap as map
use Rattle.dm_base.specs.declared.volume.Chunk.{Chunk}
use Rattle.dm_rules.specs.Numbers.{as_word}
use Rattle.dm_tables.specs.Rows.{adjust}
use Rattle.dm_tables.proofs.Orders.{paths, same_or}
use Rattle.dm_tables.proofs.Rows.{one_row}
use Rattle.dm_tables.proofs.Adjusted.{adjust-none, adjusted_row, adjusted-beside}
use Rattle.dm_durable.specs.Tables.{ByName}
use Rattle.dm_durable.specs.Group.{with_ends_behind, with_end_behind}
use Rattle.dm_durable.specs.declared.group.VolumeRow.{VolumeRow}
use Rattle.dm_durable.specs.Volumes.{epoch_or}
use Rattle.dm_invariant.specs.Among.{IsAmong}

-- a volume before and after: its end is not lower, no lower than that of each of the chunks on it, and as low as they allow
pub record Raised (chunks : List Chunk) (vsn : List ℕ) (v w : VolumeRow) : Type 0 where
  pub slot : w.slot ≡ v.slot
  pub size : w.size ≡ v.size
  pub version : w.version ≡ v.version
  pub epoch : w.epoch ≡ v.epoch
  pub held : w.held ≡ v.held
  pub low : v.end ≤ w.end
  pub reaches : (c : Chunk) → IsAmong c chunks → c.vsn.0 ≡ vsn → as_word (c.place + c.len) ≤ w.end
  pub below : (top : ℕ) → v.end ≤ top → ((c : Chunk) → IsAmong c chunks → c.vsn.0 ≡ vsn → as_word (c.place + c.len) ≤ top) → w.end ≤ top

not_raised : (vsn : List ℕ) (v : VolumeRow) → Raised [] vsn v v
not_raised vsn v = record {
  slot = refl;
  size = refl;
  version = refl;
  epoch = refl;
  held = refl;
  low = omega arith;
  reaches = λ c among at. absurd among;
  below = λ top end all. end;
}

-- a chunk on the volume, and then the others
raised_here : (c : Chunk) (cs : List Chunk) (vsn : List ℕ) (v w : VolumeRow)
    → c.vsn.0 ≡ vsn → Raised cs vsn (with_end_behind c v) w → Raised (c ∷ cs) vsn v w
raised_here c cs vsn v w here r = record {
  slot = r.slot;
  size = r.size;
  version = r.version;
  epoch = r.epoch;
  held = r.held;
  low = let l = r.low in omega (arith, l);
  reaches = λ d among at. elim among [
    | inl same ↦ subst (λ x. as_word (x.place + x.len) ≤ w.end) (sym same) (let l = r.low in omega (arith, l))
    | inr later ↦ r.reaches d later at
  ];
  below = λ top end all.
      let first = all c (inl refl) here in
      r.below top (omega (arith, end, first)) (λ d among at. all d (inr among) at);
}

-- a chunk elsewhere, and then the others
raised_beside : (c : Chunk) (cs : List Chunk) (vsn : List ℕ) (v w : VolumeRow) → (c.vsn.0 ≡ vsn → ⊥) → Raised cs vsn v w → Raised (c ∷ cs) vsn v w
raised_beside c cs vsn v w differ r = record {
  slot = r.slot;
  size = r.size;
  version = r.version;
  epoch = r.epoch;
  held = r.held;
  low = r.low;
  reaches = λ d among at. elim among [
    | inl same ↦ absurd (differ (ap (λ x. x.vsn.0) (sym same) ∙ at))
    | inr later ↦ r.reaches d later at
  ];
  below = λ top end all. r.below top end (λ d among at. all d (inr among) at);
}

-- a volume stays, with its end raised
pub raised_by : (chunks : List Chunk) (volumes : ByName VolumeRow) (vsn : List ℕ) (v : VolumeRow) → map.get volumes vsn ≡ Some v
    → (w : VolumeRow) × (map.get (with_ends_behind chunks volumes) vsn ≡ Some w) × Raised chunks vsn v w
unfolding with_ends_behind
raised_by [] volumes vsn v e = (v, e, not_raised vsn v)
raised_by (c ∷ cs) volumes vsn v e =
    elim (same_or paths c.vsn.0 vsn) [
      | inl same ↦
          let there = adjusted_row paths volumes c.vsn.0 (with_end_behind c) v (ap (map.get volumes) (sym same) ∙ e) in
          let here = ap (map.get (adjust volumes c.vsn.0 (with_end_behind c))) same ∙ there in
          let r = raised_by cs (adjust volumes c.vsn.0 (with_end_behind c)) vsn (with_end_behind c v) here in
          (r.0, r.1, raised_here c cs vsn v r.0 (sym same) r.2)
      | inr differ ↦
          let r = raised_by cs (adjust volumes c.vsn.0 (with_end_behind c)) vsn v (adjusted-beside paths volumes c.vsn.0 (with_end_behind c) vsn differ ∙ e) in
          (r.0, r.1, raised_beside c cs vsn v r.0 (λ same. differ (sym same)) r.2)
    ]

-- where there is no row, none is changed
none_adjusted : (volumes : ByName VolumeRow) (k q : List ℕ) (f : VolumeRow → VolumeRow) → q ≡ k → map.get volumes q ≡ None
    → map.get (adjust volumes k f) q ≡ None
none_adjusted volumes k q f same e = ap (λ m. map.get m q) (adjust-none volumes k f (ap (map.get volumes) (sym same) ∙ e)) ∙ e

-- and none comes
none_raised : (chunks : List Chunk) (volumes : ByName VolumeRow) (vsn : List ℕ) → map.get volumes vsn ≡ None
    → map.get (with_ends_behind chunks volumes) vsn ≡ None
unfolding with_ends_behind
none_raised [] volumes vsn e = e
none_raised (c ∷ cs) volumes vsn e =
    none_raised cs (adjust volumes c.vsn.0 (with_end_behind c)) vsn (elim (same_or paths c.vsn.0 vsn) [
      | inl same ↦ none_adjusted volumes c.vsn.0 vsn (with_end_behind c) same e
      | inr differ ↦ adjusted-beside paths volumes c.vsn.0 (with_end_behind c) vsn differ ∙ e
    ])

raised_at : (chunks : List Chunk) (volumes : ByName VolumeRow) (vsn : List ℕ) (w : VolumeRow) (o : Option VolumeRow) → map.get volumes vsn ≡ o
    → map.get (with_ends_behind chunks volumes) vsn ≡ Some w → (v : VolumeRow) × (map.get volumes vsn ≡ Some v) × Raised chunks vsn v w
raised_at chunks volumes vsn w None was e = let f = none_raised chunks volumes vsn was in cc
raised_at chunks volumes vsn w (Some v) was e =
    let r = raised_by chunks volumes vsn v was in
    (v, was, subst (λ x. Raised chunks vsn v x) (one_row (with_ends_behind chunks volumes) vsn vsn r.0 w refl r.1 e) r.2)

-- a volume that is there was there
pub raised_from : (chunks : List Chunk) (volumes : ByName VolumeRow) (vsn : List ℕ) (w : VolumeRow) → map.get (with_ends_behind chunks volumes) vsn ≡ Some w
    → (v : VolumeRow) × (map.get volumes vsn ≡ Some v) × Raised chunks vsn v w
raised_from chunks volumes vsn w e = raised_at chunks volumes vsn w (map.get volumes vsn) refl e

epoch_at : (chunks : List Chunk) (volumes : ByName VolumeRow) (vsn : List ℕ) (o : Option VolumeRow) → map.get volumes vsn ≡ o
    → epoch_or (map.get (with_ends_behind chunks volumes) vsn) ≡ epoch_or (map.get volumes vsn)
epoch_at chunks volumes vsn None was = ap epoch_or (none_raised chunks volumes vsn was ∙ sym was)
epoch_at chunks volumes vsn (Some v) was =
    let r = raised_by chunks volumes vsn v was in
    ap epoch_or r.1 ∙ r.2.epoch ∙ sym (ap epoch_or was)

-- epochs stay
pub epoch_raised : (chunks : List Chunk) (volumes : ByName VolumeRow) (vsn : List ℕ)
    → epoch_or (map.get (with_ends_behind chunks volumes) vsn) ≡ epoch_or (map.get volumes vsn)
epoch_raised chunks volumes vsn = epoch_at chunks volumes vsn (map.get volumes vsn) refl
