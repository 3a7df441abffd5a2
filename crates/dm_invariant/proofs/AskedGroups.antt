-- The groups that an entry asks.
use Rattle.std.proofs.Common.{◌≡◌, ◌⊎◌, inl, inr, ℕ, true, nat_eq, ◌&&◌, Some, List, [], ◌∷◌, refl, sym, ap, ◌∙◌}
use Rattle.std.proofs.lemmas.Bool.{and_from, eqb-true, eq-eqb}
use Rattle.dm_base.specs.declared.identifier.GroupId.{GroupId}
use Rattle.dm_durable.specs.declared.daemon.AskedCopy.{AskedCopy}
use Rattle.dm_durable.specs.declared.daemon.Entry.{Entry}
use Rattle.dm_durable.specs.DaemonConditions.{OneOrTwo}
use Rattle.dm_durable.specs.Entries.{asks, has_stored, is_stored}
use Rattle.dm_model.specs.Files.{asked_by}
use Rattle.dm_invariant.specs.Among.{IsAmong}
use Rattle.dm_invariant.proofs.Lists.{among_mapped, mapped_among, passing, one_passes, each_passes}

-- a group of this number is among those
pub record NumberAmong (g : ℕ) (groups : List GroupId) : Type 0 where
  pub group : GroupId
  pub among : IsAmong group groups
  pub same : group.0 ≡ g

-- a number among one group is that of the group
pub among_one : (g : ℕ) (h : GroupId) → NumberAmong g (h ∷ []) → g ≡ h.0
among_one g h is = at is.among
  where
    at : IsAmong is.group (h ∷ []) → g ≡ h.0
    at (inl e) = sym is.same ∙ ap (λ (x : GroupId). x.0) e
    at (inr none) = absurd none

-- the number of the first group is among the numbers
pub number_first : (g : ℕ) (h : GroupId) (rest : List GroupId) → g ≡ h.0 → NumberAmong g (h ∷ rest)
number_first g h rest e = record { group = h; among = inl refl; same = sym e }

-- and so is the number of one behind it
pub number_later : (g : ℕ) (h : GroupId) (rest : List GroupId) → NumberAmong g rest → NumberAmong g (h ∷ rest)
number_later g h rest is = record { group = is.group; among = inr is.among; same = is.same }

-- a number is that of the first group, or is among those behind it
pub among_cons : (g : ℕ) (h : GroupId) (rest : List GroupId) → NumberAmong g (h ∷ rest) → (g ≡ h.0) ⊎ NumberAmong g rest
among_cons g h rest is = at is.among
  where
    at : IsAmong is.group (h ∷ rest) → (g ≡ h.0) ⊎ NumberAmong g rest
    at (inl e) = inl (sym is.same ∙ ap (λ (x : GroupId). x.0) e)
    at (inr among) = inr (record { group = is.group; among = among; same = is.same })

-- an entry asks the groups of its copies
pub asked_among : (e : Entry) (g : ℕ) → asks e g ≡ true → NumberAmong g (asked_by (Some e))
asked_among e g is =
    let c = passing (λ (c : AskedCopy). nat_eq c.group.0 g) e.copies is in
    record { group = c.0.group; among = among_mapped (λ (c : AskedCopy). c.group) c.0 e.copies c.1; same = eqb-true c.0.group.0 g c.2 }

-- the copy of a group that is asked
copy_of : (e : Entry) (g : ℕ) → NumberAmong g (asked_by (Some e)) → (c : AskedCopy) × IsAmong c e.copies × (nat_eq c.group.0 g ≡ true)
copy_of e g is =
    let c = mapped_among (λ (c : AskedCopy). c.group) is.group e.copies is.among in
    (c.0, c.1, eq-eqb c.0.group.0 g (ap (λ (h : GroupId). h.0) c.2 ∙ is.same))

-- and it asks each group that is among them
pub among_asked : (e : Entry) (g : ℕ) → NumberAmong g (asked_by (Some e)) → asks e g ≡ true
among_asked e g is = let c = copy_of e g is in one_passes (λ (c : AskedCopy). nat_eq c.group.0 g) c.0 e.copies c.1 c.2

-- where each copy is stored, a group that is asked has stored its own
pub asked_stored : (e : Entry) (g : ℕ) → NumberAmong g (asked_by (Some e)) → is_stored e ≡ true → has_stored e g ≡ true
asked_stored e g is whole =
    let c = copy_of e g is in
    one_passes (λ (c : AskedCopy). nat_eq c.group.0 g && c.stored) c.0 e.copies c.1
    (and_from _ _ c.2 (each_passes (λ (c : AskedCopy). c.stored) c.0 e.copies c.1 whole))

-- the first of one or two groups
pub first_asked : (groups : List GroupId) → OneOrTwo groups → (g : GroupId) × (rest : List GroupId) × (groups ≡ g ∷ rest)
first_asked [] asked = absurd asked
first_asked (g ∷ rest) asked = (g, rest, refl)
