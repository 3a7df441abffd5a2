-- Two states with the same groups and volumes have the same names from the beginning.
use Rattle.std.proofs.Common.{◌≡◌, ℕ, Option, None, Some, List, [], ◌∷◌, ◌++◌, refl, sym, ap, ◌∙◌}
use Rattle.std.specs.Prelude as prelude
use Rattle.std.specs.FinMap as fin
use Rattle.std.specs.List.{flat_map}
use Rattle.std.specs.Option.{option_map}
use Rattle.dm_base.specs.declared.identifier.GroupId.{GroupId}
use Rattle.dm_durable.specs.Tables.{ByName, ByNumber}
use Rattle.dm_model.specs.declared.entry.Name.{Name}
use Rattle.dm_model.specs.declared.entry.Name.TheVariants.{Daemon, Side}
use Rattle.dm_model.specs.declared.entry.Part.TheVariants as part
use Rattle.dm_model.specs.declared.state.Image.{Image}
use Rattle.dm_model.specs.declared.state.Joint.{Joint}
use Rattle.dm_model.specs.declared.state.Side.{Side as SideState}
use Rattle.dm_model.specs.Names.{fixed_names, side_names, workers_below}
use Rattle.dm_history.specs.Alike.{ForgetsOnly, image_of, library_of}
use Rattle.dm_tables.specs.Rows.{changed, map_values}
use Rattle.dm_tables.proofs.Adjusted.{get-mapped}
use Rattle.dm_tables.proofs.Entries.{entries-mapped}
use Rattle.dm_tables.proofs.Orders.{numbers, paths}

-- ---- the volumes of a group

keys_changed : {K X Y : Type 0} (f : K → X → Y) (es : List (K × X)) → prelude.map (λ e. e.0) (changed f es) ≡ prelude.map (λ e. e.0) es
keys_changed f [] = refl
keys_changed f (e ∷ es) = ap (λ ks. e.0 ∷ ks) (keys_changed f es)

nothing : List ℕ → Image → Unit {0}
nothing v i = tt

same_there : (a b : Option Image) → ForgetsOnly a b → (v : List ℕ) → option_map (nothing v) a ≡ option_map (nothing v) b
same_there None None f v = refl
same_there None (Some k) f v = absurd f
same_there (Some i) None f v = absurd f
same_there (Some i) (Some k) f v = refl

same_volumes : (m n : ByName Image) → ((v : List ℕ) → ForgetsOnly (fin.get m v) (fin.get n v)) → fin.keys m ≡ fin.keys n
same_volumes m n f =
    let same : map_values nothing m ≡ map_values nothing n =
    fin.same_map paths.total paths.same (map_values nothing m) (map_values nothing n)
    (λ v. get-mapped paths nothing m v ∙ (same_there (fin.get m v) (fin.get n v) (f v) v ∙ sym (get-mapped paths nothing n v))) in
    let keys : (l : ByName Image) → fin.keys (map_values nothing l) ≡ fin.keys l =
    λ l. ap (λ es. prelude.map (λ e. e.0) es) (entries-mapped paths nothing l) ∙ keys_changed nothing (fin.entries l) in
    sym (keys m) ∙ (ap (λ l. fin.keys l) same ∙ keys n)

-- ---- the volumes of all groups

abbrev volumes_in : ℕ → SideState → List (List ℕ)
volumes_in g s = fin.keys s.images

same_side : (g : ℕ) (a b : Option SideState) → library_of a ≡ library_of b → ((v : List ℕ) → ForgetsOnly (image_of v a) (image_of v b))
    → option_map (volumes_in g) a ≡ option_map (volumes_in g) b
same_side g None None is f = refl
same_side g None (Some t) is f = cc
same_side g (Some s) None is f = cc
same_side g (Some s) (Some t) is f = ap (λ vs. Some vs) (same_volumes s.images t.images f)

same_sides : (m n : ByNumber SideState) → ((g : ℕ) → library_of (fin.get m g) ≡ library_of (fin.get n g))
    → ((g : ℕ) (v : List ℕ) → ForgetsOnly (image_of v (fin.get m g)) (image_of v (fin.get n g)))
    → changed volumes_in (fin.entries m) ≡ changed volumes_in (fin.entries n)
same_sides m n is f =
    let same : map_values volumes_in m ≡ map_values volumes_in n =
    fin.same_map numbers.total numbers.same (map_values volumes_in m) (map_values volumes_in n)
    (λ g. get-mapped numbers volumes_in m g
    ∙ (same_side g (fin.get m g) (fin.get n g) (is g) (f g) ∙ sym (get-mapped numbers volumes_in n g))) in
    sym (entries-mapped numbers volumes_in m) ∙ (ap (λ l. fin.entries l) same ∙ entries-mapped numbers volumes_in n)

-- ---- their names

abbrev names_by : ℕ → List (List ℕ) → List Name
names_by g vs =
    let id : GroupId = record { 0 = g } in
    Side id part.Itself ∷ prelude.map (λ v. Side id (part.Volume (record { 0 = v }))) vs

volume_names : (id : GroupId) (es : List (List ℕ × Image))
    → prelude.map (λ e. Side id (part.Volume (record { 0 = e.0 }))) es
    ≡ prelude.map (λ v. Side id (part.Volume (record { 0 = v }))) (prelude.map (λ e. e.0) es)
volume_names id [] = refl
volume_names id (e ∷ es) = ap (λ xs. Side id (part.Volume (record { 0 = e.0 })) ∷ xs) (volume_names id es)

names_are : (g : ℕ) (s : SideState) → side_names g s ≡ names_by g (volumes_in g s)
names_are g s = ap (λ xs. Side (record { 0 = g }) part.Itself ∷ xs) (volume_names (record { 0 = g }) (fin.entries s.images))

all_names : (es : List (ℕ × SideState)) → flat_map (λ e. side_names e.0 e.1) es ≡ flat_map (λ e. names_by e.0 e.1) (changed volumes_in es)
all_names [] = refl
all_names (e ∷ es) =
    ap (λ xs. xs ++ flat_map (λ a. side_names a.0 a.1) es) (names_are e.0 e.1)
    ∙ ap (λ xs. names_by e.0 (volumes_in e.0 e.1) ++ xs) (all_names es)

pub names_same : (j k : Joint) (n : ℕ) → ((g : ℕ) → library_of (fin.get j.sides g) ≡ library_of (fin.get k.sides g))
    → ((g : ℕ) (v : List ℕ) → ForgetsOnly (image_of v (fin.get j.sides g)) (image_of v (fin.get k.sides g)))
    → fixed_names j n ≡ fixed_names k n
names_same j k n is f =
    ap (λ xs. Daemon ∷ workers_below n ++ xs)
    (all_names (fin.entries j.sides)
    ∙ (ap (λ xs. flat_map (λ e. names_by e.0 e.1) xs) (same_sides j.sides k.sides is f) ∙ sym (all_names (fin.entries k.sides))))
