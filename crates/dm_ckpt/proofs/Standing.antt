-- What the four files of a component stand for.
use Rattle.std.proofs.Common.{◌≡◌, inl, inr, ℕ, ◌+◌, List, [], sym, subst, arith}
use Rattle.std.proofs.lemmas.List.{append-nil}
use Rattle.dm_host.specs.Disk.{Disk, Image}
use Rattle.dm_journal.specs.Grammar.{AtRest}
use Rattle.dm_ckpt.specs.declared.files.Index.{Index}
use Rattle.dm_ckpt.specs.declared.files.Index.TheVariants.{First, Second}
use Rattle.dm_ckpt.specs.Area.{HoldsRows}
use Rattle.dm_ckpt.specs.Files.{opposite, area_file, log_file}
use Rattle.dm_ckpt.specs.State.{InUse, IsBehind, MayHold, StandsFor, Either, Lists, Leaves}
use Rattle.dm_ckpt.proofs.Four.{opposite_twice}

-- the list before: the other area says nothing
pub old_stands : (c : ℕ) (i : Index) (g p : ℕ) (ps : List (List ℕ)) (l : Lists i g p ps) (x : Image) → x (area_file c i) ≡ l.bytes
    → IsBehind g (x (area_file c (opposite i))) → AtRest l.logged (x (log_file c i)) → StandsFor c ps x
old_stands c i g p ps l x same behind rest = record {
  index = i;
  generation = g;
  rows = l.rows;
  logged = l.logged;
  is = l.is;
  in_use = subst (λ (bytes : List ℕ). InUse i g l.rows bytes) (sym same) l.in_use;
  behind = behind;
  log = (l.fits, inr rest);
}

-- an area that was in use is behind one of the next generation
pub overtaken : (i : Index) (g : ℕ) (rows : List (List ℕ)) (bytes : List ℕ) → InUse i g rows bytes → IsBehind (g + 1) bytes
overtaken i g rows bytes (inl holds) = inr (g, (rows, (holds, omega arith)))
overtaken i g rows bytes (inr none) = inl none.0

-- the list of a checkpoint, whose log is empty
pub new_stands : (c : ℕ) (i : Index) (g p : ℕ) (ps rows : List (List ℕ)) (l : Lists i g p ps) (x : Image) → x (area_file c i) ≡ l.bytes
    → HoldsRows (g + 1) rows (x (area_file c (opposite i))) → AtRest [] (x (log_file c (opposite i))) → StandsFor c rows x
new_stands c i g p ps rows l x same holds rest = record {
  index = opposite i;
  generation = g + 1;
  rows = rows;
  logged = [];
  is = sym (append-nil rows);
  in_use = inl holds;
  behind =
      subst (λ (j : Index). IsBehind (g + 1) (x (area_file c j))) (sym (opposite_twice i))
      (subst (λ (bytes : List ℕ). IsBehind (g + 1) bytes) (sym same) (overtaken i g l.rows l.bytes l.in_use));
  log = (tt, inr rest);
}

pub turn_stands : (c : ℕ) (i : Index) (g p : ℕ) (ps rows : List (List ℕ)) (l : Lists i g p ps) (x : Image) → x (area_file c i) ≡ l.bytes
    → MayHold (g + 1) rows (x (area_file c (opposite i))) → AtRest l.logged (x (log_file c i))
    → AtRest [] (x (log_file c (opposite i))) → Either c ps rows x
turn_stands c i g p ps rows l x same (inl shut) log spare = inl (old_stands c i g p ps l x same (inl shut) log)
turn_stands c i g p ps rows l x same (inr holds) log spare = inr (new_stands c i g p ps rows l x same holds spare)

-- the other index is looked at as the one in use
pub turned_round : (d : Disk) (c : ℕ) (i : Index) (P Q R S : List ℕ → Type 0) → Leaves d c i P Q R S → Leaves d c (opposite i) Q P S R
turned_round d c First P Q R S l = record {
  told = l.told;
  area = l.behind;
  area_left = l.behind_left;
  behind = l.area;
  behind_left = l.area_left;
  log = l.spare;
  log_left = l.spare_left;
  spare = l.log;
  spare_left = l.log_left;
}
turned_round d c Second P Q R S l = record {
  told = l.told;
  area = l.behind;
  area_left = l.behind_left;
  behind = l.area;
  behind_left = l.area_left;
  log = l.spare;
  log_left = l.spare_left;
  spare = l.log;
  spare_left = l.log_left;
}
