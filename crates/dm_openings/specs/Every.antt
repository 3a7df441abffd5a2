-- What names and entries mean for a value that stands for several others.
use Rattle.std.specs.Prelude.{List}
use Rattle.dm_spine.specs.Past.{Meaning}

module _ {S T N E : Type 0} (stands : S → T → Type 0) (fixed : S → List N) (m : Meaning T N E) where
  -- an entry may come where it may for each of these
  abbrev pub every : Meaning S N E
  every = record {
    same = m.same;
    fixed = fixed;
    about = m.about;
    home = m.home;
    makes = m.makes;
    ends = m.ends;
    maker = m.maker;
    needs = λ s xs e. (t : T) → stands s t → m.needs t xs e;
    follows = λ s x xs e. (t : T) → stands s t → m.follows t x xs e;
  }
