-- What names and entries mean for a value, by what it stands for.
use Rattle.dm_spine.specs.Past.{Meaning}

module _ {S T N E : Type 0} (f : S → T) (m : Meaning T N E) where
  -- the meaning of a value is that of what it stands for
  abbrev pub pulled : Meaning S N E
  pulled = record {
    same = m.same;
    fixed = λ s. m.fixed (f s);
    about = m.about;
    home = m.home;
    makes = m.makes;
    ends = m.ends;
    maker = m.maker;
    needs = λ s xs e. m.needs (f s) xs e;
    follows = λ s x xs e. m.follows (f s) x xs e;
  }
