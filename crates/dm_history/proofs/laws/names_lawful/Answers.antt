use Rattle.dm_spine.specs.Past.{Lawful}
use Rattle.dm_history.specs.History.{NeedsGrow, history}
use Rattle.dm_history.proofs.NamesTold.{ends_told, fixed_lasts, home_lasts, home_told, made_elsewhere, makes_told, same_name_is, same_name_self}
use Rattle.dm_history.proofs.laws.names_lawful.Goals as goal

lawful : NeedsGrow → Lawful history
lawful grow = record {
  same_is = same_name_is;
  same_self = same_name_self;
  home_about = home_told;
  ends_about = ends_told;
  makes_about = λ n e x h. makes_told e x h;
  makes_loose = λ begun n e x h k. made_elsewhere e.event e.answer x h (fixed_lasts begun.opened begun.workers x k);
  homes_stay = λ n e f h. made_elsewhere e.event e.answer _ h (home_lasts f.event);
  fixed_few = λ begun. begun.few;
  needs_grow = λ begun xs ys e part legal more same h opened. grow begun xs ys e part legal more same h opened;
}

pub returns : goal.returns
returns c = record { lawful = λ grow. lawful grow }
