-- What the shuffle of an accepted table leaves, by parts. Assumes nothing: these are definitions.
use Rattle.std.specs.Prelude.{◌≡◌, List, ℕ, length}
use Rattle.counting.specs.Lists.{tabulate, join}
use Rattle.answers.specs.Answers.{plus_copies}
use Rattle.answers.specs.declared.Tally.{Tally}
use Rattle.factors.specs.Copies.{copy_list}
use Rattle.shuffle.specs.Shuffle.{brought, last_entry, last_card}

-- the table and the cards at the end, after the copies: settled slots name themselves, free slots are zeroed
pub record AllSettled (b : ℕ) (places cards places' cards' : List ℕ) : Type 0 where
  pub entries : places' ≡ tabulate (length places) (last_entry places)
  pub bytes : cards' ≡ join (tabulate (length places) (last_card b places cards))

-- the shuffle of an accepted table with nothing away: copies added to the tally, the table and the cards at the end
pub record Shuffled (b : ℕ) (places cards : List ℕ) (tally after : Tally) (places' cards' : List ℕ) : Type 0 where
  pub count-is : after ≡ plus_copies (length (copy_list places)) tally
  pub settled : AllSettled b places (brought b places cards) places' cards'
