-- Cards brought to their slots, along chains and by the hand. Assumes nothing: these are definitions.
use Rattle.std.specs.Prelude.{◌≡◌, List, [], ◌∷◌, ℕ, length, take}
use Rattle.counting.specs.Lists.{Pair}
use Rattle.racks.specs.Limits.{BYTES}
use Rattle.moves.specs.Blocks.{block, put_block}
use Rattle.answers.specs.Answers.{plus_copies}
use Rattle.answers.specs.declared.Tally.{Tally}
use Rattle.factors.specs.Copies.{copies, copy_list}
use Rattle.factors.specs.parts.Walks.{COUNTED, walked, walk_count}
use Rattle.copies.specs.parts.Writes.{due, Added}
use Rattle.shuffle.specs.Shuffle.{Hands, run_copies}

-- the cards, and the card in the first b bytes of the library's hand
unfoldable pub handed : ℕ → List ℕ → List ℕ → Hands
handed b cards hand = record { cards = cards; hand = take b hand }

-- the cards after copies from slot to slot, each in turn
unfoldable pub slid : ℕ → List Pair → List ℕ → List ℕ
slid b [] cards = cards
slid b (c ∷ cs) cards = slid b cs (put_block b c.1 (block b c.0 cards) cards)

-- the hand has its length, and the cards and the hand's card are those of h
pub record HandedAs (b : ℕ) (cards hand : List ℕ) (h : Hands) : Type 0 where
  pub is : handed b cards hand ≡ h
  pub long : length hand ≡ BYTES

-- the copies of a factor are made, as they are walked, and added to the tally
pub record WalkBrought (b : ℕ) (places : List ℕ) (head left end : ℕ) (cards hand : List ℕ) (tally after : Tally) (cards' hand' : List ℕ) : Type 0 where
  pub count-is : after ≡ plus_copies (walk_count left end) tally
  pub brings : HandedAs b cards' hand' (run_copies b (walked places head left end) (handed b cards hand))
  pub size : length cards' ≡ length cards

-- the copies due at slot k are made and added to the tally, its slots marked
pub record SlotBrought (b : ℕ) (places : List ℕ) (k : ℕ) (seen cards hand : List ℕ) (tally after : Tally) (marks cards' hand' : List ℕ) : Type 0 where
  pub added : Added places COUNTED k seen tally after marks
  pub brings : HandedAs b cards' hand' (run_copies b (copies places (due places COUNTED seen k)) (handed b cards hand))
  pub size : length cards' ≡ length cards

-- all copies are made, and added to the tally
pub record AllBrought (b : ℕ) (places cards hand : List ℕ) (tally after : Tally) (cards' : List ℕ) : Type 0 where
  pub count-is : after ≡ plus_copies (length (copy_list places)) tally
  pub brings : cards' ≡ (run_copies b (copy_list places) (handed b cards hand)).cards
  pub size : length cards' ≡ length cards
